-- The steps of the shifted load and the shifted stiffness of a panel: they are small parts of the load times the product
-- of the shares and of the stiffness times the form, together.
use Rattle.std.proofs.Common.{◌≡◌, refl, ◌∙◌, ap, subst, ℕ, ◌+◌, ◌-◌, ◌*◌, ◌^◌, ◌<◌, ◌≤◌, ◌⊎◌, inl, inr, ℤ, pos, ◌*ℤ◌, ◌≤ℤ◌, arith}
use Rattle.std.specs.Prelude.{unsigned_abs}
use Rattle.std.specs.Int.{int_max}
use Rattle.std.specs.Int.Count.{count_leading_zeros}
use Rattle.std.proofs.lemmas.Bool.{cases_lt}
use Rattle.std.proofs.lemmas.Int.{ints, clamps}
use Rattle.std.proofs.lemmas.Nat.{leading_length, pow-add}
use Rattle.lam_fraction.specs.Fraction.{ℚ, whole, ◌+ℚ◌, ◌*ℚ◌, ◌≤ℚ◌, ◌<ℚ◌, ◌-ℚ◌}
use Rattle.lam_fraction.proofs.Expression.{int, ◌⊕◌, ◌⊖◌, ◌⊗◌}
use Rattle.lam_fraction.proofs.Solver.{◌≐◌}
use Rattle.lam_fraction.proofs.Integers as Z
use Rattle.lam_fraction.proofs.Rationals.{solve, above, weaken, number, positive_number, at_most, at_most_over, ◌+ₙ◌, ◌*ₙ◌}
use Rattle.lam_fraction.proofs.FractionRing.{whole-product}
use Rattle.lam_fraction.proofs.WholeFractions.{whole_at_most}
use Rattle.lam_plate.specs.inside.Formulas as by

-- ---- whole numbers: a step against a load and a stiffness

-- both are far above the step, or the stiffness is, or the load is very far above it
pub data Stepped (step num den : ℤ) : Type 0 where
  Unshifted : (pos 10000 *ℤ step) ≤ℤ num → (pos 1000 *ℤ step) ≤ℤ den → Stepped step num den
  Stiff : (pos 122880000 *ℤ step) ≤ℤ den → Stepped step num den
  Loaded : (pos 2305843009213693952 *ℤ step) ≤ℤ (pos 20000 *ℤ num) → Stepped step num den

-- the shift leaves 61 bits and more
shift-bits : (m : ℕ) → m < 2 ^ 128 → (66 - count_leading_zeros 128 m ≡ 0) ⊎ (2305843009213693952 * 2 ^ (66 - count_leading_zeros 128 m) ≤ m)
shift-bits m h =
    let l = leading_length 128 m h in
    let z = count_leading_zeros 128 m in
    elim (cases_lt z 66) [
      | inl few ↦ (
          let bits : l.0 ≡ 62 + (66 - z) = omega (arith, few, l.1) in
          let product : 2 ^ (62 + (66 - z)) ≡ 2 ^ 62 * 2 ^ (66 - z) = pow-add 2 62 (66 - z) in
          let least : 2 ^ 62 * 2 ^ (66 - z) ≤ 2 * m + 1 = subst (λ (k : ℕ). k ≤ 2 * m + 1) (ap (λ (k : ℕ). 2 ^ k) bits ∙ product) l.3 in
          inr (omega (arith, least)))
      | inr many ↦ inl (omega (arith, many))
    ]

module _ (load den r : ℤ) (some : pos 1 ≤ℤ r) (load_least : pos 10000 ≤ℤ load) (den_least : pos 1000 ≤ℤ den)
    (load_most : unsigned_abs load ≤ 4494400000000000000000000) (den_most : unsigned_abs den ≤ 2 ^ 99) where
  abbrev size : ℕ
  size = unsigned_abs (int_max (pos 20000 *ℤ load) den)

  abbrev shift : ℕ
  shift = by.shift_for (pos 20000 *ℤ load) den

  more_load : load ≤ℤ (r *ℤ load)
  more_load =
      let least : pos 0 ≤ℤ load = omega (arith, ints, load_least) in
      Z.at_most (Z.◌*ₙ◌ (Z.above some) least) (Z.solve 2 (λ r l. r ⊗ l ⊖ l ≐ (r ⊖ int (pos 1)) ⊗ l) refl r load)

  size_below : size < 2 ^ 128
  size_below = omega (arith, ints, clamps, load_most, den_most, load_least, den_least)

  size_is : (size ≡ unsigned_abs (pos 20000 *ℤ load)) ⊎ (size ≡ unsigned_abs den)
  size_is = elim (cases_lt (unsigned_abs den) (unsigned_abs (pos 20000 *ℤ load))) [
    | inl less ↦ inl (omega (arith, ints, clamps, less, load_least, den_least))
    | inr most ↦ inr (omega (arith, ints, clamps, most, load_least, den_least))
  ]

  by_size : 2305843009213693952 * 2 ^ shift ≤ size → Stepped (pos (2 ^ shift)) (r *ℤ load) den
  by_size h = elim size_is [
    | inl e ↦ Loaded (omega (arith, ints, h, e, more_load, load_least))
    | inr e ↦ Stiff (omega (arith, ints, h, e, den_least))
  ]

  pub stepped : Stepped (pos (2 ^ shift)) (r *ℤ load) den
  stepped = elim (shift-bits size size_below) [
    | inl none ↦ (
        let one : 2 ^ shift ≡ 1 = ap (λ (k : ℕ). 2 ^ k) none in
        Unshifted (omega (arith, ints, one, more_load, load_least)) (omega (arith, ints, one, den_least)))
    | inr bits ↦ by_size bits
  ]

-- ---- fractions: the form g, the product t of the shares, and a step c

-- what is known of a form and of a product of shares
pub record InPlate (g t : ℚ) : Type 0 where
  pub form_least : whole (pos 1) ≤ℚ whole (pos 12288) *ℚ g
  pub form_most : whole (pos 12) *ℚ g ≤ℚ whole (pos 1)
  pub shares_least : whole (pos 1) ≤ℚ whole (pos 1099511627776) *ℚ t
  pub shares_most : t ≤ℚ whole (pos 1)
  pub form_above : whole (pos 0) ≤ℚ g
  pub shares_above : whole (pos 0) <ℚ t

-- a step is a small part of the load and the stiffness together
pub record SmallStep (g t num den c : ℚ) : Type 0 where
  pub shares : whole (pos 10000) *ℚ (c *ℚ t) ≤ℚ num *ℚ t +ℚ g *ℚ den
  pub form : whole (pos 1000) *ℚ (c *ℚ g) ≤ℚ num *ℚ t +ℚ g *ℚ den

module _ (g t num den c : ℚ) (g_least : whole (pos 1) ≤ℚ whole (pos 12288) *ℚ g) (g_most : whole (pos 12) *ℚ g ≤ℚ whole (pos 1))
    (t_least : whole (pos 1) ≤ℚ whole (pos 1099511627776) *ℚ t) (t_most : t ≤ℚ whole (pos 1))
    (g_above : whole (pos 0) ≤ℚ g) (t_above : whole (pos 0) ≤ℚ t) (num_above : whole (pos 0) ≤ℚ num) (den_above : whole (pos 0) ≤ℚ den) (c_above : whole (pos 0) ≤ℚ c) where
  unshifted : whole (pos 10000) *ℚ c ≤ℚ num → whole (pos 1000) *ℚ c ≤ℚ den → SmallStep g t num den c
  unfolding ◌-ℚ◌
  unshifted h k = record {
    shares = at_most (t_above *ₙ above h +ₙ g_above *ₙ den_above)
        (solve 5 (λ g t num den c. num ⊗ t ⊕ g ⊗ den ⊖ int (pos 10000) ⊗ (c ⊗ t) ≐ t ⊗ (num ⊖ int (pos 10000) ⊗ c) ⊕ g ⊗ den) refl g t num den c);
    form = at_most (g_above *ₙ above k +ₙ num_above *ₙ t_above)
        (solve 5 (λ g t num den c. num ⊗ t ⊕ g ⊗ den ⊖ int (pos 1000) ⊗ (c ⊗ g) ≐ g ⊗ (den ⊖ int (pos 1000) ⊗ c) ⊕ num ⊗ t) refl g t num den c);
  }

  stiff : whole (pos 122880000) *ℚ c ≤ℚ den → SmallStep g t num den c
  unfolding ◌-ℚ◌
  stiff h = record {
    shares = at_most (num_above *ₙ t_above +ₙ g_above *ₙ above h +ₙ number 10000 *ₙ c_above *ₙ above g_least +ₙ number 10000 *ₙ c_above *ₙ above t_most)
        (solve 5 (λ g t num den c. num ⊗ t ⊕ g ⊗ den ⊖ int (pos 10000) ⊗ (c ⊗ t)
        ≐ num ⊗ t ⊕ g ⊗ (den ⊖ int (pos 122880000) ⊗ c) ⊕ int (pos 10000) ⊗ c ⊗ (int (pos 12288) ⊗ g ⊖ int (pos 1)) ⊕ int (pos 10000) ⊗ c ⊗ (int (pos 1) ⊖ t)) refl g t num den c);
    form = at_most (num_above *ₙ t_above +ₙ g_above *ₙ above h +ₙ number 122879000 *ₙ (c_above *ₙ g_above))
        (solve 5 (λ g t num den c. num ⊗ t ⊕ g ⊗ den ⊖ int (pos 1000) ⊗ (c ⊗ g)
        ≐ num ⊗ t ⊕ g ⊗ (den ⊖ int (pos 122880000) ⊗ c) ⊕ int (pos 122879000) ⊗ (c ⊗ g)) refl g t num den c);
  }

  loaded : whole (pos 2305843009213693952) *ℚ c ≤ℚ whole (pos 20000) *ℚ num → SmallStep g t num den c
  unfolding ◌-ℚ◌
  loaded h = record {
    shares = at_most_over (positive_number 19999) (t_above *ₙ above h +ₙ number 2305843009013693952 *ₙ (c_above *ₙ t_above) +ₙ number 20000 *ₙ (g_above *ₙ den_above))
        (solve 5 (λ g t num den c. int (pos 20000) ⊗ (num ⊗ t ⊕ g ⊗ den ⊖ int (pos 10000) ⊗ (c ⊗ t))
        ≐ t ⊗ (int (pos 20000) ⊗ num ⊖ int (pos 2305843009213693952) ⊗ c) ⊕ int (pos 2305843009013693952) ⊗ (c ⊗ t) ⊕ int (pos 20000) ⊗ (g ⊗ den)) refl g t num den c);
    form = at_most_over (positive_number 59999)
        (number 3 *ₙ t_above *ₙ above h +ₙ number 6291456 *ₙ c_above *ₙ above t_least +ₙ number 5000000 *ₙ c_above *ₙ above g_most +ₙ number 1291456 *ₙ c_above +ₙ number 60000 *ₙ (g_above *ₙ den_above))
        (solve 5 (λ g t num den c. int (pos 60000) ⊗ (num ⊗ t ⊕ g ⊗ den ⊖ int (pos 1000) ⊗ (c ⊗ g))
        ≐ int (pos 3) ⊗ t ⊗ (int (pos 20000) ⊗ num ⊖ int (pos 2305843009213693952) ⊗ c) ⊕ int (pos 6291456) ⊗ c ⊗ (int (pos 1099511627776) ⊗ t ⊖ int (pos 1))
        ⊕ int (pos 5000000) ⊗ c ⊗ (int (pos 1) ⊖ int (pos 12) ⊗ g) ⊕ int (pos 1291456) ⊗ c ⊕ int (pos 60000) ⊗ (g ⊗ den)) refl g t num den c);
  }

pub small-step : (g t : ℚ) (num den step : ℤ) → InPlate g t → pos 0 ≤ℤ num → pos 0 ≤ℤ den → pos 0 ≤ℤ step → Stepped step num den → SmallStep g t (whole num) (whole den) (whole step)
small-step g t num den step h num_least den_least step_least s = by_case s
  where
    small : (k : ℕ) (z : ℤ) → (pos k *ℤ step) ≤ℤ z → whole (pos k) *ℚ whole step ≤ℚ whole z
    small k z l = subst (λ y. y ≤ℚ whole z) (whole-product (pos k) step) (whole_at_most l)

    by_case : Stepped step num den → SmallStep g t (whole num) (whole den) (whole step)
    by_case (Unshifted l m) =
        unshifted g t (whole num) (whole den) (whole step) h.form_least h.form_most h.shares_least h.shares_most h.form_above (weaken h.shares_above)
        (whole_at_most num_least) (whole_at_most den_least) (whole_at_most step_least) (small 10000 num l) (small 1000 den m)
    by_case (Stiff l) =
        stiff g t (whole num) (whole den) (whole step) h.form_least h.form_most h.shares_least h.shares_most h.form_above (weaken h.shares_above)
        (whole_at_most num_least) (whole_at_most den_least) (whole_at_most step_least) (small 122880000 den l)
    by_case (Loaded l) =
        loaded g t (whole num) (whole den) (whole step) h.form_least h.form_most h.shares_least h.shares_most h.form_above (weaken h.shares_above)
        (whole_at_most num_least) (whole_at_most den_least) (whole_at_most step_least)
        (subst (λ y. whole (pos 2305843009213693952) *ℚ whole step ≤ℚ y) (whole-product (pos 20000) num) (small 2305843009213693952 (pos 20000 *ℤ num) l))
