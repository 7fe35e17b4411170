-- From some number of half waves on, the load of the formula does not fall.
use Rattle.std.proofs.Common.{◌≡◌, refl, sym, ◌∙◌, ap, subst, ℕ, zero, suc, ◌+◌, ◌*◌, ◌≤◌, ℤ, pos, ◌+ℤ◌, ◌*ℤ◌, ◌≤ℤ◌, ◌<ℤ◌, List, arith}
use Rattle.std.specs.Prelude.{unsigned_abs}
use Rattle.std.proofs.lemmas.Int.{ints}
use Rattle.lam_fraction.specs.Fraction.{ℚ, whole, fraction, inverse, ◌+ℚ◌, ◌*ℚ◌, ◌/ℚ◌, ◌≤ℚ◌, ◌<ℚ◌, ◌-ℚ◌}
use Rattle.lam_fraction.specs.inside.WholeNumbers.{product_positive}
use Rattle.lam_fraction.proofs.Expression.{int, ◌⊕◌, ◌⊖◌, ◌⊗◌}
use Rattle.lam_fraction.proofs.Solver.{◌≐◌}
use Rattle.lam_fraction.proofs.Integers as Z
use Rattle.lam_fraction.proofs.Rationals.{solve, from₂, above, square, weaken, at_most, at_most_over, transitive, reflexive, positive_number, inverse_positive, ◌+ₙ◌, ◌*ₙ◌, ◌*ₚ◌}
use Rattle.lam_fraction.proofs.FractionBounds.{whole_positive, fraction-times}
use Rattle.lam_fraction.proofs.FractionRing.{whole-product}
use Rattle.lam_fraction.proofs.WholeFractions.{fraction_positive, whole_at_most}
use Rattle.lam_stock.specs.declared.item.Item.{Item}
use Rattle.lam_stock.specs.PlyLaw.{two}
use Rattle.lam_job.specs.JobData.{PanelData}
use Rattle.lam_job.specs.Plate.{stiffness_11, stiffness_12, stiffness_22, stiffness_66, circle_square, buckling_load}
use Rattle.lam_fraction.proofs.numbers.Machine.{product_small}
use Rattle.lam_plate.proofs.ShiftedUnits.{product-not_negative}

-- ---- fractions: w and v are the squares of a number and of the next; p = w/a, q = v/a, r = a/(b b w), t = a/(b b v)

along_step : (a b w v p q : ℚ) → q *ℚ a ≡ v → p *ℚ a ≡ w → a *ℚ (b *ℚ b *ℚ w *ℚ v) *ℚ (q -ℚ p) ≡ b *ℚ b *ℚ w *ℚ v *ℚ (v -ℚ w)
unfolding ◌-ℚ◌
along_step a b w v p q e f =
    from₂ (b *ℚ b *ℚ w *ℚ v) e (whole (pos 0) -ℚ b *ℚ b *ℚ w *ℚ v) f
    (solve 6 (λ a b w v p q. a ⊗ (b ⊗ b ⊗ w ⊗ v) ⊗ (q ⊖ p)
    ≐ b ⊗ b ⊗ w ⊗ v ⊗ (v ⊖ w) ⊕ (b ⊗ b ⊗ w ⊗ v) ⊗ (q ⊗ a ⊖ v) ⊕ (int (pos 0) ⊖ b ⊗ b ⊗ w ⊗ v) ⊗ (p ⊗ a ⊖ w)) refl a b w v p q)

across_step : (a b w v r t : ℚ) → t *ℚ (b *ℚ b *ℚ v) ≡ a → r *ℚ (b *ℚ b *ℚ w) ≡ a → a *ℚ (b *ℚ b *ℚ w *ℚ v) *ℚ (t -ℚ r) ≡ a *ℚ a *ℚ (w -ℚ v)
unfolding ◌-ℚ◌
across_step a b w v r t e f =
    from₂ (a *ℚ w) e (whole (pos 0) -ℚ a *ℚ v) f
    (solve 6 (λ a b w v r t. a ⊗ (b ⊗ b ⊗ w ⊗ v) ⊗ (t ⊖ r)
    ≐ a ⊗ a ⊗ (w ⊖ v) ⊕ (a ⊗ w) ⊗ (t ⊗ (b ⊗ b ⊗ v) ⊖ a) ⊕ (int (pos 0) ⊖ a ⊗ v) ⊗ (r ⊗ (b ⊗ b ⊗ w) ⊖ a)) refl a b w v r t)

-- the bracket of the formula, where D22 is at most n times D11
bracket_rises : (a g w v p q r t d e middle n : ℚ) → whole (pos 0) <ℚ a *ℚ g
    → a *ℚ g *ℚ (q -ℚ p) ≡ g *ℚ (v -ℚ w) → a *ℚ g *ℚ (t -ℚ r) ≡ a *ℚ a *ℚ (w -ℚ v)
    → w ≤ℚ v → whole (pos 0) ≤ℚ d → e ≤ℚ n *ℚ d → n *ℚ (a *ℚ a) ≤ℚ g
    → d *ℚ p +ℚ middle +ℚ e *ℚ r ≤ℚ d *ℚ q +ℚ middle +ℚ e *ℚ t
unfolding ◌-ℚ◌
bracket_rises a g w v p q r t d e middle n positive x y more stiff most enough =
    at_most_over positive (above more *ₙ (stiff *ₙ above enough +ₙ above most *ₙ square a))
    (from₂ d x e y
    (solve 12 (λ a g w v p q r t d e middle n.
    a ⊗ g ⊗ ((d ⊗ q ⊕ middle ⊕ e ⊗ t) ⊖ (d ⊗ p ⊕ middle ⊕ e ⊗ r))
    ≐ (v ⊖ w) ⊗ (d ⊗ (g ⊖ n ⊗ (a ⊗ a)) ⊕ (n ⊗ d ⊖ e) ⊗ (a ⊗ a))
    ⊕ d ⊗ (a ⊗ g ⊗ (q ⊖ p) ⊖ g ⊗ (v ⊖ w)) ⊕ e ⊗ (a ⊗ g ⊗ (t ⊖ r) ⊖ a ⊗ a ⊗ (w ⊖ v))) refl a g w v p q r t d e middle n))

-- times c and over k
scaled : (c x y k : ℚ) → whole (pos 0) ≤ℚ c → whole (pos 0) <ℚ k → x ≤ℚ y → c *ℚ x /ℚ k ≤ℚ c *ℚ y /ℚ k
unfolding ◌-ℚ◌ ◌/ℚ◌
scaled c x y k h p le = at_most (h *ₙ above le *ₙ weaken (inverse_positive p)) (solve 4 (λ c x y i. c ⊗ y ⊗ i ⊖ c ⊗ x ⊗ i ≐ c ⊗ (y ⊖ x) ⊗ i) refl c x y (inverse k))

-- ---- whole numbers

-- the comparison of the code
abbrev pub Rises : ℤ → ℤ → ℤ → ℕ → Type 0
Rises times aa bb m = (times *ℤ (aa *ℤ aa)) ≤ℤ (((pos m *ℤ (pos m +ℤ pos 1)) *ℤ bb) *ℤ ((pos m *ℤ (pos m +ℤ pos 1)) *ℤ bb))

-- it goes on
square-more : (x y b : ℤ) → pos 0 ≤ℤ x → x ≤ℤ y → pos 0 ≤ℤ b → ((x *ℤ b) *ℤ (x *ℤ b)) ≤ℤ ((y *ℤ b) *ℤ (y *ℤ b))
square-more x y b h k l =
    Z.at_most (Z.◌*ₙ◌ (Z.◌*ₙ◌ (Z.◌*ₙ◌ l l) (Z.above k)) (Z.◌+ₙ◌ (product-not_negative (pos 2) x (omega (arith, ints)) h) (Z.above k)))
    (Z.solve 3 (λ x y b. (y ⊗ b) ⊗ (y ⊗ b) ⊖ (x ⊗ b) ⊗ (x ⊗ b) ≐ (b ⊗ b ⊗ (y ⊖ x)) ⊗ (int (pos 2) ⊗ x ⊕ (y ⊖ x))) refl x y b)

chained : {x y z : ℤ} → x ≤ℤ y → y ≤ℤ z → x ≤ℤ z
chained {x} {y} {z} h k = omega (arith, ints, h, k)

pub rises-next : (times aa bb : ℤ) (m : ℕ) → pos 0 ≤ℤ bb → Rises times aa bb m → Rises times aa bb (m + 1)
rises-next times aa bb m h r =
    let more = square-more (pos m *ℤ (pos m +ℤ pos 1)) (pos (m + 1) *ℤ (pos (m + 1) +ℤ pos 1)) bb (omega (arith, ints)) (omega (arith, ints)) h in
    chained r more

module _ (wall : List Item) (p : PanelData) (long : pos 0 <ℤ p.length) (wide : pos 0 <ℤ p.width)
    (stiff : whole (pos 0) ≤ℚ stiffness_11 wall) (times : ℤ) (most : stiffness_22 wall ≤ℚ whole times *ℚ stiffness_11 wall) where
  abbrev aa : ℤ
  aa = p.length *ℤ p.length

  abbrev bb : ℤ
  bb = p.width *ℤ p.width

  aa_above : pos 0 <ℤ aa
  aa_above = product_positive p.length p.length long long

  bb_above : pos 0 <ℤ bb
  bb_above = product_positive p.width p.width wide wide

  abbrev squared : ℕ → ℤ
  squared m = pos (m * m)

  squared_above : (m : ℕ) → 1 ≤ m → pos 0 <ℤ squared m
  squared_above m some = product_positive (pos m) (pos m) (omega (arith, ints, some)) (omega (arith, ints, some))

  along_is : (m : ℕ) → fraction (squared m) aa *ℚ whole aa ≡ whole (squared m)
  along_is m = fraction-times (squared m) aa aa_above

  across_is : (m : ℕ) → 1 ≤ m → fraction aa ((bb *ℤ bb) *ℤ squared m) *ℚ (whole bb *ℚ whole bb *ℚ whole (squared m)) ≡ whole aa
  across_is m some =
      ap (λ z. fraction aa ((bb *ℤ bb) *ℤ squared m) *ℚ z) (sym (whole-product (bb *ℤ bb) (squared m) ∙ ap (λ z. z *ℚ whole (squared m)) (whole-product bb bb)))
      ∙ fraction-times aa ((bb *ℤ bb) *ℤ squared m) (product_positive (bb *ℤ bb) (squared m) (product_positive bb bb bb_above bb_above) (squared_above m some))

  gauge_is : (m n : ℕ) → whole (((bb *ℤ bb) *ℤ squared m) *ℤ squared n) ≡ whole bb *ℚ whole bb *ℚ whole (squared m) *ℚ whole (squared n)
  gauge_is m n = whole-product ((bb *ℤ bb) *ℤ squared m) (squared n) ∙ ap (λ z. z *ℚ whole (squared n)) (whole-product (bb *ℤ bb) (squared m) ∙ ap (λ z. z *ℚ whole (squared m)) (whole-product bb bb))

  times_is : whole (times *ℤ (aa *ℤ aa)) ≡ whole times *ℚ (whole aa *ℚ whole aa)
  times_is = whole-product times (aa *ℤ aa) ∙ ap (λ z. whole times *ℚ z) (whole-product aa aa)

  enough : (m : ℕ) → Rises times aa bb m → whole times *ℚ (whole aa *ℚ whole aa) ≤ℚ whole bb *ℚ whole bb *ℚ whole (squared m) *ℚ whole (squared (m + 1))
  enough m r =
      let same : ((pos m *ℤ (pos m +ℤ pos 1)) *ℤ bb) *ℤ ((pos m *ℤ (pos m +ℤ pos 1)) *ℤ bb) ≡ ((bb *ℤ bb) *ℤ (pos m *ℤ pos m)) *ℤ ((pos m +ℤ pos 1) *ℤ (pos m +ℤ pos 1)) =
      Z.solve 3 (λ m n b. ((m ⊗ n) ⊗ b) ⊗ ((m ⊗ n) ⊗ b) ≐ ((b ⊗ b) ⊗ (m ⊗ m)) ⊗ (n ⊗ n)) refl (pos m) (pos m +ℤ pos 1) bb in
      subst (λ x. x ≤ℚ whole bb *ℚ whole bb *ℚ whole (squared m) *ℚ whole (squared (m + 1))) times_is
      (subst (λ y. whole (times *ℤ (aa *ℤ aa)) ≤ℚ y) (gauge_is m (m + 1)) (whole_at_most (subst (λ y. (times *ℤ (aa *ℤ aa)) ≤ℤ y) same r)))

  pub load-rises : (m : ℕ) → 1 ≤ m → Rises times aa bb m → buckling_load wall p m ≤ℚ buckling_load wall p (m + 1)
  load-rises m some r =
      let n = m + 1 in
      let some_n : 1 ≤ n = omega arith in
      let a = whole aa in
      let b = whole bb in
      let w = whole (squared m) in
      let v = whole (squared n) in
      let g = b *ℚ b *ℚ w *ℚ v in
      let positive : whole (pos 0) <ℚ a *ℚ g = whole_positive aa_above *ₚ (whole_positive bb_above *ₚ whole_positive bb_above *ₚ whole_positive (squared_above m some) *ₚ whole_positive (squared_above n some_n)) in
      let more : w ≤ℚ v = whole_at_most (omega (arith, ints)) in
      let circle : whole (pos 0) ≤ℚ circle_square = weaken (fraction_positive (pos (333 * 333)) (pos (106 * 106)) (omega (arith, ints)) (omega (arith, ints))) in
      scaled circle_square _ _ (whole (pos 1000000)) circle (positive_number 999999)
      (bracket_rises a g w v (fraction (squared m) aa) (fraction (squared n) aa) (fraction aa ((bb *ℤ bb) *ℤ squared m)) (fraction aa ((bb *ℤ bb) *ℤ squared n))
      (stiffness_11 wall) (stiffness_22 wall) (two *ℚ (stiffness_12 wall +ℚ two *ℚ stiffness_66 wall) /ℚ whole bb) (whole times) positive
      (along_step a b w v (fraction (squared m) aa) (fraction (squared n) aa) (along_is n) (along_is m))
      (across_step a b w v (fraction aa ((bb *ℤ bb) *ℤ squared m)) (fraction aa ((bb *ℤ bb) *ℤ squared n)) (across_is n some_n) (across_is m some))
      more stiff most (enough m r))

  -- so no number above has less than this one
  pub load-least : (m more : ℕ) → 1 ≤ m → Rises times aa bb m → (Rises times aa bb (m + more)) × (buckling_load wall p m ≤ℚ buckling_load wall p (m + more))
  load-least m zero some r = (subst (Rises times aa bb) (let e : m ≡ m + 0 = omega arith in e) r, subst (λ k. buckling_load wall p m ≤ℚ buckling_load wall p k) (let e : m ≡ m + 0 = omega arith in e) (reflexive (buckling_load wall p m)))
  load-least m (suc more) some r =
      let before = load-least m more some r in
      let k = m + more in
      let some_k : 1 ≤ k = omega (arith, some) in
      let next : k + 1 ≡ m + suc more = omega arith in (
        subst (Rises times aa bb) next (rises-next times aa bb k (omega (arith, ints, bb_above)) before.0),
        subst (λ i. buckling_load wall p m ≤ℚ buckling_load wall p i) next (transitive before.1 (load-rises k some_k before.0)),
      )

-- ---- the greatest number that is looked at

pub rises-last : (times aa bb : ℤ) → pos 1 ≤ℤ times → times ≤ℤ pos 512 → pos 1 ≤ℤ aa → aa ≤ℤ pos 400000000 → pos 2500 ≤ℤ bb → Rises times aa bb 1903
rises-last times aa bb some few least most wide =
    let small : unsigned_abs (times *ℤ (aa *ℤ aa)) ≤ 512 * (400000000 * 400000000) =
    product_small 512 (400000000 * 400000000) times (aa *ℤ aa) (omega (arith, ints, some, few)) (product_small 400000000 400000000 aa aa (omega (arith, ints, least, most)) (omega (arith, ints, least, most))) in
    let long : ((pos 2500 *ℤ pos 3623312) *ℤ (pos 2500 *ℤ pos 3623312)) ≤ℤ ((bb *ℤ pos 3623312) *ℤ (bb *ℤ pos 3623312)) = square-more (pos 2500) bb (pos 3623312) (omega (arith, ints)) wide (omega (arith, ints)) in
    let same : (bb *ℤ pos 3623312) *ℤ (bb *ℤ pos 3623312) ≡ (pos 3623312 *ℤ bb) *ℤ (pos 3623312 *ℤ bb) = Z.solve 2 (λ b k. (b ⊗ k) ⊗ (b ⊗ k) ≐ (k ⊗ b) ⊗ (k ⊗ b)) refl bb (pos 3623312) in
    last-step (times *ℤ (aa *ℤ aa)) _ small (subst (λ z. ((pos 2500 *ℤ pos 3623312) *ℤ (pos 2500 *ℤ pos 3623312)) ≤ℤ z) same long)
  where
    last-step : (x y : ℤ) → unsigned_abs x ≤ 81920000000000000000 → pos 82052436558400000000 ≤ℤ y → x ≤ℤ y
    last-step x y h k = omega (arith, ints, h, k)
