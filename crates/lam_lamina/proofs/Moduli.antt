-- What the limits on a lamina say of its reduced stiffness.
use Rattle.std.proofs.Common.{◌≡◌, refl, sym, ◌∙◌, ap, ap₂, subst, subst₂, ℤ, pos, ◌+ℤ◌, ◌*ℤ◌, ◌≤ℤ◌, ◌<ℤ◌}
use Rattle.lam_fraction.specs.Fraction.{ℚ, whole, ◌+ℚ◌, ◌-ℚ◌, ◌*ℚ◌, opposite, inverse, ◌≤ℚ◌, ◌<ℚ◌, ◌/ℚ◌}
use Rattle.lam_fraction.proofs.FractionPairs.{whole-le, whole-lt}
use Rattle.lam_fraction.proofs.Expression.{int, ◌⊕◌, ◌⊖◌, ◌⊗◌, minus}
use Rattle.lam_fraction.proofs.Solver.{◌≐◌}
use Rattle.lam_fraction.proofs.Rationals.{solve, from₁, above, weaken, at_most, at_most_over, square, number, positive_number, inverse_positive, below_over, ◌+ₙ◌, ◌+ₚ◌, ◌*ₙ◌, ◌*ₚ◌}
use Rattle.lam_fraction.proofs.FractionBounds.{whole_positive, times-inverse}
use Rattle.lam_fraction.proofs.WholeFractions.{at_most_images, sum_image, difference_image, product_image, fraction_image}
use Rattle.lam_stock.specs.declared.item.Lamina.{Lamina}
use Rattle.lam_stock.specs.PlyLaw.{poisson_rest, reduced_11, reduced_12, reduced_22, reduced_66}

-- ---- premises on whole numbers

-- the moduli are positive, and the Poisson's ratio is not too great for them
pub record IsElastic (l : Lamina) : Type 0 where
  pub along : pos 0 <ℤ l.e1
  pub across : pos 0 <ℤ l.e2
  pub poisson : (pos 2 *ℤ (l.n12 *ℤ l.n12) *ℤ l.e2) ≤ℤ (pos 1000000 *ℤ l.e1)

-- q0 is at least twice E1 + E2 and twice G12
pub record Spans (q0 : ℤ) (l : Lamina) : Type 0 where
  pub normal : (pos 2 *ℤ (l.e1 +ℤ l.e2)) ≤ℤ q0
  pub shear : (pos 2 *ℤ l.g12) ≤ℤ q0

-- floor is at most E1 E2 / (E1 + E2) and 2 G12
pub record Underlies (floor : ℤ) (l : Lamina) : Type 0 where
  pub normal : (floor *ℤ (l.e1 +ℤ l.e2)) ≤ℤ (l.e1 *ℤ l.e2)
  pub shear : floor ≤ℤ (pos 2 *ℤ l.g12)

-- ---- the numbers of a lamina
module _ (l : Lamina) where
  -- a million
  abbrev pub million : ℚ
  million = whole (pos 1000000)

  abbrev pub along : ℚ
  along = whole l.e1

  abbrev pub across : ℚ
  across = whole l.e2

  abbrev pub poisson : ℚ
  poisson = whole l.n12

  abbrev pub shear : ℚ
  shear = whole l.g12

  -- 1 over what is left of a million times E1
  abbrev pub share : ℚ
  share = inverse (whole (poisson_rest l))

  abbrev pub rest : ℚ
  rest = million *ℚ along -ℚ (poisson *ℚ poisson) *ℚ across

  rest_image : whole (poisson_rest l) ≡ rest
  rest_image = difference_image (pos 1000000 *ℤ l.e1) ((l.n12 *ℤ l.n12) *ℤ l.e2) (product_image (pos 1000000) l.e1 refl refl) (product_image (l.n12 *ℤ l.n12) l.e2 (product_image l.n12 l.n12 refl refl) refl)

  pub reduced-11 : reduced_11 l ≡ (million *ℚ (along *ℚ along)) *ℚ share
  unfolding reduced_11
  reduced-11 = fraction_image (pos 1000000 *ℤ (l.e1 *ℤ l.e1)) (poisson_rest l) (product_image (pos 1000000) (l.e1 *ℤ l.e1) refl (product_image l.e1 l.e1 refl refl))

  pub reduced-12 : reduced_12 l ≡ (whole (pos 1000) *ℚ (poisson *ℚ (along *ℚ across))) *ℚ share
  unfolding reduced_12
  reduced-12 = fraction_image (pos 1000 *ℤ (l.n12 *ℤ (l.e1 *ℤ l.e2))) (poisson_rest l) (product_image (pos 1000) (l.n12 *ℤ (l.e1 *ℤ l.e2)) refl (product_image l.n12 (l.e1 *ℤ l.e2) refl (product_image l.e1 l.e2 refl refl)))

  pub reduced-22 : reduced_22 l ≡ (million *ℚ (along *ℚ across)) *ℚ share
  unfolding reduced_22
  reduced-22 = fraction_image (pos 1000000 *ℤ (l.e1 *ℤ l.e2)) (poisson_rest l) (product_image (pos 1000000) (l.e1 *ℤ l.e2) refl (product_image l.e1 l.e2 refl refl))

  pub reduced-66 : reduced_66 l ≡ shear
  unfolding reduced_66
  reduced-66 = refl

  module _ (h : IsElastic l) where
    along_positive : whole (pos 0) <ℚ along
    along_positive = whole_positive h.along

    across_positive : whole (pos 0) <ℚ across
    across_positive = whole_positive h.across

    poisson_small : whole (pos 2) *ℚ (poisson *ℚ poisson) *ℚ across ≤ℚ million *ℚ along
    poisson_small = at_most_images h.poisson
        (product_image (pos 2 *ℤ (l.n12 *ℤ l.n12)) l.e2 (product_image (pos 2) (l.n12 *ℤ l.n12) refl (product_image l.n12 l.n12 refl refl)) refl)
        (product_image (pos 1000000) l.e1 refl refl)

    rest_positive : whole (pos 0) <ℚ rest
    unfolding ◌-ℚ◌ ◌/ℚ◌
    rest_positive = below_over (positive_number 1) ((positive_number 999999 *ₚ along_positive) +ₚ above poisson_small)
        (solve 4 (λ m e f n. int (pos 2) ⊗ ((m ⊗ e ⊖ n ⊗ n ⊗ f) ⊖ int (pos 0)) ≐ m ⊗ e ⊕ (m ⊗ e ⊖ int (pos 2) ⊗ (n ⊗ n) ⊗ f)) refl million along across poisson)

    pub poisson_rest_positive : pos 0 <ℤ poisson_rest l
    poisson_rest_positive = (whole-lt (pos 0) (poisson_rest l)).0 (subst (λ x. whole (pos 0) <ℚ x) (sym rest_image) rest_positive)

    rest-share : rest *ℚ share ≡ whole (pos 1)
    rest-share = ap (λ x. x *ℚ share) (sym rest_image) ∙ times-inverse (whole_positive poisson_rest_positive)

    share_positive : whole (pos 0) <ℚ share
    share_positive = inverse_positive (whole_positive poisson_rest_positive)

    -- ---- what the four moduli keep
    trace : reduced_11 l +ℚ reduced_22 l ≡ (million *ℚ (along *ℚ (along +ℚ across))) *ℚ share
    unfolding ◌-ℚ◌ ◌/ℚ◌
    trace = ap₂ (λ x y. x +ℚ y) reduced-11 reduced-22
        ∙ solve 4 (λ m e f i. m ⊗ (e ⊗ e) ⊗ i ⊕ m ⊗ (e ⊗ f) ⊗ i ≐ m ⊗ (e ⊗ (e ⊕ f)) ⊗ i) refl million along across share

    determinant : reduced_11 l *ℚ reduced_22 l -ℚ reduced_12 l *ℚ reduced_12 l ≡ (million *ℚ (along *ℚ (along *ℚ across))) *ℚ share
    unfolding ◌-ℚ◌ ◌/ℚ◌
    determinant = ap₂ (λ x y. x -ℚ y) (ap₂ (λ x y. x *ℚ y) reduced-11 reduced-22) (ap₂ (λ x y. x *ℚ y) reduced-12 reduced-12)
        ∙ from₁ ((million *ℚ (along *ℚ (along *ℚ across))) *ℚ share) rest-share
        (solve 4 (λ e f n i.
        let m = int (pos 1000000) in
        let t = int (pos 1000) ⊗ (n ⊗ (e ⊗ f)) ⊗ i in
        let d = m ⊗ (e ⊗ (e ⊗ f)) ⊗ i in
        (m ⊗ (e ⊗ e) ⊗ i) ⊗ (m ⊗ (e ⊗ f) ⊗ i) ⊖ t ⊗ t ≐ d ⊕ d ⊗ ((m ⊗ e ⊖ n ⊗ n ⊗ f) ⊗ i ⊖ int (pos 1))) refl along across poisson share)

    pub along_stiff : whole (pos 0) <ℚ reduced_11 l
    along_stiff = subst (λ x. whole (pos 0) <ℚ x) (sym reduced-11) ((positive_number 999999 *ₚ (along_positive *ₚ along_positive)) *ₚ share_positive)

    pub across_stiff : whole (pos 0) <ℚ reduced_22 l
    across_stiff = subst (λ x. whole (pos 0) <ℚ x) (sym reduced-22) ((positive_number 999999 *ₚ (along_positive *ₚ across_positive)) *ₚ share_positive)

    pub trace_positive : whole (pos 0) <ℚ reduced_11 l +ℚ reduced_22 l
    trace_positive = along_stiff +ₚ weaken across_stiff

    pub determinant_positive : whole (pos 0) <ℚ reduced_11 l *ℚ reduced_22 l -ℚ reduced_12 l *ℚ reduced_12 l
    determinant_positive = subst (λ x. whole (pos 0) <ℚ x) (sym determinant) ((positive_number 999999 *ₚ (along_positive *ₚ (along_positive *ₚ across_positive))) *ₚ share_positive)

    pub trace_at_most : {q0 : ℤ} → Spans q0 l → reduced_11 l +ℚ reduced_22 l ≤ℚ whole q0
    unfolding ◌-ℚ◌ ◌/ℚ◌
    trace_at_most {q0} spans =
        let span : whole (pos 2) *ℚ (along +ℚ across) ≤ℚ whole q0 = at_most_images spans.normal (product_image (pos 2) (l.e1 +ℤ l.e2) refl (sum_image l.e1 l.e2 refl refl)) refl in
        subst (λ x. x ≤ℚ whole q0) (sym trace)
        (at_most (above span +ₙ (above poisson_small *ₙ weaken share_positive) *ₙ (weaken along_positive +ₙ weaken across_positive))
        (from₁ (opposite (whole (pos 2) *ℚ (along +ℚ across))) rest-share
        (solve 5 (λ q e f n i.
        let m = int (pos 1000000) in
        let two = int (pos 2) in
        q ⊖ m ⊗ (e ⊗ (e ⊕ f)) ⊗ i
        ≐ (q ⊖ two ⊗ (e ⊕ f)) ⊕ (m ⊗ e ⊖ two ⊗ (n ⊗ n) ⊗ f) ⊗ i ⊗ (e ⊕ f) ⊕ minus (two ⊗ (e ⊕ f)) ⊗ ((m ⊗ e ⊖ n ⊗ n ⊗ f) ⊗ i ⊖ int (pos 1))) refl (whole q0) along across poisson share)))

    pub determinant_at_least : {floor : ℤ} → Underlies floor l → whole floor *ℚ (reduced_11 l +ℚ reduced_22 l) ≤ℚ reduced_11 l *ℚ reduced_22 l -ℚ reduced_12 l *ℚ reduced_12 l
    unfolding ◌-ℚ◌ ◌/ℚ◌
    determinant_at_least {floor} under =
        let low : whole floor *ℚ (along +ℚ across) ≤ℚ along *ℚ across = at_most_images under.normal (product_image floor (l.e1 +ℤ l.e2) refl (sum_image l.e1 l.e2 refl refl)) (product_image l.e1 l.e2 refl refl) in
        subst₂ (λ x y. whole floor *ℚ x ≤ℚ y) (sym trace) (sym determinant)
        (at_most ((number 1000000 *ₙ weaken along_positive) *ₙ weaken share_positive *ₙ above low)
        (solve 5 (λ w m e f i. m ⊗ (e ⊗ (e ⊗ f)) ⊗ i ⊖ w ⊗ (m ⊗ (e ⊗ (e ⊕ f)) ⊗ i) ≐ m ⊗ e ⊗ i ⊗ (e ⊗ f ⊖ w ⊗ (e ⊕ f))) refl (whole floor) million along across share))

    -- ---- the shear modulus
    pub shear_at_most : {q0 : ℤ} → Spans q0 l → whole (pos 2) *ℚ reduced_66 l ≤ℚ whole q0
    shear_at_most {q0} spans = subst (λ x. whole (pos 2) *ℚ x ≤ℚ whole q0) (sym reduced-66) (at_most_images spans.shear (product_image (pos 2) l.g12 refl refl) refl)

    pub shear_at_least : {floor : ℤ} → Underlies floor l → whole floor ≤ℚ whole (pos 2) *ℚ reduced_66 l
    shear_at_least {floor} under = subst (λ x. whole floor ≤ℚ whole (pos 2) *ℚ x) (sym reduced-66) (at_most_images under.shear refl (product_image (pos 2) l.g12 refl refl))

    -- ---- the modulus of both normal components
    pub coupled_not_negative : pos 0 ≤ℤ l.n12 → whole (pos 0) ≤ℚ reduced_12 l
    coupled_not_negative n =
        let numbers : whole (pos 0) ≤ℚ poisson = (whole-le (pos 0) l.n12).1 n in
        subst (λ x. whole (pos 0) ≤ℚ x) (sym reduced-12) (number 1000 *ₙ (numbers *ₙ (weaken along_positive *ₙ weaken across_positive)) *ₙ weaken share_positive)

    pub coupled_at_most : pos 0 ≤ℤ l.n12 → whole (pos 2) *ℚ reduced_12 l ≤ℚ reduced_11 l +ℚ reduced_22 l
    unfolding ◌-ℚ◌ ◌/ℚ◌
    coupled_at_most n =
        at_most_over (trace_positive +ₚ number 2 *ₙ coupled_not_negative n) (square (reduced_11 l -ℚ reduced_22 l) +ₙ number 4 *ₙ weaken determinant_positive)
        (solve 3 (λ a b d. (a ⊕ d ⊕ int (pos 2) ⊗ b) ⊗ ((a ⊕ d) ⊖ int (pos 2) ⊗ b) ≐ (a ⊖ d) ⊗ (a ⊖ d) ⊕ int (pos 4) ⊗ (a ⊗ d ⊖ b ⊗ b)) refl (reduced_11 l) (reduced_12 l) (reduced_22 l))
