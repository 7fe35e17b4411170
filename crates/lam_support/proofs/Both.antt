-- Both sides of an item together: the capacity from what is known of each.
use Rattle.std.proofs.Common.{◌≡◌, refl, ◌∙◌, ap, ap₂, subst₂, [], ◌∷◌, ℕ, ◌+◌, ◌*◌, ◌^◌, ◌<◌, ◌≤◌, ℤ, pos, ◌≤ℤ◌, ◌<ℤ◌, arith}
use Rattle.std.proofs.Math.Nat.{mul-le-mul}
use Rattle.std.proofs.lemmas.Grind.{div_ceil_times}
use Rattle.std.proofs.lemmas.Int.{ints}
use Rattle.lam_fraction.specs.Fraction.{ℚ, whole, fraction, ◌+ℚ◌, ◌-ℚ◌, ◌*ℚ◌, ◌≤ℚ◌, ◌<ℚ◌}
use Rattle.lam_fraction.proofs.FractionPairs.{whole-le, whole-lt}
use Rattle.lam_fraction.proofs.Rationals.{by_ring, from₁, above, below_over, weaken, number, positive_number, below_then_at_most, ◌+ₙ◌, ◌+ₚ◌, ◌*ₙ◌, ◌*ₚ◌}
use Rattle.lam_fraction.proofs.Solver.{quotes}
use Rattle.lam_fraction.proofs.WholeFractions.{natural-sum, natural-product}
use Rattle.lam_stock.specs.declared.item.Lamina.{Lamina}
use Rattle.lam_stock.specs.PlyLaw.{OnAxis}
use Rattle.lam_support.specs.declared.slopes.PlyWeight.{PlyWeight}
use Rattle.lam_support.specs.Carried.{IsInside}
use Rattle.lam_support.specs.inside.Formulas as by
use Rattle.lam_support.proofs.Forces as force
use Rattle.lam_support.proofs.Sides.{Side, rest_units}
use Rattle.lam_support.proofs.Weighted.{on_axis}

natural-most : (m n : ℕ) → m ≤ n → whole (pos m) ≤ℚ whole (pos n)
natural-most m n h = (whole-le (pos m) (pos n)).1 (as-whole m n h)
  where
    as-whole : (m n : ℕ) → m ≤ n → pos m ≤ℤ pos n
    as-whole m n h = omega (arith, ints, h)

natural-positive : (n : ℕ) → 1 ≤ n → whole (pos 0) <ℚ whole (pos n)
natural-positive n h = (whole-lt (pos 0) (pos n)).1 (above-zero n h)
  where
    above-zero : (n : ℕ) → 1 ≤ n → pos 0 <ℤ pos n
    above-zero n h = omega (arith, ints, h)

as-natural : (n : ℕ) → whole (pos 0) <ℚ whole (pos n) → 1 ≤ n
as-natural n h = positive n ((whole-lt (pos 0) (pos n)).0 h)
  where
    positive : (n : ℕ) → pos 0 <ℤ pos n → 1 ≤ n
    positive n h = omega (arith, ints, h)

less : (m n : ℕ) → m < n → m ≤ n
less m n h = omega (arith, h)

at-least-one : (n : ℕ) → 2 ^ 43 ≤ n → 1 ≤ n
at-least-one n h = omega (arith, h)

-- what is known of a side: its reach e, and f, in 2^10 units and rounded up
pub record Rounded (l : Lamina) (v : PlyWeight) (m f : ℕ) : Type 0 where
  pub reach : ℤ
  pub side : Side l v m reach
  pub some : 1 ≤ m
  pub below : whole reach ≤ℚ whole (pos 1024) *ℚ whole (pos f)
  pub above : whole (pos 1024) *ℚ whole (pos f) ≤ℚ whole reach +ℚ whole (pos 1024)

-- of a lamina, g/16 in 2^10 units, rounded down
pub record Part (l : Lamina) (p : ℕ) : Type 0 where
  pub positive : whole (pos 0) <ℚ rest_units l
  pub large : 2 ^ 43 ≤ p
  pub below : whole (pos 1024) *ℚ whole (pos p) ≤ℚ rest_units l
  pub close : rest_units l ≤ℚ whole (pos 1024) *ℚ whole (pos p) +ℚ whole (pos 4096)

-- the thickness, the size of the direction, and both sides
module _ {l : Lamina} (thick sized p : ℕ) (part : Part l p) (thick-some : 1 ≤ thick) (sized-some : 1 ≤ sized)
    {v₁ v₂ : PlyWeight} (m₁ f₁ m₂ f₂ : ℕ) (r₁ : Rounded l v₁ m₁ f₁) (r₂ : Rounded l v₂ m₂ f₂) where
  abbrev numerator : ℕ
  numerator = thick * (m₁ * f₁ + m₂ * f₂)

  abbrev denominator : ℕ
  denominator = (1000 * sized) * p

  abbrev pub both : ℕ
  both = by.up (thick * (m₁ * f₁ + m₂ * f₂)) ((1000 * sized) * p)

  pub denominator_positive : 1 ≤ (1000 * sized) * p
  denominator_positive =
      let size : 1 ≤ 1000 * sized = omega (arith, sized-some) in
      let all : 1 * 1 ≤ (1000 * sized) * p = mul-le-mul size (at-least-one p part.large) in
      all

  numerator-is : whole (pos numerator) ≡ whole (pos thick) *ℚ (whole (pos m₁) *ℚ whole (pos f₁) +ℚ whole (pos m₂) *ℚ whole (pos f₂))
  numerator-is =
      natural-product thick (m₁ * f₁ + m₂ * f₂)
      ∙ ap (λ x. whole (pos thick) *ℚ x) (natural-sum (m₁ * f₁) (m₂ * f₂) ∙ ap₂ ◌+ℚ◌ (natural-product m₁ f₁) (natural-product m₂ f₂))

  denominator-is : whole (pos denominator) ≡ whole (pos 1000) *ℚ whole (pos sized) *ℚ whole (pos p)
  denominator-is = natural-product (1000 * sized) p ∙ ap (λ x. x *ℚ whole (pos p)) (natural-product 1000 sized)

  ends : (numerator ≤ both * denominator) × (both * denominator < numerator + denominator)
  ends = div_ceil_times numerator denominator denominator_positive

  whole-both : whole (pos (both * denominator)) ≡ whole (pos both) *ℚ (whole (pos 1000) *ℚ whole (pos sized) *ℚ whole (pos p))
  whole-both = natural-product both denominator ∙ ap (λ x. whole (pos both) *ℚ x) denominator-is

  most : whole (pos thick) *ℚ (whole (pos m₁) *ℚ whole (pos f₁) +ℚ whole (pos m₂) *ℚ whole (pos f₂)) ≤ℚ whole (pos both) *ℚ (whole (pos 1000) *ℚ whole (pos sized) *ℚ whole (pos p))
  most = subst₂ (λ x y. x ≤ℚ y) numerator-is whole-both (natural-most numerator (both * denominator) ends.0)

  closest : whole (pos both) *ℚ (whole (pos 1000) *ℚ whole (pos sized) *ℚ whole (pos p))
      ≤ℚ whole (pos thick) *ℚ (whole (pos m₁) *ℚ whole (pos f₁) +ℚ whole (pos m₂) *ℚ whole (pos f₂)) +ℚ whole (pos 1000) *ℚ whole (pos sized) *ℚ whole (pos p)
  closest =
      subst₂ (λ x y. x ≤ℚ y) whole-both (natural-sum numerator denominator ∙ ap₂ ◌+ℚ◌ numerator-is denominator-is)
      (natural-most (both * denominator) (numerator + denominator) (less (both * denominator) (numerator + denominator) ends.1))

  -- a force that is the mean of weighted stresses of both sides
  abbrev pub Forced : ℚ → OnAxis → OnAxis → Type 0
  Forced v a b = whole (pos 2) *ℚ (whole (pos sized) *ℚ v) ≡ whole (pos thick) *ℚ (on_axis v₁ a +ℚ on_axis v₂ b)

  pub force_at_most : (v : ℚ) (a b : OnAxis) → IsInside l a → IsInside l b → Forced v a b → v ≤ℚ whole (pos both)
  force_at_most v a b a-inside b-inside is =
      force.at_least (rest_units l) (whole (pos p)) (whole (pos sized)) (whole (pos thick)) (whole (pos both)) part.positive (natural-positive p (at-least-one p part.large)) (natural-positive sized sized-some) (number thick) part.below
      (whole (pos m₁)) (whole r₁.reach) (whole (pos f₁)) (on_axis v₁ a) (whole (pos m₂)) (whole r₂.reach) (whole (pos f₂)) (on_axis v₂ b) v
      (number m₁) (number m₂) (number both) (r₁.side.most a a-inside) (r₂.side.most b b-inside) r₁.below r₂.below most is

  pub force_near : (v x y : ℚ) → Forced x r₁.side.at r₂.side.at → x ≤ℚ v → Forced y r₁.side.tip.at r₂.side.tip.at → y ≤ℚ v
      → whole (pos both) ≤ℚ fraction (pos 1001) (pos 1000) *ℚ v +ℚ whole (pos 2)
  force_near v x y is below is' below' =
      force.near (rest_units l) (whole (pos p)) (whole (pos sized)) (whole (pos thick)) (whole (pos both)) part.positive (natural-positive p (at-least-one p part.large)) (natural-positive sized sized-some) (number thick) part.below
      (whole (pos m₁)) (whole r₁.reach) (whole (pos f₁)) (on_axis v₁ r₁.side.at) (on_axis v₁ r₁.side.tip.at) (whole (pos m₂)) (whole r₂.reach) (whole (pos f₂)) (on_axis v₂ r₂.side.at) (on_axis v₂ r₂.side.tip.at) v x y
      (number m₁) (number m₂) r₁.side.near r₂.side.near r₁.above r₂.above r₁.side.tip.far r₂.side.tip.far closest is below is' below' part.close (natural-most (2 ^ 43) p part.large)

  -- it is not 0, since the stresses on the axes have a force
  pub force_some : (y : ℚ) → Forced y r₁.side.tip.at r₂.side.tip.at → 1 ≤ both
  unfolding ◌-ℚ◌
  force_some y is =
      as-natural both (below_then_at_most
      (positive (whole (pos sized)) y (whole (pos thick)) (whole (pos m₁)) (whole (pos m₂)) (on_axis v₁ r₁.side.tip.at) (on_axis v₂ r₂.side.tip.at) (natural-positive sized sized-some) (natural-positive thick thick-some)
      (natural-positive m₁ r₁.some) (number m₂) r₁.side.tip.far r₂.side.tip.far is)
      (force_at_most y r₁.side.tip.at r₂.side.tip.at r₁.side.tip.inside r₂.side.tip.inside is))
    where
      positive : (s y t m n a b : ℚ) → whole (pos 0) <ℚ s → whole (pos 0) <ℚ t → whole (pos 0) <ℚ m → whole (pos 0) ≤ℚ n → m ≤ℚ whole (pos 1000) *ℚ a → n ≤ℚ whole (pos 1000) *ℚ b
          → whole (pos 2) *ℚ (s *ℚ y) ≡ t *ℚ (a +ℚ b) → whole (pos 0) <ℚ y
      positive s y t m n a b s-positive t-positive m-positive n-sign far far' is =
          below_over {k = whole (pos 2000) *ℚ s} (positive_number 1999 *ₚ s-positive) (t-positive *ₚ (m-positive +ₚ n-sign) +ₚ weaken t-positive *ₙ (above far +ₙ above far'))
          (from₁ (whole (pos 1000)) is (by_ring (s ∷ y ∷ t ∷ m ∷ n ∷ a ∷ b ∷ []) (search quotes depth 40 fits 9000) refl))

-- the quotient fits
pub quotient_fits : (thick sized p s t : ℕ) → thick ≤ 20000 → s ≤ ((600 * sized) * 5000000) * 2 ^ 52 → t ≤ ((600 * sized) * 5000000) * 2 ^ 52 → 2 ^ 43 ≤ p
    → thick * (s + t) ≤ 2 ^ 60 * ((1000 * sized) * p)
quotient_fits thick sized p s t thin one other large =
    let sum : s + t ≤ ((600 * sized) * 5000000) * 2 ^ 52 + ((600 * sized) * 5000000) * 2 ^ 52 = omega (arith, one, other) in
    let times : thick * (s + t) ≤ 20000 * (((600 * sized) * 5000000) * 2 ^ 52 + ((600 * sized) * 5000000) * 2 ^ 52) = mul-le-mul thin sum in
    let same : 1000 * sized ≤ 1000 * sized = omega arith in
    let parts : (1000 * sized) * 2 ^ 43 ≤ (1000 * sized) * p = mul-le-mul same large in
    omega (arith, times, parts)
