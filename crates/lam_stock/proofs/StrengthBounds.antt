-- What the limits on the strengths say: each is positive, and the interaction term is small beside them.
use Rattle.std.proofs.Common.{◌≡◌, refl, [], ◌∷◌, ◌⊎◌, inl, inr, ◌^◌, ◌<◌, ◌≤◌, ℤ, pos, ◌*ℤ◌, ◌≤ℤ◌, ◌<ℤ◌, arith}
use Rattle.std.specs.Prelude.{unsigned_abs}
use Rattle.std.specs.Int.{int_max}
use Rattle.std.proofs.lemmas.Int.{ints, clamps}
use Rattle.lam_fraction.proofs.Laws.{either}
use Rattle.lam_fraction.proofs.Integers.{quotes, by_ring, weaken, square, number, above, at_most, below_root, above_root, ◌+ₙ◌, ◌*ₙ◌}
use Rattle.lam_stock.specs.declared.item.Lamina.{Lamina}
use Rattle.lam_stock.specs.Limits.{IsStrength, AreWithinSixteen, KeepsLimits, KeepsStrengths}

-- the limits of an item have those on its strengths
pub strengths_kept : {l : Lamina} {cost : ℤ} → KeepsLimits l cost → KeepsStrengths l
strengths_kept h = record { range = h.range.strengths; ratio = h.ratio; cross = h.cross }

-- the criterion divides by each strength
pub record PositiveStrengths (l : Lamina) : Type 0 where
  pub xt : pos 0 <ℤ l.xt
  pub xc : pos 0 <ℤ l.xc
  pub yt : pos 0 <ℤ l.yt
  pub yc : pos 0 <ℤ l.yc
  pub s : pos 0 <ℤ l.s

strength_positive : {x : ℤ} → IsStrength x → pos 0 <ℤ x
strength_positive {x} h = omega (arith, ints, h.least)

pub positive_strengths : {l : Lamina} → KeepsStrengths l → PositiveStrengths l
positive_strengths h = record {
  xt = strength_positive h.range.xt;
  xc = strength_positive h.range.xc;
  yt = strength_positive h.range.yt;
  yc = strength_positive h.range.yc;
  s = strength_positive h.range.s;
}

-- ---- the interaction term
first_square : (t c : ℤ) → pos 0 ≤ℤ t → t ≤ℤ (pos 16 *ℤ c) → (t *ℤ t) ≤ℤ (pos 16 *ℤ (t *ℤ c))
first_square t c p h = at_most (p *ₙ above h) (by_ring (t ∷ c ∷ []) (search quotes depth 20) refl)

second_square : (t c : ℤ) → pos 0 ≤ℤ c → c ≤ℤ (pos 16 *ℤ t) → (c *ℤ c) ≤ℤ (pos 16 *ℤ (t *ℤ c))
second_square t c p h = at_most (p *ₙ above h) (by_ring (t ∷ c ∷ []) (search quotes depth 20) refl)

-- the square of the greater strength is at most 16 times the product of both
pub greater_square : (t c : ℤ) → IsStrength t → IsStrength c → AreWithinSixteen t c → (int_max t c *ℤ int_max t c) ≤ℤ (pos 16 *ℤ (t *ℤ c))
greater_square t c p q near = go (either t c)
  where
    go : (t ≤ℤ c) ⊎ (c <ℤ t) → (int_max t c *ℤ int_max t c) ≤ℤ (pos 16 *ℤ (t *ℤ c))
    go (inl h) =
        let most : int_max t c ≡ c = omega (arith, ints, clamps, h) in
        rw most (second_square t c (weaken (strength_positive q)) near.second)
    go (inr h) =
        let most : int_max t c ≡ t = omega (arith, ints, clamps, h) in
        rw most (first_square t c (weaken (strength_positive p)) near.first)

-- the square of a product, from those of its factors
cross_square : (f x y p q k : ℤ) → (x *ℤ x) ≤ℤ (pos 16 *ℤ p) → (y *ℤ y) ≤ℤ (pos 16 *ℤ q) → (pos 4 *ℤ (f *ℤ f) *ℤ (p *ℤ q)) ≤ℤ k
    → ((f *ℤ (x *ℤ y)) *ℤ (f *ℤ (x *ℤ y))) ≤ℤ (pos 64 *ℤ k)
cross_square f x y p q k h j kept =
    at_most
    (number 64 *ₙ above kept +ₙ square f *ₙ (above h *ₙ (square y +ₙ above j) +ₙ square x *ₙ above j))
    (by_ring (f ∷ x ∷ y ∷ p ∷ q ∷ k ∷ []) (search quotes depth 40 fits 9000) refl)

-- the interaction term times the greater strengths
abbrev pub interaction : Lamina → ℤ
interaction l = l.f12 *ℤ (int_max l.xt l.xc *ℤ int_max l.yt l.yc)

pub interaction_small : {l : Lamina} → KeepsStrengths l → unsigned_abs (interaction l) ≤ 14000000000000000000
interaction_small {l} h =
    sized (interaction l) (cross_square l.f12 (int_max l.xt l.xc) (int_max l.yt l.yc) (l.xt *ℤ l.xc) (l.yt *ℤ l.yc) _
    (greater_square l.xt l.xc h.range.xt h.range.xc h.ratio.along) (greater_square l.yt l.yc h.range.yt h.range.yc h.ratio.across) h.cross.kept)
  where
    sized : (z : ℤ) → (z *ℤ z) ≤ℤ (pos 64 *ℤ pos 3000000000000000000000000000000000000) → unsigned_abs z ≤ 14000000000000000000
    sized z h =
        let rooted : (z *ℤ z) ≤ℤ (pos 14000000000000000000 *ℤ pos 14000000000000000000) = omega (arith, ints, h) in
        let to = below_root z (pos 14000000000000000000) (omega (arith, ints)) rooted in
        let from = above_root z (pos 14000000000000000000) (omega (arith, ints)) rooted in
        omega (arith, ints, to, from)

pub interaction_below : {l : Lamina} → KeepsStrengths l → unsigned_abs (interaction l) < 2 ^ 66
interaction_below h = let small = interaction_small h in omega (arith, small)
