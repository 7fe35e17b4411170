-- How far the criterion's value is from 1 where its enclosure lies about 0, at narrow stresses.
use Rattle.std.proofs.Common.{◌≡◌, refl, sym, ◌∙◌, ap, subst, ℕ, ◌+◌, ◌*◌, ◌^◌, ◌≤◌, false, ℤ, pos, negsuc, neg_ℤ, ◌+ℤ◌, ◌-ℤ◌, ◌*ℤ◌, ◌≤ℤ◌, ◌<ℤ◌, unsigned_abs, arith}
use Rattle.std.specs.Int.{int_min, int_max}
use Rattle.std.proofs.lemmas.Int.{ints, clamps}
use Rattle.std.proofs.lemmas.Nat.{pow_pos}
use Rattle.lam_fraction.specs.Fraction.{ℚ, whole, fraction, opposite, ◌+ℚ◌, ◌-ℚ◌, ◌*ℚ◌, inverse, ◌≤ℚ◌, ◌<ℚ◌}
use Rattle.lam_fraction.specs.inside.Reaches.{Reaches, sixteenths}
use Rattle.lam_fraction.specs.numbers.Arithmetic.{exact}
use Rattle.lam_fraction.specs.numbers.Numbers.{Numbers, Lawful, Holds, reach, unit, width}
use Rattle.lam_fraction.proofs.Expression.{int, ◌⊕◌, ◌⊖◌, ◌⊗◌, minus}
use Rattle.lam_fraction.proofs.FractionBounds.{fraction-times, times-inverse, whole_positive}
use Rattle.lam_fraction.proofs.Rationals.{solve, from₁, from₂, above, at_most, at_most_over, reflexive, number, positive_number, ◌+ₙ◌, ◌*ₙ◌, ◌*ₚ◌}
use Rattle.lam_fraction.proofs.Solver.{◌≐◌}
use Rattle.lam_fraction.proofs.WholeFractions.{whole_at_most, inverse-whole, at_most_images, sum_image, product_image, natural-sum, natural-product, whole-opposite}
use Rattle.lam_fraction.proofs.numbers.Consequences.{holds_units}
use Rattle.lam_fraction.proofs.numbers.EndFacts.{middle_within}
use Rattle.lam_fraction.proofs.numbers.Steps.{one_unit}
use Rattle.lam_fraction.proofs.numbers.Widths.{width-pos}
use Rattle.lam_stock.specs.declared.item.Lamina.{Lamina}
use Rattle.lam_stock.specs.Limits.{KeepsStrengths}
use Rattle.lam_stock.specs.PlyLaw.{OnAxis}
use Rattle.lam_stock.specs.TsaiWu.{criterion}
use Rattle.lam_stock.proofs.StrengthBounds.{positive_strengths}
use Rattle.lam_tsai.specs.declared.components.Components.{Components}
use Rattle.lam_tsai.specs.declared.loaded.Round.{Round}
use Rattle.lam_tsai.specs.inside.Formulas as by
use Rattle.lam_tsai.specs.inside.Reach.{ReachRound}
use Rattle.lam_tsai.specs.inside.Values as value
use Rattle.lam_tsai.proofs.LoadedHeld.{HoldsLoaded, HoldsRound, over_power, round-held}
use Rattle.lam_tsai.proofs.Rounding.{half-far, half-positive, middle-far, middle-room, reach-round, stretched-room, within-reach}
use Rattle.lam_tsai.proofs.ScaledValue.{inverse_4096, shares_of, unit_value, value-is}
use Rattle.lam_narrow.specs.Close.{AreApart}
use Rattle.lam_narrow.specs.Straddling.{IsFinest, narrow_band}
use Rattle.lam_narrow.proofs.ThinShares as share
use Rattle.lam_narrow.proofs.ThinShares.{IsShare}
use Rattle.lam_narrow.proofs.PointWidths as points
use Rattle.lam_narrow.proofs.PointWidths.{IsMiddle, along-slope, across-slope, shear-slope}
use Rattle.lam_narrow.proofs.RoundWidths.{IsDistance, is-distance, round-wide}
use Rattle.lam_narrow.proofs.Tilted.{HasSide, has-side, round-wide-whole, tilted}
use Rattle.lam_narrow.proofs.MiddleValues.{IsNearBy, sixteen, stress-at, tilt-is, tilt-there, tilt-there-most, value-there}
use Rattle.lam_narrow.proofs.Circle.{band-most, excess-small, slopes-most}
use Rattle.lam_narrow.proofs.Settled.{round-holds, round-reaches, unit-is}

-- ---- numbers

-- half a part, and what rounding adds
pub record IsHalf (h part : ℚ) : Type 0 where
  pub twice : whole (pos 67108864) *ℚ h ≡ whole (pos 33554432) *ℚ part +ℚ whole (pos 1)
  pub least : whole (pos 0) ≤ℚ part
  pub most : part ≤ℚ fraction (pos 1) (pos 4096)

-- there is such a half
abbrev pub half-of : ℚ → ℚ
half-of part = fraction (pos 1) (pos 67108864) *ℚ (whole (pos 33554432) *ℚ part +ℚ whole (pos 1))

pub half-twice : (part : ℚ) → whole (pos 67108864) *ℚ half-of part ≡ whole (pos 33554432) *ℚ part +ℚ whole (pos 1)
unfolding ◌-ℚ◌
half-twice part = from₁ (whole (pos 33554432) *ℚ part +ℚ whole (pos 1)) (fraction-times (pos 1) (pos 67108864) (omega (arith, ints)))
    (solve 2 (λ f p. int (pos 67108864) ⊗ (f ⊗ (int (pos 33554432) ⊗ p ⊕ int (pos 1))) ≐ (int (pos 33554432) ⊗ p ⊕ int (pos 1)) ⊕ (int (pos 33554432) ⊗ p ⊕ int (pos 1)) ⊗ (f ⊗ int (pos 67108864) ⊖ int (pos 1))) refl (fraction (pos 1) (pos 67108864)) part)

half-least : {h part : ℚ} → IsHalf h part → whole (pos 0) ≤ℚ h
unfolding ◌-ℚ◌
half-least {h} {part} is = at_most_over {k = whole (pos 67108864)} (positive_number 67108863) (number 33554432 *ₙ is.least +ₙ number 1)
    (from₁ (whole (pos 1)) is.twice (solve 2 (λ h p. int (pos 67108864) ⊗ (h ⊖ int (pos 0)) ≐ (int (pos 33554432) ⊗ p ⊕ int (pos 1)) ⊕ int (pos 1) ⊗ (int (pos 67108864) ⊗ h ⊖ (int (pos 33554432) ⊗ p ⊕ int (pos 1)))) refl h part))

pub part-4096 : (p : ℚ) → p ≤ℚ fraction (pos 1) (pos 4096) → whole (pos 4096) *ℚ p ≤ℚ whole (pos 1)
unfolding ◌-ℚ◌
part-4096 p most = at_most (number 4096 *ₙ above most)
    (from₁ (whole (negsuc 0)) (fraction-times (pos 1) (pos 4096) (omega (arith, ints)))
    (solve 2 (λ p f. int (pos 1) ⊖ int (pos 4096) ⊗ p ≐ int (pos 4096) ⊗ (f ⊖ p) ⊕ int (negsuc 0) ⊗ (f ⊗ int (pos 4096) ⊖ int (pos 1))) refl p (fraction (pos 1) (pos 4096))))

half-small : {h part : ℚ} → IsHalf h part → whole (pos 2000) *ℚ h ≤ℚ whole (pos 1)
unfolding ◌-ℚ◌
half-small {h} {part} is =
    at_most_over {k = whole (pos 67108864)} (positive_number 67108863) (number 16384000 *ₙ above (part-4096 part is.most) +ₙ number 50722864)
    (from₁ (whole (negsuc 1999)) is.twice
    (solve 2 (λ h p. int (pos 67108864) ⊗ (int (pos 1) ⊖ int (pos 2000) ⊗ h) ≐ (int (pos 16384000) ⊗ (int (pos 1) ⊖ int (pos 4096) ⊗ p) ⊕ int (pos 50722864)) ⊕ int (negsuc 1999) ⊗ (int (pos 67108864) ⊗ h ⊖ (int (pos 33554432) ⊗ p ⊕ int (pos 1)))) refl h part))

-- 16 strengths x of half a width e are at most such a part of the lesser strength k, with b what the strains are worth
near-most : (x e k h part b half u : ℚ) → whole (pos 1152921504606846976) ≤ℚ u → whole (pos 0) <ℚ u → whole (pos 0) ≤ℚ k → e *ℚ u ≡ half → whole (pos 67108864) *ℚ h ≡ whole (pos 33554432) *ℚ part +ℚ whole (pos 1)
    → whole (pos 512) *ℚ (x *ℚ half) ≤ℚ b +ℚ whole (pos 549755813888) *ℚ k → b ≤ℚ whole (pos 16) *ℚ (k *ℚ (part *ℚ u)) → (whole (pos 16) *ℚ x) *ℚ e ≤ℚ k *ℚ h
unfolding ◌-ℚ◌
near-most x e k h part b half u fine uu kk times twice wide most =
    at_most_over {k = whole (pos 67108864) *ℚ u} (positive_number 67108863 *ₚ uu)
    (number 2097152 *ₙ above wide +ₙ number 2097152 *ₙ above most +ₙ kk *ₙ above fine)
    (from₂ (whole (negsuc 1073741823) *ℚ x) times (u *ℚ k) twice
    (solve 8 (λ x e k h p b g u.
    (int (pos 67108864) ⊗ u) ⊗ (k ⊗ h ⊖ (int (pos 16) ⊗ x) ⊗ e)
    ≐ (int (pos 2097152) ⊗ ((b ⊕ int (pos 549755813888) ⊗ k) ⊖ int (pos 512) ⊗ (x ⊗ g)) ⊕ int (pos 2097152) ⊗ (int (pos 16) ⊗ (k ⊗ (p ⊗ u)) ⊖ b) ⊕ k ⊗ (u ⊖ int (pos 1152921504606846976)))
    ⊕ (int (negsuc 1073741823) ⊗ x) ⊗ (e ⊗ u ⊖ g) ⊕ (u ⊗ k) ⊗ (int (pos 67108864) ⊗ h ⊖ (int (pos 33554432) ⊗ p ⊕ int (pos 1)))) refl x e k h part b half u))

sixteenth-most : (x e k h : ℚ) → whole (pos 0) <ℚ k → k ≤ℚ x → whole (pos 0) ≤ℚ e → (whole (pos 16) *ℚ x) *ℚ e ≤ℚ k *ℚ h → whole (pos 16) *ℚ e ≤ℚ h
unfolding ◌-ℚ◌
sixteenth-most x e k h kk most ee near = at_most_over {k = k} kk (above near +ₙ number 16 *ₙ (above most *ₙ ee))
    (solve 4 (λ x e k h. k ⊗ (h ⊖ int (pos 16) ⊗ e) ≐ (k ⊗ h ⊖ (int (pos 16) ⊗ x) ⊗ e) ⊕ int (pos 16) ⊗ ((x ⊖ k) ⊗ e)) refl x e k h)

half-units : (e h u : ℚ) → whole (pos 0) <ℚ u → e *ℚ u ≡ h → whole (pos 65536) *ℚ h ≤ℚ u → whole (pos 65536) *ℚ e ≤ℚ whole (pos 1)
unfolding ◌-ℚ◌
half-units e h u uu times small = at_most_over {k = u} uu (above small)
    (from₁ (whole (negsuc 65535)) times (solve 3 (λ e h u. u ⊗ (int (pos 1) ⊖ int (pos 65536) ⊗ e) ≐ (u ⊖ int (pos 65536) ⊗ h) ⊕ int (negsuc 65535) ⊗ (e ⊗ u ⊖ h)) refl e h u))

three-most : (a b c h : ℚ) → whole (pos 16) *ℚ a ≤ℚ h → whole (pos 16) *ℚ b ≤ℚ h → whole (pos 16) *ℚ c ≤ℚ h → whole (pos 16) *ℚ (a +ℚ b +ℚ c) ≤ℚ whole (pos 3) *ℚ h
unfolding ◌-ℚ◌
three-most a b c h p q r = at_most (above p +ₙ above q +ₙ above r) (solve 4 (λ a b c h. int (pos 3) ⊗ h ⊖ int (pos 16) ⊗ (a ⊕ b ⊕ c) ≐ (h ⊖ int (pos 16) ⊗ a) ⊕ (h ⊖ int (pos 16) ⊗ b) ⊕ (h ⊖ int (pos 16) ⊗ c)) refl a b c h)

-- 4096 times 1/4096
unit-times : whole (pos 4096) *ℚ unit_value ≡ whole (pos 1)
unit-times = ap (λ z. whole (pos 4096) *ℚ z) (sym inverse_4096) ∙ inverse-whole (pos 4096) (omega (arith, ints))

tilt-times : (u s t v : ℚ) → whole (pos 4096) *ℚ v ≡ whole (pos 1) → whole (pos 2) *ℚ s ≡ whole (pos 2) *ℚ (v *ℚ t) → whole (pos 8192) *ℚ (u *ℚ s) ≡ whole (pos 2) *ℚ (u *ℚ t)
unfolding ◌-ℚ◌
tilt-times u s t v one is = from₂ (whole (pos 4096) *ℚ u) is (whole (pos 2) *ℚ (u *ℚ t)) one
    (solve 4 (λ u s t v. int (pos 8192) ⊗ (u ⊗ s) ≐ int (pos 2) ⊗ (u ⊗ t) ⊕ (int (pos 4096) ⊗ u) ⊗ (int (pos 2) ⊗ s ⊖ int (pos 2) ⊗ (v ⊗ t)) ⊕ (int (pos 2) ⊗ (u ⊗ t)) ⊗ (int (pos 4096) ⊗ v ⊖ int (pos 1))) refl u s t v)

-- what is held at most, by the high end, and at least, by the low one
held-from : (f v u high w c : ℚ) → whole (pos 4096) *ℚ v ≡ whole (pos 1) → (v *ℚ (f -ℚ whole (pos 1))) *ℚ u ≤ℚ high → high ≤ℚ w +ℚ c → (f -ℚ whole (pos 1)) *ℚ u ≤ℚ whole (pos 4096) *ℚ (w +ℚ c)
unfolding ◌-ℚ◌
held-from f v u high w c one to most = at_most (number 4096 *ₙ above to +ₙ number 4096 *ₙ above most)
    (from₁ ((f -ℚ whole (pos 1)) *ℚ u) one
    (solve 6 (λ f v u h w c. int (pos 4096) ⊗ (w ⊕ c) ⊖ (f ⊖ int (pos 1)) ⊗ u ≐ (int (pos 4096) ⊗ (h ⊖ (v ⊗ (f ⊖ int (pos 1))) ⊗ u) ⊕ int (pos 4096) ⊗ ((w ⊕ c) ⊖ h)) ⊕ ((f ⊖ int (pos 1)) ⊗ u) ⊗ (int (pos 4096) ⊗ v ⊖ int (pos 1))) refl f v u high w c))

held-to : (f v u low w c : ℚ) → whole (pos 4096) *ℚ v ≡ whole (pos 1) → low ≤ℚ (v *ℚ (f -ℚ whole (pos 1))) *ℚ u → opposite (w +ℚ c) ≤ℚ low → (whole (pos 1) -ℚ f) *ℚ u ≤ℚ whole (pos 4096) *ℚ (w +ℚ c)
unfolding ◌-ℚ◌
held-to f v u low w c one from most = at_most (number 4096 *ₙ above from +ₙ number 4096 *ₙ above most)
    (from₁ ((whole (pos 1) -ℚ f) *ℚ u) one
    (solve 6 (λ f v u l w c. int (pos 4096) ⊗ (w ⊕ c) ⊖ (int (pos 1) ⊖ f) ⊗ u ≐ (int (pos 4096) ⊗ ((v ⊗ (f ⊖ int (pos 1))) ⊗ u ⊖ l) ⊕ int (pos 4096) ⊗ (l ⊖ minus (w ⊕ c))) ⊕ ((int (pos 1) ⊖ f) ⊗ u) ⊗ (int (pos 4096) ⊗ v ⊖ int (pos 1))) refl f v u low w c))

-- an excess in units
excess-over : (f e u k : ℚ) → whole (pos 0) <ℚ u → e *ℚ u ≡ k → (f -ℚ whole (pos 1)) *ℚ u ≤ℚ k → f ≤ℚ whole (pos 1) +ℚ e
unfolding ◌-ℚ◌
excess-over f e u k uu times most = at_most_over {k = u} uu (above most)
    (from₁ (whole (pos 1)) times (solve 4 (λ f e u k. u ⊗ ((int (pos 1) ⊕ e) ⊖ f) ≐ (k ⊖ (f ⊖ int (pos 1)) ⊗ u) ⊕ int (pos 1) ⊗ (e ⊗ u ⊖ k)) refl f e u k))

in-band : (a p : ℚ) → whole (pos 1000000) *ℚ a ≤ℚ whole (pos 19000000) *ℚ p +ℚ whole (pos 1) → a ≤ℚ narrow_band p
unfolding ◌-ℚ◌
in-band a p most = at_most_over {k = whole (pos 1000000)} (positive_number 999999) (above most)
    (from₁ (whole (pos 1)) (fraction-times (pos 1) (pos 1000000) (omega (arith, ints)))
    (solve 3 (λ a p f. int (pos 1000000) ⊗ ((int (pos 19) ⊗ p ⊕ f) ⊖ a) ≐ ((int (pos 19000000) ⊗ p ⊕ int (pos 1)) ⊖ int (pos 1000000) ⊗ a) ⊕ int (pos 1) ⊗ (f ⊗ int (pos 1000000) ⊖ int (pos 1))) refl a p (fraction (pos 1) (pos 1000000))))

-- ---- of an axis

module _ {A : Type 0} {n : Numbers A} (laws : Lawful n) (finest : IsFinest n) where
  pub fine60 : 2 ^ 60 ≤ unit n
  fine60 = omega (arith, unit-is laws finest)

  abbrev pub u : ℚ
  u = whole (pos (unit n))

  uu : whole (pos 0) <ℚ u
  uu = whole_positive (omega (arith, ints, one_unit laws))

  fine-u : whole (pos 1152921504606846976) ≤ℚ u
  fine-u = whole_at_most (omega (arith, ints, fine60))

  module _ {l : Lamina} (strengths : KeepsStrengths l) {t : A} {q0 x r : ℤ} {s cap m : ℕ} (is : IsShare n t q0 x r s cap m) (near : value.beyond n (share.loaded laws finest.slop finest.scale is) ≡ false) where
    abbrev y : A
    y = share.y laws finest.slop finest.scale is

    far : Reaches n (sixteenths 18 + 4) y
    far = share.y-far laws finest.slop finest.scale is near

    abbrev pub mid : ℤ
    mid = share.mid laws finest.slop finest.scale is near

    abbrev pub by_half : ℤ
    by_half = share.by_half laws finest.slop finest.scale is near

    abbrev pub size : ℕ
    size = unsigned_abs by_half

    abbrev pub round : Round A
    round = value.round n mid by_half

    pub round-far : ReachRound n round
    round-far = reach-round laws mid by_half (middle-far laws y far) (half-far laws y far (share.half-narrow laws finest.slop finest.scale is near))

    pub middle-is : IsMiddle laws finest.slop strengths mid
    middle-is = record { room = middle-room laws y far; size = omega (arith, middle-far laws y far); far = round-far.middle }

    pub distance-is : IsDistance laws finest.slop fine60 (value.spread n by_half) size
    distance-is = is-distance laws finest.slop fine60 by_half (half-positive laws y far) (share.slim-half laws finest.slop finest.scale is near) round-far.spread

    back : (a : ℚ) (k : ℕ) → over_power a k *ℚ whole (pos (2 ^ k)) ≡ a
    unfolding ◌-ℚ◌
    back a k = from₁ a (times-inverse (whole_positive {d = pos (2 ^ k)} (omega (arith, ints, pow_pos k)))) (solve 3 (λ a p i. (a ⊗ i) ⊗ p ≐ a ⊕ a ⊗ (p ⊗ i ⊖ int (pos 1))) refl a (whole (pos (2 ^ k))) (inverse (whole (pos (2 ^ k)))))

    pub share-holds : {a : ℚ} → HoldsLoaded n (share.loaded laws finest.slop finest.scale is) a → HoldsRound laws round a
    share-holds {a} h =
        let z = share.loaded laws finest.slop finest.scale is in
        let inside = share.inside laws finest.slop finest.scale is near in
        let room = stretched-room laws z.value z.shift h.few (within-reach laws z.value (value.nine_eighths n z.shift) inside) in
        round-held laws y a far (share.half-narrow laws finest.slop finest.scale is near) (subst (Holds n y) (back a z.shift) ((laws.multiple z.value (pos (2 ^ z.shift)) room).held (over_power a z.shift) h.holds))

    pub middle-holds : HoldsRound laws round (fraction mid (pos (unit n)))
    middle-holds =
        let within = middle_within (n.low y) (n.high y) (laws.ordered y) in
        round-held laws y (fraction mid (pos (unit n))) far (share.half-narrow laws finest.slop finest.scale is near) (holds_units laws mid within.0 within.1)

    -- half the width in parts of one
    abbrev pub e : ℚ
    e = fraction (pos size) (pos (unit n))

    pub e-times : e *ℚ u ≡ whole (pos size)
    e-times = fraction-times (pos size) (pos (unit n)) (omega (arith, ints, one_unit laws))

    pub e-least : whole (pos 0) ≤ℚ e
    unfolding ◌-ℚ◌
    e-least = at_most_over {k = u} uu (number size) (from₁ (whole (pos 1)) e-times (solve 3 (λ e u h. u ⊗ (e ⊖ int (pos 0)) ≐ h ⊕ int (pos 1) ⊗ (e ⊗ u ⊖ h)) refl e u (whole (pos size))))

    pub e-small : whole (pos 65536) *ℚ e ≤ℚ whole (pos 1)
    e-small = half-units e (whole (pos size)) u uu e-times
        (at_most_images {m = pos 65536 *ℤ pos size} {n = pos (unit n)} (omega (arith, ints, share.slim-half laws finest.slop finest.scale is near)) (product_image (pos 65536) (pos size) refl refl) refl)

    -- what the strains are worth, in parts of the lesser strength
    abbrev pub Worth : ℚ → Type 0
    Worth part = whole (pos 27) *ℚ (whole (pos (unsigned_abs r)) *ℚ (whole (pos cap) *ℚ whole (pos m))) ≤ℚ whole (pos 16) *ℚ (whole (pos s) *ℚ (part *ℚ u))

    module _ {h part : ℚ} (half : IsHalf h part) (worth : Worth part) where
      wide-whole : whole (pos 512) *ℚ (whole (pos (unsigned_abs x)) *ℚ whole (pos size)) ≤ℚ whole (pos 27) *ℚ (whole (pos (unsigned_abs r)) *ℚ (whole (pos cap) *ℚ whole (pos m))) +ℚ whole (pos 549755813888) *ℚ whole (pos s)
      wide-whole =
          let f = pos (unsigned_abs r) in
          at_most_images {m = pos 512 *ℤ (pos (unsigned_abs x) *ℤ pos size)} {n = pos 27 *ℤ (f *ℤ (pos cap *ℤ pos m)) +ℤ pos 549755813888 *ℤ pos s}
          (omega (arith, ints, share.half-wide laws finest.slop finest.scale is near))
          (product_image (pos 512) (pos (unsigned_abs x) *ℤ pos size) refl (product_image (pos (unsigned_abs x)) (pos size) refl refl))
          (sum_image (pos 27 *ℤ (f *ℤ (pos cap *ℤ pos m))) (pos 549755813888 *ℤ pos s)
          (product_image (pos 27) (f *ℤ (pos cap *ℤ pos m)) refl (product_image f (pos cap *ℤ pos m) refl (product_image (pos cap) (pos m) refl refl)))
          (product_image (pos 549755813888) (pos s) refl refl))

      pub near-is : (whole (pos 16) *ℚ whole (pos (unsigned_abs x))) *ℚ e ≤ℚ whole (pos s) *ℚ h
      near-is = near-most (whole (pos (unsigned_abs x))) e (whole (pos s)) h part _ (whole (pos size)) u fine-u uu (number s) e-times half.twice wide-whole worth

      pub sixteenth-is : whole (pos 16) *ℚ e ≤ℚ h
      sixteenth-is = sixteenth-most (whole (pos (unsigned_abs x))) e (whole (pos s)) h (whole_positive (omega (arith, ints, is.some))) (whole_at_most (omega (arith, ints, is.least))) e-least near-is

  -- ---- of three axes

  module _ {l : Lamina} (strengths : KeepsStrengths l) {tx ty ts : A} {q0 r : ℤ} {cap m : ℕ}
      (sx : IsShare n tx q0 (int_max l.xt l.xc) r (unsigned_abs (int_min l.xt l.xc)) cap m) (sy : IsShare n ty q0 (int_max l.yt l.yc) r (unsigned_abs (int_min l.yt l.yc)) cap m) (ss : IsShare n ts q0 l.s r (unsigned_abs l.s) cap m)
      (nx : value.beyond n (share.loaded laws finest.slop finest.scale sx) ≡ false) (ny : value.beyond n (share.loaded laws finest.slop finest.scale sy) ≡ false) (ns : value.beyond n (share.loaded laws finest.slop finest.scale ss) ≡ false) where
    abbrev rx : Round A
    rx = round strengths sx nx

    abbrev ry : Round A
    ry = round strengths sy ny

    abbrev rs : Round A
    rs = round strengths ss ns

    abbrev pub v : A
    v = by.round_point n.calc (by.coefficients n.calc l) (value.middles n rx ry rs) (value.spreads n rx ry rs)

    pub v-far : reach n v ≤ 6 * unit n
    v-far = round-reaches laws strengths (round-far strengths sx nx) (round-far strengths sy ny) (round-far strengths ss ns)

    -- it holds the value of each stress whose shares are held
    pub v-holds : (w : OnAxis) → HoldsLoaded n (share.loaded laws finest.slop finest.scale sx) (shares_of l w).along → HoldsLoaded n (share.loaded laws finest.slop finest.scale sy) (shares_of l w).across
        → HoldsLoaded n (share.loaded laws finest.slop finest.scale ss) (shares_of l w).shear → Holds n v (unit_value *ℚ (criterion l w -ℚ whole (pos 1)))
    v-holds w hx hy hs = subst (Holds n v) (value-is l w (positive_strengths strengths))
        (round-holds laws strengths (share-holds strengths sx nx hx) (share-holds strengths sy ny hy) (share-holds strengths ss ns hs) (round-far strengths sx nx) (round-far strengths sy ny) (round-far strengths ss ns))

    abbrev q : Components ℚ
    q = record { along = fraction (mid strengths sx nx) (pos (unit n)); across = fraction (mid strengths sy ny) (pos (unit n)); shear = fraction (mid strengths ss ns) (pos (unit n)) }

    -- .. and that of the middle
    middle-held : Holds n v (unit_value *ℚ (criterion l (stress-at l q) -ℚ whole (pos 1)))
    middle-held = subst (Holds n v) (value-there strengths q)
        (round-holds laws strengths (middle-holds strengths sx nx) (middle-holds strengths sy ny) (middle-holds strengths ss ns) (round-far strengths sx nx) (round-far strengths sy ny) (round-far strengths ss ns))

    abbrev w : ℚ
    w = whole (pos (width n v))

    abbrev ex : ℚ
    ex = e strengths sx nx

    abbrev ey : ℚ
    ey = e strengths sy ny

    abbrev es : ℚ
    es = e strengths ss ns

    abbrev gx : A
    gx = by.slope n.calc (by.linear n.calc l.xt l.xc) (by.quadratic n.calc l.xt l.xc) (by.mixed n.calc l) rx.middle ry.middle

    abbrev gy : A
    gy = by.slope n.calc (by.linear n.calc l.yt l.yc) (by.quadratic n.calc l.yt l.yc) (by.mixed n.calc l) ry.middle rx.middle

    abbrev gs : A
    gs = n.calc.quotient rs.middle (pos 8)

    abbrev tgx : ℚ
    tgx = by.slope exact (by.linear exact l.xt l.xc) (by.quadratic exact l.xt l.xc) (by.mixed exact l) q.along q.across

    abbrev tgy : ℚ
    tgy = by.slope exact (by.linear exact l.yt l.yc) (by.quadratic exact l.yt l.yc) (by.mixed exact l) q.across q.along

    abbrev tgs : ℚ
    tgs = exact.quotient q.shear (pos 8)

    slope-x : points.IsSlope laws finest.slop strengths (middle-is strengths sx nx) (middle-is strengths sy ny) (middle-is strengths ss ns) gx tgx
    slope-x = along-slope laws finest.slop strengths (middle-is strengths sx nx) (middle-is strengths sy ny) (middle-is strengths ss ns)

    slope-y : points.IsSlope laws finest.slop strengths (middle-is strengths sx nx) (middle-is strengths sy ny) (middle-is strengths ss ns) gy tgy
    slope-y = across-slope laws finest.slop strengths (middle-is strengths sx nx) (middle-is strengths sy ny) (middle-is strengths ss ns)

    slope-s : points.IsSlope laws finest.slop strengths (middle-is strengths sx nx) (middle-is strengths sy ny) (middle-is strengths ss ns) gs tgs
    slope-s = shear-slope laws finest.slop strengths (middle-is strengths sx nx) (middle-is strengths sy ny) (middle-is strengths ss ns)

    side-x : HasSide (reach n gx) (width n gx) tgx u
    side-x = has-side laws gx tgx slope-x.held

    side-y : HasSide (reach n gy) (width n gy) tgy u
    side-y = has-side laws gy tgy slope-y.held

    side-s : HasSide (reach n gs) (width n gs) tgs u
    side-s = has-side laws gs tgs slope-s.held

    more : (a t : ℚ) (k : ℕ) → a ≤ℚ t +ℚ whole (pos k) → k ≤ 64 → a ≤ℚ t +ℚ whole (pos 64)
    unfolding ◌-ℚ◌
    more a t k h few = at_most (above h +ₙ above (whole_at_most {m = pos k} {n = pos 64} (omega (arith, ints, few)))) (solve 3 (λ a t k. (t ⊕ int (pos 64)) ⊖ a ≐ ((t ⊕ k) ⊖ a) ⊕ (int (pos 64) ⊖ k)) refl a t (whole (pos k)))

    -- a move by half the widths, to where the slopes lead
    abbrev d : Components ℚ
    d = record { along = side-x.sign *ℚ ex; across = side-y.sign *ℚ ey; shear = side-s.sign *ℚ es }

    abbrev t : ℚ
    t = tilt-there strengths q d

    wide : whole (pos 4096) *ℚ w ≤ℚ whole (pos 2) *ℚ (u *ℚ t) +ℚ u *ℚ (ex +ℚ ey +ℚ es) +ℚ whole (pos 8388608)
    wide =
        let natural = round-wide laws finest.slop fine60 strengths (middle-is strengths sx nx) (middle-is strengths sy ny) (middle-is strengths ss ns) (distance-is strengths sx nx) (distance-is strengths sy ny) (distance-is strengths ss ns) in
        subst (λ z. whole (pos 4096) *ℚ w ≤ℚ z +ℚ u *ℚ (ex +ℚ ey +ℚ es) +ℚ whole (pos 8388608)) (tilt-times u (by.tilt exact (by.coefficients exact l) q d) t unit_value unit-times (tilt-is strengths q d))
        (tilted w u (whole (pos (reach n gx))) (whole (pos (reach n gy))) (whole (pos (reach n gs))) tgx tgy tgs side-x.sign side-y.sign side-s.sign ex ey es
        (whole (pos (size strengths sx nx))) (whole (pos (size strengths sy ny))) (whole (pos (size strengths ss ns))) uu (e-times strengths sx nx) (e-times strengths sy ny) (e-times strengths ss ns)
        (round-wide-whole (width n v) (unit n) (reach n gx) (reach n gy) (reach n gs) (size strengths sx nx) (size strengths sy ny) (size strengths ss ns) natural)
        (more (whole (pos (reach n gx))) (side-x.sign *ℚ (tgx *ℚ u)) (width n gx) side-x.most slope-x.wide) (more (whole (pos (reach n gy))) (side-y.sign *ℚ (tgy *ℚ u)) (width n gy) side-y.most slope-y.wide) (more (whole (pos (reach n gs))) (side-s.sign *ℚ (tgs *ℚ u)) (width n gs) side-s.most slope-s.wide)
        (e-least strengths sx nx) (e-least strengths sy ny) (e-least strengths ss ns) (e-small strengths sx nx) (e-small strengths sy ny) (e-small strengths ss ns))

    -- ---- the enclosure lies about 0

    module _ (high : neg_ℤ (pos 16777216) ≤ℤ n.high v) (low : n.low v ≤ℤ pos 16777220) where
      wide-is : pos (width n v) ≡ n.high v -ℤ n.low v
      wide-is = width-pos (n.low v) (n.high v) (laws.ordered v)

      high-most : whole (n.high v) ≤ℚ w +ℚ whole (pos 16777224)
      high-most = at_most_images {n = pos (width n v) +ℤ pos 16777224} (omega (arith, ints, wide-is, low)) refl (sum_image (pos (width n v)) (pos 16777224) refl refl)

      low-least : opposite (w +ℚ whole (pos 16777224)) ≤ℚ whole (n.low v)
      low-least = at_most_images {m = neg_ℤ (pos (width n v) +ℤ pos 16777224)} (omega (arith, ints, wide-is, high))
          (whole-opposite (pos (width n v) +ℤ pos 16777224) ∙ ap opposite (sum_image (pos (width n v)) (pos 16777224) refl refl)) refl

      above-one : (f : ℚ) → Holds n v (unit_value *ℚ (f -ℚ whole (pos 1))) → (f -ℚ whole (pos 1)) *ℚ u ≤ℚ whole (pos 4096) *ℚ (w +ℚ whole (pos 16777224))
      above-one f h = held-from f unit_value u (whole (n.high v)) w (whole (pos 16777224)) unit-times h.encloses.to high-most

      below-one : (f : ℚ) → Holds n v (unit_value *ℚ (f -ℚ whole (pos 1))) → (whole (pos 1) -ℚ f) *ℚ u ≤ℚ whole (pos 4096) *ℚ (w +ℚ whole (pos 16777224))
      below-one f h = held-to f unit_value u (whole (n.low v)) w (whole (pos 16777224)) unit-times h.encloses.from low-least

      -- how far the value at the middle may be above 1
      abbrev excess : ℚ
      excess = fraction (pos (4096 * (width n v + 16777224))) (pos (unit n))

      excess-times : excess *ℚ u ≡ whole (pos 4096) *ℚ (w +ℚ whole (pos 16777224))
      excess-times = fraction-times (pos (4096 * (width n v + 16777224))) (pos (unit n)) (omega (arith, ints, one_unit laws))
          ∙ natural-product 4096 (width n v + 16777224) ∙ ap (λ z. whole (pos 4096) *ℚ z) (natural-sum (width n v) 16777224)

      excess-least : whole (pos 0) ≤ℚ excess
      unfolding ◌-ℚ◌
      excess-least = at_most_over {k = u} uu (number 4096 *ₙ (number (width n v) +ₙ number 16777224))
          (from₁ (whole (pos 1)) excess-times (solve 3 (λ e u w. u ⊗ (e ⊖ int (pos 0)) ≐ int (pos 4096) ⊗ (w ⊕ int (pos 16777224)) ⊕ int (pos 1) ⊗ (e ⊗ u ⊖ int (pos 4096) ⊗ (w ⊕ int (pos 16777224)))) refl excess u w))

      module _ {h part : ℚ} (half : IsHalf h part) (wx : Worth strengths sx nx part) (wy : Worth strengths sy ny part) (ws : Worth strengths ss ns part) where
        near-by : {x k : ℤ} {b : ℚ} (s : ℚ) → pos 0 <ℤ x → pos 0 <ℤ k → s *ℚ s ≡ whole (pos 1) → whole (pos 0) ≤ℚ b → (whole (pos 16) *ℚ whole (pos (unsigned_abs x))) *ℚ b ≤ℚ whole (pos (unsigned_abs k)) *ℚ h → IsNearBy (s *ℚ b) x k h
        near-by {x} {k} {b} s px pk square least most =
            let same_x : pos (unsigned_abs x) ≡ x = omega (arith, ints, px) in
            let same_k : pos (unsigned_abs k) ≡ k = omega (arith, ints, pk) in
            record { sign = s; size = b; square = square; least = least; most = subst (λ z. sixteen x *ℚ b ≤ℚ whole z *ℚ h) same_k (subst (λ z. (whole (pos 16) *ℚ whole z) *ℚ b ≤ℚ whole (pos (unsigned_abs k)) *ℚ h) same_x most); is = refl }

        steep : t *ℚ t ≤ℚ (h *ℚ h) *ℚ (whole (pos 352) +ℚ whole (pos 19) *ℚ excess)
        steep =
            let p = positive_strengths strengths in
            tilt-there-most strengths q d h excess (half-least half)
            (near-by side-x.sign (omega (arith, ints, clamps, p.xt)) (omega (arith, ints, clamps, p.xt, p.xc)) side-x.square (e-least strengths sx nx) (near-is strengths sx nx half wx))
            (near-by side-y.sign (omega (arith, ints, clamps, p.yt)) (omega (arith, ints, clamps, p.yt, p.yc)) side-y.square (e-least strengths sy ny) (near-is strengths sy ny half wy))
            (near-by side-s.sign p.s p.s side-s.square (e-least strengths ss ns) (near-is strengths ss ns half ws))
            excess-least (excess-over (criterion l (stress-at l q)) excess u _ uu excess-times (above-one (criterion l (stress-at l q)) middle-held))

        few : whole (pos 16) *ℚ (ex +ℚ ey +ℚ es) ≤ℚ whole (pos 3) *ℚ h
        few = three-most ex ey es h (sixteenth-is strengths sx nx half wx) (sixteenth-is strengths sy ny half wy) (sixteenth-is strengths ss ns half ws)

        slopes : whole (pos 20) *ℚ t ≤ℚ whole (pos 378) *ℚ h
        slopes = slopes-most t h excess (half-least half) steep
            (excess-small w t h excess (ex +ℚ ey +ℚ es) u fine-u (subst (λ z. z ≤ℚ whole (pos 4096) *ℚ (w +ℚ whole (pos 16777224))) (sym excess-times) (reflexive (whole (pos 4096) *ℚ (w +ℚ whole (pos 16777224))))) wide few (half-small half) uu)
            (half-small half)

        -- what is held is within the band of 1
        pub banded : (f : ℚ) → Holds n v (unit_value *ℚ (f -ℚ whole (pos 1))) → AreApart (narrow_band part) f (whole (pos 1))
        banded f holds = record {
          from = in-band (f -ℚ whole (pos 1)) part (band-most w t h (f -ℚ whole (pos 1)) (ex +ℚ ey +ℚ es) part u fine-u (above-one f holds) wide few slopes half.twice half.least uu);
          to = in-band (whole (pos 1) -ℚ f) part (band-most w t h (whole (pos 1) -ℚ f) (ex +ℚ ey +ℚ es) part u fine-u (below-one f holds) wide few slopes half.twice half.least uu);
        }
