-- What it says that a face meets a factor.
use Rattle.std.proofs.Common.{◌≡◌, refl, sym, ap, subst, subst₂, ℕ, ◌≤◌, ◌⊎◌, inl, inr, [], ◌∷◌, Bool, true, false, ◌&&◌, ℤ, pos, neg_ℤ, ◌≤ℤ◌, ◌<ℤ◌, int_lt, arith}
use Rattle.std.proofs.lemmas.Int.{ints}
use Rattle.lam_fraction.specs.Fraction.{ℚ, whole, ◌+ℚ◌, ◌-ℚ◌, ◌*ℚ◌, ◌/ℚ◌, inverse, ◌≤ℚ◌, ◌<ℚ◌}
use Rattle.lam_fraction.specs.numbers.Numbers.{Numbers, Lawful, Holds, unit}
use Rattle.lam_fraction.proofs.FractionPairs.{whole-le}
use Rattle.lam_fraction.proofs.FractionBounds.{whole_positive}
use Rattle.lam_fraction.proofs.Rationals.{quotes, by_ring, decide, not_zero, number, transitive, below_then_at_most, ◌*ₚ◌}
use Rattle.lam_fraction.proofs.numbers.Steps.{one_unit}
use Rattle.lam_fraction.proofs.numbers.Tests.{both-left, both-right}
use Rattle.lam_job.specs.Strength.{HasSide}
use Rattle.lam_number.specs.Signs.{sign_of}
use Rattle.std.specs.Prelude.{if◌then◌else◌}
use Rattle.lam_number.specs.declared.enclosure.Sign.TheVariants.{Below, Above, Mixed}
use Rattle.lam_number.specs.declared.strength.FaceStrain.{FaceStrain}
use Rattle.lam_number.specs.declared.strength.Verdict.{Verdict}
use Rattle.lam_number.specs.declared.strength.Verdict.TheVariants.{Meets, Fails, Straddles}
use Rattle.lam_stock.specs.PlyLaw as law
use Rattle.lam_stock.specs.PlyLaw.{OffAxis, OnAxis}
use Rattle.lam_stock.specs.TsaiWu.{criterion, tsai_wu, RatioAtLeast}
use Rattle.lam_stock.specs.declared.item.Item.{Item}
use Rattle.lam_stock.specs.declared.item.Kind.{Kind}
use Rattle.lam_stock.specs.declared.item.Kind.TheVariants.{Ply, Pair}
use Rattle.lam_stock.specs.declared.item.Lamina.{Lamina}
use Rattle.lam_stock.specs.declared.scale.Scale.{Scale}
use Rattle.lam_tsai.specs.declared.criterion.Criterion.{Criterion}
use Rattle.lam_tsai.specs.declared.place.FaceSide.{FaceSide}
use Rattle.lam_tsai.specs.declared.place.FaceSide.TheVariants.{Inner, Outer}
use Rattle.lam_tsai.specs.declared.place.Level.{Level}
use Rattle.lam_tsai.specs.declared.place.Level.TheVariants.{Near, Far}
use Rattle.lam_tsai.specs.declared.place.Side.{Side}
use Rattle.lam_tsai.specs.declared.place.Side.TheVariants.{Plus, Minus}
use Rattle.lam_tsai.specs.FaceStrains.{HoldsStrain, IsWithinSix}
use Rattle.lam_tsai.specs.Levels.{IsLevel, side_of, level_value, verdict_of, by_sign, margin_of}
use Rattle.lam_tsai.specs.Listed.{IsItemOf}
use Rattle.lam_tsai.specs.Ratios.{at_face, HasRatio}
use Rattle.lam_tsai.specs.inside.Halving as by
use Rattle.lam_tsai.specs.inside.Values as value
use Rattle.lam_tsai.proofs.LevelHeld.{level-held, value-positive}
use Rattle.lam_tsai.proofs.Ordered.{is_below}

-- ---- a verdict

pub met-is : (v : Verdict) → by.is_met v ≡ true → v ≡ Meets
met-is Meets e = refl
met-is Fails e = absurd (cc)
met-is Straddles e = absurd (cc)

pub is-met : (v : Verdict) → v ≡ Meets → by.is_met v ≡ true
is-met v e = ap by.is_met e

both : (a b : Bool) → a ≡ true → b ≡ true → (a && b) ≡ true
both a b e d = rw (e, d) refl

-- ---- all sides and faces

module _ {A : Type 0} (n : Numbers A) (c : Criterion A) (r : ℕ) where
  abbrev verdict_at : Side → FaceStrain A → Verdict
  verdict_at side at = verdict_of n (value.level_by n c side at (pos r))

  face-all : (k : Kind) (at : FaceStrain A) → (by.side_meets n c (value.stress n c Plus at) r && by.minus_meets n c (by.minus_of n k c at) r) ≡ true
      → (side : Side) → HasSide k (side_of side) → verdict_at side at ≡ Meets
  face-all k at t Plus h = met-is _ (both-left _ _ t)
  face-all Ply at t Minus h = absurd h
  face-all Pair at t Minus h = met-is _ (both-right _ _ t)

  all-face : (k : Kind) (at : FaceStrain A) → ((side : Side) → HasSide k (side_of side) → verdict_at side at ≡ Meets)
      → (by.side_meets n c (value.stress n c Plus at) r && by.minus_meets n c (by.minus_of n k c at) r) ≡ true
  all-face Ply at h = both _ _ (is-met _ (h Plus tt)) refl
  all-face Pair at h = both _ _ (is-met _ (h Plus tt)) (is-met _ (h Minus tt))

module _ {A : Type 0} (n : Numbers A) (scale : Scale) (i : Item) (inner outer : FaceStrain A) (r : ℕ) where
  abbrev c : Criterion A
  c = value.criterion n scale i

  pub all-meet : by.meets_at n c inner outer r ≡ true → by.AllMeet n i scale inner outer r
  unfolding by.meets
  all-meet t Inner side h = face-all n c r i.kind inner (both-left _ _ t) side h
  all-meet t Outer side h = face-all n c r i.kind outer (both-right _ _ t) side h

  pub meet-all : by.AllMeet n i scale inner outer r → by.meets_at n c inner outer r ≡ true
  unfolding by.meets
  meet-all h = both _ _ (all-face n c r i.kind inner (h Inner)) (all-face n c r i.kind outer (h Outer))

  pub not-all : by.meets_at n c inner outer r ≡ false → ¬ by.AllMeet n i scale inner outer r
  not-all e h = let t = meet-all h in absurd (cc)

-- ---- what a verdict says

failed : Fails ≡ Meets → ⊥
failed e = cc

straddles : Straddles ≡ Meets → ⊥
straddles e = cc

sign-meets : (low high margin : ℤ) → by_sign (sign_of low high margin) ≡ Meets → high <ℤ neg_ℤ margin
sign-meets low high margin e = go (int_lt high (neg_ℤ margin)) refl (int_lt margin low) refl
  where
    go : (s : Bool) → int_lt high (neg_ℤ margin) ≡ s → (t : Bool) → int_lt margin low ≡ t → high <ℤ neg_ℤ margin
    go true d t f = is_below high (neg_ℤ margin) d
    go false d true f = absurd (failed (subst₂ (λ a b. by_sign (if a then Below else (if b then Above else Mixed)) ≡ Meets) d f e))
    go false d false f = absurd (straddles (subst₂ (λ a b. by_sign (if a then Below else (if b then Above else Mixed)) ≡ Meets) d f e))

module _ {A : Type 0} {n : Numbers A} (laws : Lawful n) where
  -- what is held below 0 is of a value below 1
  below-one : (v : A) (f : ℚ) → n.high v ≤ℤ pos 0 → Holds n v (level_value f) → f ≤ℚ whole (pos 1)
  below-one v f h k = decide f (whole (pos 1)) (λ le. le) (λ more.
      let most : level_value f *ℚ whole (pos (unit n)) ≤ℚ whole (pos 0) = transitive k.encloses.to ((whole-le (n.high v) (pos 0)).1 h) in
      let positive : whole (pos 0) <ℚ level_value f *ℚ whole (pos (unit n)) = value-positive f more *ₚ whole_positive {d = pos (unit n)} (omega (arith, ints, one_unit laws)) in
      absurd (not_zero (below_then_at_most positive most) refl))

  pub meets-at-most-one : (l : Level A) (f : ℚ) → IsLevel n l f → verdict_of n l ≡ Meets → f ≤ℚ whole (pos 1)
  meets-at-most-one (Near v) f h e =
      let less = sign-meets (n.low v) (n.high v) (margin_of n) e in
      below-one v f (omega (arith, ints, less)) h
  meets-at-most-one Far f h e = absurd (cc)

-- at no load the criterion is 0
nothing : (a b c i₁ i₂ i₃ i₄ i₅ i₆ i₇ i₈ g : ℚ) → let z = whole (pos 0) in
    (a *ℚ z *ℚ i₁ -ℚ a *ℚ z *ℚ i₂) +ℚ (b *ℚ z *ℚ i₃ -ℚ b *ℚ z *ℚ i₄) +ℚ (a *ℚ z) *ℚ (a *ℚ z) *ℚ i₅ +ℚ (b *ℚ z) *ℚ (b *ℚ z) *ℚ i₆
    +ℚ (c *ℚ z) *ℚ (c *ℚ z) *ℚ i₇ +ℚ (g *ℚ ((a *ℚ z) *ℚ (b *ℚ z))) *ℚ i₈ ≡ whole (pos 0)
nothing a b c i₁ i₂ i₃ i₄ i₅ i₆ i₇ i₈ g = by_ring (a ∷ b ∷ c ∷ i₁ ∷ i₂ ∷ i₃ ∷ i₄ ∷ i₅ ∷ i₆ ∷ i₇ ∷ i₈ ∷ g ∷ []) (search quotes depth 40 fits 9000) refl

at-zero : (l : Lamina) (t : OnAxis) → tsai_wu l t (whole (pos 0)) ≡ whole (pos 0)
unfolding criterion ◌/ℚ◌
at-zero l t = nothing t.along t.across t.shear (inverse (whole l.xt)) (inverse (whole l.xc)) (inverse (whole l.yt)) (inverse (whole l.yc)) _ _ _ _ (whole _)

pub zero-met : (l : Lamina) (t : OnAxis) → RatioAtLeast l t (whole (pos 0))
zero-met l t = subst (λ z. z ≤ℚ whole (pos 1)) (sym (at-zero l t)) (number 1)

-- a side by its word in the ply law
abbrev side-from : law.Side → Side
side-from law.Plus = Plus
side-from law.Minus = Minus

side-back : (side : law.Side) → side_of (side-from side) ≡ side
side-back law.Plus = refl
side-back law.Minus = refl

module _ {A : Type 0} {n : Numbers A} (laws : Lawful n) {scale : Scale} {i : Item} (is : IsItemOf scale i) (inner outer : FaceStrain A)
    (inner-six : IsWithinSix n inner) (outer-six : IsWithinSix n outer) where
  six : (face : FaceSide) → IsWithinSix n (at_face inner outer face)
  six Inner = inner-six
  six Outer = outer-six

  met-there : (r : ℕ) → r ≤ 20000 → by.AllMeet n i scale inner outer r → (face : FaceSide) (s : Side) → HasSide i.kind (side_of s) → (e : OffAxis) → HoldsStrain n (at_face inner outer face) e
      → RatioAtLeast i.lamina (law.side_stress i.lamina i.dir (side_of s) e) (whole (pos r))
  met-there r few all face s h e k =
      meets-at-most-one laws (value.level n i s scale (at_face inner outer face) (pos r)) _
      (level-held laws is s (at_face inner outer face) (pos r) (six face) (omega (arith, ints)) (omega (arith, ints, few)) e k) (all face s h)

  -- where all meet, the ratio is at least that
  pub all-ratio : (r : ℕ) → r ≤ 20000 → by.AllMeet n i scale inner outer r → HasRatio n i inner outer r
  all-ratio r few all face side h e k =
      subst (λ s. RatioAtLeast i.lamina (law.side_stress i.lamina i.dir s e) (whole (pos r))) (side-back side)
      (met-there r few all face (side-from side) (subst (HasSide i.kind) (sym (side-back side)) h) e k)

  pub ratio-met : (r : ℕ) → r ≤ 20000 → (r ≡ 0) ⊎ by.AllMeet n i scale inner outer r → HasRatio n i inner outer r
  ratio-met r few (inl e) = λ face side h f k. subst (λ z. RatioAtLeast i.lamina (law.side_stress i.lamina i.dir side f) (whole (pos z))) (sym e) (zero-met i.lamina (law.side_stress i.lamina i.dir side f))
  ratio-met r few (inr all) = all-ratio r few all
