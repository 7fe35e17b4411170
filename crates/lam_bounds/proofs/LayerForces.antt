-- A layer whose sides have the ratio of a factor carries no more than its capacity, over that factor.
use Rattle.std.proofs.Common.{◌≡◌, refl, sym, ◌∙◌, ap, ap₂, subst, ℤ, pos}
use Rattle.lam_fraction.specs.Fraction.{ℚ, whole, fraction, ◌+ℚ◌, ◌-ℚ◌, ◌*ℚ◌, ◌≤ℚ◌}
use Rattle.lam_fraction.proofs.Expression.{int, ◌⊕◌, ◌⊖◌, ◌⊗◌}
use Rattle.lam_fraction.proofs.Rationals.{solve, number, with_factor, fraction_times}
use Rattle.lam_fraction.proofs.Solver.{◌≐◌}
use Rattle.lam_fraction.specs.inside.WholeNumbers.{suc_positive}
use Rattle.lam_direction.specs.Circle.{CirclePoint}
use Rattle.lam_stock.specs.declared.item.Kind.{Kind}
use Rattle.lam_stock.specs.declared.item.Kind.TheVariants.{Ply, Pair}
use Rattle.lam_stock.specs.declared.item.Lamina.{Lamina}
use Rattle.lam_stock.specs.PlyLaw.{OffAxis, OnAxis, Side, Plus, Minus, side_point, side_stress, cosine, sine, layer_stress}
use Rattle.lam_stock.specs.TsaiWu.{criterion, RatioAtLeast}
use Rattle.lam_job.specs.Strength.{HasSide}
use Rattle.lam_support.specs.declared.weight.Weight.{Weight}
use Rattle.lam_support.specs.Carried.{IsInside, wall_stress, mean_stress, weighted, CarriesAtMost}

-- a stress times a number
abbrev times : ℚ → OnAxis → OnAxis
times r t = record { along = r *ℚ t.along; across = r *ℚ t.across; shear = r *ℚ t.shear }

-- a factor in thousandths
abbrev share : ℤ → ℚ
share factor = fraction factor (pos 1000)

share-is : (factor : ℤ) → whole (pos 1000) *ℚ share factor ≡ whole factor
share-is factor = fraction_times factor (pos 1000) (suc_positive 999)

-- a stress with the ratio of a factor is inside the surface at that factor
inside : (l : Lamina) (t : OnAxis) (factor : ℤ) → RatioAtLeast l t (whole factor) → IsInside l (times (share factor) t)
inside l t factor ratio =
    let one = λ (x : ℚ). scaled x in
    subst (λ u. criterion l u ≤ℚ whole (pos 1)) (λ i. record { along = one t.along i; across = one t.across i; shear = one t.shear i }) ratio
  where
    scaled : (x : ℚ) → x *ℚ whole factor ≡ (share factor *ℚ x) *ℚ whole (pos 1000)
    scaled x = ap (λ f. x *ℚ f) (sym (share-is factor)) ∙ solve 3 (λ x s k. x ⊗ (k ⊗ s) ≐ s ⊗ x ⊗ k) refl x (share factor) (whole (pos 1000))

module _ (w : Weight) where
  -- the weighted stress grows with the stress
  off_axis-times : (d : CirclePoint) (side : Side) (r : ℚ) (t : OnAxis) → weighted w (wall_stress d side (times r t)) ≡ r *ℚ weighted w (wall_stress d side t)
  unfolding ◌-ℚ◌
  off_axis-times d side r t =
      let c = cosine (side_point side d) in
      let s = sine (side_point side d) in
      solve 9 (λ x y z c s r a b g.
      x ⊗ (c ⊗ c ⊗ (r ⊗ a) ⊕ s ⊗ s ⊗ (r ⊗ b) ⊖ int (pos 2) ⊗ (s ⊗ c) ⊗ (r ⊗ g))
      ⊕ y ⊗ (s ⊗ s ⊗ (r ⊗ a) ⊕ c ⊗ c ⊗ (r ⊗ b) ⊕ int (pos 2) ⊗ (s ⊗ c) ⊗ (r ⊗ g))
      ⊕ z ⊗ (s ⊗ c ⊗ (r ⊗ a) ⊖ s ⊗ c ⊗ (r ⊗ b) ⊕ (c ⊗ c ⊖ s ⊗ s) ⊗ (r ⊗ g))
      ≐ r ⊗ (x ⊗ (c ⊗ c ⊗ a ⊕ s ⊗ s ⊗ b ⊖ int (pos 2) ⊗ (s ⊗ c) ⊗ g)
      ⊕ y ⊗ (s ⊗ s ⊗ a ⊕ c ⊗ c ⊗ b ⊕ int (pos 2) ⊗ (s ⊗ c) ⊗ g)
      ⊕ z ⊗ (s ⊗ c ⊗ a ⊖ s ⊗ c ⊗ b ⊕ (c ⊗ c ⊖ s ⊗ s) ⊗ g))) refl
      (whole w.x) (whole w.y) (whole w.s) c s r t.along t.across t.shear

  mean-weighted : (a b : OffAxis) → weighted w (mean_stress a b) ≡ (weighted w a +ℚ weighted w b) *ℚ fraction (pos 1) (pos 2)
  mean-weighted a b =
      solve 10 (λ x y z a b c p q r h. x ⊗ ((a ⊕ p) ⊗ h) ⊕ y ⊗ ((b ⊕ q) ⊗ h) ⊕ z ⊗ ((c ⊕ r) ⊗ h) ≐ ((x ⊗ a ⊕ y ⊗ b ⊕ z ⊗ c) ⊕ (x ⊗ p ⊕ y ⊗ q ⊕ z ⊗ r)) ⊗ h) refl
      (whole w.x) (whole w.y) (whole w.s) a.x a.y a.s b.x b.y b.s (fraction (pos 1) (pos 2))

  mean-times : (d : CirclePoint) (r : ℚ) (t u : OnAxis)
      → weighted w (mean_stress (wall_stress d Plus (times r t)) (wall_stress d Minus (times r u))) ≡ r *ℚ weighted w (mean_stress (wall_stress d Plus t) (wall_stress d Minus u))
  mean-times d r t u =
      mean-weighted (wall_stress d Plus (times r t)) (wall_stress d Minus (times r u))
      ∙ ap₂ (λ a b. (a +ℚ b) *ℚ fraction (pos 1) (pos 2)) (off_axis-times d Plus r t) (off_axis-times d Minus r u)
      ∙ solve 4 (λ r a b h. (r ⊗ a ⊕ r ⊗ b) ⊗ h ≐ r ⊗ ((a ⊕ b) ⊗ h)) refl r (weighted w (wall_stress d Plus t)) (weighted w (wall_stress d Minus u)) (fraction (pos 1) (pos 2))
      ∙ ap (λ m. r *ℚ m) (sym (mean-weighted (wall_stress d Plus t) (wall_stress d Minus u)))

  -- at the factor, in thousandths
  at_factor : (factor : ℤ) (thick v m : ℚ) → thick *ℚ (share factor *ℚ m) ≤ℚ v → whole factor *ℚ (thick *ℚ m) ≤ℚ whole (pos 1000) *ℚ v
  at_factor factor thick v m most =
      subst (λ z. z ≤ℚ whole (pos 1000) *ℚ v)
      (solve 4 (λ k t s m. k ⊗ (t ⊗ (s ⊗ m)) ≐ k ⊗ s ⊗ (t ⊗ m)) refl (whole (pos 1000)) thick (share factor) m ∙ ap (λ z. z *ℚ (thick *ℚ m)) (share-is factor))
      (with_factor (whole (pos 1000)) (number 1000) most)

  -- the sides of an item have the ratio
  abbrev pub HaveRatio : Kind → Lamina → CirclePoint → ℤ → OffAxis → Type 0
  HaveRatio k l d factor e = (side : Side) → HasSide k side → RatioAtLeast l (side_stress l d side e) (whole factor)

  pub layer_carries : (k : Kind) (l : Lamina) (d : CirclePoint) (factor : ℤ) (e : OffAxis) (v : ℚ) → CarriesAtMost k l d w v → HaveRatio k l d factor e
      → whole factor *ℚ (whole l.t *ℚ weighted w (layer_stress k l d e)) ≤ℚ whole (pos 1000) *ℚ v
  layer_carries Ply l d factor e v most ratio =
      let t = side_stress l d Plus e in
      let r = share factor in
      at_factor factor (whole l.t) v (weighted w (wall_stress d Plus t))
      (subst (λ z. whole l.t *ℚ z ≤ℚ v) (off_axis-times d Plus r t) (most (times r t) (inside l t factor (ratio Plus tt))))
  layer_carries Pair l d factor e v most ratio =
      let t = side_stress l d Plus e in
      let u = side_stress l d Minus e in
      let r = share factor in
      at_factor factor (whole l.t) v (weighted w (mean_stress (wall_stress d Plus t) (wall_stress d Minus u)))
      (subst (λ z. whole l.t *ℚ z ≤ℚ v) (mean-times d r t u) (most (times r t) (times r u) (inside l t factor (ratio Plus tt)) (inside l u factor (ratio Minus tt))))
