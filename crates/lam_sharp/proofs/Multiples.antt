-- The criterion's value at multiples of a stress: a square part, which is never negative, and a linear one.
use Rattle.std.proofs.Common.{◌≡◌, refl, sym, ◌∙◌, ap, ap₂, subst, subst₂, ◌^◌, ℤ, pos, negsuc, ◌*ℤ◌, ◌≤ℤ◌, ◌<ℤ◌, arith}
use Rattle.std.proofs.lemmas.Int.{ints}
use Rattle.lam_fraction.specs.Fraction.{ℚ, whole, ◌+ℚ◌, ◌-ℚ◌, ◌*ℚ◌, ◌/ℚ◌, inverse, ◌≤ℚ◌, ◌<ℚ◌}
use Rattle.lam_fraction.specs.inside.WholeNumbers.{product_positive}
use Rattle.lam_fraction.proofs.Expression.{int, ◌⊕◌, ◌⊖◌, ◌⊗◌}
use Rattle.lam_fraction.proofs.Integers as Z
use Rattle.lam_fraction.proofs.Solver.{◌≐◌}
use Rattle.lam_fraction.proofs.Rationals.{solve, from₁, from₂, from₃, above, weaken, at_most, at_most_over, square, number, positive_number, inverse_positive, ◌+ₙ◌, ◌*ₙ◌, ◌*ₚ◌}
use Rattle.lam_fraction.proofs.FractionBounds.{whole_positive, times-inverse}
use Rattle.lam_fraction.proofs.FractionRing.{whole-product}
use Rattle.lam_fraction.proofs.WholeFractions.{whole_at_most}
use Rattle.lam_stock.specs.declared.item.Lamina.{Lamina}
use Rattle.lam_stock.specs.Limits.{KeepsStrengths}
use Rattle.lam_stock.specs.PlyLaw.{OnAxis}
use Rattle.lam_stock.specs.TsaiWu.{criterion, tsai_wu}
use Rattle.lam_stock.proofs.StrengthBounds.{positive_strengths}

-- the coefficient of the product of the stresses along and across
abbrev pub mixed : Lamina → ℚ
mixed l = whole (pos 2 *ℤ l.f12) /ℚ whole (pos (10 ^ 18))

-- the square part, and the linear one
abbrev pub square_part : Lamina → OnAxis → ℚ
square_part l u =
    (u.along *ℚ u.along) /ℚ whole (l.xt *ℤ l.xc) +ℚ (u.across *ℚ u.across) /ℚ whole (l.yt *ℤ l.yc)
    +ℚ mixed l *ℚ (u.along *ℚ u.across) +ℚ (u.shear *ℚ u.shear) /ℚ whole (l.s *ℤ l.s)

abbrev pub linear_part : Lamina → OnAxis → ℚ
linear_part l u = (u.along /ℚ whole l.xt -ℚ u.along /ℚ whole l.xc) +ℚ (u.across /ℚ whole l.yt -ℚ u.across /ℚ whole l.yc)

pub at_multiple : (l : Lamina) (t : OnAxis) (r : ℚ) → tsai_wu l t r ≡ square_part l t *ℚ (r *ℚ r) +ℚ linear_part l t *ℚ r
unfolding criterion ◌-ℚ◌ ◌/ℚ◌
at_multiple l t r =
    solve 13 (λ u v w r a b c d e f g h k.
    ((u ⊗ r) ⊗ a ⊖ (u ⊗ r) ⊗ b) ⊕ ((v ⊗ r) ⊗ c ⊖ (v ⊗ r) ⊗ d) ⊕ ((u ⊗ r) ⊗ (u ⊗ r)) ⊗ e ⊕ ((v ⊗ r) ⊗ (v ⊗ r)) ⊗ f ⊕ ((w ⊗ r) ⊗ (w ⊗ r)) ⊗ g ⊕ (h ⊗ ((u ⊗ r) ⊗ (v ⊗ r))) ⊗ k
    ≐ ((u ⊗ u) ⊗ e ⊕ (v ⊗ v) ⊗ f ⊕ (h ⊗ k) ⊗ (u ⊗ v) ⊕ (w ⊗ w) ⊗ g) ⊗ (r ⊗ r) ⊕ ((u ⊗ a ⊖ u ⊗ b) ⊕ (v ⊗ c ⊖ v ⊗ d)) ⊗ r) refl
    t.along t.across t.shear r (inverse (whole l.xt)) (inverse (whole l.xc)) (inverse (whole l.yt)) (inverse (whole l.yc))
    (inverse (whole (l.xt *ℤ l.xc))) (inverse (whole (l.yt *ℤ l.yc))) (inverse (whole (l.s *ℤ l.s))) (whole (pos 2 *ℤ l.f12)) (inverse (whole (pos (10 ^ 18))))

-- ---- the square part is never negative: twice the mixed coefficient is less than its squares' allow

-- of whole numbers a, b and f over e: i, j and k are one over a, b and e
mixed_small : (a b f e i j k : ℚ) → a *ℚ i ≡ whole (pos 1) → b *ℚ j ≡ whole (pos 1) → e *ℚ k ≡ whole (pos 1)
    → whole (pos 0) ≤ℚ i → whole (pos 0) ≤ℚ j → (f *ℚ f) *ℚ (a *ℚ b) ≤ℚ whole (pos 3) *ℚ (e *ℚ e) → (f *ℚ k) *ℚ (f *ℚ k) ≤ℚ whole (pos 3) *ℚ (i *ℚ j)
unfolding ◌-ℚ◌
mixed_small a b f e i j k p q r x y h =
    at_most (x *ₙ y *ₙ square k *ₙ above h)
    (from₃ ((f *ℚ k) *ℚ (f *ℚ k) *ℚ (b *ℚ j)) p ((f *ℚ k) *ℚ (f *ℚ k)) q (whole (negsuc 2) *ℚ (i *ℚ j) *ℚ (e *ℚ k +ℚ whole (pos 1))) r
    (solve 7 (λ a b f e i j k.
    int (pos 3) ⊗ (i ⊗ j) ⊖ (f ⊗ k) ⊗ (f ⊗ k)
    ≐ (i ⊗ j ⊗ (k ⊗ k)) ⊗ (int (pos 3) ⊗ (e ⊗ e) ⊖ (f ⊗ f) ⊗ (a ⊗ b))
    ⊕ ((f ⊗ k) ⊗ (f ⊗ k) ⊗ (b ⊗ j)) ⊗ (a ⊗ i ⊖ int (pos 1)) ⊕ ((f ⊗ k) ⊗ (f ⊗ k)) ⊗ (b ⊗ j ⊖ int (pos 1))
    ⊕ (int (negsuc 2) ⊗ (i ⊗ j) ⊗ (e ⊗ k ⊕ int (pos 1))) ⊗ (e ⊗ k ⊖ int (pos 1))) refl a b f e i j k))

-- a form of two unknowns with a mixed term that small
form_positive : (p q m u v : ℚ) → whole (pos 0) <ℚ p → whole (pos 0) ≤ℚ q → m *ℚ m ≤ℚ whole (pos 3) *ℚ (p *ℚ q)
    → whole (pos 0) ≤ℚ (u *ℚ u) *ℚ p +ℚ (v *ℚ v) *ℚ q +ℚ m *ℚ (u *ℚ v)
unfolding ◌-ℚ◌
form_positive p q m u v pp qq h =
    at_most_over {k = whole (pos 4) *ℚ p} (positive_number 3 *ₚ pp)
    (square (whole (pos 2) *ℚ (p *ℚ u) +ℚ m *ℚ v) +ₙ (above h +ₙ weaken pp *ₙ qq) *ₙ square v)
    (solve 5 (λ p q m u v.
    (int (pos 4) ⊗ p) ⊗ (((u ⊗ u) ⊗ p ⊕ (v ⊗ v) ⊗ q ⊕ m ⊗ (u ⊗ v)) ⊖ int (pos 0))
    ≐ (int (pos 2) ⊗ (p ⊗ u) ⊕ m ⊗ v) ⊗ (int (pos 2) ⊗ (p ⊗ u) ⊕ m ⊗ v) ⊕ ((int (pos 3) ⊗ (p ⊗ q) ⊖ m ⊗ m) ⊕ p ⊗ q) ⊗ (v ⊗ v)) refl p q m u v)

module _ {l : Lamina} (h : KeepsStrengths l) where
  along_square : whole (pos 0) <ℚ whole (l.xt *ℤ l.xc)
  along_square = let p = positive_strengths h in whole_positive (product_positive l.xt l.xc p.xt p.xc)

  across_square : whole (pos 0) <ℚ whole (l.yt *ℤ l.yc)
  across_square = let p = positive_strengths h in whole_positive (product_positive l.yt l.yc p.yt p.yc)

  shear_square : whole (pos 0) <ℚ whole (l.s *ℤ l.s)
  shear_square = let p = positive_strengths h in whole_positive (product_positive l.s l.s p.s p.s)

  cross : (whole (pos 2 *ℤ l.f12) *ℚ whole (pos 2 *ℤ l.f12)) *ℚ (whole (l.xt *ℤ l.xc) *ℚ whole (l.yt *ℤ l.yc)) ≤ℚ whole (pos 3) *ℚ (whole (pos (10 ^ 18)) *ℚ whole (pos (10 ^ 18)))
  cross = subst₂ ◌≤ℚ◌ (left (pos 2 *ℤ l.f12) (l.xt *ℤ l.xc) (l.yt *ℤ l.yc)) (right (pos 3) (pos (10 ^ 18))) (whole_at_most (kept l.f12 (l.xt *ℤ l.xc) (l.yt *ℤ l.yc) h.cross.kept))
    where
      kept : (f a b : ℤ) → (pos 4 *ℤ (f *ℤ f) *ℤ (a *ℤ b)) ≤ℤ pos 3000000000000000000000000000000000000 → (((pos 2 *ℤ f) *ℤ (pos 2 *ℤ f)) *ℤ (a *ℤ b)) ≤ℤ pos 3000000000000000000000000000000000000
      kept f a b k = subst (λ z. z ≤ℤ pos 3000000000000000000000000000000000000) (Z.solve 3 (λ f a b. int (pos 4) ⊗ (f ⊗ f) ⊗ (a ⊗ b) ≐ ((int (pos 2) ⊗ f) ⊗ (int (pos 2) ⊗ f)) ⊗ (a ⊗ b)) refl f a b) k

      left : (f a b : ℤ) → whole ((f *ℤ f) *ℤ (a *ℤ b)) ≡ (whole f *ℚ whole f) *ℚ (whole a *ℚ whole b)
      left f a b = whole-product (f *ℤ f) (a *ℤ b) ∙ ap₂ ◌*ℚ◌ (whole-product f f) (whole-product a b)

      right : (n e : ℤ) → whole (n *ℤ (e *ℤ e)) ≡ whole n *ℚ (whole e *ℚ whole e)
      right n e = whole-product n (e *ℤ e) ∙ ap (λ z. whole n *ℚ z) (whole-product e e)

  pub mixed-small : mixed l *ℚ mixed l ≤ℚ whole (pos 3) *ℚ (inverse (whole (l.xt *ℤ l.xc)) *ℚ inverse (whole (l.yt *ℤ l.yc)))
  unfolding ◌/ℚ◌
  mixed-small = mixed_small _ _ _ _ _ _ _ (times-inverse along_square) (times-inverse across_square) (times-inverse (whole_positive {d = pos (10 ^ 18)} (omega (arith, ints))))
      (weaken (inverse_positive along_square)) (weaken (inverse_positive across_square)) cross

  pub square_part_positive : (u : OnAxis) → whole (pos 0) ≤ℚ square_part l u
  unfolding ◌/ℚ◌
  square_part_positive u =
      form_positive _ _ (mixed l) u.along u.across (inverse_positive along_square) (weaken (inverse_positive across_square)) mixed-small
      +ₙ square u.shear *ₙ weaken (inverse_positive shear_square)
