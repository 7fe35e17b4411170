-- How far the stresses of a ply move, from how far a strain of the wall does.
use Rattle.std.proofs.Common.{◌≡◌, refl, sym, ◌∙◌, ap, ◌⊎◌, inl, inr, ℤ, pos, negsuc, ◌+ℤ◌, ◌*ℤ◌, ◌≤ℤ◌, ◌<ℤ◌, arith}
use Rattle.std.specs.Int.{int_min}
use Rattle.std.proofs.lemmas.Int.{ints, clamps}
use Rattle.lam_fraction.specs.Fraction.{ℚ, whole, ◌+ℚ◌, ◌-ℚ◌, ◌*ℚ◌, ◌≤ℚ◌, ◌<ℚ◌}
use Rattle.lam_fraction.proofs.Expression.{int, ◌⊕◌, ◌⊖◌, ◌⊗◌}
use Rattle.lam_fraction.proofs.Solver.{◌≐◌}
use Rattle.lam_fraction.proofs.Rationals.{solve, from₁, above, weaken, at_most, at_most_over, inverse_positive, square, number, positive_number, ◌+ₙ◌, ◌*ₙ◌, ◌*ₚ◌}
use Rattle.lam_fraction.proofs.FractionBounds.{whole_positive, times-inverse}
use Rattle.lam_fraction.proofs.Laws.{either}
use Rattle.lam_fraction.proofs.WholeFractions.{whole_at_most, at_most_images, sum_image, difference_image, product_image}
use Rattle.lam_direction.specs.Circle.{CirclePoint, IsDirection}
use Rattle.lam_stock.specs.declared.item.Lamina.{Lamina}
use Rattle.lam_stock.specs.Limits.{KeepsLimits}
use Rattle.lam_stock.specs.Moduli.{stiffness_cap}
use Rattle.lam_stock.specs.PlyLaw.{OffAxis, Side, side_point, side_stress, strain_on_axis, cosine, sine, poisson_rest, reduced_11, reduced_12, reduced_22, reduced_66}
use Rattle.lam_stock.specs.TsaiWu.{times_factor}
use Rattle.lam_stock.proofs.StrengthBounds.{positive_strengths, strengths_kept}
use Rattle.lam_stock.proofs.Angles.{IsAngle, side-angle}
use Rattle.lam_lamina.proofs.Moduli.{IsElastic, million, along, across, poisson, share, rest, reduced-11, reduced-12, reduced-22, poisson_rest_positive, along_stiff, across_stiff, coupled_not_negative}
use Rattle.lam_narrow.specs.Close.{AreApart, StrainsApart, MovesBy, StressesMoveBy}
use Rattle.lam_narrow.proofs.ItemTerms.{StressesApart}

-- ---- distances

pub apart_turned : {d x y : ℚ} → AreApart d x y → AreApart d y x
apart_turned h = record { from = h.to; to = h.from }

pub strains_turned : {d : ℚ} {e f : OffAxis} → StrainsApart d e f → StrainsApart d f e
strains_turned h = record { x = apart_turned h.x; y = apart_turned h.y; s = apart_turned h.s }

pub far_least : (d x y : ℚ) → AreApart d x y → whole (pos 0) ≤ℚ d
unfolding ◌-ℚ◌
far_least d x y h = at_most_over {k = whole (pos 2)} (positive_number 1) (above h.from +ₙ above h.to)
    (solve 3 (λ d x y. int (pos 2) ⊗ (d ⊖ int (pos 0)) ≐ (d ⊖ (x ⊖ y)) ⊕ (d ⊖ (y ⊖ x))) refl d x y)

-- ---- a strain in the axes of a ply

module _ (c s : ℚ) (circle : IsAngle c s) {d x y g u v w : ℚ} (hx : AreApart d x u) (hy : AreApart d y v) (hg : AreApart d g w) where
  along_from : whole (pos 2) *ℚ (((c *ℚ c) *ℚ x +ℚ (s *ℚ s) *ℚ y +ℚ (s *ℚ c) *ℚ g) -ℚ ((c *ℚ c) *ℚ u +ℚ (s *ℚ s) *ℚ v +ℚ (s *ℚ c) *ℚ w)) ≤ℚ whole (pos 3) *ℚ d
  unfolding ◌-ℚ◌
  along_from = at_most_over {k = whole (pos 2)} (positive_number 1)
      (number 4 *ₙ (square c *ₙ above hx.from) +ₙ number 4 *ₙ (square s *ₙ above hy.from) +ₙ square (c -ℚ s) *ₙ above hg.to +ₙ square (c +ℚ s) *ₙ above hg.from)
      (from₁ (whole (negsuc 5) *ℚ d) circle
      (solve 9 (λ c s d x y g u v w.
      int (pos 2) ⊗ (int (pos 3) ⊗ d ⊖ int (pos 2) ⊗ (((c ⊗ c) ⊗ x ⊕ (s ⊗ s) ⊗ y ⊕ (s ⊗ c) ⊗ g) ⊖ ((c ⊗ c) ⊗ u ⊕ (s ⊗ s) ⊗ v ⊕ (s ⊗ c) ⊗ w)))
      ≐ (int (pos 4) ⊗ ((c ⊗ c) ⊗ (d ⊖ (x ⊖ u))) ⊕ int (pos 4) ⊗ ((s ⊗ s) ⊗ (d ⊖ (y ⊖ v))) ⊕ (c ⊖ s) ⊗ (c ⊖ s) ⊗ (d ⊖ (w ⊖ g)) ⊕ (c ⊕ s) ⊗ (c ⊕ s) ⊗ (d ⊖ (g ⊖ w)))
      ⊕ (int (negsuc 5) ⊗ d) ⊗ (c ⊗ c ⊕ s ⊗ s ⊖ int (pos 1))) refl c s d x y g u v w))

  across_from : whole (pos 2) *ℚ (((s *ℚ s) *ℚ x +ℚ (c *ℚ c) *ℚ y -ℚ (s *ℚ c) *ℚ g) -ℚ ((s *ℚ s) *ℚ u +ℚ (c *ℚ c) *ℚ v -ℚ (s *ℚ c) *ℚ w)) ≤ℚ whole (pos 3) *ℚ d
  unfolding ◌-ℚ◌
  across_from = at_most_over {k = whole (pos 2)} (positive_number 1)
      (number 4 *ₙ (square s *ₙ above hx.from) +ₙ number 4 *ₙ (square c *ₙ above hy.from) +ₙ square (c +ℚ s) *ₙ above hg.to +ₙ square (c -ℚ s) *ₙ above hg.from)
      (from₁ (whole (negsuc 5) *ℚ d) circle
      (solve 9 (λ c s d x y g u v w.
      int (pos 2) ⊗ (int (pos 3) ⊗ d ⊖ int (pos 2) ⊗ (((s ⊗ s) ⊗ x ⊕ (c ⊗ c) ⊗ y ⊖ (s ⊗ c) ⊗ g) ⊖ ((s ⊗ s) ⊗ u ⊕ (c ⊗ c) ⊗ v ⊖ (s ⊗ c) ⊗ w)))
      ≐ (int (pos 4) ⊗ ((s ⊗ s) ⊗ (d ⊖ (x ⊖ u))) ⊕ int (pos 4) ⊗ ((c ⊗ c) ⊗ (d ⊖ (y ⊖ v))) ⊕ (c ⊕ s) ⊗ (c ⊕ s) ⊗ (d ⊖ (w ⊖ g)) ⊕ (c ⊖ s) ⊗ (c ⊖ s) ⊗ (d ⊖ (g ⊖ w)))
      ⊕ (int (negsuc 5) ⊗ d) ⊗ (c ⊗ c ⊕ s ⊗ s ⊖ int (pos 1))) refl c s d x y g u v w))

  shear_from : (whole (pos 2) *ℚ (s *ℚ c) *ℚ y -ℚ whole (pos 2) *ℚ (s *ℚ c) *ℚ x +ℚ (c *ℚ c -ℚ s *ℚ s) *ℚ g) -ℚ (whole (pos 2) *ℚ (s *ℚ c) *ℚ v -ℚ whole (pos 2) *ℚ (s *ℚ c) *ℚ u +ℚ (c *ℚ c -ℚ s *ℚ s) *ℚ w) ≤ℚ whole (pos 3) *ℚ d
  unfolding ◌-ℚ◌
  shear_from = at_most_over {k = whole (pos 2)} (positive_number 1)
      (square (c -ℚ s) *ₙ (above hy.to +ₙ above hx.from) +ₙ square (c +ℚ s) *ₙ (above hy.from +ₙ above hx.to) +ₙ number 2 *ₙ (square c *ₙ above hg.from) +ₙ number 2 *ₙ (square s *ₙ above hg.to))
      (from₁ (whole (negsuc 5) *ℚ d) circle
      (solve 9 (λ c s d x y g u v w.
      int (pos 2) ⊗ (int (pos 3) ⊗ d ⊖ ((int (pos 2) ⊗ (s ⊗ c) ⊗ y ⊖ int (pos 2) ⊗ (s ⊗ c) ⊗ x ⊕ (c ⊗ c ⊖ s ⊗ s) ⊗ g) ⊖ (int (pos 2) ⊗ (s ⊗ c) ⊗ v ⊖ int (pos 2) ⊗ (s ⊗ c) ⊗ u ⊕ (c ⊗ c ⊖ s ⊗ s) ⊗ w)))
      ≐ ((c ⊖ s) ⊗ (c ⊖ s) ⊗ ((d ⊖ (v ⊖ y)) ⊕ (d ⊖ (x ⊖ u))) ⊕ (c ⊕ s) ⊗ (c ⊕ s) ⊗ ((d ⊖ (y ⊖ v)) ⊕ (d ⊖ (u ⊖ x))) ⊕ int (pos 2) ⊗ ((c ⊗ c) ⊗ (d ⊖ (g ⊖ w))) ⊕ int (pos 2) ⊗ ((s ⊗ s) ⊗ (d ⊖ (w ⊖ g))))
      ⊕ (int (negsuc 5) ⊗ d) ⊗ (c ⊗ c ⊕ s ⊗ s ⊖ int (pos 1))) refl c s d x y g u v w))

-- ---- the moduli: each normal stress takes at most 9/4 of E1 + E2

-- of the moduli e and f, of Poisson's ratio n in thousandths, and one over what is left of a million times e
along_sum : (e f n i : ℚ) → whole (pos 0) ≤ℚ e → whole (pos 0) ≤ℚ f → whole (pos 0) ≤ℚ i → n ≤ℚ whole (pos 1000) → whole (pos 2) *ℚ (n *ℚ n) *ℚ f ≤ℚ whole (pos 1000000) *ℚ e
    → (whole (pos 1000000) *ℚ e -ℚ (n *ℚ n) *ℚ f) *ℚ i ≡ whole (pos 1)
    → whole (pos 4) *ℚ ((whole (pos 1000000) *ℚ (e *ℚ e)) *ℚ i +ℚ (whole (pos 1000) *ℚ (n *ℚ (e *ℚ f))) *ℚ i) ≤ℚ whole (pos 9) *ℚ (e +ℚ f)
unfolding ◌-ℚ◌
along_sum e f n i ee ff ii small left is =
    at_most_over {k = whole (pos 2)} (positive_number 1)
    ((number 9 *ₙ ((ee +ₙ ff) *ₙ above left) +ₙ ee *ₙ (number 1000000 *ₙ ee +ₙ ff *ₙ (number 8000 *ₙ above small +ₙ number 1000000))) *ₙ ii)
    (from₁ (whole (negsuc 17) *ℚ (e +ℚ f)) is
    (solve 4 (λ e f n i.
    let m = int (pos 1000000) in
    int (pos 2) ⊗ (int (pos 9) ⊗ (e ⊕ f) ⊖ int (pos 4) ⊗ ((m ⊗ (e ⊗ e)) ⊗ i ⊕ (int (pos 1000) ⊗ (n ⊗ (e ⊗ f))) ⊗ i))
    ≐ (int (pos 9) ⊗ ((e ⊕ f) ⊗ (m ⊗ e ⊖ int (pos 2) ⊗ (n ⊗ n) ⊗ f)) ⊕ e ⊗ (m ⊗ e ⊕ f ⊗ (int (pos 8000) ⊗ (int (pos 1000) ⊖ n) ⊕ m))) ⊗ i
    ⊕ (int (negsuc 17) ⊗ (e ⊕ f)) ⊗ ((m ⊗ e ⊖ (n ⊗ n) ⊗ f) ⊗ i ⊖ int (pos 1))) refl e f n i))

across_sum : (e f n i : ℚ) → whole (pos 0) ≤ℚ e → whole (pos 0) ≤ℚ f → whole (pos 0) ≤ℚ i → whole (pos 2) *ℚ (n *ℚ n) *ℚ f ≤ℚ whole (pos 1000000) *ℚ e
    → (whole (pos 1000000) *ℚ e -ℚ (n *ℚ n) *ℚ f) *ℚ i ≡ whole (pos 1)
    → whole (pos 4) *ℚ ((whole (pos 1000) *ℚ (n *ℚ (e *ℚ f))) *ℚ i +ℚ (whole (pos 1000000) *ℚ (e *ℚ f)) *ℚ i) ≤ℚ whole (pos 9) *ℚ (e +ℚ f)
unfolding ◌-ℚ◌
across_sum e f n i ee ff ii left is =
    at_most_over {k = whole (pos 18)} (positive_number 17)
    ((number 81 *ₙ (((ee +ₙ ff) +ₙ ee) *ₙ above left) +ₙ ee *ₙ ff *ₙ (number 2 *ₙ square (whole (pos 9) *ℚ n -ℚ whole (pos 2000)) +ₙ number 1000000)) *ₙ ii)
    (from₁ (whole (negsuc 161) *ℚ (e +ℚ f)) is
    (solve 4 (λ e f n i.
    let m = int (pos 1000000) in
    int (pos 18) ⊗ (int (pos 9) ⊗ (e ⊕ f) ⊖ int (pos 4) ⊗ ((int (pos 1000) ⊗ (n ⊗ (e ⊗ f))) ⊗ i ⊕ (m ⊗ (e ⊗ f)) ⊗ i))
    ≐ (int (pos 81) ⊗ (((e ⊕ f) ⊕ e) ⊗ (m ⊗ e ⊖ int (pos 2) ⊗ (n ⊗ n) ⊗ f)) ⊕ e ⊗ f ⊗ (int (pos 2) ⊗ ((int (pos 9) ⊗ n ⊖ int (pos 2000)) ⊗ (int (pos 9) ⊗ n ⊖ int (pos 2000))) ⊕ m)) ⊗ i
    ⊕ (int (negsuc 161) ⊗ (e ⊕ f)) ⊗ ((m ⊗ e ⊖ (n ⊗ n) ⊗ f) ⊗ i ⊖ int (pos 1))) refl e f n i))

-- ---- a stress

-- of two strains, of which each moves by at most 3/2 d
normal_from : (a b x y u v d m k : ℚ) → whole (pos 0) ≤ℚ a → whole (pos 0) ≤ℚ b → whole (pos 0) ≤ℚ d → whole (pos 2) *ℚ (x -ℚ u) ≤ℚ whole (pos 3) *ℚ d → whole (pos 2) *ℚ (y -ℚ v) ≤ℚ whole (pos 3) *ℚ d
    → whole (pos 4) *ℚ (a +ℚ b) ≤ℚ whole (pos 9) *ℚ m → whole (pos 2) *ℚ m ≤ℚ k → whole (pos 16) *ℚ ((a *ℚ x +ℚ b *ℚ y) -ℚ (a *ℚ u +ℚ b *ℚ v)) ≤ℚ whole (pos 27) *ℚ (k *ℚ d)
unfolding ◌-ℚ◌
normal_from a b x y u v d m k aa bb dd hx hy sum cap =
    at_most_over {k = whole (pos 2)} (positive_number 1)
    (number 16 *ₙ (aa *ₙ above hx +ₙ bb *ₙ above hy) +ₙ number 12 *ₙ (above sum *ₙ dd) +ₙ number 54 *ₙ (above cap *ₙ dd))
    (solve 9 (λ a b x y u v d m k.
    int (pos 2) ⊗ (int (pos 27) ⊗ (k ⊗ d) ⊖ int (pos 16) ⊗ ((a ⊗ x ⊕ b ⊗ y) ⊖ (a ⊗ u ⊕ b ⊗ v)))
    ≐ int (pos 16) ⊗ (a ⊗ (int (pos 3) ⊗ d ⊖ int (pos 2) ⊗ (x ⊖ u)) ⊕ b ⊗ (int (pos 3) ⊗ d ⊖ int (pos 2) ⊗ (y ⊖ v))) ⊕ int (pos 12) ⊗ ((int (pos 9) ⊗ m ⊖ int (pos 4) ⊗ (a ⊕ b)) ⊗ d) ⊕ int (pos 54) ⊗ ((k ⊖ int (pos 2) ⊗ m) ⊗ d)) refl a b x y u v d m k)

shear_stress_from : (g x u d k : ℚ) → whole (pos 0) ≤ℚ g → whole (pos 0) ≤ℚ d → x -ℚ u ≤ℚ whole (pos 3) *ℚ d → whole (pos 2) *ℚ g ≤ℚ k → whole (pos 16) *ℚ (g *ℚ x -ℚ g *ℚ u) ≤ℚ whole (pos 27) *ℚ (k *ℚ d)
unfolding ◌-ℚ◌
shear_stress_from g x u d k gg dd hx cap =
    at_most (number 16 *ₙ (gg *ₙ above hx) +ₙ number 27 *ₙ (above cap *ₙ dd) +ₙ number 6 *ₙ (gg *ₙ dd))
    (solve 5 (λ g x u d k.
    int (pos 27) ⊗ (k ⊗ d) ⊖ int (pos 16) ⊗ (g ⊗ x ⊖ g ⊗ u)
    ≐ int (pos 16) ⊗ (g ⊗ (int (pos 3) ⊗ d ⊖ (x ⊖ u))) ⊕ int (pos 27) ⊗ ((k ⊖ int (pos 2) ⊗ g) ⊗ d) ⊕ int (pos 6) ⊗ (g ⊗ d)) refl g x u d k)

-- at a factor, as a part of a strength
strength_from : (t u r k d x e : ℚ) → whole (pos 0) ≤ℚ r → whole (pos 16) *ℚ (t -ℚ u) ≤ℚ whole (pos 27) *ℚ (k *ℚ d) → whole (pos 27) *ℚ (r *ℚ k *ℚ d) ≤ℚ whole (pos 16) *ℚ (x *ℚ e) → t *ℚ r -ℚ u *ℚ r ≤ℚ x *ℚ e
unfolding ◌-ℚ◌
strength_from t u r k d x e rr h g =
    at_most_over {k = whole (pos 16)} (positive_number 15) (rr *ₙ above h +ₙ above g)
    (solve 7 (λ t u r k d x e. int (pos 16) ⊗ (x ⊗ e ⊖ (t ⊗ r ⊖ u ⊗ r)) ≐ r ⊗ (int (pos 27) ⊗ (k ⊗ d) ⊖ int (pos 16) ⊗ (t ⊖ u)) ⊕ (int (pos 16) ⊗ (x ⊗ e) ⊖ int (pos 27) ⊗ (r ⊗ k ⊗ d))) refl t u r k d x e)

-- a part of a strength that bears something is not negative
part_from : (x e k : ℚ) → whole (pos 0) <ℚ x → whole (pos 0) ≤ℚ k → whole (pos 27) *ℚ k ≤ℚ whole (pos 16) *ℚ (x *ℚ e) → whole (pos 0) ≤ℚ e
unfolding ◌-ℚ◌
part_from x e k xx kk h =
    at_most_over {k = whole (pos 16) *ℚ x} (positive_number 15 *ₚ xx) (above h +ₙ number 27 *ₙ kk)
    (solve 3 (λ x e k. (int (pos 16) ⊗ x) ⊗ (e ⊖ int (pos 0)) ≐ (int (pos 16) ⊗ (x ⊗ e) ⊖ int (pos 27) ⊗ k) ⊕ int (pos 27) ⊗ k) refl x e k)

module _ {l : Lamina} {cost : ℤ} (h : KeepsLimits l cost) where
  elastic : IsElastic l
  elastic = record { along = omega (arith, ints, h.range.moduli.least_e1); across = omega (arith, ints, h.range.moduli.least_e2); poisson = h.poisson.kept }

  rest_image : whole (poisson_rest l) ≡ rest l
  rest_image = difference_image (pos 1000000 *ℤ l.e1) ((l.n12 *ℤ l.n12) *ℤ l.e2) (product_image (pos 1000000) l.e1 refl refl) (product_image (l.n12 *ℤ l.n12) l.e2 (product_image l.n12 l.n12 refl refl) refl)

  rest_share : rest l *ℚ share l ≡ whole (pos 1)
  rest_share = ap (λ x. x *ℚ share l) (sym rest_image) ∙ times-inverse (whole_positive (poisson_rest_positive l elastic))

  share_least : whole (pos 0) ≤ℚ share l
  share_least = weaken (inverse_positive (whole_positive (poisson_rest_positive l elastic)))

  e1_least : whole (pos 0) ≤ℚ along l
  e1_least = weaken (whole_positive elastic.along)

  e2_least : whole (pos 0) ≤ℚ across l
  e2_least = weaken (whole_positive elastic.across)

  poisson_small : whole (pos 2) *ℚ (poisson l *ℚ poisson l) *ℚ across l ≤ℚ million l *ℚ along l
  poisson_small = at_most_images h.poisson.kept
      (product_image (pos 2 *ℤ (l.n12 *ℤ l.n12)) l.e2 (product_image (pos 2) (l.n12 *ℤ l.n12) refl (product_image l.n12 l.n12 refl refl)) refl)
      (product_image (pos 1000000) l.e1 refl refl)

  poisson_most : poisson l ≤ℚ whole (pos 1000)
  poisson_most = whole_at_most (omega (arith, ints, h.range.moduli.greatest_n12))

  along_moduli : whole (pos 4) *ℚ (reduced_11 l +ℚ reduced_12 l) ≤ℚ whole (pos 9) *ℚ (along l +ℚ across l)
  along_moduli = rw (reduced-11 l, reduced-12 l) (along_sum (along l) (across l) (poisson l) (share l) e1_least e2_least share_least poisson_most poisson_small rest_share)

  across_moduli : whole (pos 4) *ℚ (reduced_12 l +ℚ reduced_22 l) ≤ℚ whole (pos 9) *ℚ (along l +ℚ across l)
  across_moduli = rw (reduced-12 l, reduced-22 l) (across_sum (along l) (across l) (poisson l) (share l) e1_least e2_least share_least poisson_small rest_share)

  normal_cap : whole (pos 2) *ℚ (along l +ℚ across l) ≤ℚ whole (stiffness_cap l)
  normal_cap = at_most_images {m = pos 2 *ℤ (l.e1 +ℤ l.e2)} (omega (arith, ints, clamps)) (product_image (pos 2) (l.e1 +ℤ l.e2) refl (sum_image l.e1 l.e2 refl refl)) refl

  shear_cap : whole (pos 2) *ℚ reduced_66 l ≤ℚ whole (stiffness_cap l)
  unfolding reduced_66
  shear_cap = at_most_images {m = pos 2 *ℤ l.g12} (omega (arith, ints, clamps)) (product_image (pos 2) l.g12 refl refl) refl

  cap_least : pos 0 ≤ℤ stiffness_cap l
  cap_least = omega (arith, ints, clamps, h.range.moduli.least_g12)

  shear_least : whole (pos 0) ≤ℚ reduced_66 l
  unfolding reduced_66
  shear_least = whole_at_most (omega (arith, ints, h.range.moduli.least_g12))

  module _ {d : CirclePoint} (direction : IsDirection d) (side : Side) (r far part : ℚ) (rr : whole (pos 0) ≤ℚ r) (moves : StressesMoveBy l r far part) where
    abbrev c : ℚ
    c = cosine (side_point side d)

    abbrev s : ℚ
    s = sine (side_point side d)

    abbrev cap : ℚ
    cap = whole (stiffness_cap l)

    circle : IsAngle c s
    circle = side-angle side direction

    -- the lesser of two strengths bears what both do
    lesser_moves : (t k : ℤ) → MovesBy l r far part t → MovesBy l r far part k → MovesBy l r far part (int_min t k)
    lesser_moves t k first second = go (either t k)
      where
        go : (t ≤ℤ k) ⊎ (k <ℤ t) → MovesBy l r far part (int_min t k)
        go (inl g) = let least : int_min t k ≡ t = omega (arith, ints, clamps, g) in rw least first
        go (inr g) = let least : int_min t k ≡ k = omega (arith, ints, clamps, g) in rw least second

    along_stress_from : (e f : OffAxis) → StrainsApart far e f → (side_stress l d side e).along *ℚ r -ℚ (side_stress l d side f).along *ℚ r ≤ℚ whole (int_min l.xt l.xc) *ℚ part
    along_stress_from e f near =
        let x = strain_on_axis c s e in
        let u = strain_on_axis c s f in
        strength_from (side_stress l d side e).along (side_stress l d side f).along r cap far (whole (int_min l.xt l.xc)) part rr
        (normal_from (reduced_11 l) (reduced_12 l) x.along x.across u.along u.across far (along l +ℚ across l) cap
        (weaken (along_stiff l elastic)) (coupled_not_negative l elastic h.range.moduli.least_n12) (far_least far e.x f.x near.x)
        (along_from c s circle near.x near.y near.s) (across_from c s circle near.x near.y near.s) along_moduli normal_cap)
        (lesser_moves l.xt l.xc moves.xt moves.xc)

    across_stress_from : (e f : OffAxis) → StrainsApart far e f → (side_stress l d side e).across *ℚ r -ℚ (side_stress l d side f).across *ℚ r ≤ℚ whole (int_min l.yt l.yc) *ℚ part
    across_stress_from e f near =
        let x = strain_on_axis c s e in
        let u = strain_on_axis c s f in
        strength_from (side_stress l d side e).across (side_stress l d side f).across r cap far (whole (int_min l.yt l.yc)) part rr
        (normal_from (reduced_12 l) (reduced_22 l) x.along x.across u.along u.across far (along l +ℚ across l) cap
        (coupled_not_negative l elastic h.range.moduli.least_n12) (weaken (across_stiff l elastic)) (far_least far e.x f.x near.x)
        (along_from c s circle near.x near.y near.s) (across_from c s circle near.x near.y near.s) across_moduli normal_cap)
        (lesser_moves l.yt l.yc moves.yt moves.yc)

    shear_stress : (e f : OffAxis) → StrainsApart far e f → (side_stress l d side e).shear *ℚ r -ℚ (side_stress l d side f).shear *ℚ r ≤ℚ whole l.s *ℚ part
    shear_stress e f near =
        strength_from (side_stress l d side e).shear (side_stress l d side f).shear r cap far (whole l.s) part rr
        (shear_stress_from (reduced_66 l) (strain_on_axis c s e).shear (strain_on_axis c s f).shear far cap shear_least (far_least far e.x f.x near.x) (shear_from c s circle near.x near.y near.s) shear_cap)
        moves.s

    pub stresses_apart : (e f : OffAxis) → StrainsApart far e f → StressesApart l part (times_factor r (side_stress l d side e)) (times_factor r (side_stress l d side f))
    stresses_apart e f near =
        let back = strains_turned near in
        record {
          along = record { from = along_stress_from e f near; to = along_stress_from f e back };
          across = record { from = across_stress_from e f near; to = across_stress_from f e back };
          shear = record { from = shear_stress e f near; to = shear_stress f e back };
        }

    pub part_least : (e f : OffAxis) → StrainsApart far e f → whole (pos 0) ≤ℚ part
    part_least e f near =
        part_from (whole l.xt) part (r *ℚ cap *ℚ far) (whole_positive (positive_strengths (strengths_kept h)).xt)
        ((rr *ₙ whole_at_most cap_least) *ₙ far_least far e.x f.x near.x) moves.xt
