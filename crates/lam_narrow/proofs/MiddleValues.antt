-- How the criterion's value moves from a point by the code's formula, as it does by the criterion itself.
use Rattle.std.proofs.Common.{◌≡◌, refl, sym, ◌∙◌, ap, subst, [], ◌∷◌, ℤ, pos, ◌<ℤ◌, arith}
use Rattle.std.specs.Int.{int_min, int_max}
use Rattle.std.proofs.lemmas.Int.{ints, clamps}
use Rattle.lam_fraction.specs.Fraction.{ℚ, whole, opposite, ◌+ℚ◌, ◌-ℚ◌, ◌*ℚ◌, inverse, ◌≤ℚ◌}
use Rattle.lam_fraction.specs.numbers.Arithmetic.{exact}
use Rattle.lam_fraction.proofs.Expression.{int, ◌⊕◌, ◌⊖◌, ◌⊗◌, minus}
use Rattle.lam_fraction.proofs.Rationals.{quotes, by_ring, solve, from₁, from₂, above, weaken, at_most, at_most_over, square, number, positive_number, ◌+ₙ◌, ◌*ₙ◌}
use Rattle.lam_fraction.proofs.FractionBounds.{whole_positive}
use Rattle.lam_fraction.proofs.Solver.{◌≐◌}
use Rattle.lam_fraction.proofs.WholeFractions.{inverse-whole}
use Rattle.lam_stock.specs.declared.item.Lamina.{Lamina}
use Rattle.lam_stock.specs.Limits.{KeepsStrengths}
use Rattle.lam_stock.specs.PlyLaw.{OnAxis}
use Rattle.lam_stock.specs.TsaiWu.{criterion}
use Rattle.lam_stock.proofs.StrengthBounds.{positive_strengths}
use Rattle.lam_tsai.specs.declared.coefficients.Coefficients.{Coefficients}
use Rattle.lam_tsai.specs.declared.components.Components.{Components}
use Rattle.lam_tsai.specs.inside.Formulas as by
use Rattle.lam_tsai.proofs.ScaledValue.{sixteenth, unit_value, eighth, share_of, shares_of, value-is}
use Rattle.lam_sharp.proofs.Multiples.{mixed}
use Rattle.lam_narrow.specs.Close.{AreApart}
use Rattle.lam_narrow.proofs.Quadratic.{value, tilt}
use Rattle.lam_narrow.proofs.ItemTerms.{StressesApart, are_small, are_terms, criterion_is, form_of, is_axis, lesser_part, linear, shear_squared, squared}
use Rattle.lam_narrow.proofs.Slopes.{AreSmall, tilt_most}

-- ---- the code's formula

-- a point and the distances from it, and the distances the other way
abbrev pub sums : Components ℚ → Components ℚ → Components ℚ
sums m d = record { along = m.along +ℚ d.along; across = m.across +ℚ d.across; shear = m.shear +ℚ d.shear }

abbrev back : Components ℚ → Components ℚ
back d = record { along = opposite d.along; across = opposite d.across; shear = opposite d.shear }

-- twice the slopes times the distances is how far the value moves from one side to the other
tilt-twice : (k : Coefficients ℚ) (m d : Components ℚ) → whole (pos 2) *ℚ by.tilt exact k m d ≡ by.centre exact k (sums m d) -ℚ by.centre exact k (sums m (back d))
tilt-twice k m d =
    from₁ (whole (pos 2) *ℚ (m.shear *ℚ d.shear)) eighth
    (by_ring (k.along ∷ k.across ∷ k.along_square ∷ k.across_square ∷ k.mixed ∷ k.one ∷ m.along ∷ m.across ∷ m.shear ∷ d.along ∷ d.across ∷ d.shear ∷ inverse (whole (pos 8)) ∷ inverse (whole (pos 16)) ∷ []) (search quotes depth 40 fits 20000) refl)

-- ---- the criterion

-- from one side to the other of u, v and w
both-sides : (p q m r a b u v w x y z : ℚ)
    → value p q m r a b (u +ℚ x) (v +ℚ y) (w +ℚ z) -ℚ value p q m r a b (u +ℚ opposite x) (v +ℚ opposite y) (w +ℚ opposite z) ≡ whole (pos 2) *ℚ tilt p q m r a b u v w x y z
unfolding ◌-ℚ◌
both-sides p q m r a b u v w x y z =
    solve 12 (λ p q m r a b u v w x y z.
    ((p ⊗ ((u ⊕ x) ⊗ (u ⊕ x)) ⊕ q ⊗ ((v ⊕ y) ⊗ (v ⊕ y)) ⊕ m ⊗ ((u ⊕ x) ⊗ (v ⊕ y)) ⊕ r ⊗ ((w ⊕ z) ⊗ (w ⊕ z))) ⊕ a ⊗ (u ⊕ x) ⊕ b ⊗ (v ⊕ y))
    ⊖ ((p ⊗ ((u ⊕ minus x) ⊗ (u ⊕ minus x)) ⊕ q ⊗ ((v ⊕ minus y) ⊗ (v ⊕ minus y)) ⊕ m ⊗ ((u ⊕ minus x) ⊗ (v ⊕ minus y)) ⊕ r ⊗ ((w ⊕ minus z) ⊗ (w ⊕ minus z))) ⊕ a ⊗ (u ⊕ minus x) ⊕ b ⊗ (v ⊕ minus y))
    ≐ int (pos 2) ⊗ ((int (pos 2) ⊗ (p ⊗ u) ⊕ m ⊗ v ⊕ a) ⊗ x ⊕ (int (pos 2) ⊗ (q ⊗ v) ⊕ m ⊗ u ⊕ b) ⊗ y ⊕ int (pos 2) ⊗ (r ⊗ w) ⊗ z)) refl p q m r a b u v w x y z

-- ---- a share back to its stress

-- 16 times a strength
abbrev pub sixteen : ℤ → ℚ
sixteen x = whole (pos 16) *ℚ whole x

share-back : (q : ℚ) (x : ℤ) → pos 0 <ℤ x → share_of (q *ℚ sixteen x) x ≡ q
unfolding ◌-ℚ◌
share-back q x positive =
    from₂ (q *ℚ (whole x *ℚ inverse (whole x))) (inverse-whole (pos 16) (omega (arith, ints))) q (inverse-whole x positive)
    (solve 5 (λ q s x i j. (q ⊗ (s ⊗ x)) ⊗ (i ⊗ j) ≐ q ⊕ (q ⊗ (x ⊗ j)) ⊗ (s ⊗ i ⊖ int (pos 1)) ⊕ q ⊗ (x ⊗ j ⊖ int (pos 1))) refl q (whole (pos 16)) (whole x) sixteenth (inverse (whole x)))

abbrev pub stress-at : Lamina → Components ℚ → OnAxis
stress-at l c = record { along = c.along *ℚ sixteen (int_max l.xt l.xc); across = c.across *ℚ sixteen (int_max l.yt l.yc); shear = c.shear *ℚ sixteen l.s }

over : (m d s : ℚ) → (m +ℚ d) *ℚ s ≡ m *ℚ s +ℚ d *ℚ s
over m d s = solve 3 (λ m d s. (m ⊕ d) ⊗ s ≐ m ⊗ s ⊕ d ⊗ s) refl m d s

under : (m d s : ℚ) → (m +ℚ opposite d) *ℚ s ≡ m *ℚ s +ℚ opposite (d *ℚ s)
under m d s = solve 3 (λ m d s. (m ⊕ minus d) ⊗ s ≐ m ⊗ s ⊕ minus (d ⊗ s)) refl m d s

forth : (v x : ℚ) → (v +ℚ x) -ℚ v ≡ x
unfolding ◌-ℚ◌
forth v x = solve 2 (λ v x. (v ⊕ x) ⊖ v ≐ x) refl v x

-- ---- sides

sign-most : (s : ℚ) → s *ℚ s ≡ whole (pos 1) → s ≤ℚ whole (pos 1)
unfolding ◌-ℚ◌
sign-most s e = at_most_over {k = whole (pos 2)} (positive_number 1) (square (whole (pos 1) -ℚ s))
    (from₁ (opposite (whole (pos 1))) e (solve 1 (λ s. int (pos 2) ⊗ (int (pos 1) ⊖ s) ≐ (int (pos 1) ⊖ s) ⊗ (int (pos 1) ⊖ s) ⊕ minus (int (pos 1)) ⊗ (s ⊗ s ⊖ int (pos 1))) refl s))

turned-square : (s : ℚ) → s *ℚ s ≡ whole (pos 1) → opposite s *ℚ opposite s ≡ whole (pos 1)
turned-square s e = solve 1 (λ s. minus s ⊗ minus s ≐ s ⊗ s) refl s ∙ e

-- a distance of e on a side, times 16 strengths x of which this is at most such a part h of the lesser one
near-from : (s e x k h v : ℚ) → s *ℚ s ≡ whole (pos 1) → whole (pos 0) ≤ℚ e → whole (pos 0) ≤ℚ x → x *ℚ e ≤ℚ k *ℚ h → (v +ℚ (s *ℚ e) *ℚ x) -ℚ v ≤ℚ k *ℚ h
unfolding ◌-ℚ◌
near-from s e x k h v sign ee xx most =
    at_most (above most +ₙ above (sign-most s sign) *ₙ (xx *ₙ ee)) (solve 6 (λ s e x k h v. k ⊗ h ⊖ ((v ⊕ (s ⊗ e) ⊗ x) ⊖ v) ≐ (k ⊗ h ⊖ x ⊗ e) ⊕ (int (pos 1) ⊖ s) ⊗ (x ⊗ e)) refl s e x k h v)

near-to : (s e x k h v : ℚ) → s *ℚ s ≡ whole (pos 1) → whole (pos 0) ≤ℚ e → whole (pos 0) ≤ℚ x → x *ℚ e ≤ℚ k *ℚ h → v -ℚ (v +ℚ (s *ℚ e) *ℚ x) ≤ℚ k *ℚ h
unfolding ◌-ℚ◌
near-to s e x k h v sign ee xx most =
    at_most (above most +ₙ above (sign-most (opposite s) (turned-square s sign)) *ₙ (xx *ₙ ee))
    (solve 6 (λ s e x k h v. k ⊗ h ⊖ (v ⊖ (v ⊕ (s ⊗ e) ⊗ x)) ≐ (k ⊗ h ⊖ x ⊗ e) ⊕ (int (pos 1) ⊖ minus s) ⊗ (x ⊗ e)) refl s e x k h v)

-- a distance on a side, and 16 strengths of it are at most such a part of the lesser strength
pub record IsNearBy (d : ℚ) (greater lesser : ℤ) (h : ℚ) : Type 0 where
  pub sign : ℚ
  pub size : ℚ
  pub square : sign *ℚ sign ≡ whole (pos 1)
  pub least : whole (pos 0) ≤ℚ size
  pub most : sixteen greater *ℚ size ≤ℚ whole lesser *ℚ h
  pub is : d ≡ sign *ℚ size

near-by : {d h : ℚ} {x k : ℤ} (v : ℚ) → pos 0 <ℤ x → IsNearBy d x k h → AreApart (whole k *ℚ h) (v +ℚ d *ℚ sixteen x) v
near-by {d} {h} {x} {k} v positive is =
    let xx = number 16 *ₙ weaken (whole_positive positive) in
    subst (λ z. AreApart (whole k *ℚ h) (v +ℚ z *ℚ sixteen x) v) (sym is.is) (record {
      from = near-from is.sign is.size (sixteen x) (whole k) h v is.square is.least xx is.most;
      to = near-to is.sign is.size (sixteen x) (whole k) h v is.square is.least xx is.most;
    })

module _ {l : Lamina} (strengths : KeepsStrengths l) where
  abbrev k : Coefficients ℚ
  k = by.coefficients exact l

  along-positive : pos 0 <ℤ int_max l.xt l.xc
  along-positive = omega (arith, ints, clamps, (positive_strengths strengths).xt)

  across-positive : pos 0 <ℤ int_max l.yt l.yc
  across-positive = omega (arith, ints, clamps, (positive_strengths strengths).yt)

  shares-back : (c : Components ℚ) → shares_of l (stress-at l c) ≡ c
  shares-back c =
      let x = share-back c.along (int_max l.xt l.xc) along-positive in
      let y = share-back c.across (int_max l.yt l.yc) across-positive in
      let s = share-back c.shear l.s (positive_strengths strengths).s in
      λ i. record { along = x i; across = y i; shear = s i }

  -- the value by the formula at a point
  pub value-there : (c : Components ℚ) → by.centre exact k c ≡ unit_value *ℚ (criterion l (stress-at l c) -ℚ whole (pos 1))
  value-there c = ap (by.centre exact k) (sym (shares-back c)) ∙ value-is l (stress-at l c) (positive_strengths strengths)

  -- the slopes of the criterion at a point, times distances
  abbrev pub tilt-there : Components ℚ → Components ℚ → ℚ
  tilt-there q d =
      let u = stress-at l q in
      let x = stress-at l d in
      tilt (squared l.xt l.xc) (squared l.yt l.yc) (mixed l) (shear_squared l.s) (linear l.xt l.xc) (linear l.yt l.yc) u.along u.across u.shear x.along x.across x.shear

  value-forth : (q d : Components ℚ) → let u = stress-at l q in let x = stress-at l d in criterion l (stress-at l (sums q d)) ≡ form_of l (u.along +ℚ x.along) (u.across +ℚ x.across) (u.shear +ℚ x.shear)
  value-forth q d = criterion_is l (stress-at l (sums q d))
      ∙ rw (over q.along d.along (sixteen (int_max l.xt l.xc)), over q.across d.across (sixteen (int_max l.yt l.yc)), over q.shear d.shear (sixteen l.s)) refl

  value-back : (q d : Components ℚ) → let u = stress-at l q in let x = stress-at l d in
      criterion l (stress-at l (sums q (back d))) ≡ form_of l (u.along +ℚ opposite x.along) (u.across +ℚ opposite x.across) (u.shear +ℚ opposite x.shear)
  value-back q d = criterion_is l (stress-at l (sums q (back d)))
      ∙ rw (under q.along d.along (sixteen (int_max l.xt l.xc)), under q.across d.across (sixteen (int_max l.yt l.yc)), under q.shear d.shear (sixteen l.s)) refl

  halved : (t u f g x : ℚ) → whole (pos 2) *ℚ t ≡ u *ℚ (f -ℚ whole (pos 1)) -ℚ u *ℚ (g -ℚ whole (pos 1)) → f -ℚ g ≡ whole (pos 2) *ℚ x → whole (pos 2) *ℚ t ≡ whole (pos 2) *ℚ (u *ℚ x)
  unfolding ◌-ℚ◌
  halved t u f g x e d = e ∙ from₁ u d (solve 4 (λ u f g x. (u ⊗ (f ⊖ int (pos 1)) ⊖ u ⊗ (g ⊖ int (pos 1))) ≐ int (pos 2) ⊗ (u ⊗ x) ⊕ u ⊗ ((f ⊖ g) ⊖ int (pos 2) ⊗ x)) refl u f g x)

  pub tilt-is : (q d : Components ℚ) → whole (pos 2) *ℚ by.tilt exact k q d ≡ whole (pos 2) *ℚ (unit_value *ℚ tilt-there q d)
  tilt-is q d =
      let u = stress-at l q in
      let x = stress-at l d in
      let f = criterion l (stress-at l (sums q d)) in
      let g = criterion l (stress-at l (sums q (back d))) in
      halved (by.tilt exact k q d) unit_value f g (tilt-there q d)
      (tilt-twice k q d ∙ rw (value-there (sums q d), value-there (sums q (back d))) refl)
      (rw (value-forth q d, value-back q d) (both-sides (squared l.xt l.xc) (squared l.yt l.yc) (mixed l) (shear_squared l.s) (linear l.xt l.xc) (linear l.yt l.yc) u.along u.across u.shear x.along x.across x.shear))

  abbrev Small : ℚ → ℚ → ℚ → ℚ → Type 0
  Small h x y z = AreSmall (squared l.xt l.xc) (squared l.yt l.yc) (shear_squared l.s) (lesser_part l.xt l.xc) (lesser_part l.yt l.yc) (h *ℚ h) x y z

  -- the square of the slopes times the distances, where these are small and the value at the point is at most 1 and an excess
  pub tilt-there-most : (q d : Components ℚ) (h e : ℚ) → whole (pos 0) ≤ℚ h → IsNearBy d.along (int_max l.xt l.xc) (int_min l.xt l.xc) h → IsNearBy d.across (int_max l.yt l.yc) (int_min l.yt l.yc) h → IsNearBy d.shear l.s l.s h
      → whole (pos 0) ≤ℚ e → criterion l (stress-at l q) ≤ℚ whole (pos 1) +ℚ e
      → tilt-there q d *ℚ tilt-there q d ≤ℚ (h *ℚ h) *ℚ (whole (pos 352) +ℚ whole (pos 19) *ℚ e)
  tilt-there-most q d h e hh near_x near_y near_s ee value =
      let u = stress-at l q in
      let x = stress-at l d in
      let r = strengths.range in
      tilt_most (are_terms strengths) (is_axis r.xt r.xc strengths.ratio.along) (is_axis r.yt r.yc strengths.ratio.across) small (square h) u.along u.across u.shear e ee
      (subst (λ z. z ≤ℚ whole (pos 1) +ℚ e) (criterion_is l u) value)
    where
      apart : StressesApart l h (record { along = (stress-at l q).along +ℚ (stress-at l d).along; across = (stress-at l q).across +ℚ (stress-at l d).across; shear = (stress-at l q).shear +ℚ (stress-at l d).shear }) (stress-at l q)
      apart = record {
        along = near-by (stress-at l q).along along-positive near_x;
        across = near-by (stress-at l q).across across-positive near_y;
        shear = near-by (stress-at l q).shear (positive_strengths strengths).s near_s;
      }

      small : Small h (stress-at l d).along (stress-at l d).across (stress-at l d).shear
      small =
          let u = stress-at l q in
          let x = stress-at l d in
          let all = are_small strengths h (record { along = u.along +ℚ x.along; across = u.across +ℚ x.across; shear = u.shear +ℚ x.shear }) u apart in
          subst (λ z. Small h x.along x.across z) (forth u.shear x.shear)
          (subst (λ z. Small h x.along z ((u.shear +ℚ x.shear) -ℚ u.shear)) (forth u.across x.across)
          (subst (λ z. Small h z ((u.across +ℚ x.across) -ℚ u.across) ((u.shear +ℚ x.shear) -ℚ u.shear)) (forth u.along x.along) all))
