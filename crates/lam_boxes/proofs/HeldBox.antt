-- The strains of every completion lie in the box: within the radius of a guess, by the length of what the guess leaves.
use Rattle.std.proofs.Common.{◌≡◌, refl, sym, ◌∙◌, ap, subst, ℕ, ◌+◌, ◌*◌, ◌≤◌, ℤ, pos, ◌+ℤ◌, ◌-ℤ◌, ◌≤ℤ◌, ◌<ℤ◌, unsigned_abs, arith}
use Rattle.std.proofs.lemmas.Int.{ints}
use Rattle.lam_fraction.specs.Fraction.{ℚ, whole, fraction, inverse, opposite, ◌-ℚ◌, ◌*ℚ◌, ◌≤ℚ◌, ◌<ℚ◌}
use Rattle.lam_fraction.specs.numbers.Arithmetic.{exact}
use Rattle.lam_fraction.specs.numbers.Ends as ends
use Rattle.lam_fraction.specs.numbers.Numbers.{Numbers, Lawful, Holds, HullRoom, RatioRoom, RootRoom, reach, unit}
use Rattle.lam_fraction.specs.inside.Reaches.{Reaches}
use Rattle.lam_fraction.proofs.Expression.{int, ◌⊕◌, ◌⊖◌, ◌⊗◌, minus}
use Rattle.lam_fraction.proofs.Solver.{◌≐◌}
use Rattle.lam_fraction.proofs.FractionBounds.{fraction-times, times-inverse, whole_positive}
use Rattle.std.proofs.Math.Nat.{mul-le-mul_right, le_of_mul-le-mul_right}
use Rattle.lam_fraction.proofs.FractionPairs.{whole-le}
use Rattle.lam_fraction.proofs.FractionRing.{whole-sum}
use Rattle.lam_fraction.proofs.Rationals.{solve, from₁, above, at_most, decide, number, square, transitive, weaken, without_factor, ◌*ₙ◌, ◌*ₚ◌}
use Rattle.lam_fraction.proofs.WholeFractions.{whole_at_most, whole-difference}
use Rattle.lam_fraction.proofs.numbers.Consequences.{holds_between, holds_units, hull_holds}
use Rattle.lam_fraction.proofs.numbers.Held.{held, holding}
use Rattle.lam_fraction.proofs.numbers.Rooms.{reach_within, reaches_hull, reaches_more, reaches_ratio_at, root_within}
use Rattle.lam_fraction.proofs.numbers.Steps.{one_unit}
use Rattle.lam_lamina.specs.Held.{HoldsMatrix}
use Rattle.lam_lamina.specs.declared.stiffness.Sym3.{Sym3}
use Rattle.lam_solve.specs.inside.Steps.{over_up}
use Rattle.lam_solve.proofs.Units.{unit_least, unit_most}
use Rattle.lam_solve.proofs.energy.Units.{Between, between-fractions}
use Rattle.lam_boxes.specs.declared.three.Three.{Three}
use Rattle.lam_boxes.specs.inside.Boxes.{around}
use Rattle.lam_boxes.specs.inside.Parts.{MatrixReaches, ThreeReach, eighth_reach, extension_reach, force_reach, small_reach}
use Rattle.lam_boxes.specs.inside.Residuals as by
use Rattle.lam_boxes.proofs.DualLength as dual
use Rattle.lam_boxes.proofs.Work.{off_axis}

-- three numbers that are held
pub record HoldsThree {A : Type 0} (n : Numbers A) (z : Three A) (t : Three ℚ) : Type 0 where
  pub x : Holds n z.x t.x
  pub y : Holds n z.y t.y
  pub s : Holds n z.s t.s

-- ---- sizes of both signs

-- a number and its opposite are at most so large
abbrev Both : ℚ → ℚ → Type 0
Both most x = (x ≤ℚ most) × (opposite x ≤ℚ most)

opposite-below : (x : ℚ) → whole (pos 0) ≤ℚ x → opposite x ≤ℚ x
unfolding ◌-ℚ◌
opposite-below x h = at_most (number 2 *ₙ h) (solve 1 (λ x. x ⊖ minus x ≐ int (pos 2) ⊗ x) refl x)

opposite-above : (x : ℚ) → x <ℚ whole (pos 0) → (whole (pos 0) ≤ℚ opposite x) × (x ≤ℚ opposite x)
unfolding ◌-ℚ◌
opposite-above x h =
    let l = weaken h in
    (at_most (above l) (solve 1 (λ x. minus x ⊖ int (pos 0) ≐ int (pos 0) ⊖ x) refl x), at_most (number 2 *ₙ above l) (solve 1 (λ x. minus x ⊖ x ≐ int (pos 2) ⊗ (int (pos 0) ⊖ x)) refl x))

same-square : (x : ℚ) → x *ℚ x ≡ opposite x *ℚ opposite x
same-square x = solve 1 (λ x. x ⊗ x ≐ minus x ⊗ minus x) refl x

units-order : (u x y : ℚ) → whole (pos 0) ≤ℚ u → x ≤ℚ y → x *ℚ u ≤ℚ y *ℚ u
unfolding ◌-ℚ◌
units-order u x y above_u h = at_most (above_u *ₙ above h) (solve 3 (λ u x y. y ⊗ u ⊖ x ⊗ u ≐ u ⊗ (y ⊖ x)) refl u x y)

module _ {A : Type 0} {n : Numbers A} (laws : Lawful n) where
  abbrev one : ℚ
  one = whole (pos (unit n))

  unit-above : pos 0 <ℤ pos (unit n)
  unit-above = omega (arith, ints, one_unit laws)

  one-above : whole (pos 0) ≤ℚ one
  one-above = weaken (whole_positive unit-above)

  -- ---- what is left, held

  module _ (m : Sym3 A) (loads e : Three A) (x : Sym3 ℚ) (l u : Three ℚ) (mr : MatrixReaches n extension_reach m) (lr : ThreeReach n force_reach loads) (er : ThreeReach n eighth_reach e)
      (mh : HoldsMatrix n m x) (lh : HoldsThree n loads l) (eh : HoldsThree n e u) where
    pub rest-holds : HoldsThree n (by.residual n.calc m loads e) (by.residual exact x l u)
    rest-holds =
        let r = by.residual (held laws)
        (record { xx = holding mr.xx mh.xx; xy = holding mr.xy mh.xy; yy = holding mr.yy mh.yy; xs = holding mr.xs mh.xs; ys = holding mr.ys mh.ys; ss = holding mr.ss mh.ss })
        (record { x = holding lr.x lh.x; y = holding lr.y lh.y; s = holding lr.s lh.s }) (record { x = holding er.x eh.x; y = holding er.y eh.y; s = holding er.s eh.s }) in
        record { x = r.x.holds refl; y = r.y.holds refl; s = r.s.holds refl }

  -- ---- its length

  module _ (rest : Three A) (r : Three ℚ) (reach : ThreeReach n small_reach rest) (holds : HoldsThree n rest r) where
    square-at : Reaches n small_reach (by.length_square n.calc rest)
    square-at = reaches_more laws ((by.length_square (held laws) (record { x = holding reach.x holds.x; y = holding reach.y holds.y; s = holding reach.s holds.s })).at.reaches refl) (omega arith)

    square-holds : Holds n (by.length_square n.calc rest) (dual.length_square (off_axis r))
    square-holds = (by.length_square (held laws) (record { x = holding reach.x holds.x; y = holding reach.y holds.y; s = holding reach.s holds.s })).holds refl

    abbrev nothing : A
    nothing = n.calc.ratio (pos 0) (pos 1)

    nothing-room : RatioRoom (pos 0) (pos 1)
    nothing-room = record { positive = omega (arith, ints); den = omega arith; num = omega arith; room = omega arith }

    nothing-reaches : Reaches n 4 nothing
    nothing-reaches = reaches_ratio_at laws 0 (pos 0) (pos 1) nothing-room (omega arith)

    hull-room : HullRoom n (by.length_square n.calc rest) nothing
    hull-room = record { first = reach_within laws square-at (omega arith); second = reach_within laws nothing-reaches (omega arith) }

    abbrev squares : A
    squares = n.hull (by.length_square n.calc rest) nothing

    zero-holds : Holds n squares (whole (pos 0))
    zero-holds = subst (Holds n squares) (times_none (fraction (pos 0) (pos 1)) (fraction-times (pos 0) (pos 1) (omega (arith, ints))))
        ((laws.hull _ _ hull-room).second _ (laws.ratio (pos 0) (pos 1) nothing-room).held)
      where
        times_none : (x : ℚ) → x *ℚ whole (pos 1) ≡ whole (pos 0) → x ≡ whole (pos 0)
        times_none x e = solve 1 (λ x. x ≐ x ⊗ int (pos 1)) refl x ∙ e

    squares-hold : (v : ℚ) → v *ℚ v ≤ℚ dual.length_square (off_axis r) → Holds n squares (v *ℚ v)
    squares-hold v h = holds_between laws zero-holds ((laws.hull _ _ hull-room).first _ square-holds) (square v) h

    squares-reach : Reaches n (small_reach + 4) squares
    squares-reach = reaches_more laws (reaches_hull laws square-at nothing-reaches (omega arith) (omega arith)) (omega arith)

    -- an end above 0
    high-sign : pos 0 ≤ℤ n.high squares
    high-sign = sign (n.high squares) (zero_times zero-holds.encloses.to)
      where
        zero_times : {h : ℚ} → whole (pos 0) *ℚ one ≤ℚ h → whole (pos 0) ≤ℚ h
        zero_times {h} le = subst (λ s. s ≤ℚ h) (solve 1 (λ u. int (pos 0) ⊗ u ≐ int (pos 0)) refl one) le

        sign : (z : ℤ) → whole (pos 0) ≤ℚ whole z → pos 0 ≤ℤ z
        sign z le = (whole-le (pos 0) z).0 le

    pub root-room : RootRoom n squares
    root-room = root_within laws squares-reach (omega arith) high-sign

    -- the length in units
    abbrev most : ℚ
    most = whole (pos (unsigned_abs (n.high (by.lengths n rest))))

    root-most : (v : ℚ) → whole (pos 0) ≤ℚ v → v *ℚ v ≤ℚ dual.length_square (off_axis r) → v *ℚ one ≤ℚ most
    root-most v above_v h =
        transitive ((laws.root squares root-room).held v above_v (squares-hold v h)).encloses.to (whole_at_most (omega (arith, ints)))

    pub length-most : (v : ℚ) → v *ℚ v ≤ℚ dual.length_square (off_axis r) → Both most (v *ℚ one)
    length-most v h = decide (whole (pos 0)) v
        (λ not_below.
        let first = root-most v not_below h in
        (first, transitive (subst (λ s. opposite (v *ℚ one) ≤ℚ s) refl (opposite-below (v *ℚ one) (not_below *ₙ one-above))) first))
        (λ below.
        let o = opposite-above v below in
        let second = root-most (opposite v) o.0 (subst (λ s. s ≤ℚ dual.length_square (off_axis r)) (same-square v) h) in
        (transitive (units-order one v (opposite v) one-above o.1) second, subst (λ s. s ≤ℚ most) (solve 2 (λ v u. minus v ⊗ u ≐ minus (v ⊗ u)) refl v one) second))

    -- what is at most w times the length, where w is above 0
    pub scaled-most : (w a : ℚ) → whole (pos 0) <ℚ w → a *ℚ a ≤ℚ w *ℚ w *ℚ dual.length_square (off_axis r) → Both (w *ℚ most) (a *ℚ one)
    unfolding ◌-ℚ◌
    scaled-most w a above_w h =
        let v = a *ℚ inverse w in
        let one_w = times-inverse above_w in
        let is : w *ℚ v ≡ a = from₁ a one_w (solve 3 (λ w a i. w ⊗ (a ⊗ i) ≐ a ⊕ a ⊗ (w ⊗ i ⊖ int (pos 1))) refl w a (inverse w)) in
        let small : v *ℚ v ≤ℚ dual.length_square (off_axis r) =
        without_factor (w *ℚ w) (above_w *ₚ above_w) (subst (λ s. s ≤ℚ w *ℚ w *ℚ dual.length_square (off_axis r)) (sym (solve 2 (λ w v. w ⊗ w ⊗ (v ⊗ v) ≐ w ⊗ v ⊗ (w ⊗ v)) refl w v ∙ ap (λ s. s *ℚ s) is)) h) in
        let b = length-most v small in (
          at_most (weaken above_w *ₙ above b.0) (ap (λ s. w *ℚ most -ℚ s *ℚ one) (sym is) ∙ solve 4 (λ w v u m. w ⊗ m ⊖ w ⊗ v ⊗ u ≐ w ⊗ (m ⊖ v ⊗ u)) refl w v one most),
          at_most (weaken above_w *ₙ above b.1) (ap (λ s. w *ℚ most -ℚ opposite (s *ℚ one)) (sym is) ∙ solve 4 (λ w v u m. w ⊗ m ⊖ minus (w ⊗ v ⊗ u) ≐ w ⊗ (m ⊖ minus (v ⊗ u))) refl w v one most),
        )

  -- ---- round a centre

  -- a strain at most so far from a centre, in units
  pub near-units : (c : ℤ) (r : ℕ) (e u : ℚ) → u *ℚ one ≡ whole c → Both (whole (pos r)) ((e -ℚ u) *ℚ one) → Between (pos (unit n)) (c -ℤ pos r) (c +ℤ pos r) e
  unfolding ◌-ℚ◌
  near-units c r e u is b = (
    subst (λ s. s ≤ℚ e *ℚ one) (sym (whole-difference c (pos r)))
        (at_most (above b.1) (from₁ (whole (pos 1)) is (solve 5 (λ e u o c r. e ⊗ o ⊖ (c ⊖ r) ≐ (r ⊖ minus ((e ⊖ u) ⊗ o)) ⊕ int (pos 1) ⊗ (u ⊗ o ⊖ c)) refl e u one (whole c) (whole (pos r))))),
    subst (λ s. e *ℚ one ≤ℚ s) (sym (whole-sum c (pos r)))
        (at_most (above b.0) (from₁ (opposite (whole (pos 1))) is (solve 5 (λ e u o c r. c ⊕ r ⊖ e ⊗ o ≐ (r ⊖ (e ⊖ u) ⊗ o) ⊕ minus (int (pos 1)) ⊗ (u ⊗ o ⊖ c)) refl e u one (whole c) (whole (pos r))))),
  )

  module _ (c : ℤ) (r : ℕ) (near : unsigned_abs c ≤ 4 * unit n) (small : 4 * r ≤ 7 * unit n) where
    end-room : (z : ℤ) → unsigned_abs z ≤ unsigned_abs c + r → RatioRoom z (pos (unit n))
    end-room z h =
        let most = unit_most laws in
        let some = one_unit laws in
        record {
          positive = unit-above;
          den = omega (arith, ints, most);
          num = omega (arith, h, near, small, most);
          room = omega (arith, ints, h, near, small);
        }

    pub low-room : RatioRoom (c -ℤ pos r) (pos (unit n))
    low-room = end-room (c -ℤ pos r) (omega (arith, ints))

    pub high-room : RatioRoom (c +ℤ pos r) (pos (unit n))
    high-room = end-room (c +ℤ pos r) (omega (arith, ints))

    end-far : (z : ℤ) → RatioRoom z (pos (unit n)) → unsigned_abs z ≤ unsigned_abs c + r → reach n (n.calc.ratio z (pos (unit n))) ≤ unsigned_abs c + r + n.slop
    end-far z room h =
        let far = (laws.ratio z (pos (unit n)) room).far in
        let times : unsigned_abs z * unit n ≤ (unsigned_abs c + r) * unit n = mul-le-mul_right (unit n) h in
        le_of_mul-le-mul_right {k = unit n} (omega (arith, ints, far, times)) (omega (arith, one_unit laws))

    pub around-room : HullRoom n (n.calc.ratio (c -ℤ pos r) (pos (unit n))) (n.calc.ratio (c +ℤ pos r) (pos (unit n)))
    around-room =
        let low = end-far (c -ℤ pos r) low-room (omega (arith, ints)) in
        let high = end-far (c +ℤ pos r) high-room (omega (arith, ints)) in
        let least = unit_least laws in
        record { first = omega (arith, low, near, small, least, laws.narrow); second = omega (arith, high, near, small, least, laws.narrow) }

    pub around-six : reach n (around n c r) ≤ 6 * unit n
    around-six =
        let low = end-far (c -ℤ pos r) low-room (omega (arith, ints)) in
        let high = end-far (c +ℤ pos r) high-room (omega (arith, ints)) in
        let least = unit_least laws in
        let far = (laws.hull _ _ around-room).far in
        omega (arith, low, high, near, small, least, laws.narrow, far)

    pub around-holds : (x : ℚ) → Between (pos (unit n)) (c -ℤ pos r) (c +ℤ pos r) x → Holds n (around n c r) x
    around-holds x b =
        let f = between-fractions (pos (unit n)) unit-above (c -ℤ pos r) (c +ℤ pos r) x b in
        hull_holds laws (laws.hull _ _ around-room) (laws.ratio (c -ℤ pos r) (pos (unit n)) low-room).held (laws.ratio (c +ℤ pos r) (pos (unit n)) high-room).held f.0 f.1

  -- ---- the radius of the shear

  pub wider : (r : ℕ) → r ≤ unit n → 4 * over_up (3 * r) 2 ≤ 7 * unit n
  wider r h = let least = unit_least laws in omega (arith, h, least)

  pub narrower : (r : ℕ) → r ≤ unit n → 4 * r ≤ 7 * unit n
  narrower r h = omega (arith, h)

  -- each enclosure holds its low end, so that a square has a root whatever is held
  own-end : (z : A) → Holds n z (fraction (n.low z) (pos (unit n)))
  own-end z = holds_units laws (n.low z) (omega (arith, ints)) (laws.ordered z)

  pub root-room-of : (rest : Three A) → ThreeReach n small_reach rest → RootRoom n (n.hull (by.length_square n.calc rest) (n.calc.ratio (pos 0) (pos 1)))
  root-room-of rest reach = root-room rest (record { x = fraction (n.low rest.x) (pos (unit n)); y = fraction (n.low rest.y) (pos (unit n)); s = fraction (n.low rest.s) (pos (unit n)) }) reach
      (record { x = own-end rest.x; y = own-end rest.y; s = own-end rest.s })

-- a share of one
pub small-end : {A : Type 0} {n : Numbers A} (z : A) → 8 * unsigned_abs (n.low z) ≤ unit n → 8 * unsigned_abs (n.high z) ≤ unit n → Reaches n small_reach z
unfolding ends.reach
small-end z h k = record { far = omega (arith, h, k) }
