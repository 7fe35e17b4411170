-- The turns of refinement over a narrow wall: each that is not the last takes from the potential energy and keeps the centre
-- small, so that they end.
use Rattle.std.proofs.Common.{◌≡◌, refl, sym, ◌∙◌, ap, subst, ℕ, ◌+◌, ◌*◌, ◌/◌, ◌^◌, ◌<◌, ◌≤◌, ◌⊎◌, inl, inr, max, Bool, true, false, cond, nat_le, List, ℤ, pos, ◌+ℤ◌, ◌-ℤ◌, ◌*ℤ◌, ◌≤ℤ◌, ◌<ℤ◌, unsigned_abs, arith}
use Rattle.std.specs.Int.{int_min, int_max}
use Rattle.std.proofs.lemmas.Bool.Decides.{nat_tests}
use Rattle.std.proofs.lemmas.Int.{ints, clamps}
use Rattle.lam_fraction.specs.numbers.Numbers.{Numbers, Lawful, unit}
use Rattle.lam_fraction.specs.numbers.Rounding.{floor_over}
use Rattle.lam_fraction.proofs.Expression.{int, ◌⊕◌, ◌⊖◌, ◌⊗◌}
use Rattle.lam_fraction.proofs.Solver.{◌≐◌}
use Rattle.lam_fraction.proofs.Integers.{solve, square, number, above, at_most, below_root, above_root, ◌+ₙ◌}
use Rattle.lam_fraction.proofs.numbers.Rounded.{floor-at_most, floor-near}
use Rattle.lam_stock.specs.declared.item.Item.{Item}
use Rattle.lam_stock.specs.declared.item.ItemNo.{ItemNo}
use Rattle.lam_stock.specs.declared.scale.Scale.{Scale}
use Rattle.lam_lamina.specs.declared.stiffness.Sym3.{Sym3}
use Rattle.lam_job.specs.declared.load.Load.{Load}
use Rattle.lam_job.specs.LoadRange.{LoadInRange}
use Rattle.lam_wall.specs.declared.wall.Wall.{Wall}
use Rattle.lam_wall.specs.Assembled.{NarrowWall, StandsFor}
use Rattle.lam_solve.specs.declared.six.Six.{Six}
use Rattle.lam_solve.specs.declared.six.Ends.{Ends}
use Rattle.lam_solve.specs.declared.strains.Guess.{Guess}
use Rattle.lam_solve.specs.inside.Formulas as formulas
use Rattle.lam_solve.specs.inside.Residual.{row_x, row_y, row_s, row_residual, residual, middle, greatest_middle}
use Rattle.lam_solve.specs.inside.Settled.{Settled}
use Rattle.lam_solve.specs.inside.Solution.{is_settled, start, turned, no_strains}
use Rattle.lam_solve.specs.inside.Steps.{cut}
use Rattle.lam_solve.specs.inside.Turns.{strains, work, forces_at, potential, ends_sum, matrix_sums, load_sums, height}
use Rattle.lam_solve.proofs.turns.Sizes.{size_of, weighed, plus}
use Rattle.lam_solve.proofs.turns.Falls.{left_at, IsMiddle, AreMiddles, falls}
use Rattle.lam_solve.proofs.turns.Near.{EachWithin, times, floor-of-potential}
use Rattle.lam_solve.proofs.turns.Starts.{one, gap, load_most, IsStart, IsSmallCentre, starts-at-none, starts-at-guess, small-from}
use Rattle.lam_solve.proofs.turns.WallBounds as bounds

-- ---- the middle of a residual

both_ends : (a b : ℤ) → int_min a b +ℤ int_max a b ≡ a +ℤ b
both_ends a b = omega (arith, ints, clamps)

both-shares : (low high c : ℤ) → int_min (low *ℤ c) (high *ℤ c) +ℤ int_max (low *ℤ c) (high *ℤ c) ≡ (low +ℤ high) *ℤ c
both-shares low high c = both_ends (low *ℤ c) (high *ℤ c) ∙ solve 3 (λ l h c. l ⊗ c ⊕ h ⊗ c ≐ (l ⊕ h) ⊗ c) refl low high c

regrouped : (a b u m1 m2 m3 m4 m5 m6 p1 p2 p3 p4 p5 p6 : ℤ)
    → (a *ℤ u -ℤ (p1 +ℤ p2 +ℤ p3 +ℤ p4 +ℤ p5 +ℤ p6)) +ℤ (b *ℤ u -ℤ (m1 +ℤ m2 +ℤ m3 +ℤ m4 +ℤ m5 +ℤ m6))
    ≡ (a +ℤ b) *ℤ u -ℤ ((m1 +ℤ p1) +ℤ (m2 +ℤ p2) +ℤ (m3 +ℤ p3) +ℤ (m4 +ℤ p4) +ℤ (m5 +ℤ p5) +ℤ (m6 +ℤ p6))
regrouped = solve 15 (λ a b u m1 m2 m3 m4 m5 m6 p1 p2 p3 p4 p5 p6.
    (a ⊗ u ⊖ (p1 ⊕ p2 ⊕ p3 ⊕ p4 ⊕ p5 ⊕ p6)) ⊕ (b ⊗ u ⊖ (m1 ⊕ m2 ⊕ m3 ⊕ m4 ⊕ m5 ⊕ m6))
    ≐ (a ⊕ b) ⊗ u ⊖ ((m1 ⊕ p1) ⊕ (m2 ⊕ p2) ⊕ (m3 ⊕ p3) ⊕ (m4 ⊕ p4) ⊕ (m5 ⊕ p5) ⊕ (m6 ⊕ p6))) refl

middle-is : (s : ℕ) (t : ℤ) → s ≡ 60 → IsMiddle one (floor_over t (2 ^ (s + 1))) t
middle-is s t e = subst (λ k. IsMiddle one (floor_over t (2 ^ (k + 1))) t) (sym e)
    (let from = floor-at_most t 2305843009213693952 (omega arith) in let to = floor-near t 2305843009213693952 (omega arith) in record { low = omega (arith, ints, from); high = omega (arith, ints, to) })

module _ {A : Type 0} (n : Numbers A) where
  row-sum : (load : A) (row : Six A) (c : Guess) → (row_residual n load row c).low +ℤ (row_residual n load row c).high
      ≡ ends_sum n load *ℤ pos (unit n) -ℤ work (load_sums n row) (strains c)
  row-sum load row c =
      regrouped (n.low load) (n.high load) (pos (unit n))
      (int_min (n.low row.ex *ℤ c.ex) (n.high row.ex *ℤ c.ex)) (int_min (n.low row.ey *ℤ c.ey) (n.high row.ey *ℤ c.ey)) (int_min (n.low row.g *ℤ c.g) (n.high row.g *ℤ c.g)) (int_min (n.low row.kx *ℤ c.kx) (n.high row.kx *ℤ c.kx)) (int_min (n.low row.ky *ℤ c.ky) (n.high row.ky *ℤ c.ky)) (int_min (n.low row.kg *ℤ c.kg) (n.high row.kg *ℤ c.kg))
      (int_max (n.low row.ex *ℤ c.ex) (n.high row.ex *ℤ c.ex)) (int_max (n.low row.ey *ℤ c.ey) (n.high row.ey *ℤ c.ey)) (int_max (n.low row.g *ℤ c.g) (n.high row.g *ℤ c.g)) (int_max (n.low row.kx *ℤ c.kx) (n.high row.kx *ℤ c.kx)) (int_max (n.low row.ky *ℤ c.ky) (n.high row.ky *ℤ c.ky)) (int_max (n.low row.kg *ℤ c.kg) (n.high row.kg *ℤ c.kg))
      ∙ (λ i. ends_sum n load *ℤ pos (unit n) -ℤ (both-shares (n.low row.ex) (n.high row.ex) c.ex i +ℤ both-shares (n.low row.ey) (n.high row.ey) c.ey i +ℤ both-shares (n.low row.g) (n.high row.g) c.g i +ℤ both-shares (n.low row.kx) (n.high row.kx) c.kx i +ℤ both-shares (n.low row.ky) (n.high row.ky) c.ky i +ℤ both-shares (n.low row.kg) (n.high row.kg) c.kg i))

  -- the middles of a residual
  abbrev pub middles : Six Ends → Six ℤ
  middles r = record { ex = middle n r.ex; ey = middle n r.ey; g = middle n r.g; kx = middle n r.kx; ky = middle n r.ky; kg = middle n r.kg }

-- ---- tests

passed : (m n : ℕ) → nat_le m n ≡ true → m ≤ n
passed m n h = grind (arith, nat_tests)

refused : (m n : ℕ) → nat_le m n ≡ false → n < m
refused m n h = grind (arith, nat_tests)

-- a number that is at most so large is not cut
not_cut : (most : ℕ) (z : ℤ) → size_of z ≤ℤ pos most → cut (pos most) z ≡ z
not_cut most z h = omega (arith, ints, clamps, h)

one_of : (z : ℤ) (m : ℤ) → (z ≤ℤ m) ⊎ (m <ℤ z)
one_of z m = grind (arith, ints)

-- one of six squares is at most their sum, so that it has a small root
module _ (r : Six ℤ) (small : work r r ≤ℤ pos 24576) where
  square-ex : (r.ex *ℤ r.ex) ≤ℤ (pos 4096 *ℤ pos 4096)
  square-ex = at_most (above small +ₙ number 16752640 +ₙ (square r.ey +ₙ square r.g +ₙ square r.kx +ₙ square r.ky +ₙ square r.kg))
      (solve 6 (λ ex ey g kx ky kg. int (pos 4096) ⊗ int (pos 4096) ⊖ ex ⊗ ex
      ≐ (int (pos 24576) ⊖ (ex ⊗ ex ⊕ ey ⊗ ey ⊕ g ⊗ g ⊕ kx ⊗ kx ⊕ ky ⊗ ky ⊕ kg ⊗ kg)) ⊕ int (pos 16752640) ⊕ (ey ⊗ ey ⊕ g ⊗ g ⊕ kx ⊗ kx ⊕ ky ⊗ ky ⊕ kg ⊗ kg)) refl
      r.ex r.ey r.g r.kx r.ky r.kg)

  root-ex : unsigned_abs r.ex ≤ 4096
  root-ex = let a = below_root r.ex (pos 4096) (omega (arith, ints)) square-ex in let b = above_root r.ex (pos 4096) (omega (arith, ints)) square-ex in omega (arith, ints, a, b)

  square-ey : (r.ey *ℤ r.ey) ≤ℤ (pos 4096 *ℤ pos 4096)
  square-ey = at_most (above small +ₙ number 16752640 +ₙ (square r.ex +ₙ square r.g +ₙ square r.kx +ₙ square r.ky +ₙ square r.kg))
      (solve 6 (λ ex ey g kx ky kg. int (pos 4096) ⊗ int (pos 4096) ⊖ ey ⊗ ey
      ≐ (int (pos 24576) ⊖ (ex ⊗ ex ⊕ ey ⊗ ey ⊕ g ⊗ g ⊕ kx ⊗ kx ⊕ ky ⊗ ky ⊕ kg ⊗ kg)) ⊕ int (pos 16752640) ⊕ (ex ⊗ ex ⊕ g ⊗ g ⊕ kx ⊗ kx ⊕ ky ⊗ ky ⊕ kg ⊗ kg)) refl
      r.ex r.ey r.g r.kx r.ky r.kg)

  root-ey : unsigned_abs r.ey ≤ 4096
  root-ey = let a = below_root r.ey (pos 4096) (omega (arith, ints)) square-ey in let b = above_root r.ey (pos 4096) (omega (arith, ints)) square-ey in omega (arith, ints, a, b)

  square-g : (r.g *ℤ r.g) ≤ℤ (pos 4096 *ℤ pos 4096)
  square-g = at_most (above small +ₙ number 16752640 +ₙ (square r.ex +ₙ square r.ey +ₙ square r.kx +ₙ square r.ky +ₙ square r.kg))
      (solve 6 (λ ex ey g kx ky kg. int (pos 4096) ⊗ int (pos 4096) ⊖ g ⊗ g
      ≐ (int (pos 24576) ⊖ (ex ⊗ ex ⊕ ey ⊗ ey ⊕ g ⊗ g ⊕ kx ⊗ kx ⊕ ky ⊗ ky ⊕ kg ⊗ kg)) ⊕ int (pos 16752640) ⊕ (ex ⊗ ex ⊕ ey ⊗ ey ⊕ kx ⊗ kx ⊕ ky ⊗ ky ⊕ kg ⊗ kg)) refl
      r.ex r.ey r.g r.kx r.ky r.kg)

  root-g : unsigned_abs r.g ≤ 4096
  root-g = let a = below_root r.g (pos 4096) (omega (arith, ints)) square-g in let b = above_root r.g (pos 4096) (omega (arith, ints)) square-g in omega (arith, ints, a, b)

  square-kx : (r.kx *ℤ r.kx) ≤ℤ (pos 4096 *ℤ pos 4096)
  square-kx = at_most (above small +ₙ number 16752640 +ₙ (square r.ex +ₙ square r.ey +ₙ square r.g +ₙ square r.ky +ₙ square r.kg))
      (solve 6 (λ ex ey g kx ky kg. int (pos 4096) ⊗ int (pos 4096) ⊖ kx ⊗ kx
      ≐ (int (pos 24576) ⊖ (ex ⊗ ex ⊕ ey ⊗ ey ⊕ g ⊗ g ⊕ kx ⊗ kx ⊕ ky ⊗ ky ⊕ kg ⊗ kg)) ⊕ int (pos 16752640) ⊕ (ex ⊗ ex ⊕ ey ⊗ ey ⊕ g ⊗ g ⊕ ky ⊗ ky ⊕ kg ⊗ kg)) refl
      r.ex r.ey r.g r.kx r.ky r.kg)

  root-kx : unsigned_abs r.kx ≤ 4096
  root-kx = let a = below_root r.kx (pos 4096) (omega (arith, ints)) square-kx in let b = above_root r.kx (pos 4096) (omega (arith, ints)) square-kx in omega (arith, ints, a, b)

  square-ky : (r.ky *ℤ r.ky) ≤ℤ (pos 4096 *ℤ pos 4096)
  square-ky = at_most (above small +ₙ number 16752640 +ₙ (square r.ex +ₙ square r.ey +ₙ square r.g +ₙ square r.kx +ₙ square r.kg))
      (solve 6 (λ ex ey g kx ky kg. int (pos 4096) ⊗ int (pos 4096) ⊖ ky ⊗ ky
      ≐ (int (pos 24576) ⊖ (ex ⊗ ex ⊕ ey ⊗ ey ⊕ g ⊗ g ⊕ kx ⊗ kx ⊕ ky ⊗ ky ⊕ kg ⊗ kg)) ⊕ int (pos 16752640) ⊕ (ex ⊗ ex ⊕ ey ⊗ ey ⊕ g ⊗ g ⊕ kx ⊗ kx ⊕ kg ⊗ kg)) refl
      r.ex r.ey r.g r.kx r.ky r.kg)

  root-ky : unsigned_abs r.ky ≤ 4096
  root-ky = let a = below_root r.ky (pos 4096) (omega (arith, ints)) square-ky in let b = above_root r.ky (pos 4096) (omega (arith, ints)) square-ky in omega (arith, ints, a, b)

  square-kg : (r.kg *ℤ r.kg) ≤ℤ (pos 4096 *ℤ pos 4096)
  square-kg = at_most (above small +ₙ number 16752640 +ₙ (square r.ex +ₙ square r.ey +ₙ square r.g +ₙ square r.kx +ₙ square r.ky))
      (solve 6 (λ ex ey g kx ky kg. int (pos 4096) ⊗ int (pos 4096) ⊖ kg ⊗ kg
      ≐ (int (pos 24576) ⊖ (ex ⊗ ex ⊕ ey ⊗ ey ⊕ g ⊗ g ⊕ kx ⊗ kx ⊕ ky ⊗ ky ⊕ kg ⊗ kg)) ⊕ int (pos 16752640) ⊕ (ex ⊗ ex ⊕ ey ⊗ ey ⊕ g ⊗ g ⊕ kx ⊗ kx ⊕ ky ⊗ ky)) refl
      r.ex r.ey r.g r.kx r.ky r.kg)

  root-kg : unsigned_abs r.kg ≤ 4096
  root-kg = let a = below_root r.kg (pos 4096) (omega (arith, ints)) square-kg in let b = above_root r.kg (pos 4096) (omega (arith, ints)) square-kg in omega (arith, ints, a, b)

  greatest-small : max (max (max (unsigned_abs r.ex) (unsigned_abs r.ey)) (unsigned_abs r.g)) (max (max (unsigned_abs r.kx) (unsigned_abs r.ky)) (unsigned_abs r.kg)) ≤ 4096
  greatest-small = omega (arith, root-ex, root-ey, root-g, root-kx, root-ky, root-kg)

-- ---- turns

module _ {A : Type 0} {n : Numbers A} (laws : Lawful n) (sixty : n.scale ≡ 60) {w : Wall A} {scale : Scale} {stock : List Item} {numbers : List ItemNo}
    (stands : StandsFor n w scale stock numbers) (narrow : NarrowWall 512 n w) {load : Load} (range : LoadInRange scale.floor w.h load) where
  abbrev pub loads : Six A
  loads = formulas.loads n.calc scale.q0 w.h load

  abbrev a : Sym3 ℤ
  a = matrix_sums n w.a

  abbrev b : Sym3 ℤ
  b = matrix_sums n w.b

  abbrev d : Sym3 ℤ
  d = matrix_sums n w.d

  abbrev sums : Six ℤ
  sums = load_sums n loads

  one-is : pos (unit n) ≡ one
  one-is = bounds.one-is laws sixty

  loads-most : EachWithin (scale.floor *ℤ load_most) (times scale.q0 (times (pos 2) sums))
  loads-most = bounds.loads-most laws sixty stands range

  soft : (y : Six ℤ) → (scale.floor *ℤ (weighed y *ℤ gap)) ≤ℤ (pos 6 *ℤ (scale.q0 *ℤ work (forces_at a b d y) y))
  soft = bounds.wall-softest laws sixty stands narrow

  floor : pos 0 <ℤ scale.floor
  floor = bounds.floor-above laws sixty stands

  q0 : pos 0 <ℤ scale.q0
  q0 = bounds.scale-above laws sixty stands

  abbrev pub at : Six ℤ → ℤ
  at = potential a b d sums one

  -- what is so of a start
  abbrev pub Starts : Guess → Type 0
  Starts s = IsStart a b d sums scale.floor scale.q0 (strains s)

  rest-middles : (c : Guess) → AreMiddles one (middles n (residual n w loads c)) (left_at a b d sums one (strains c))
  rest-middles c = record {
    ex = subst (IsMiddle one (middle n (residual n w loads c).ex)) (row-sum n loads.ex (row_x w.a w.b) c ∙ ap (λ u. ends_sum n loads.ex *ℤ u -ℤ work (load_sums n (row_x w.a w.b)) (strains c)) one-is) (middle-is n.scale _ sixty);
    ey = subst (IsMiddle one (middle n (residual n w loads c).ey)) (row-sum n loads.ey (row_y w.a w.b) c ∙ ap (λ u. ends_sum n loads.ey *ℤ u -ℤ work (load_sums n (row_y w.a w.b)) (strains c)) one-is) (middle-is n.scale _ sixty);
    g = subst (IsMiddle one (middle n (residual n w loads c).g)) (row-sum n loads.g (row_s w.a w.b) c ∙ ap (λ u. ends_sum n loads.g *ℤ u -ℤ work (load_sums n (row_s w.a w.b)) (strains c)) one-is) (middle-is n.scale _ sixty);
    kx = subst (IsMiddle one (middle n (residual n w loads c).kx)) (row-sum n loads.kx (row_x w.b w.d) c ∙ ap (λ u. ends_sum n loads.kx *ℤ u -ℤ work (load_sums n (row_x w.b w.d)) (strains c)) one-is) (middle-is n.scale _ sixty);
    ky = subst (IsMiddle one (middle n (residual n w loads c).ky)) (row-sum n loads.ky (row_y w.b w.d) c ∙ ap (λ u. ends_sum n loads.ky *ℤ u -ℤ work (load_sums n (row_y w.b w.d)) (strains c)) one-is) (middle-is n.scale _ sixty);
    kg = subst (IsMiddle one (middle n (residual n w loads c).kg)) (row-sum n loads.kg (row_s w.b w.d) c ∙ ap (λ u. ends_sum n loads.kg *ℤ u -ℤ work (load_sums n (row_s w.b w.d)) (strains c)) one-is) (middle-is n.scale _ sixty);
  }

  small-guess : (s c : Six ℤ) → IsStart a b d sums scale.floor scale.q0 s → at c ≤ℤ at s → IsSmallCentre a b d sums scale.floor scale.q0 c
  small-guess s c = small-from a b d sums scale.floor scale.q0 floor q0 soft s c

  -- ---- where they start

  starts : (g : Guess) (b : Bool) → is_settled n (unit n / 8192) (residual n w loads g) ≡ b → Starts (cond b g no_strains)
  unfolding is_settled
  starts g false e = starts-at-none a b d sums scale.floor scale.q0 loads-most
  starts g true e =
      let most : unit n / 8192 ≡ 140737488355328 = ap (λ s. 2 ^ s / 8192) sixty in
      let small = passed (greatest_middle n (residual n w loads g)) (unit n / 8192) e in
      starts-at-guess a b d sums scale.floor scale.q0 floor q0 soft loads-most (bounds.spread laws sixty stands) (middles n (residual n w loads g)) (strains g) (rest-middles g)
      (record { ex = record { from = omega (arith, ints, small, most); to = omega (arith, ints, small, most) }; ey = record { from = omega (arith, ints, small, most); to = omega (arith, ints, small, most) }; g = record { from = omega (arith, ints, small, most); to = omega (arith, ints, small, most) }; kx = record { from = omega (arith, ints, small, most); to = omega (arith, ints, small, most) }; ky = record { from = omega (arith, ints, small, most); to = omega (arith, ints, small, most) }; kg = record { from = omega (arith, ints, small, most); to = omega (arith, ints, small, most) } })

  pub start-starts : (g : Guess) → Starts (start n w loads g)
  unfolding start
  start-starts g = starts g (is_settled n (unit n / 8192) (residual n w loads g)) refl

  -- ---- a turn

  module _ (s : Guess) (is : Starts s) (c : Guess) (lower : at (strains c) ≤ℤ at (strains s)) where
    abbrev rest : Six Ends
    rest = residual n w loads c

    abbrev next : Six ℤ
    next = plus (strains c) (middles n rest)

    pub centre-settled : greatest_middle n rest ≤ 4096 * n.slop → Settled n c rest
    centre-settled h =
        let small = small-guess (strains s) (strains c) is lower in
        let one : unit n ≡ 1152921504606846976 = ap (λ s. 2 ^ s) sixty in
        let sum = small.sum in
        let each = small.each in
        record {
          middles = h;
          each = omega (arith, ints, one, each.ex, each.ey, each.g, each.kx, each.ky, each.kg);
          sum = omega (arith, ints, one, sum);
        }

    module _ (more : is_settled n (4096 * n.slop) rest ≡ false) where
      large : pos 24576 <ℤ work (middles n rest) (middles n rest)
      unfolding is_settled
      large = elim (one_of (work (middles n rest) (middles n rest)) (pos 24576)) [
        | inl h ↦ (
            let few = greatest-small (middles n rest) h in
            let many = refused (greatest_middle n rest) (4096 * n.slop) more in
            absurd (omega (arith, few, many, laws.wide)))
        | inr h ↦ h
      ]

      fall : at next <ℤ at (strains c)
      fall = falls a b d sums one (omega (arith, ints)) (omega (arith, ints)) (bounds.wall-stiffest laws sixty stands narrow) (strains c) (middles n rest) (rest-middles c) large

      next-lower : at next ≤ℤ at (strains s)
      next-lower = omega (arith, ints, fall, lower)

      four : ℕ
      four = 4 * unit n

      next-is : strains (turned n c rest) ≡ next
      unfolding turned
      next-is =
          let small = small-guess (strains s) next is next-lower in
          let each = small.each in
          let one : unit n ≡ 1152921504606846976 = ap (λ s. 2 ^ s) sixty in
          let ex-is = not_cut (4 * unit n) (c.ex +ℤ middle n rest.ex) (let h = each.ex in omega (arith, ints, one, h)) in
          let ey-is = not_cut (4 * unit n) (c.ey +ℤ middle n rest.ey) (let h = each.ey in omega (arith, ints, one, h)) in
          let g-is = not_cut (4 * unit n) (c.g +ℤ middle n rest.g) (let h = each.g in omega (arith, ints, one, h)) in
          let kx-is = not_cut (4 * unit n) (c.kx +ℤ middle n rest.kx) (let h = each.kx in omega (arith, ints, one, h)) in
          let ky-is = not_cut (4 * unit n) (c.ky +ℤ middle n rest.ky) (let h = each.ky in omega (arith, ints, one, h)) in
          let kg-is = not_cut (4 * unit n) (c.kg +ℤ middle n rest.kg) (let h = each.kg in omega (arith, ints, one, h)) in
          λ i. record { ex = ex-is i; ey = ey-is i; g = g-is i; kx = kx-is i; ky = ky-is i; kg = kg-is i }

      pub turn-lower : at (strains (turned n c rest)) ≤ℤ at (strains s)
      turn-lower = subst (λ y. at y ≤ℤ at (strains s)) (sym next-is) next-lower

      turn-fall : at (strains (turned n c rest)) <ℤ at (strains c)
      turn-fall = subst (λ y. at y <ℤ at (strains c)) (sym next-is) fall

      pub turn-height : height n w loads (turned n c rest) < height n w loads c
      unfolding height
      turn-height = below (at (strains (turned n c rest))) (at (strains c)) (pos 3072 *ℤ (one *ℤ work sums sums)) _ _
          (ap (λ u. potential a b d sums u (strains (turned n c rest)) +ℤ pos 3072 *ℤ (u *ℤ work sums sums)) one-is)
          (ap (λ u. potential a b d sums u (strains c) +ℤ pos 3072 *ℤ (u *ℤ work sums sums)) one-is)
          (floor-of (strains (turned n c rest))) turn-fall
        where
          below : (x y m p q : ℤ) → p ≡ x +ℤ m → q ≡ y +ℤ m → pos 0 ≤ℤ (x +ℤ m) → x <ℤ y → unsigned_abs p < unsigned_abs q
          below x y m p q d e h l = omega (arith, ints, d, e, h, l)

          floor-of : (y : Six ℤ) → pos 0 ≤ℤ (at y +ℤ pos 3072 *ℤ (one *ℤ work sums sums))
          floor-of y = floor-of-potential a b d scale.floor scale.q0 gap floor q0 (omega (arith, ints)) soft sums one (omega (arith, ints)) (omega (arith, ints)) (bounds.spread laws sixty stands) y
