-- The potential energy of a wall falls where the middle of what a load leaves is added to a centre, but where this is small.
use Rattle.std.proofs.Common.{◌≡◌, refl, ℤ, pos, neg_ℤ, ◌+ℤ◌, ◌-ℤ◌, ◌*ℤ◌, ◌≤ℤ◌, ◌<ℤ◌, arith}
use Rattle.std.proofs.lemmas.Int.{ints}
use Rattle.lam_fraction.proofs.Expression.{Expr, int, ◌⊕◌, ◌⊖◌, ◌⊗◌, minus}
use Rattle.lam_fraction.proofs.Solver.{◌≐◌}
use Rattle.lam_fraction.proofs.Integers.{solve, from₁, square, number, positive_number, above, weaken, at_most, at_most_over, below_over, ◌+ₙ◌, ◌*ₙ◌, ◌+ₚ◌, ◌*ₚ◌}
use Rattle.lam_lamina.specs.declared.stiffness.Sym3.{Sym3}
use Rattle.lam_solve.specs.declared.six.Six.{Six}
use Rattle.lam_solve.specs.inside.Residual.{row_x, row_y, row_s}
use Rattle.lam_solve.specs.inside.Turns.{work, forces_at, potential}
use Rattle.lam_solve.proofs.turns.Sizes.{plus}

-- what a load leaves at a centre
abbrev pub left_at : (a b d : Sym3 ℤ) (load : Six ℤ) (unit : ℤ) → Six ℤ → Six ℤ
left_at a b d load unit c = record {
  ex = load.ex *ℤ unit -ℤ work (row_x a b) c;
  ey = load.ey *ℤ unit -ℤ work (row_y a b) c;
  g = load.g *ℤ unit -ℤ work (row_s a b) c;
  kx = load.kx *ℤ unit -ℤ work (row_x b d) c;
  ky = load.ky *ℤ unit -ℤ work (row_y b d) c;
  kg = load.kg *ℤ unit -ℤ work (row_s b d) c;
}

-- the change by a step r from a centre c
pub change : (a b d : Sym3 ℤ) (load : Six ℤ) (unit : ℤ) (c r : Six ℤ)
    → potential a b d load unit (plus c r) ≡ potential a b d load unit c +ℤ work (forces_at a b d r) r -ℤ pos 2 *ℤ work (left_at a b d load unit c) r
change a b d load unit c r = solve 37 (λ axx axy ayy axs ays ass bxx bxy byy bxs bys bss dxx dxy dyy dxs dys dss l1 l2 l3 l4 l5 l6 u c1 c2 c3 c4 c5 c6 r1 r2 r3 r4 r5 r6.
    (((axx ⊗ (c1 ⊕ r1) ⊕ axy ⊗ (c2 ⊕ r2) ⊕ axs ⊗ (c3 ⊕ r3) ⊕ bxx ⊗ (c4 ⊕ r4) ⊕ bxy ⊗ (c5 ⊕ r5) ⊕ bxs ⊗ (c6 ⊕ r6)) ⊗ (c1 ⊕ r1) ⊕ (axy ⊗ (c1 ⊕ r1) ⊕ ayy ⊗ (c2 ⊕ r2) ⊕ ays ⊗ (c3 ⊕ r3) ⊕ bxy ⊗ (c4 ⊕ r4) ⊕ byy ⊗ (c5 ⊕ r5) ⊕ bys ⊗ (c6 ⊕ r6)) ⊗ (c2 ⊕ r2) ⊕ (axs ⊗ (c1 ⊕ r1) ⊕ ays ⊗ (c2 ⊕ r2) ⊕ ass ⊗ (c3 ⊕ r3) ⊕ bxs ⊗ (c4 ⊕ r4) ⊕ bys ⊗ (c5 ⊕ r5) ⊕ bss ⊗ (c6 ⊕ r6)) ⊗ (c3 ⊕ r3) ⊕ (bxx ⊗ (c1 ⊕ r1) ⊕ bxy ⊗ (c2 ⊕ r2) ⊕ bxs ⊗ (c3 ⊕ r3) ⊕ dxx ⊗ (c4 ⊕ r4) ⊕ dxy ⊗ (c5 ⊕ r5) ⊕ dxs ⊗ (c6 ⊕ r6)) ⊗ (c4 ⊕ r4) ⊕ (bxy ⊗ (c1 ⊕ r1) ⊕ byy ⊗ (c2 ⊕ r2) ⊕ bys ⊗ (c3 ⊕ r3) ⊕ dxy ⊗ (c4 ⊕ r4) ⊕ dyy ⊗ (c5 ⊕ r5) ⊕ dys ⊗ (c6 ⊕ r6)) ⊗ (c5 ⊕ r5) ⊕ (bxs ⊗ (c1 ⊕ r1) ⊕ bys ⊗ (c2 ⊕ r2) ⊕ bss ⊗ (c3 ⊕ r3) ⊕ dxs ⊗ (c4 ⊕ r4) ⊕ dys ⊗ (c5 ⊕ r5) ⊕ dss ⊗ (c6 ⊕ r6)) ⊗ (c6 ⊕ r6)) ⊖ int (pos 2) ⊗ (u ⊗ (l1 ⊗ (c1 ⊕ r1) ⊕ l2 ⊗ (c2 ⊕ r2) ⊕ l3 ⊗ (c3 ⊕ r3) ⊕ l4 ⊗ (c4 ⊕ r4) ⊕ l5 ⊗ (c5 ⊕ r5) ⊕ l6 ⊗ (c6 ⊕ r6))))
    ≐ (((axx ⊗ c1 ⊕ axy ⊗ c2 ⊕ axs ⊗ c3 ⊕ bxx ⊗ c4 ⊕ bxy ⊗ c5 ⊕ bxs ⊗ c6) ⊗ c1 ⊕ (axy ⊗ c1 ⊕ ayy ⊗ c2 ⊕ ays ⊗ c3 ⊕ bxy ⊗ c4 ⊕ byy ⊗ c5 ⊕ bys ⊗ c6) ⊗ c2 ⊕ (axs ⊗ c1 ⊕ ays ⊗ c2 ⊕ ass ⊗ c3 ⊕ bxs ⊗ c4 ⊕ bys ⊗ c5 ⊕ bss ⊗ c6) ⊗ c3 ⊕ (bxx ⊗ c1 ⊕ bxy ⊗ c2 ⊕ bxs ⊗ c3 ⊕ dxx ⊗ c4 ⊕ dxy ⊗ c5 ⊕ dxs ⊗ c6) ⊗ c4 ⊕ (bxy ⊗ c1 ⊕ byy ⊗ c2 ⊕ bys ⊗ c3 ⊕ dxy ⊗ c4 ⊕ dyy ⊗ c5 ⊕ dys ⊗ c6) ⊗ c5 ⊕ (bxs ⊗ c1 ⊕ bys ⊗ c2 ⊕ bss ⊗ c3 ⊕ dxs ⊗ c4 ⊕ dys ⊗ c5 ⊕ dss ⊗ c6) ⊗ c6) ⊖ int (pos 2) ⊗ (u ⊗ (l1 ⊗ c1 ⊕ l2 ⊗ c2 ⊕ l3 ⊗ c3 ⊕ l4 ⊗ c4 ⊕ l5 ⊗ c5 ⊕ l6 ⊗ c6))) ⊕ ((axx ⊗ r1 ⊕ axy ⊗ r2 ⊕ axs ⊗ r3 ⊕ bxx ⊗ r4 ⊕ bxy ⊗ r5 ⊕ bxs ⊗ r6) ⊗ r1 ⊕ (axy ⊗ r1 ⊕ ayy ⊗ r2 ⊕ ays ⊗ r3 ⊕ bxy ⊗ r4 ⊕ byy ⊗ r5 ⊕ bys ⊗ r6) ⊗ r2 ⊕ (axs ⊗ r1 ⊕ ays ⊗ r2 ⊕ ass ⊗ r3 ⊕ bxs ⊗ r4 ⊕ bys ⊗ r5 ⊕ bss ⊗ r6) ⊗ r3 ⊕ (bxx ⊗ r1 ⊕ bxy ⊗ r2 ⊕ bxs ⊗ r3 ⊕ dxx ⊗ r4 ⊕ dxy ⊗ r5 ⊕ dxs ⊗ r6) ⊗ r4 ⊕ (bxy ⊗ r1 ⊕ byy ⊗ r2 ⊕ bys ⊗ r3 ⊕ dxy ⊗ r4 ⊕ dyy ⊗ r5 ⊕ dys ⊗ r6) ⊗ r5 ⊕ (bxs ⊗ r1 ⊕ bys ⊗ r2 ⊕ bss ⊗ r3 ⊕ dxs ⊗ r4 ⊕ dys ⊗ r5 ⊕ dss ⊗ r6) ⊗ r6) ⊖ int (pos 2) ⊗ ((l1 ⊗ u ⊖ (axx ⊗ c1 ⊕ axy ⊗ c2 ⊕ axs ⊗ c3 ⊕ bxx ⊗ c4 ⊕ bxy ⊗ c5 ⊕ bxs ⊗ c6)) ⊗ r1 ⊕ (l2 ⊗ u ⊖ (axy ⊗ c1 ⊕ ayy ⊗ c2 ⊕ ays ⊗ c3 ⊕ bxy ⊗ c4 ⊕ byy ⊗ c5 ⊕ bys ⊗ c6)) ⊗ r2 ⊕ (l3 ⊗ u ⊖ (axs ⊗ c1 ⊕ ays ⊗ c2 ⊕ ass ⊗ c3 ⊕ bxs ⊗ c4 ⊕ bys ⊗ c5 ⊕ bss ⊗ c6)) ⊗ r3 ⊕ (l4 ⊗ u ⊖ (bxx ⊗ c1 ⊕ bxy ⊗ c2 ⊕ bxs ⊗ c3 ⊕ dxx ⊗ c4 ⊕ dxy ⊗ c5 ⊕ dxs ⊗ c6)) ⊗ r4 ⊕ (l5 ⊗ u ⊖ (bxy ⊗ c1 ⊕ byy ⊗ c2 ⊕ bys ⊗ c3 ⊕ dxy ⊗ c4 ⊕ dyy ⊗ c5 ⊕ dys ⊗ c6)) ⊗ r5 ⊕ (l6 ⊗ u ⊖ (bxs ⊗ c1 ⊕ bys ⊗ c2 ⊕ bss ⊗ c3 ⊕ dxs ⊗ c4 ⊕ dys ⊗ c5 ⊕ dss ⊗ c6)) ⊗ r6)) refl
    a.xx a.xy a.yy a.xs a.ys a.ss b.xx b.xy b.yy b.xs b.ys b.ss d.xx d.xy d.yy d.xs d.ys d.ss load.ex load.ey load.g load.kx load.ky load.kg unit c.ex c.ey c.g c.kx c.ky c.kg r.ex r.ey r.g r.kx r.ky r.kg

-- ---- what a middle r leaves of a number t: from 0 to two units
part : (unit r t : ℤ) → (pos 2 *ℤ (unit *ℤ r)) ≤ℤ t → t ≤ℤ (pos 2 *ℤ (unit *ℤ r) +ℤ pos 2 *ℤ unit)
    → (unit *ℤ (pos 127 *ℤ (r *ℤ r) -ℤ pos 4096)) ≤ℤ (pos 64 *ℤ (t *ℤ r))
part unit r t low high = at_most_over {k = pos 2} (positive_number 1)
    (above high *ₙ (square r +ₙ number 4096) +ₙ above low *ₙ square (r +ℤ pos 64))
    (solve 3 (λ u r t.
    int (pos 2) ⊗ (int (pos 64) ⊗ (t ⊗ r) ⊖ u ⊗ (int (pos 127) ⊗ (r ⊗ r) ⊖ int (pos 4096)))
    ≐ ((int (pos 2) ⊗ (u ⊗ r) ⊕ int (pos 2) ⊗ u) ⊖ t) ⊗ (r ⊗ r ⊕ int (pos 4096))
    ⊕ (t ⊖ int (pos 2) ⊗ (u ⊗ r)) ⊗ ((r ⊕ int (pos 64)) ⊗ (r ⊕ int (pos 64)))) refl unit r t)

-- r is the middle of t
pub record IsMiddle (unit r t : ℤ) : Type 0 where
  pub low : (pos 2 *ℤ (unit *ℤ r)) ≤ℤ t
  pub high : t ≤ℤ (pos 2 *ℤ (unit *ℤ r) +ℤ pos 2 *ℤ unit)

pub record AreMiddles (unit : ℤ) (r t : Six ℤ) : Type 0 where
  pub ex : IsMiddle unit r.ex t.ex
  pub ey : IsMiddle unit r.ey t.ey
  pub g : IsMiddle unit r.g t.g
  pub kx : IsMiddle unit r.kx t.kx
  pub ky : IsMiddle unit r.ky t.ky
  pub kg : IsMiddle unit r.kg t.kg

pub middles-work : (unit : ℤ) (r t : Six ℤ) → AreMiddles unit r t
    → (unit *ℤ (pos 127 *ℤ work r r -ℤ pos 24576)) ≤ℤ (pos 64 *ℤ work t r)
middles-work unit r t m = at_most
    (above (part unit r.ex t.ex m.ex.low m.ex.high) +ₙ above (part unit r.ey t.ey m.ey.low m.ey.high) +ₙ above (part unit r.g t.g m.g.low m.g.high)
    +ₙ above (part unit r.kx t.kx m.kx.low m.kx.high) +ₙ above (part unit r.ky t.ky m.ky.low m.ky.high) +ₙ above (part unit r.kg t.kg m.kg.low m.kg.high))
    (solve 13 (λ u r1 r2 r3 r4 r5 r6 t1 t2 t3 t4 t5 t6.
    let p : Expr → Expr → Expr = λ r t. int (pos 64) ⊗ (t ⊗ r) ⊖ u ⊗ (int (pos 127) ⊗ (r ⊗ r) ⊖ int (pos 4096)) in
    int (pos 64) ⊗ (t1 ⊗ r1 ⊕ t2 ⊗ r2 ⊕ t3 ⊗ r3 ⊕ t4 ⊗ r4 ⊕ t5 ⊗ r5 ⊕ t6 ⊗ r6)
    ⊖ u ⊗ (int (pos 127) ⊗ (r1 ⊗ r1 ⊕ r2 ⊗ r2 ⊕ r3 ⊗ r3 ⊕ r4 ⊗ r4 ⊕ r5 ⊗ r5 ⊕ r6 ⊗ r6) ⊖ int (pos 24576))
    ≐ p r1 t1 ⊕ p r2 t2 ⊕ p r3 t3 ⊕ p r4 t4 ⊕ p r5 t5 ⊕ p r6 t6) refl
    unit r.ex r.ey r.g r.kx r.ky r.kg t.ex t.ey t.g t.kx t.ky t.kg)

-- ---- the fall of a turn, where the squares of the middles are not small in sum
module _ (a b d : Sym3 ℤ) (load : Six ℤ) (unit : ℤ) (one : pos 2097152 ≤ℤ unit) (some : pos 0 <ℤ unit)
    (stiffest : (y : Six ℤ) → work (forces_at a b d y) y ≤ℤ ((pos 2 *ℤ unit +ℤ pos 32768) *ℤ work y y)) where
  pub falls : (c r : Six ℤ) → AreMiddles unit r (left_at a b d load unit c) → pos 24576 <ℤ work r r
      → potential a b d load unit (plus c r) <ℤ potential a b d load unit c
  falls c r m large = below_over {k = pos 64} (positive_number 63)
      (positive_number 122 *ₚ (some *ₚ squares) +ₚ (number 64 *ₙ above (stiffest r) +ₙ number 2 *ₙ above (middles-work unit r (left_at a b d load unit c) m)
      +ₙ above one *ₙ weaken squares +ₙ number 2 *ₙ (weaken some *ₙ above (weaken large))))
      (from₁ (neg_ℤ (pos 64)) (change a b d load unit c r)
      (solve 6 (λ v w f t s u.
      int (pos 64) ⊗ (v ⊖ w)
      ≐ int (pos 123) ⊗ (u ⊗ s) ⊕ (int (pos 64) ⊗ ((int (pos 2) ⊗ u ⊕ int (pos 32768)) ⊗ s ⊖ f) ⊕ int (pos 2) ⊗ (int (pos 64) ⊗ t ⊖ u ⊗ (int (pos 127) ⊗ s ⊖ int (pos 24576)))
      ⊕ (u ⊖ int (pos 2097152)) ⊗ s ⊕ int (pos 2) ⊗ (u ⊗ (s ⊖ int (pos 24576))))
      ⊕ minus (int (pos 64)) ⊗ (w ⊖ (v ⊕ f ⊖ int (pos 2) ⊗ t))) refl
      (potential a b d load unit c) (potential a b d load unit (plus c r)) (work (forces_at a b d r) r) (work (left_at a b d load unit c) r) (work r r) unit))
    where
      squares : pos 0 <ℤ work r r
      squares = omega (arith, ints, large)
