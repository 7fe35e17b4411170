-- The starts of the turns, with one of 2^60 units: no strains, and a guess whose residual is small. Centres at which the
-- potential energy is no greater than at a start are small.
use Rattle.std.proofs.Common.{◌≡◌, refl, ℤ, pos, neg_ℤ, ◌+ℤ◌, ◌-ℤ◌, ◌*ℤ◌, ◌≤ℤ◌, ◌<ℤ◌, arith}
use Rattle.std.proofs.lemmas.Int.{ints}
use Rattle.lam_fraction.proofs.Expression.{int, ◌⊕◌, ◌⊖◌, ◌⊗◌, minus}
use Rattle.lam_fraction.proofs.Solver.{◌≐◌}
use Rattle.lam_fraction.proofs.Integers.{solve, number, above, weaken, at_most, ◌+ₙ◌, ◌*ₙ◌}
use Rattle.lam_lamina.specs.declared.stiffness.Sym3.{Sym3}
use Rattle.lam_solve.specs.declared.six.Six.{Six}
use Rattle.lam_solve.specs.inside.Residual.{row_x, row_y, row_s}
use Rattle.lam_solve.specs.inside.Turns.{work, forces_at, potential}
use Rattle.lam_solve.proofs.turns.Sizes.{size_of, sizes, total, weighed, less}
use Rattle.lam_solve.proofs.turns.Squares.{EachAtMost}
use Rattle.lam_solve.proofs.turns.Falls.{left_at, IsMiddle, AreMiddles}
use Rattle.lam_solve.proofs.turns.Near.{Within, EachWithin, times, small-strains, near-start}

abbrev pub one : ℤ
one = pos 1152921504606846976

-- twice one, less what the entries' widths take
abbrev pub gap : ℤ
gap = pos 2305843009196916736

-- q0 times twice the sum of a load's ends is at most so many floors
abbrev pub load_most : ℤ
load_most = pos 1152921504606855168

-- so is twice what the load leaves at no strains, in units squared
abbrev pub none_most : ℤ
none_most = pos 1329227995784925317636772799570771968

-- and at a guess whose residual is at most 1/8192
abbrev pub guess_most : ℤ
guess_most = pos 332306998946231329409193199892692992

-- and the forces and moments at it
abbrev pub forces_most : ℤ
forces_most = pos 830767497365578323522982999731732480

abbrev pub none : Six ℤ
none = record { ex = pos 0; ey = pos 0; g = pos 0; kx = pos 0; ky = pos 0; kg = pos 0 }

-- ---- how much is left, in floors

at-none : (q0 l : ℤ) (row : Six ℤ) → q0 *ℤ (pos 2 *ℤ (l *ℤ one -ℤ work row none)) ≡ one *ℤ (q0 *ℤ (pos 2 *ℤ l))
at-none q0 l row = solve 8 (λ q l a b c d e f.
    q ⊗ (int (pos 2) ⊗ (l ⊗ int (pos 1152921504606846976) ⊖ (a ⊗ int (pos 0) ⊕ b ⊗ int (pos 0) ⊕ c ⊗ int (pos 0) ⊕ d ⊗ int (pos 0) ⊕ e ⊗ int (pos 0) ⊕ f ⊗ int (pos 0))))
    ≐ int (pos 1152921504606846976) ⊗ (q ⊗ (int (pos 2) ⊗ l))) refl q0 l row.ex row.ey row.g row.kx row.ky row.kg

none-share : (floor t u : ℤ) → Within (floor *ℤ load_most) t → u ≡ one *ℤ t → Within (floor *ℤ none_most) u
none-share floor t u w e = record { from = omega (arith, ints, w.from, e); to = omega (arith, ints, w.to, e) }

-- twice the rest of an equation, where its middle is at most 1/8192
guess-share : (floor q0 r t : ℤ) → pos 0 ≤ℤ q0 → q0 ≤ℤ (pos 512 *ℤ floor) → IsMiddle one r t → Within (pos 140737488355328) r → Within (floor *ℤ guess_most) (q0 *ℤ (pos 2 *ℤ t))
guess-share floor q0 r t scale spread m w =
    let from : neg_ℤ (pos 324518553658429032626165234270208) ≤ℤ t = omega (arith, ints, m.low, w.from) in
    let to : t ≤ℤ pos 324518553658429032626165234270208 = omega (arith, ints, m.high, w.to) in
    record {
      from = at_most (number 2 *ₙ (scale *ₙ above from) +ₙ number 649037107316858065252330468540416 *ₙ above spread)
          (solve 3 (λ f q t. q ⊗ (int (pos 2) ⊗ t) ⊖ minus (f ⊗ int (pos 332306998946231329409193199892692992)) ≐ int (pos 2) ⊗ (q ⊗ (t ⊖ minus (int (pos 324518553658429032626165234270208)))) ⊕ int (pos 649037107316858065252330468540416) ⊗ (int (pos 512) ⊗ f ⊖ q)) refl floor q0 t);
      to = at_most (number 2 *ₙ (scale *ₙ above to) +ₙ number 649037107316858065252330468540416 *ₙ above spread)
          (solve 3 (λ f q t. f ⊗ int (pos 332306998946231329409193199892692992) ⊖ q ⊗ (int (pos 2) ⊗ t) ≐ int (pos 2) ⊗ (q ⊗ (int (pos 324518553658429032626165234270208) ⊖ t)) ⊕ int (pos 649037107316858065252330468540416) ⊗ (int (pos 512) ⊗ f ⊖ q)) refl floor q0 t);
    }

-- the forces at the guess: what the load has, less what is left
forces-parts : (q0 l n : ℤ) → pos 2 *ℤ (q0 *ℤ n) ≡ one *ℤ (q0 *ℤ (pos 2 *ℤ l)) -ℤ q0 *ℤ (pos 2 *ℤ (l *ℤ one -ℤ n))
forces-parts q0 l n = solve 3 (λ q l n.
    int (pos 2) ⊗ (q ⊗ n) ≐ int (pos 1152921504606846976) ⊗ (q ⊗ (int (pos 2) ⊗ l)) ⊖ q ⊗ (int (pos 2) ⊗ (l ⊗ int (pos 1152921504606846976) ⊖ n))) refl q0 l n

forces-share : (floor t u x : ℤ) → pos 2 *ℤ x ≡ one *ℤ t -ℤ u → Within (floor *ℤ load_most) t → Within (floor *ℤ guess_most) u → Within (floor *ℤ forces_most) x
forces-share floor t u x e v w = record { from = omega (arith, ints, v.from, w.to, e); to = omega (arith, ints, v.to, w.from, e) }

-- ---- the sizes of a centre, by those of a start and of the way from it

size-sum : (c s : ℤ) → size_of c ≤ℤ (size_of (c -ℤ s) +ℤ size_of s)
size-sum c s = omega (arith, ints)

total-sum : (c s : Six ℤ) → total (sizes c) ≤ℤ (total (sizes (less c s)) +ℤ total (sizes s))
total-sum c s = at_most
    (above (size-sum c.ex s.ex) +ₙ above (size-sum c.ey s.ey) +ₙ above (size-sum c.g s.g) +ₙ above (size-sum c.kx s.kx) +ₙ above (size-sum c.ky s.ky) +ₙ above (size-sum c.kg s.kg))
    (solve 18 (λ y1 y2 y3 y4 y5 y6 a1 a2 a3 a4 a5 a6 b1 b2 b3 b4 b5 b6.
    ((a1 ⊕ a2 ⊕ a3 ⊕ a4 ⊕ a5 ⊕ a6) ⊕ (b1 ⊕ b2 ⊕ b3 ⊕ b4 ⊕ b5 ⊕ b6)) ⊖ (y1 ⊕ y2 ⊕ y3 ⊕ y4 ⊕ y5 ⊕ y6)
    ≐ ((a1 ⊕ b1) ⊖ y1) ⊕ ((a2 ⊕ b2) ⊖ y2) ⊕ ((a3 ⊕ b3) ⊖ y3) ⊕ ((a4 ⊕ b4) ⊖ y4) ⊕ ((a5 ⊕ b5) ⊖ y5) ⊕ ((a6 ⊕ b6) ⊖ y6)) refl
    (size_of c.ex) (size_of c.ey) (size_of c.g) (size_of c.kx) (size_of c.ky) (size_of c.kg)
    (size_of (c.ex -ℤ s.ex)) (size_of (c.ey -ℤ s.ey)) (size_of (c.g -ℤ s.g)) (size_of (c.kx -ℤ s.kx)) (size_of (c.ky -ℤ s.ky)) (size_of (c.kg -ℤ s.kg))
    (size_of s.ex) (size_of s.ey) (size_of s.g) (size_of s.kx) (size_of s.ky) (size_of s.kg))

module _ (a b d : Sym3 ℤ) (load : Six ℤ) (floor q0 : ℤ) where
  -- turns may start here: what the load leaves is small, and so are the strains
  pub record IsStart (s : Six ℤ) : Type 0 where
    pub most : ℤ
    pub reach : ℤ
    pub some : pos 0 <ℤ reach
    pub enough : most ≤ℤ (reach *ℤ gap)
    pub left : EachWithin (floor *ℤ most) (times q0 (times (pos 2) (left_at a b d load one s)))
    pub sum : (pos 16 *ℤ reach +ℤ total (sizes s)) <ℤ pos 10376293541461622784
    pub each : EachAtMost (pos 46116860184273879040 -ℤ pos 79 *ℤ reach) (times (pos 10) (sizes s))

  -- a centre is small: the sum of its sizes is below 9, and each at most 4
  pub record IsSmallCentre (c : Six ℤ) : Type 0 where
    pub sum : total (sizes c) <ℤ pos 10376293541461622784
    pub each : EachAtMost (pos 4611686018427387904) (sizes c)

  module _ (loads : EachWithin (floor *ℤ load_most) (times q0 (times (pos 2) load))) where
    pub starts-at-none : IsStart none
    starts-at-none = record {
      most = none_most;
      reach = pos 577586652210266112;
      some = omega (arith, ints);
      enough = omega (arith, ints);
      left = record {
        ex = none-share floor (q0 *ℤ (pos 2 *ℤ load.ex)) _ loads.ex (at-none q0 load.ex (row_x a b));
        ey = none-share floor (q0 *ℤ (pos 2 *ℤ load.ey)) _ loads.ey (at-none q0 load.ey (row_y a b));
        g = none-share floor (q0 *ℤ (pos 2 *ℤ load.g)) _ loads.g (at-none q0 load.g (row_s a b));
        kx = none-share floor (q0 *ℤ (pos 2 *ℤ load.kx)) _ loads.kx (at-none q0 load.kx (row_x b d));
        ky = none-share floor (q0 *ℤ (pos 2 *ℤ load.ky)) _ loads.ky (at-none q0 load.ky (row_y b d));
        kg = none-share floor (q0 *ℤ (pos 2 *ℤ load.kg)) _ loads.kg (at-none q0 load.kg (row_s b d));
      };
      sum = omega (arith, ints);
      each = record { ex = omega (arith, ints); ey = omega (arith, ints); g = omega (arith, ints); kx = omega (arith, ints); ky = omega (arith, ints); kg = omega (arith, ints) };
    }

  module _ (floor_above : pos 0 <ℤ floor) (scale_above : pos 0 <ℤ q0) (softest : (y : Six ℤ) → (floor *ℤ (weighed y *ℤ gap)) ≤ℤ (pos 6 *ℤ (q0 *ℤ work (forces_at a b d y) y))) where
    gap_above : pos 0 <ℤ gap
    gap_above = omega (arith, ints)

    pub small-from : (s c : Six ℤ) → IsStart s → potential a b d load one c ≤ℤ potential a b d load one s → IsSmallCentre c
    small-from s c start lower =
        let near = near-start a b d floor q0 gap floor_above scale_above gap_above softest load one start.most start.reach c s start.some start.enough start.left lower in
        let sums = total-sum c s in
        record {
          sum = omega (arith, ints, sums, near.sum, start.sum);
          each = record {
            ex = each-small start.reach c.ex s.ex near.each.ex start.each.ex;
            ey = each-small start.reach c.ey s.ey near.each.ey start.each.ey;
            g = each-small start.reach c.g s.g near.each.g start.each.g;
            kx = each-small start.reach c.kx s.kx near.each.kx start.each.kx;
            ky = each-small start.reach c.ky s.ky near.each.ky start.each.ky;
            kg = each-small start.reach c.kg s.kg near.each.kg start.each.kg;
          };
        }
      where
        each-small : (reach c s : ℤ) → (pos 10 *ℤ size_of (c -ℤ s)) ≤ℤ (pos 79 *ℤ reach) → (pos 10 *ℤ size_of s) ≤ℤ (pos 46116860184273879040 -ℤ pos 79 *ℤ reach) → size_of c ≤ℤ pos 4611686018427387904
        each-small reach c s h k = let t = size-sum c s in omega (arith, ints, h, k, t)

    pub starts-at-guess : EachWithin (floor *ℤ load_most) (times q0 (times (pos 2) load)) → q0 ≤ℤ (pos 512 *ℤ floor)
        → (r g : Six ℤ) → AreMiddles one r (left_at a b d load one g) → EachWithin (pos 140737488355328) r → IsStart g
    starts-at-guess loads spread r g m w =
        let scale = weaken scale_above in
        let left : EachWithin (floor *ℤ guess_most) (times q0 (times (pos 2) (left_at a b d load one g))) = record {
          ex = guess-share floor q0 r.ex _ scale spread m.ex w.ex;
          ey = guess-share floor q0 r.ey _ scale spread m.ey w.ey;
          g = guess-share floor q0 r.g _ scale spread m.g w.g;
          kx = guess-share floor q0 r.kx _ scale spread m.kx w.kx;
          ky = guess-share floor q0 r.ky _ scale spread m.ky w.ky;
          kg = guess-share floor q0 r.kg _ scale spread m.kg w.kg;
        } in
        let by_forces : EachWithin (floor *ℤ forces_most) (times q0 (forces_at a b d g)) = record {
          ex = forces-share floor (q0 *ℤ (pos 2 *ℤ load.ex)) (q0 *ℤ (pos 2 *ℤ (load.ex *ℤ one -ℤ work (row_x a b) g))) _ (forces-parts q0 load.ex (work (row_x a b) g)) loads.ex left.ex;
          ey = forces-share floor (q0 *ℤ (pos 2 *ℤ load.ey)) (q0 *ℤ (pos 2 *ℤ (load.ey *ℤ one -ℤ work (row_y a b) g))) _ (forces-parts q0 load.ey (work (row_y a b) g)) loads.ey left.ey;
          g = forces-share floor (q0 *ℤ (pos 2 *ℤ load.g)) (q0 *ℤ (pos 2 *ℤ (load.g *ℤ one -ℤ work (row_s a b) g))) _ (forces-parts q0 load.g (work (row_s a b) g)) loads.g left.g;
          kx = forces-share floor (q0 *ℤ (pos 2 *ℤ load.kx)) (q0 *ℤ (pos 2 *ℤ (load.kx *ℤ one -ℤ work (row_x b d) g))) _ (forces-parts q0 load.kx (work (row_x b d) g)) loads.kx left.kx;
          ky = forces-share floor (q0 *ℤ (pos 2 *ℤ load.ky)) (q0 *ℤ (pos 2 *ℤ (load.ky *ℤ one -ℤ work (row_y b d) g))) _ (forces-parts q0 load.ky (work (row_y b d) g)) loads.ky left.ky;
          kg = forces-share floor (q0 *ℤ (pos 2 *ℤ load.kg)) (q0 *ℤ (pos 2 *ℤ (load.kg *ℤ one -ℤ work (row_s b d) g))) _ (forces-parts q0 load.kg (work (row_s b d) g)) loads.kg left.kg;
        } in
        let own = small-strains a b d floor q0 gap floor_above scale_above gap_above softest forces_most (pos 361413870096482304) (forces_at a b d g) g (omega (arith, ints)) (omega (arith, ints)) by_forces (at_most_same (work (forces_at a b d g) g)) in
        record {
          most = guess_most;
          reach = pos 145241087982698496;
          some = omega (arith, ints);
          enough = omega (arith, ints);
          left = left;
          sum = omega (arith, ints, own.sum);
          each = record { ex = omega (arith, ints, own.each.ex); ey = omega (arith, ints, own.each.ey); g = omega (arith, ints, own.each.g); kx = omega (arith, ints, own.each.kx); ky = omega (arith, ints, own.each.ky); kg = omega (arith, ints, own.each.kg) };
        }
      where
        at_most_same : (z : ℤ) → z ≤ℤ z
        at_most_same z = omega (arith, ints)
