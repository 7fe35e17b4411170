-- The potential energy of a wall has a floor, and a centre at which it is no greater than at a start is near to the start,
-- since the strain energy of a step is at most the work of what the load leaves at the start.
use Rattle.std.proofs.Common.{◌≡◌, refl, sym, subst, ℤ, pos, neg_ℤ, ◌+ℤ◌, ◌-ℤ◌, ◌*ℤ◌, ◌≤ℤ◌, ◌<ℤ◌}
use Rattle.lam_fraction.proofs.Expression.{Expr, int, ◌⊕◌, ◌⊖◌, ◌⊗◌}
use Rattle.lam_fraction.proofs.Solver.{◌≐◌}
use Rattle.lam_fraction.proofs.Integers.{solve, from₁, square, number, positive_number, above, weaken, at_most, at_most_over, product_within, ◌+ₙ◌, ◌*ₙ◌, ◌*ₚ◌}
use Rattle.lam_lamina.specs.declared.stiffness.Sym3.{Sym3}
use Rattle.lam_solve.specs.declared.six.Six.{Six}
use Rattle.lam_solve.specs.inside.Turns.{work, forces_at, potential}
use Rattle.lam_solve.proofs.turns.Sizes.{size_of, sizes, total, weighed, less, weighed-above, squares-weighed, sizes-weighed, size-above, size-from, size-to}
use Rattle.lam_solve.proofs.turns.Squares.{EachAtMost, total-most, each-most}
use Rattle.lam_solve.proofs.turns.Falls.{left_at}

-- ---- sizes of at most so much

pub record Within (most z : ℤ) : Type 0 where
  pub from : neg_ℤ most ≤ℤ z
  pub to : z ≤ℤ most

pub record EachWithin (most : ℤ) (y : Six ℤ) : Type 0 where
  pub ex : Within most y.ex
  pub ey : Within most y.ey
  pub g : Within most y.g
  pub kx : Within most y.kx
  pub ky : Within most y.ky
  pub kg : Within most y.kg

abbrev pub times : ℤ → Six ℤ → Six ℤ
times k y = record { ex = k *ℤ y.ex; ey = k *ℤ y.ey; g = k *ℤ y.g; kx = k *ℤ y.kx; ky = k *ℤ y.ky; kg = k *ℤ y.kg }

-- the change between two centres
pub change-from : (a b d : Sym3 ℤ) (load : Six ℤ) (unit : ℤ) (c s : Six ℤ)
    → potential a b d load unit c ≡ potential a b d load unit s +ℤ work (forces_at a b d (less c s)) (less c s) -ℤ work (times (pos 2) (left_at a b d load unit s)) (less c s)
change-from a b d load unit c s = solve 37 (λ axx axy ayy axs ays ass bxx bxy byy bxs bys bss dxx dxy dyy dxs dys dss l1 l2 l3 l4 l5 l6 u c1 c2 c3 c4 c5 c6 s1 s2 s3 s4 s5 s6.
    (((axx ⊗ c1 ⊕ axy ⊗ c2 ⊕ axs ⊗ c3 ⊕ bxx ⊗ c4 ⊕ bxy ⊗ c5 ⊕ bxs ⊗ c6) ⊗ c1 ⊕ (axy ⊗ c1 ⊕ ayy ⊗ c2 ⊕ ays ⊗ c3 ⊕ bxy ⊗ c4 ⊕ byy ⊗ c5 ⊕ bys ⊗ c6) ⊗ c2 ⊕ (axs ⊗ c1 ⊕ ays ⊗ c2 ⊕ ass ⊗ c3 ⊕ bxs ⊗ c4 ⊕ bys ⊗ c5 ⊕ bss ⊗ c6) ⊗ c3 ⊕ (bxx ⊗ c1 ⊕ bxy ⊗ c2 ⊕ bxs ⊗ c3 ⊕ dxx ⊗ c4 ⊕ dxy ⊗ c5 ⊕ dxs ⊗ c6) ⊗ c4 ⊕ (bxy ⊗ c1 ⊕ byy ⊗ c2 ⊕ bys ⊗ c3 ⊕ dxy ⊗ c4 ⊕ dyy ⊗ c5 ⊕ dys ⊗ c6) ⊗ c5 ⊕ (bxs ⊗ c1 ⊕ bys ⊗ c2 ⊕ bss ⊗ c3 ⊕ dxs ⊗ c4 ⊕ dys ⊗ c5 ⊕ dss ⊗ c6) ⊗ c6) ⊖ int (pos 2) ⊗ (u ⊗ (l1 ⊗ c1 ⊕ l2 ⊗ c2 ⊕ l3 ⊗ c3 ⊕ l4 ⊗ c4 ⊕ l5 ⊗ c5 ⊕ l6 ⊗ c6)))
    ≐ (((axx ⊗ s1 ⊕ axy ⊗ s2 ⊕ axs ⊗ s3 ⊕ bxx ⊗ s4 ⊕ bxy ⊗ s5 ⊕ bxs ⊗ s6) ⊗ s1 ⊕ (axy ⊗ s1 ⊕ ayy ⊗ s2 ⊕ ays ⊗ s3 ⊕ bxy ⊗ s4 ⊕ byy ⊗ s5 ⊕ bys ⊗ s6) ⊗ s2 ⊕ (axs ⊗ s1 ⊕ ays ⊗ s2 ⊕ ass ⊗ s3 ⊕ bxs ⊗ s4 ⊕ bys ⊗ s5 ⊕ bss ⊗ s6) ⊗ s3 ⊕ (bxx ⊗ s1 ⊕ bxy ⊗ s2 ⊕ bxs ⊗ s3 ⊕ dxx ⊗ s4 ⊕ dxy ⊗ s5 ⊕ dxs ⊗ s6) ⊗ s4 ⊕ (bxy ⊗ s1 ⊕ byy ⊗ s2 ⊕ bys ⊗ s3 ⊕ dxy ⊗ s4 ⊕ dyy ⊗ s5 ⊕ dys ⊗ s6) ⊗ s5 ⊕ (bxs ⊗ s1 ⊕ bys ⊗ s2 ⊕ bss ⊗ s3 ⊕ dxs ⊗ s4 ⊕ dys ⊗ s5 ⊕ dss ⊗ s6) ⊗ s6) ⊖ int (pos 2) ⊗ (u ⊗ (l1 ⊗ s1 ⊕ l2 ⊗ s2 ⊕ l3 ⊗ s3 ⊕ l4 ⊗ s4 ⊕ l5 ⊗ s5 ⊕ l6 ⊗ s6))) ⊕ ((axx ⊗ (c1 ⊖ s1) ⊕ axy ⊗ (c2 ⊖ s2) ⊕ axs ⊗ (c3 ⊖ s3) ⊕ bxx ⊗ (c4 ⊖ s4) ⊕ bxy ⊗ (c5 ⊖ s5) ⊕ bxs ⊗ (c6 ⊖ s6)) ⊗ (c1 ⊖ s1) ⊕ (axy ⊗ (c1 ⊖ s1) ⊕ ayy ⊗ (c2 ⊖ s2) ⊕ ays ⊗ (c3 ⊖ s3) ⊕ bxy ⊗ (c4 ⊖ s4) ⊕ byy ⊗ (c5 ⊖ s5) ⊕ bys ⊗ (c6 ⊖ s6)) ⊗ (c2 ⊖ s2) ⊕ (axs ⊗ (c1 ⊖ s1) ⊕ ays ⊗ (c2 ⊖ s2) ⊕ ass ⊗ (c3 ⊖ s3) ⊕ bxs ⊗ (c4 ⊖ s4) ⊕ bys ⊗ (c5 ⊖ s5) ⊕ bss ⊗ (c6 ⊖ s6)) ⊗ (c3 ⊖ s3) ⊕ (bxx ⊗ (c1 ⊖ s1) ⊕ bxy ⊗ (c2 ⊖ s2) ⊕ bxs ⊗ (c3 ⊖ s3) ⊕ dxx ⊗ (c4 ⊖ s4) ⊕ dxy ⊗ (c5 ⊖ s5) ⊕ dxs ⊗ (c6 ⊖ s6)) ⊗ (c4 ⊖ s4) ⊕ (bxy ⊗ (c1 ⊖ s1) ⊕ byy ⊗ (c2 ⊖ s2) ⊕ bys ⊗ (c3 ⊖ s3) ⊕ dxy ⊗ (c4 ⊖ s4) ⊕ dyy ⊗ (c5 ⊖ s5) ⊕ dys ⊗ (c6 ⊖ s6)) ⊗ (c5 ⊖ s5) ⊕ (bxs ⊗ (c1 ⊖ s1) ⊕ bys ⊗ (c2 ⊖ s2) ⊕ bss ⊗ (c3 ⊖ s3) ⊕ dxs ⊗ (c4 ⊖ s4) ⊕ dys ⊗ (c5 ⊖ s5) ⊕ dss ⊗ (c6 ⊖ s6)) ⊗ (c6 ⊖ s6)) ⊖ ((int (pos 2) ⊗ (l1 ⊗ u ⊖ (axx ⊗ s1 ⊕ axy ⊗ s2 ⊕ axs ⊗ s3 ⊕ bxx ⊗ s4 ⊕ bxy ⊗ s5 ⊕ bxs ⊗ s6))) ⊗ (c1 ⊖ s1) ⊕ (int (pos 2) ⊗ (l2 ⊗ u ⊖ (axy ⊗ s1 ⊕ ayy ⊗ s2 ⊕ ays ⊗ s3 ⊕ bxy ⊗ s4 ⊕ byy ⊗ s5 ⊕ bys ⊗ s6))) ⊗ (c2 ⊖ s2) ⊕ (int (pos 2) ⊗ (l3 ⊗ u ⊖ (axs ⊗ s1 ⊕ ays ⊗ s2 ⊕ ass ⊗ s3 ⊕ bxs ⊗ s4 ⊕ bys ⊗ s5 ⊕ bss ⊗ s6))) ⊗ (c3 ⊖ s3) ⊕ (int (pos 2) ⊗ (l4 ⊗ u ⊖ (bxx ⊗ s1 ⊕ bxy ⊗ s2 ⊕ bxs ⊗ s3 ⊕ dxx ⊗ s4 ⊕ dxy ⊗ s5 ⊕ dxs ⊗ s6))) ⊗ (c4 ⊖ s4) ⊕ (int (pos 2) ⊗ (l5 ⊗ u ⊖ (bxy ⊗ s1 ⊕ byy ⊗ s2 ⊕ bys ⊗ s3 ⊕ dxy ⊗ s4 ⊕ dyy ⊗ s5 ⊕ dys ⊗ s6))) ⊗ (c5 ⊖ s5) ⊕ (int (pos 2) ⊗ (l6 ⊗ u ⊖ (bxs ⊗ s1 ⊕ bys ⊗ s2 ⊕ bss ⊗ s3 ⊕ dxs ⊗ s4 ⊕ dys ⊗ s5 ⊕ dss ⊗ s6))) ⊗ (c6 ⊖ s6))) refl
    a.xx a.xy a.yy a.xs a.ys a.ss b.xx b.xy b.yy b.xs b.ys b.ss d.xx d.xy d.yy d.xs d.ys d.ss load.ex load.ey load.g load.kx load.ky load.kg unit c.ex c.ey c.g c.kx c.ky c.kg s.ex s.ey s.g s.kx s.ky s.kg

-- ---- the work of small forces
module _ (floor q0 most : ℤ) where
  share : (n y : ℤ) → Within (floor *ℤ most) (q0 *ℤ n) → (q0 *ℤ n *ℤ y) ≤ℤ (floor *ℤ most *ℤ size_of y)
  share n y w = (product_within w.from w.to (size-from y) (size-to y)).1

  pub small-forces : (n y : Six ℤ) → EachWithin (floor *ℤ most) (times q0 n) → (q0 *ℤ work n y) ≤ℤ (floor *ℤ (most *ℤ total (sizes y)))
  small-forces n y w = at_most
      (above (share n.ex y.ex w.ex) +ₙ above (share n.ey y.ey w.ey) +ₙ above (share n.g y.g w.g)
      +ₙ above (share n.kx y.kx w.kx) +ₙ above (share n.ky y.ky w.ky) +ₙ above (share n.kg y.kg w.kg))
      (solve 21 (λ f q m n1 n2 n3 n4 n5 n6 y1 y2 y3 y4 y5 y6 a1 a2 a3 a4 a5 a6.
      f ⊗ (m ⊗ (a1 ⊕ a2 ⊕ a3 ⊕ a4 ⊕ a5 ⊕ a6)) ⊖ q ⊗ (n1 ⊗ y1 ⊕ n2 ⊗ y2 ⊕ n3 ⊗ y3 ⊕ n4 ⊗ y4 ⊕ n5 ⊗ y5 ⊕ n6 ⊗ y6)
      ≐ (f ⊗ m ⊗ a1 ⊖ q ⊗ n1 ⊗ y1) ⊕ (f ⊗ m ⊗ a2 ⊖ q ⊗ n2 ⊗ y2) ⊕ (f ⊗ m ⊗ a3 ⊖ q ⊗ n3 ⊗ y3) ⊕ (f ⊗ m ⊗ a4 ⊖ q ⊗ n4 ⊗ y4) ⊕ (f ⊗ m ⊗ a5 ⊖ q ⊗ n5 ⊗ y5) ⊕ (f ⊗ m ⊗ a6 ⊖ q ⊗ n6 ⊗ y6)) refl
      floor q0 most n.ex n.ey n.g n.kx n.ky n.kg y.ex y.ey y.g y.kx y.ky y.kg
      (size_of y.ex) (size_of y.ey) (size_of y.g) (size_of y.kx) (size_of y.ky) (size_of y.kg))

module _ (a b d : Sym3 ℤ) (floor q0 gap : ℤ) (floor_above : pos 0 <ℤ floor) (scale_above : pos 0 <ℤ q0) (gap_above : pos 0 <ℤ gap)
    (softest : (y : Six ℤ) → (floor *ℤ (weighed y *ℤ gap)) ≤ℤ (pos 6 *ℤ (q0 *ℤ work (forces_at a b d y) y))) where
  -- small forces make small strains
  bounded : (most e : ℤ) (n y : Six ℤ) → most ≤ℤ (e *ℤ gap) → EachWithin (floor *ℤ most) (times q0 n) → work (forces_at a b d y) y ≤ℤ work n y
      → weighed y ≤ℤ (pos 6 *ℤ (e *ℤ total (sizes y)))
  bounded most e n y enough w less_work = at_most_over {k = floor *ℤ gap} (floor_above *ₚ gap_above)
      (number 6 *ₙ (weaken floor_above *ₙ (total-above *ₙ above enough)) +ₙ number 6 *ₙ above (small-forces floor q0 most n y w)
      +ₙ number 6 *ₙ (weaken scale_above *ₙ above less_work) +ₙ above (softest y))
      (solve 9 (λ f g e m s q k v w.
      f ⊗ g ⊗ (int (pos 6) ⊗ (e ⊗ s) ⊖ w)
      ≐ int (pos 6) ⊗ (f ⊗ (s ⊗ (e ⊗ g ⊖ m))) ⊕ int (pos 6) ⊗ (f ⊗ (m ⊗ s) ⊖ q ⊗ v) ⊕ int (pos 6) ⊗ (q ⊗ (v ⊖ k)) ⊕ (int (pos 6) ⊗ (q ⊗ k) ⊖ f ⊗ (w ⊗ g))) refl
      floor gap e most (total (sizes y)) q0 (work (forces_at a b d y) y) (work n y) (weighed y))
    where
      total-above : pos 0 ≤ℤ total (sizes y)
      total-above = size-above y.ex +ₙ size-above y.ey +ₙ size-above y.g +ₙ size-above y.kx +ₙ size-above y.ky +ₙ size-above y.kg

  -- of each six such strains: the sum of their sizes, and ten times each
  pub record AreSmall (e : ℤ) (y : Six ℤ) : Type 0 where
    pub sum : total (sizes y) ≤ℤ (pos 16 *ℤ e)
    pub each : EachAtMost (pos 79 *ℤ e) (times (pos 10) (sizes y))

  pub small-strains : (most e : ℤ) (n y : Six ℤ) → pos 0 <ℤ e → most ≤ℤ (e *ℤ gap) → EachWithin (floor *ℤ most) (times q0 n)
      → work (forces_at a b d y) y ≤ℤ work n y → AreSmall e y
  small-strains most e n y some enough w less_work =
      let by_sizes = subst (λ t. t ≤ℤ (pos 6 *ℤ (e *ℤ total (sizes y)))) (sym (sizes-weighed y)) (bounded most e n y enough w less_work) in
      record { sum = total-most (sizes y) e some by_sizes; each = each-most (sizes y) e some by_sizes }

  module _ (load : Six ℤ) (unit : ℤ) where
    -- a centre at which the potential energy is no greater than at a start
    pub near-start : (most e : ℤ) (c s : Six ℤ) → pos 0 <ℤ e → most ≤ℤ (e *ℤ gap) → EachWithin (floor *ℤ most) (times q0 (times (pos 2) (left_at a b d load unit s)))
        → potential a b d load unit c ≤ℤ potential a b d load unit s → AreSmall e (less c s)
    near-start most e c s some enough w lower = small-strains most e (times (pos 2) (left_at a b d load unit s)) (less c s) some enough w
        (at_most (above lower) (from₁ (pos 1) (change-from a b d load unit c s)
        (solve 4 (λ x y f t. t ⊖ f ≐ (y ⊖ x) ⊕ int (pos 1) ⊗ (x ⊖ (y ⊕ f ⊖ t))) refl
        (potential a b d load unit c) (potential a b d load unit s) (work (forces_at a b d (less c s)) (less c s)) (work (times (pos 2) (left_at a b d load unit s)) (less c s)))))

    -- the floor
    module _ (order : unit ≤ℤ gap) (unit_above : pos 0 <ℤ unit) (spread : q0 ≤ℤ (pos 512 *ℤ floor)) (c : Six ℤ) where
      abbrev energy : ℤ
      energy = work (forces_at a b d c) c

      energy-above : pos 0 ≤ℤ energy
      energy-above = at_most_over {k = pos 6 *ℤ q0} (positive_number 5 *ₚ scale_above)
          (above (softest c) +ₙ weaken floor_above *ₙ (weighed-above c *ₙ weaken gap_above))
          (solve 5 (λ f w g q k. int (pos 6) ⊗ q ⊗ (k ⊖ int (pos 0)) ≐ (int (pos 6) ⊗ (q ⊗ k) ⊖ f ⊗ (w ⊗ g)) ⊕ f ⊗ (w ⊗ g)) refl
          floor (weighed c) gap q0 energy)

      stiff : (unit *ℤ work c c) ≤ℤ (pos 3072 *ℤ energy)
      stiff = at_most_over {k = floor} floor_above
          (number 6 *ₙ (above spread *ₙ energy-above) +ₙ above (softest c) +ₙ weaken floor_above *ₙ (above order *ₙ weighed-above c)
          +ₙ weaken floor_above *ₙ (weaken unit_above *ₙ above (squares-weighed c)))
          (solve 7 (λ f g u q k w s.
          f ⊗ (int (pos 3072) ⊗ k ⊖ u ⊗ s)
          ≐ int (pos 6) ⊗ ((int (pos 512) ⊗ f ⊖ q) ⊗ k) ⊕ (int (pos 6) ⊗ (q ⊗ k) ⊖ f ⊗ (w ⊗ g)) ⊕ f ⊗ ((g ⊖ u) ⊗ w) ⊕ f ⊗ (u ⊗ (w ⊖ s))) refl
          floor gap unit q0 energy (weighed c) (work c c))

      pub floor-of-potential : pos 0 ≤ℤ (potential a b d load unit c +ℤ pos 3072 *ℤ (unit *ℤ work load load))
      floor-of-potential = at_most_over {k = pos 3072} (positive_number 3071)
          (above stiff +ₙ weaken unit_above *ₙ (square (c.ex -ℤ pos 3072 *ℤ load.ex) +ₙ square (c.ey -ℤ pos 3072 *ℤ load.ey) +ₙ square (c.g -ℤ pos 3072 *ℤ load.g)
          +ₙ square (c.kx -ℤ pos 3072 *ℤ load.kx) +ₙ square (c.ky -ℤ pos 3072 *ℤ load.ky) +ₙ square (c.kg -ℤ pos 3072 *ℤ load.kg)))
          (solve 14 (λ u k c1 c2 c3 c4 c5 c6 l1 l2 l3 l4 l5 l6.
          let sq : Expr → Expr → Expr = λ c l. (c ⊖ int (pos 3072) ⊗ l) ⊗ (c ⊖ int (pos 3072) ⊗ l) in
          int (pos 3072) ⊗ ((k ⊖ int (pos 2) ⊗ (u ⊗ (l1 ⊗ c1 ⊕ l2 ⊗ c2 ⊕ l3 ⊗ c3 ⊕ l4 ⊗ c4 ⊕ l5 ⊗ c5 ⊕ l6 ⊗ c6))) ⊕ int (pos 3072) ⊗ (u ⊗ (l1 ⊗ l1 ⊕ l2 ⊗ l2 ⊕ l3 ⊗ l3 ⊕ l4 ⊗ l4 ⊕ l5 ⊗ l5 ⊕ l6 ⊗ l6)) ⊖ int (pos 0))
          ≐ (int (pos 3072) ⊗ k ⊖ u ⊗ (c1 ⊗ c1 ⊕ c2 ⊗ c2 ⊕ c3 ⊗ c3 ⊕ c4 ⊗ c4 ⊕ c5 ⊗ c5 ⊕ c6 ⊗ c6)) ⊕ u ⊗ (sq c1 l1 ⊕ sq c2 l2 ⊕ sq c3 l3 ⊕ sq c4 l4 ⊕ sq c5 l5 ⊕ sq c6 l6)) refl
          unit energy c.ex c.ey c.g c.kx c.ky c.kg load.ex load.ey load.g load.kx load.ky load.kg)
