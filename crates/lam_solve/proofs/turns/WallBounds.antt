-- What a narrow wall with one of 2^60 units and a load in range on it keep: the sums of their ends are bounded as the turns
-- need it.
use Rattle.std.proofs.Common.{◌≡◌, refl, sym, ap, subst, ℕ, ◌+◌, ◌*◌, ◌^◌, ◌≤◌, List, ℤ, pos, neg_ℤ, ◌+ℤ◌, ◌*ℤ◌, ◌≤ℤ◌, ◌<ℤ◌, unsigned_abs, arith}
use Rattle.std.proofs.lemmas.Int.{ints}
use Rattle.lam_fraction.specs.numbers.Ends as ends
use Rattle.lam_fraction.specs.numbers.Numbers.{Numbers, Lawful, RatioRoom, reach, unit}
use Rattle.lam_fraction.proofs.Expression.{int, ◌⊕◌, ◌⊖◌, ◌⊗◌, minus}
use Rattle.lam_fraction.proofs.Solver.{◌≐◌}
use Rattle.lam_fraction.proofs.Integers.{solve, number, positive_number, above, weaken, at_most, at_most_over, ◌+ₙ◌, ◌*ₙ◌, ◌*ₚ◌}
use Rattle.lam_fraction.proofs.WholeFractions.{pos-product}
use Rattle.lam_stock.specs.declared.item.Item.{Item}
use Rattle.lam_stock.specs.declared.item.ItemNo.{ItemNo}
use Rattle.lam_stock.specs.declared.scale.Scale.{Scale}
use Rattle.lam_lamina.specs.declared.stiffness.Sym3.{Sym3}
use Rattle.lam_lamina.specs.Held.{NarrowMatrix}
use Rattle.lam_job.specs.declared.load.Load.{Load}
use Rattle.lam_job.specs.LoadRange.{LoadInRange, SizeWithin}
use Rattle.lam_wall.specs.declared.wall.Wall.{Wall}
use Rattle.lam_wall.specs.Assembled.{NarrowWall, StandsFor}
use Rattle.lam_wall.proofs.CatalogueWalls as catalogue
use Rattle.lam_wall.proofs.CatalogueWalls.{plies-form}
use Rattle.lam_solve.specs.declared.six.Six.{Six}
use Rattle.lam_solve.specs.inside.Formulas as formulas
use Rattle.lam_solve.specs.inside.Parts.{IsPosed}
use Rattle.lam_solve.specs.inside.Turns.{work, forces_at, ends_sum, matrix_sums, load_sums}
use Rattle.lam_solve.proofs.Posed.{posed, force-room, moment-room}
use Rattle.lam_solve.proofs.energy.WallStrains.{wall-matrices, wall-held, wall-are}
use Rattle.lam_solve.proofs.turns.Sizes.{size_of, sizes, total, weighed, weighed-above, weighed-squares, total-square, sizes-weighed}
use Rattle.lam_solve.proofs.turns.Close as close
use Rattle.lam_solve.proofs.turns.Near.{Within, EachWithin, times}
use Rattle.lam_solve.proofs.turns.Starts.{one, gap, load_most}

-- ---- the wall, over whole numbers

soft : (floor q0 wide energy weight square : ℤ) → pos 0 ≤ℤ q0 → pos 0 ≤ℤ wide → wide ≤ℤ pos 2048 → q0 ≤ℤ (pos 512 *ℤ floor) → pos 0 ≤ℤ weight
    → (pos 3 *ℤ square) ≤ℤ (pos 8 *ℤ weight)
    → (floor *ℤ (pos 2 *ℤ one *ℤ weight)) ≤ℤ (pos 6 *ℤ (q0 *ℤ energy) +ℤ pos 6 *ℤ (q0 *ℤ (wide *ℤ square)))
    → (floor *ℤ (weight *ℤ gap)) ≤ℤ (pos 6 *ℤ (q0 *ℤ energy))
soft floor q0 wide energy weight square scale width_above width_most spread weight_above squares h = at_most
    (above h +ₙ number 2 *ₙ (scale *ₙ (width_above *ₙ above squares))
    +ₙ number 16 *ₙ (weight_above *ₙ (number 2048 *ₙ above spread +ₙ scale *ₙ above width_most)))
    (solve 6 (λ f q w k v s.
    int (pos 6) ⊗ (q ⊗ k) ⊖ f ⊗ (v ⊗ int (pos 2305843009196916736))
    ≐ ((int (pos 6) ⊗ (q ⊗ k) ⊕ int (pos 6) ⊗ (q ⊗ (w ⊗ s))) ⊖ f ⊗ (int (pos 2) ⊗ int (pos 1152921504606846976) ⊗ v)) ⊕ int (pos 2) ⊗ (q ⊗ (w ⊗ (int (pos 8) ⊗ v ⊖ int (pos 3) ⊗ s)))
    ⊕ int (pos 16) ⊗ (v ⊗ (int (pos 2048) ⊗ (int (pos 512) ⊗ f ⊖ q) ⊕ q ⊗ (int (pos 2048) ⊖ w)))) refl floor q0 wide energy weight square)

stiff : (wide energy weight square squares : ℤ) → pos 0 ≤ℤ wide → wide ≤ℤ pos 2048 → pos 0 ≤ℤ weight
    → (pos 3 *ℤ square) ≤ℤ (pos 8 *ℤ weight) → weight ≤ℤ (pos 6 *ℤ squares)
    → (pos 6 *ℤ energy) ≤ℤ (pos 2 *ℤ one *ℤ weight +ℤ pos 6 *ℤ (wide *ℤ square))
    → energy ≤ℤ ((pos 2 *ℤ one +ℤ pos 32768) *ℤ squares)
stiff wide energy weight square squares width_above width_most weight_above of_total of_weights h = at_most_over {k = pos 6} (positive_number 5)
    (above h +ₙ number 2 *ₙ (width_above *ₙ above of_total) +ₙ number 16 *ₙ (weight_above *ₙ above width_most) +ₙ number 2305843009213726720 *ₙ above of_weights)
    (solve 5 (λ w k v s n.
    int (pos 6) ⊗ ((int (pos 2) ⊗ int (pos 1152921504606846976) ⊕ int (pos 32768)) ⊗ n ⊖ k)
    ≐ ((int (pos 2) ⊗ int (pos 1152921504606846976) ⊗ v ⊕ int (pos 6) ⊗ (w ⊗ s)) ⊖ int (pos 6) ⊗ k) ⊕ int (pos 2) ⊗ (w ⊗ (int (pos 8) ⊗ v ⊖ int (pos 3) ⊗ s))
    ⊕ int (pos 16) ⊗ (v ⊗ (int (pos 2048) ⊖ w)) ⊕ int (pos 2305843009213726720) ⊗ (int (pos 6) ⊗ n ⊖ v)) refl wide energy weight square squares)

-- ---- a ratio of a load, over whole numbers

far_whole : (r d k u s : ℕ) → r * d ≤ k * u + s * d → (pos r *ℤ pos d) ≤ℤ (pos k *ℤ pos u +ℤ pos s *ℤ pos d)
far_whole r d k u s h = let a = pos-product r d in let b = pos-product k u in let c = pos-product s d in omega (arith, ints, h, a, b, c)

force-far : (floor q0 h r k s : ℤ) → pos 0 <ℤ h → pos 0 ≤ℤ q0 → s ≤ℤ pos 4 → q0 ≤ℤ (pos 512 *ℤ floor) → k ≤ℤ (floor *ℤ h)
    → (r *ℤ (pos 4 *ℤ (h *ℤ q0))) ≤ℤ (k *ℤ one +ℤ s *ℤ (pos 4 *ℤ (h *ℤ q0))) → (pos 4 *ℤ (q0 *ℤ r)) ≤ℤ (floor *ℤ load_most)
force-far floor q0 h r k s thick scale slop spread size far = at_most_over {k = h} thick
    (above far +ₙ number 1152921504606846976 *ₙ above size +ₙ number 4 *ₙ (weaken thick *ₙ (scale *ₙ above slop)) +ₙ number 16 *ₙ (weaken thick *ₙ above spread))
    (solve 6 (λ f q h r k s.
    h ⊗ (f ⊗ int (pos 1152921504606855168) ⊖ int (pos 4) ⊗ (q ⊗ r))
    ≐ ((k ⊗ int (pos 1152921504606846976) ⊕ s ⊗ (int (pos 4) ⊗ (h ⊗ q))) ⊖ r ⊗ (int (pos 4) ⊗ (h ⊗ q))) ⊕ int (pos 1152921504606846976) ⊗ (f ⊗ h ⊖ k)
    ⊕ int (pos 4) ⊗ (h ⊗ (q ⊗ (int (pos 4) ⊖ s))) ⊕ int (pos 16) ⊗ (h ⊗ (int (pos 512) ⊗ f ⊖ q))) refl floor q0 h r k s)

moment-far : (floor q0 h r k s : ℤ) → pos 0 <ℤ h → pos 0 ≤ℤ q0 → s ≤ℤ pos 4 → q0 ≤ℤ (pos 512 *ℤ floor) → (pos 4 *ℤ k) ≤ℤ (floor *ℤ (h *ℤ h))
    → (r *ℤ (h *ℤ (h *ℤ q0))) ≤ℤ (k *ℤ one +ℤ s *ℤ (h *ℤ (h *ℤ q0))) → (pos 4 *ℤ (q0 *ℤ r)) ≤ℤ (floor *ℤ load_most)
moment-far floor q0 h r k s thick scale slop spread size far = at_most_over {k = h *ℤ h} (thick *ₚ thick)
    (number 4 *ₙ above far +ₙ number 1152921504606846976 *ₙ above size +ₙ number 4 *ₙ (weaken thick *ₙ (weaken thick *ₙ (scale *ₙ above slop)))
    +ₙ number 16 *ₙ (weaken thick *ₙ (weaken thick *ₙ above spread)))
    (solve 6 (λ f q h r k s.
    h ⊗ h ⊗ (f ⊗ int (pos 1152921504606855168) ⊖ int (pos 4) ⊗ (q ⊗ r))
    ≐ int (pos 4) ⊗ ((k ⊗ int (pos 1152921504606846976) ⊕ s ⊗ (h ⊗ (h ⊗ q))) ⊖ r ⊗ (h ⊗ (h ⊗ q))) ⊕ int (pos 1152921504606846976) ⊗ (f ⊗ (h ⊗ h) ⊖ int (pos 4) ⊗ k)
    ⊕ int (pos 4) ⊗ (h ⊗ (h ⊗ (q ⊗ (int (pos 4) ⊖ s)))) ⊕ int (pos 16) ⊗ (h ⊗ (h ⊗ (int (pos 512) ⊗ f ⊖ q)))) refl floor q0 h r k s)

-- from how far it reaches to the sum of its ends
ends-share : (floor q0 : ℤ) (low high : ℤ) → pos 0 ≤ℤ q0 → (pos 4 *ℤ (q0 *ℤ pos (ends.reach low high))) ≤ℤ (floor *ℤ load_most) → Within (floor *ℤ load_most) (q0 *ℤ (pos 2 *ℤ (low +ℤ high)))
unfolding ends.reach
ends-share floor q0 low high scale h =
    let r = pos (ends.reach low high) in
    let from : neg_ℤ (pos 2 *ℤ r) ≤ℤ (low +ℤ high) = omega (arith, ints) in
    let to : (low +ℤ high) ≤ℤ (pos 2 *ℤ r) = omega (arith, ints) in
    record {
      from = at_most (above h +ₙ number 2 *ₙ (scale *ₙ above from))
          (solve 4 (λ q r z m. q ⊗ (int (pos 2) ⊗ z) ⊖ minus m ≐ (m ⊖ int (pos 4) ⊗ (q ⊗ r)) ⊕ int (pos 2) ⊗ (q ⊗ (z ⊖ minus (int (pos 2) ⊗ r)))) refl q0 r (low +ℤ high) (floor *ℤ load_most));
      to = at_most (above h +ₙ number 2 *ₙ (scale *ₙ above to))
          (solve 4 (λ q r z m. m ⊖ q ⊗ (int (pos 2) ⊗ z) ≐ (m ⊖ int (pos 4) ⊗ (q ⊗ r)) ⊕ int (pos 2) ⊗ (q ⊗ (int (pos 2) ⊗ r ⊖ z))) refl q0 r (low +ℤ high) (floor *ℤ load_most));
    }

-- ---- what is enclosed
module _ {A : Type 0} {n : Numbers A} (laws : Lawful n) (sixty : n.scale ≡ 60) where
  pub one-is : pos (unit n) ≡ one
  one-is = ap (λ s. pos (2 ^ s)) sixty

  abbrev wide : ℕ
  wide = 512 * n.slop

  wide-most : pos wide ≤ℤ pos 2048
  wide-most = omega (arith, ints, laws.narrow)

  each-narrow : {z : Sym3 A} → NarrowMatrix 512 n z → close.EachNarrow n wide z
  each-narrow k = record { xx = k.xx; xy = k.xy; yy = k.yy; xs = k.xs; ys = k.ys; ss = k.ss }

  module _ {w : Wall A} {scale : Scale} {stock : List Item} {numbers : List ItemNo} (stands : StandsFor n w scale stock numbers) where
    pub spread : scale.q0 ≤ℤ (pos 512 *ℤ scale.floor)
    spread = stands.plies.catalogue.spread

    pub floor-above : pos 0 <ℤ scale.floor
    floor-above = let f = stands.plies.catalogue.floor in omega (arith, ints, f)

    pub scale-above : pos 0 <ℤ scale.q0
    scale-above = catalogue.scale-above stands.plies.catalogue numbers

    module _ (narrow : NarrowWall 512 n w) (y : Six ℤ) where
      close-a : close.MatrixClose n wide w.a (wall-matrices stands).a
      close-a = close.matrix-close n wide w.a (wall-matrices stands).a (wall-held stands).a (each-narrow narrow.a)

      close-b : close.MatrixClose n wide w.b (wall-matrices stands).b
      close-b = close.matrix-close n wide w.b (wall-matrices stands).b (wall-held stands).b (each-narrow narrow.b)

      close-d : close.MatrixClose n wide w.d (wall-matrices stands).d
      close-d = close.matrix-close n wide w.d (wall-matrices stands).d (wall-held stands).d (each-narrow narrow.d)

      of_total : (pos 3 *ℤ (total (sizes y) *ℤ total (sizes y))) ≤ℤ (pos 8 *ℤ weighed y)
      of_total = subst (λ t. (pos 3 *ℤ (total (sizes y) *ℤ total (sizes y))) ≤ℤ (pos 8 *ℤ t)) (sizes-weighed y) (total-square (sizes y))

      pub wall-softest : (scale.floor *ℤ (weighed y *ℤ gap)) ≤ℤ (pos 6 *ℤ (scale.q0 *ℤ work (forces_at (matrix_sums n w.a) (matrix_sums n w.b) (matrix_sums n w.d) y) y))
      wall-softest = soft scale.floor scale.q0 (pos wide) (close.energy n wide w (wall-matrices stands) close-a close-b close-d y) (weighed y) (total (sizes y) *ℤ total (sizes y))
          (weaken scale-above) (number wide) wide-most spread (weighed-above y) of_total
          (subst (λ u. (scale.floor *ℤ (pos 2 *ℤ u *ℤ weighed y)) ≤ℤ (pos 6 *ℤ (scale.q0 *ℤ close.energy n wide w (wall-matrices stands) close-a close-b close-d y) +ℤ pos 6 *ℤ (scale.q0 *ℤ (pos wide *ℤ (total (sizes y) *ℤ total (sizes y))))))
          one-is (close.softest n wide w (wall-matrices stands) close-a close-b close-d y scale.floor scale.q0 scale-above (plies-form stands.plies _ _ _ (wall-are stands))))

      pub wall-stiffest : work (forces_at (matrix_sums n w.a) (matrix_sums n w.b) (matrix_sums n w.d) y) y ≤ℤ ((pos 2 *ℤ one +ℤ pos 32768) *ℤ work y y)
      wall-stiffest = stiff (pos wide) (close.energy n wide w (wall-matrices stands) close-a close-b close-d y) (weighed y) (total (sizes y) *ℤ total (sizes y)) (work y y)
          (number wide) wide-most (weighed-above y) of_total (weighed-squares y)
          (subst (λ u. (pos 6 *ℤ close.energy n wide w (wall-matrices stands) close-a close-b close-d y) ≤ℤ (pos 2 *ℤ u *ℤ weighed y +ℤ pos 6 *ℤ (pos wide *ℤ (total (sizes y) *ℤ total (sizes y)))))
          one-is (close.stiffest n wide w (wall-matrices stands) close-a close-b close-d y scale.floor scale.q0 scale-above (plies-form stands.plies _ _ _ (wall-are stands))))

    -- ---- the load
    module _ {load : Load} (range : LoadInRange scale.floor w.h load) where
      is : IsPosed scale w.h load
      is = posed stands range

      thick : pos 0 <ℤ w.h
      thick = let t = is.thick in omega (arith, ints, t)

      slop : pos n.slop ≤ℤ pos 4
      slop = omega (arith, ints, laws.narrow)

      of-ratio : (k d : ℤ) → RatioRoom k d → (pos (reach n (n.calc.ratio k d)) *ℤ d) ≤ℤ (size_of k *ℤ one +ℤ pos n.slop *ℤ d)
      of-ratio k d room =
          let far = far_whole (reach n (n.calc.ratio k d)) (unsigned_abs d) (unsigned_abs k) (unit n) n.slop (laws.ratio k d room).far in
          let positive : size_of d ≡ d = let p = room.positive in omega (arith, ints, p) in
          subst (λ t. (pos (reach n (n.calc.ratio k d)) *ℤ t) ≤ℤ (size_of k *ℤ one +ℤ pos n.slop *ℤ t)) positive
          (subst (λ u. (pos (reach n (n.calc.ratio k d)) *ℤ size_of d) ≤ℤ (size_of k *ℤ u +ℤ pos n.slop *ℤ size_of d)) one-is far)

      force : (k : ℤ) → SizeWithin (scale.floor *ℤ w.h) k → Within (scale.floor *ℤ load_most) (scale.q0 *ℤ (pos 2 *ℤ ends_sum n (n.calc.ratio k (pos 4 *ℤ (w.h *ℤ scale.q0)))))
      force k size = ends-share scale.floor scale.q0 _ _ (weaken scale-above)
          (force-far scale.floor scale.q0 w.h (pos (reach n (n.calc.ratio k (pos 4 *ℤ (w.h *ℤ scale.q0))))) (size_of k) (pos n.slop) thick (weaken scale-above) slop spread size
          (of-ratio k (pos 4 *ℤ (w.h *ℤ scale.q0)) (force-room is size)))

      moment : (m : ℤ) → SizeWithin (scale.floor *ℤ (w.h *ℤ w.h)) (pos 8000 *ℤ m) → Within (scale.floor *ℤ load_most) (scale.q0 *ℤ (pos 2 *ℤ ends_sum n (n.calc.ratio (pos 2000 *ℤ m) (w.h *ℤ (w.h *ℤ scale.q0)))))
      moment m size = ends-share scale.floor scale.q0 _ _ (weaken scale-above)
          (moment-far scale.floor scale.q0 w.h (pos (reach n (n.calc.ratio (pos 2000 *ℤ m) (w.h *ℤ (w.h *ℤ scale.q0))))) (size_of (pos 2000 *ℤ m)) (pos n.slop) thick (weaken scale-above) slop spread
          (let quarter : pos 4 *ℤ size_of (pos 2000 *ℤ m) ≡ size_of (pos 8000 *ℤ m) = omega (arith, ints) in subst (λ t. t ≤ℤ (scale.floor *ℤ (w.h *ℤ w.h))) (sym quarter) size)
          (of-ratio (pos 2000 *ℤ m) (w.h *ℤ (w.h *ℤ scale.q0)) (moment-room is m size)))

      pub loads-most : EachWithin (scale.floor *ℤ load_most) (times scale.q0 (times (pos 2) (load_sums n (formulas.loads n.calc scale.q0 w.h load))))
      loads-most = record {
        ex = force load.nx range.nx;
        ey = force load.ny range.ny;
        g = force load.nxy range.nxy;
        kx = moment load.mx range.mx;
        ky = moment load.my range.my;
        kg = moment load.mxy range.mxy;
      }
