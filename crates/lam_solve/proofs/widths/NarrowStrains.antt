-- How wide the strains round a centre are where the turns of a narrow wall end: by the scale and the floor, and by their
-- greatest spread.
use Rattle.std.proofs.Common.{◌≡◌, refl, sym, subst, ◌*◌, ◌≤◌, ℤ, pos, ◌*ℤ◌, ◌≤ℤ◌, arith}
use Rattle.std.proofs.lemmas.Int.{ints}
use Rattle.lam_fraction.specs.numbers.Numbers.{Numbers, Lawful, width}
use Rattle.lam_fraction.proofs.Expression.{◌⊖◌, ◌⊗◌}
use Rattle.lam_fraction.proofs.Integers.{above, at_most, number, solve, ◌*ₙ◌}
use Rattle.lam_fraction.proofs.Solver.{◌≐◌}
use Rattle.lam_lamina.specs.Held.{IsNarrow}
use Rattle.lam_stock.specs.declared.scale.Scale.{Scale}
use Rattle.lam_stock.specs.LimitNumbers.{greatest_spread}
use Rattle.lam_job.specs.declared.load.Load.{Load}
use Rattle.lam_wall.specs.declared.wall.Wall.{Wall}
use Rattle.lam_wall.specs.Assembled.{NarrowWall}
use Rattle.lam_solve.specs.declared.strains.Guess.{Guess}
use Rattle.lam_solve.specs.declared.strains.Strains.{Strains}
use Rattle.lam_solve.specs.Widths.{AreNarrow, AreNarrowByScale, residual_slops}
use Rattle.lam_solve.specs.inside.Enclosed.{enclosed}
use Rattle.lam_solve.specs.inside.Formulas as formulas
use Rattle.lam_solve.specs.inside.Parts.{IsPosed}
use Rattle.lam_solve.specs.inside.Residual.{residual}
use Rattle.lam_solve.specs.inside.Settled.{Settled}
use Rattle.lam_solve.proofs.Posed.{force-room, moment-room}
use Rattle.lam_solve.proofs.widths.Rounds.{enclosed-narrow}
use Rattle.lam_solve.proofs.widths.SmallMiddles.{NarrowSix, residual-small}

module _ {A : Type 0} {n : Numbers A} (laws : Lawful n) where
  narrow-loads : {scale : Scale} {h : ℤ} {load : Load} → IsPosed scale h load → NarrowSix n 1 (formulas.loads n.calc scale.q0 h load)
  narrow-loads {scale} {h} {load} is = record {
    ex = one_slop _ (laws.ratio load.nx (pos 4 *ℤ (h *ℤ scale.q0)) (force-room is is.range.nx)).narrow;
    ey = one_slop _ (laws.ratio load.ny (pos 4 *ℤ (h *ℤ scale.q0)) (force-room is is.range.ny)).narrow;
    g = one_slop _ (laws.ratio load.nxy (pos 4 *ℤ (h *ℤ scale.q0)) (force-room is is.range.nxy)).narrow;
    kx = one_slop _ (laws.ratio (pos 2000 *ℤ load.mx) (h *ℤ (h *ℤ scale.q0)) (moment-room is load.mx is.range.mx)).narrow;
    ky = one_slop _ (laws.ratio (pos 2000 *ℤ load.my) (h *ℤ (h *ℤ scale.q0)) (moment-room is load.my is.range.my)).narrow;
    kg = one_slop _ (laws.ratio (pos 2000 *ℤ load.mxy) (h *ℤ (h *ℤ scale.q0)) (moment-room is load.mxy is.range.mxy)).narrow;
  }
    where
      one_slop : (z : A) → width n z ≤ n.slop → IsNarrow 1 n z
      one_slop z h = omega (arith, h)

  pub settled-narrow : (w : Wall A) {scale : Scale} {load : Load} → IsPosed scale w.h load → NarrowWall 512 n w → (c : Guess)
      → Settled n c (residual n w (formulas.loads n.calc scale.q0 w.h load) c) → AreNarrowByScale n scale (enclosed n scale c (residual n w (formulas.loads n.calc scale.q0 w.h load) c))
  settled-narrow w {scale} {load} is narrow c settled =
      λ radius room. enclosed-narrow laws c (residual n w (formulas.loads n.calc scale.q0 w.h load) c) (residual_slops * n.slop) radius is.scaled
      (residual-small laws c settled.sum narrow (narrow-loads is) settled.middles) room

  -- q0 is at most 512 times the floor, so that 512 times 6402 slops are a radius
  pub narrow-by-spread : (scale : Scale) {s : Strains A} → scale.q0 ≤ℤ (greatest_spread *ℤ scale.floor) → AreNarrowByScale n scale s → AreNarrow n s
  narrow-by-spread scale spread by_scale =
      let size : pos (512 * residual_slops * n.slop) ≡ greatest_spread *ℤ pos (residual_slops * n.slop) = omega (arith, ints) in
      let times : (pos (residual_slops * n.slop) *ℤ scale.q0) ≤ℤ ((greatest_spread *ℤ pos (residual_slops * n.slop)) *ℤ scale.floor) =
      at_most (number (residual_slops * n.slop) *ₙ above spread) (solve 4 (λ s k q f. (s ⊗ k) ⊗ f ⊖ k ⊗ q ≐ k ⊗ (s ⊗ f ⊖ q)) refl greatest_spread (pos (residual_slops * n.slop)) scale.q0 scale.floor) in
      let by = by_scale (512 * residual_slops * n.slop) (subst (λ t. (pos (residual_slops * n.slop) *ℤ scale.q0) ≤ℤ (t *ℤ scale.floor)) (sym size) times) in
      let some = laws.wide in
      record {
        ex = omega (arith, by.ex, some);
        ey = omega (arith, by.ey, some);
        g = omega (arith, by.g, some);
        kx = omega (arith, by.kx, some);
        ky = omega (arith, by.ky, some);
        kg = omega (arith, by.kg, some);
      }
