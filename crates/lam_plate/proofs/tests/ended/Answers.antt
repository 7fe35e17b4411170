use Rattle.std.proofs.Common.{refl, sym, ◌∙◌, ap, subst, ℕ, pos, ◌<◌}
use Rattle.lam_number.specs.inside.FixNumbers.{fix_numbers}
use Rattle.lam_job.specs.Schedule.{wall_of}
use Rattle.lam_plate.specs.NearFactor.{IsFine}
use Rattle.lam_sharp.specs.NearOne.{past_ratio}
use Rattle.lam_plate.specs.Panels.{IsFitWall, BucklesBelow}
use Rattle.lam_plate.specs.inside.Formulas as by
use Rattle.lam_plate.proofs.tests.ended.Goals as goal

pub printed_panel-requires : goal.printed_panel-requires
printed_panel-requires c = subst (λ q. IsFitWall (fix_numbers 60) q c.alike-wall.result) (sym c.scale.ensures.value) c.alike-wall.ensures.fit

pub returns : goal.returns
returns c = λ less.
    let k = c.alike-wall.ensures.fit in
    let fine : IsFine (fix_numbers 60) c.alike-wall.result = record { scale = refl; narrow = c.alike-wall.ensures.narrow } in
    let value = c.printed_panel.ensures.value ∙ ap (λ q. by.printed_panel (fix_numbers 60) q.q0 c.alike-wall.result c.args.panel.now) c.scale.ensures.value in (
      k.0,
      k.1,
      k.2,
      subst (λ (r : ℕ). BucklesBelow (wall_of k.0 k.1 k.2) c.args.panel.now (past_ratio (pos r))) (sym value)
          (c.printed_panel_ends.ensures k.0 k.1 k.2 _ c.alike-wall.result c.args.panel.now k.3 fine c.in_range.ensures (subst (λ (r : ℕ). r < 20000) value less)),
    )
