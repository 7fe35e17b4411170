use Rattle.std.proofs.Common.{ap, ◌∙◌, w64}
use Rattle.std.proofs.lemmas.Int.{to_z-of_z}
use Rattle.lam_fraction.proofs.numbers.Machine.{stored-64}
use Rattle.lam_stock.specs.declared.scale.Scale.{Scale}
use Rattle.lam_job.specs.JobData.{JobData}
use Rattle.lam_job.specs.Wall.{wall_thickness}
use Rattle.laminate.proofs.RangeFacts.{IsAsked, all_asked, first_asked}
use Rattle.laminate.proofs.range.first_out.Goals as goal

pub thickness-h-requires : goal.thickness-h-requires
thickness-h-requires c =
    record { known = c.wall_plies-wall.ensures.known c.args.stock.now c.requires.job_for c.requires.known }

pub returns-clause-none : goal.returns-clause-none
returns-clause-none c =
    let a = c.args in
    let h = stored-64 c.thickness-h.result in
    let asked : IsAsked a.stock.now a.job.now a.listed.now c.scale.result.floor h c.items.result.now =
    record {
      floor_is = ap (λ (s : Scale). s.floor) c.scale.ensures.value;
      thickness_is = to_z-of_z w64 c.thickness-h.result (record { sfits = c.thickness-h.type_inv })
          ∙ (c.thickness-h.ensures.value ∙ ap wall_thickness (c.wall_plies-wall.ensures.wall a.stock.now));
      cases_are = c.items.ensures ∙ ap (λ (j : JobData). j.cases) c.job.view_is;
    } in
    all_asked a.stock.now a.job.now a.listed.now c.scale.result.floor h c.items.result.now c.first_beyond.result asked c.first_beyond.ensures.none

pub returns-clause-first : goal.returns-clause-first
returns-clause-first c =
    let a = c.args in
    let h = stored-64 c.thickness-h.result in
    let asked : IsAsked a.stock.now a.job.now a.listed.now c.scale.result.floor h c.items.result.now =
    record {
      floor_is = ap (λ (s : Scale). s.floor) c.scale.ensures.value;
      thickness_is = to_z-of_z w64 c.thickness-h.result (record { sfits = c.thickness-h.type_inv })
          ∙ (c.thickness-h.ensures.value ∙ ap wall_thickness (c.wall_plies-wall.ensures.wall a.stock.now));
      cases_are = c.items.ensures ∙ ap (λ (j : JobData). j.cases) c.job.view_is;
    } in
    first_asked a.stock.now a.job.now a.listed.now c.scale.result.floor h c.items.result.now c.first_beyond.result asked c.first_beyond.ensures.first
