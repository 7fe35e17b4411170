use Rattle.std.proofs.Common.{ap, ◌∙◌}
use Rattle.lam_job.specs.JobData.{JobData}
use Rattle.lam_bounds.proofs.PlainSteps.{plain-short, plain-short_so}
use Rattle.lam_bounds.proofs.plain.short_by.Goals as goal

pub returns-clause-value : goal.returns-clause-value
returns-clause-value c =
    plain-short c.requires.partial c.kept.ensures.catalogue c.requires.liner c.kept.ensures.thin
    c.args.w.now c.args.carriers.now c.requires.carriers c.args.case c.index-items-case.result c.items.result.now (c.items.ensures ∙ ap (λ (j : JobData). j.cases) c.job.view_is) c.requires.case c.index-items-case.is
    c.carried-carried.result (c.carried-carried.ensures.value c.args.w.now c.requires.carriers) c.demand-demand.result c.demand-demand.ensures.value
    c.open_places.result c.open_places.ensures.value c.is_short.result c.is_short.ensures

pub returns-clause-so : goal.returns-clause-so
returns-clause-so c =
    plain-short_so c.requires.partial c.kept.ensures.catalogue c.requires.liner c.kept.ensures.thin
    c.args.w.now c.args.carriers.now c.requires.carriers c.args.case c.index-items-case.result c.items.result.now (c.items.ensures ∙ ap (λ (j : JobData). j.cases) c.job.view_is) c.requires.case c.index-items-case.is
    c.carried-carried.result (c.carried-carried.ensures.value c.args.w.now c.requires.carriers) c.demand-demand.result c.demand-demand.ensures.value
    c.open_places.result c.open_places.ensures.value c.is_short.result c.is_short.ensures
