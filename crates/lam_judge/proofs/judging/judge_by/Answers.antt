use Rattle.std.proofs.Common.{refl, sym, ◌∙◌, ap, subst, ◌≤◌, List, length, w64}
use Rattle.std.proofs.lemmas.Int.{to_z-of_z}
use Rattle.lam_stock.specs.declared.item.ItemNo.{ItemNo}
use Rattle.lam_job.specs.JobData.{JobData}
use Rattle.lam_job.specs.Ranges.{IsJob}
use Rattle.lam_job.specs.Schedule.{items_of}
use Rattle.lam_judge.proofs.Decided.{decided}
use Rattle.lam_judge.proofs.FirstBroken.{none-broken, some-broken}
use Rattle.lam_judge.proofs.JudgedSteps.{first-out-is, first-out-said, judged-broken, judged-out}
use Rattle.lam_judge.proofs.StrengthSteps.{layup-fit, layup-range, some-plies, strength-so, strength-value}
use Rattle.lam_judge.proofs.WallsLaid.{thickness-fits}
use Rattle.lam_judge.proofs.judging.judge_by.Goals as goal

pub returns-in-Some-clause-value : goal.returns-in-Some-clause-value
returns-in-Some-clause-value c =
    let rule = c.in-Some.rule in
    let within = c.in-Some.ensures.number in
    let job = c.args.job.now in
    judged-broken c.args.stock.now job c.args.listed.now rule.0 (some-broken c.args.stock.now job c.args.listed.now rule.0 within.0 within.1 c.in-Some.ensures.least)

pub returns-in-Some-first_out-clause-value : goal.returns-in-Some-first_out-clause-value
returns-in-Some-first_out-clause-value c =
    let stock = c.args.stock.now in
    let job = c.args.job.now in
    let listed = c.args.listed.now in
    let cases = c.items.ensures ∙ ap (λ (j : JobData). j.cases) c.job.view_is in
    let stored = to_z-of_z w64 c.of-layup.result.h (thickness-fits c.of-layup.ensures.layup) in
    let plies = c.of-layup.ensures.plies in
    let is = first-out-is stock job listed c.of-layup.result.plies c.scale.result c.of-layup.result.h _ c.items.result.now c.first_out.result (ap (items_of stock) plies ∙ c.wall_plies-plies.ensures.wall stock) c.scale.ensures.value c.of-layup.ensures.layup.thickness stored cases c.first_out.ensures in
    judged-out stock job listed c.in-Some-first_out.case (none-broken stock job listed (c.in_default.ensures.none.0 refl)) (sym is ∙ c.in-Some-first_out.is)

pub returns-in-Some-first_out-clause-so : goal.returns-in-Some-first_out-clause-so
returns-in-Some-first_out-clause-so c =
    let stock = c.args.stock.now in
    let job = c.args.job.now in
    let listed = c.args.listed.now in
    let cases = c.items.ensures ∙ ap (λ (j : JobData). j.cases) c.job.view_is in
    let stored = to_z-of_z w64 c.of-layup.result.h (thickness-fits c.of-layup.ensures.layup) in
    let plies = c.of-layup.ensures.plies in
    let is = first-out-is stock job listed c.of-layup.result.plies c.scale.result c.of-layup.result.h _ c.items.result.now c.first_out.result (ap (items_of stock) plies ∙ c.wall_plies-plies.ensures.wall stock) c.scale.ensures.value c.of-layup.ensures.layup.thickness stored cases c.first_out.ensures in
    (c.in_default.ensures.none.0 refl, first-out-said stock job listed c.in-Some-first_out.case (sym is ∙ c.in-Some-first_out.is))

pub of-layup-requires-clause-some : goal.of-layup-requires-clause-some
of-layup-requires-clause-some c =
    subst (λ (plies : List ItemNo). 1 ≤ length plies) (sym c.wall_plies-plies.ensures.plies) (some-plies c.args.job.now.liner_in_wall c.args.job.now.liner c.args.listed.now c.requires.schedule.some)

pub of-layup-requires-clause-known : goal.of-layup-requires-clause-known
of-layup-requires-clause-known c = c.wall_plies-plies.ensures.known c.args.stock.now c.requires.schedule.job_for c.requires.schedule.known

pub by_strength-requires-clause-range : goal.by_strength-requires-clause-range
by_strength-requires-clause-range c =
    let stock = c.args.stock.now in
    let job = c.args.job.now in
    let listed = c.args.listed.now in
    let cases = c.items.ensures ∙ ap (λ (j : JobData). j.cases) c.job.view_is in
    let stored = to_z-of_z w64 c.of-layup.result.h (thickness-fits c.of-layup.ensures.layup) in
    let plies = c.of-layup.ensures.plies in
    let is = first-out-is stock job listed c.of-layup.result.plies c.scale.result c.of-layup.result.h _ c.items.result.now c.first_out.result (ap (items_of stock) plies ∙ c.wall_plies-plies.ensures.wall stock) c.scale.ensures.value c.of-layup.ensures.layup.thickness stored cases c.first_out.ensures in
    layup-range stock job listed c.of-layup.result c.of-layup.ensures.layup (c.of-layup.ensures.plies ∙ c.wall_plies-plies.ensures.plies) (sym is ∙ c.in_default-first_out.is)

pub by_strength-requires-clause-fit : goal.by_strength-requires-clause-fit
by_strength-requires-clause-fit c =
    layup-fit c.args.stock.now c.args.job.now c.args.listed.now c.of-layup.result c.of-layup.ensures.layup (c.of-layup.ensures.plies ∙ c.wall_plies-plies.ensures.plies) (c.in_default.ensures.none.0 refl)

pub returns-clause-value : goal.returns-clause-value
returns-clause-value c =
    let stock = c.args.stock.now in
    let job = c.args.job.now in
    let listed = c.args.listed.now in
    let cases = c.items.ensures ∙ ap (λ (j : JobData). j.cases) c.job.view_is in
    let stored = to_z-of_z w64 c.of-layup.result.h (thickness-fits c.of-layup.ensures.layup) in
    let plies = c.of-layup.ensures.plies in
    let is = first-out-is stock job listed c.of-layup.result.plies c.scale.result c.of-layup.result.h _ c.items.result.now c.first_out.result (ap (items_of stock) plies ∙ c.wall_plies-plies.ensures.wall stock) c.scale.ensures.value c.of-layup.ensures.layup.thickness stored cases c.first_out.ensures in
    strength-value stock job listed c.of-layup.result c.of-layup.ensures.layup (c.of-layup.ensures.plies ∙ c.wall_plies-plies.ensures.plies) (c.in_default.ensures.none.0 refl) (sym is ∙ c.in_default-first_out.is)
    c.by_strength.result c.by_strength.ensures

pub returns-clause-so : goal.returns-clause-so
returns-clause-so c =
    let stock = c.args.stock.now in
    let job = c.args.job.now in
    let listed = c.args.listed.now in
    let cases = c.items.ensures ∙ ap (λ (j : JobData). j.cases) c.job.view_is in
    let stored = to_z-of_z w64 c.of-layup.result.h (thickness-fits c.of-layup.ensures.layup) in
    let plies = c.of-layup.ensures.plies in
    let is = first-out-is stock job listed c.of-layup.result.plies c.scale.result c.of-layup.result.h _ c.items.result.now c.first_out.result (ap (items_of stock) plies ∙ c.wall_plies-plies.ensures.wall stock) c.scale.ensures.value c.of-layup.ensures.layup.thickness stored cases c.first_out.ensures in
    strength-so stock job listed c.of-layup.result c.of-layup.ensures.layup (c.of-layup.ensures.plies ∙ c.wall_plies-plies.ensures.plies) (c.in_default.ensures.none.0 refl) (sym is ∙ c.in_default-first_out.is)
    c.by_strength.result c.by_strength.ensures (subst IsJob c.job.view_is c.job.invariant)

pub returns-in-Some-clause-decided : goal.returns-in-Some-clause-decided
returns-in-Some-clause-decided c = decided c.args.stock.now c.args.job.now c.args.listed.now _ (c.in-Some.ensures.least)

pub returns-in-Some-first_out-clause-decided : goal.returns-in-Some-first_out-clause-decided
returns-in-Some-first_out-clause-decided c = decided c.args.stock.now c.args.job.now c.args.listed.now _ (returns-in-Some-first_out-clause-so c)

pub returns-clause-decided : goal.returns-clause-decided
returns-clause-decided c = decided c.args.stock.now c.args.job.now c.args.listed.now _ (returns-clause-so c)
