use Rattle.std.proofs.Common.{ap, subst, ◌∙◌, arith}
use Rattle.lam_job.proofs.Completions.{completes_full}
use Rattle.lam_judge.specs.Judgements.{IsSaid}
use Rattle.lam_judge.specs.inside.Judged.{judged}
use Rattle.lam_search.proofs.JudgedWords.{held-judged}
use Rattle.lam_search.proofs.closings.judged_at.Goals as goal

pub judge_by-requires-clause-schedule : goal.judge_by-requires-clause-schedule
judge_by-requires-clause-schedule c =
    let part = c.requires.partial in
    let few = part.few in
    let completes = c.complete-listed.ensures.completes c.args.design.now.stock.now part.some c.requires.short part.known in
    let long = completes.long in
    record {
      job_for = c.requires.ready.job_for;
      some = completes.sequence.some;
      few = omega (arith, long, few);
      known = completes.sequence.known;
    }

pub returns : goal.returns
returns c =
    let stock = c.args.design.now.stock.now in
    let job = c.args.design.now.job.now in
    let p = c.args.partial.now in
    let is = c.complete-listed.ensures.value in
    let bounds = c.requires.ready.are_bounds in
    held-judged stock job bounds.valid bounds.liner c.args.incumbent p c.requires.partial c.requires.short c.requires.full c.judge_by.result c.word_of.result
    c.word_of.ensures (c.judge_by.ensures.value ∙ ap (judged stock job) is) (subst (λ l. IsSaid stock job l c.judge_by.result) is c.judge_by.ensures.so)
    (completes_full stock job p c.requires.partial.some c.requires.short c.requires.partial.known c.requires.full) c.requires.small
