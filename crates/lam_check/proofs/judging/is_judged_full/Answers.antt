use Rattle.std.proofs.Common.{subst}
use Rattle.lam_judge.specs.Judgements.{IsSaid}
use Rattle.lam_answers.proofs.Judged.{judged_so}
use Rattle.lam_check.proofs.judging.is_judged_full.Goals as goal

pub returns-clause-so : goal.returns-clause-so
returns-clause-so c = λ best it.
    let stock = c.args.stock.now in
    let job = c.args.job.now in
    judged_so stock job best c.args.partial.now (c.is_full.ensures.0 c.if-not-is_full.false) c.judge_by.result c.args.word
    (c.is_word.ensures.0 it) (subst (λ l. IsSaid stock job l c.judge_by.result) c.complete-listed.ensures.value c.judge_by.ensures.so)
