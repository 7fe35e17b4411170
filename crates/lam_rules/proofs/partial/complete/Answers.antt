use Rattle.std.proofs.Common.{sym, subst, ◌∙◌}
use Rattle.lam_job.specs.Partial.{Completes}
use Rattle.lam_job.proofs.Completions.{completes_full, only_completion}
use Rattle.lam_rules.proofs.partial.complete.Goals as goal

pub returns-clause-completes : goal.returns-clause-completes
returns-clause-completes c = λ stock some short known.
    subst (Completes stock c.args.job.now c.args.partial.now) (sym c.fixed_plies.ensures.plies)
    (completes_full stock c.args.job.now c.args.partial.now some short known c.requires.full)

pub returns-clause-only : goal.returns-clause-only
returns-clause-only c = λ stock listed completes.
    only_completion stock c.args.job.now c.args.partial.now listed c.requires.full completes ∙ sym c.fixed_plies.ensures.plies
