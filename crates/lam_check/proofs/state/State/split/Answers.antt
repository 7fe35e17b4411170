use Rattle.std.proofs.Common.{◌≡◌, refl, sym, ◌∙◌, true, false}
use Rattle.lam_check.proofs.Seats.{at_partial, split-read}
use Rattle.lam_check.proofs.state.State.split.Goals as goal

pub may_split-requires-clause-partial : goal.may_split-requires-clause-partial
may_split-requires-clause-partial g c = at_partial (g.P.Problem.basis c.args.problem.now) c.args.self.now.cursor c.requires

pub returns-then-not-may_split-clause-err : goal.returns-then-not-may_split-clause-err
returns-then-not-may_split-clause-err g c = λ best.
    record {
      reads = λ rest. split-read (g.P.Problem.basis c.args.problem.now) c.args.self.now.cursor c.requires rest;
      unsound = λ sound. (let it : true ≡ false = sym (c.may_split.ensures.1 sound) ∙ c.if-not-may_split.true in cc);
      cause_is = refl;
    }
