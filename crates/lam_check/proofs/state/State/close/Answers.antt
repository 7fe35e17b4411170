use Rattle.std.proofs.Common.{◌≡◌, sym, ◌∙◌, ap, true, false}
use Rattle.lam_tree.specs.Reading.{visit}
use Rattle.lam_check.specs.declared.cursor.Cursor.{Cursor}
use Rattle.lam_check.specs.inside.Machine.{front, resume}
use Rattle.lam_check.proofs.Seats.{at_partial, leaf-reads}
use Rattle.lam_check.proofs.LineSteps.{leaf_cause}
use Rattle.lam_check.proofs.state.State.close.Goals as goal

pub closes-requires-clause-partial : goal.closes-requires-clause-partial
closes-requires-clause-partial g c = at_partial (g.P.Problem.basis c.args.problem.now) c.args.self.now.cursor c.requires.at

pub returns-then-not-closes-clause-err : goal.returns-then-not-closes-clause-err
returns-then-not-closes-clause-err g c =
    let m = (g.P.Problem.basis c.args.problem.now) in
    let at = c.args.self.now.cursor in
    record {
      reads = λ rest. (resume m at.partial.n at.splits (front at.partial.prefix) rest, leaf-reads m at c.requires.at c.args.word rest c.requires.leaf);
      unsound = λ sound. (let it : true ≡ false = sym ((c.closes.ensures.value c.args.self.now.incumbent).1 sound) ∙ c.if-not-closes.true in cc);
      cause_is = sym (leaf_cause m c.args.word c.requires.leaf);
    }

pub returns-clause-ok : goal.returns-clause-ok
returns-clause-ok g c =
    let m = (g.P.Problem.basis c.args.problem.now) in
    let at = c.args.self.now.cursor in
    let it = c.if-not-closes.false in
    record {
      reads = λ rest. leaf-reads m at c.requires.at c.args.word rest c.requires.leaf
          ∙ ap (λ (k : Cursor). visit at.partial c.args.word (resume m k.partial.n k.splits (front k.partial.prefix) rest)) (sym c.keep.ensures.cursor)
          ∙ ap (visit at.partial c.args.word) (c.leave.ensures.reads rest);
      sound = (c.closes.ensures.value c.args.self.now.incumbent).0 it;
      so = c.closes.ensures.so it;
      incumbent = c.keep.ensures.incumbent;
      named = c.keep.ensures.named;
      settled = c.leave.ensures.settled;
    }
