use Rattle.std.proofs.Common.{◌∙◌, ◌<◌, length, ap, arith, length-drop}
use Rattle.std.proofs.lemmas.List.{take_rest}
use Rattle.lam_outside.proofs.Growth.{Appends-more}
use Rattle.lam_outside.proofs.writing.put_all.Goals as goal

pub loop-done-preserved : goal.loop-done-preserved
loop-done-preserved g c =
    let text = c.args.piece.now in
    let done = c.loop-done.done in
    let rest = take_rest text done in
    let grown = rw rest at c.in-Ok.ensures.written in
    let some : 0 < c.in-Ok.n = omega (arith, c.in-Ok.n-test.1) in
    record {
      within = omega (arith, c.in-Ok.ensures.bound, ap length rest, length-drop done text);
      faults = omega (arith, c.in-Ok.ensures.faults_never_fall);
      stalls = c.in-Ok.ensures.stalled.1 some ∙ c.loop-done.invariant.stalls;
      terms = c.in-Ok.ensures.terms ∙ c.loop-done.invariant.terms;
      written = Appends-more _ _ _ text done c.in-Ok.n c.loop-done.invariant.written grown;
    }
