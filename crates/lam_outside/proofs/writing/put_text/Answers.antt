use Rattle.std.proofs.Common.{◌∙◌, ◌++◌, ap, sym, subst, append_assoc, arith}
use Rattle.std.proofs.KnownBytes.{Appends-trans}
use Rattle.std.proofs.lemmas.Result.{err_from_is_err_and}
use Rattle.std.specs.Slice.Iter.{chunks_rest}
use Rattle.lam_outside.specs.Told.{GrowsByPrefix}
use Rattle.lam_outside.proofs.Growth.{GrowsByPrefix-after, GrowsByPrefix-longer}
use Rattle.lam_outside.proofs.writing.put_text.Goals as goal

pub loop-piece-preserved : goal.loop-piece-preserved
loop-piece-preserved g c =
    let piece = c.in-Some.piece.now in
    let so_far = c.loop-piece.invariant.written in
    let step = c.in-Some.ensures.steps in
    record {
      size = step.0 ∙ c.loop-piece.invariant.size;
      faults = omega (arith, c.in_ok-put_all.ensures.faults_never_fall);
      stalls = c.in_ok-put_all.ensures.stalls_only_there (λ h. cc) ∙ c.loop-piece.invariant.stalls;
      terms = c.in_ok-put_all.ensures.terms ∙ c.loop-piece.invariant.terms;
      written = (
        so_far.0 ++ piece,
        so_far.1 ∙ ap (λ r. so_far.0 ++ r) step.1.0 ∙ sym (append_assoc so_far.0 piece _),
        Appends-trans _ _ _ so_far.0 piece so_far.2 c.in_ok-put_all.ensures.written,
      );
    }

pub returns-in_err-put_all-clause-written : goal.returns-in_err-put_all-clause-written
returns-in_err-put_all-clause-written g c =
    let so_far = c.loop-piece.invariant.written in
    let step = c.in-Some.ensures.steps in
    let p = err_from_is_err_and c.from_residual.result c.from_residual.ensures.1 in
    let before = g.K.Sink.written c.args.sink.now in
    let turn = g.K.Sink.written c.loop-piece.sink in
    let after = g.K.Sink.written c.put_all.new.sink in
    let left = chunks_rest c.loop-piece.piece-iterator in
    let cut = GrowsByPrefix-longer turn after c.in-Some.piece.now _ c.in_err-put_all.ensures.written in
    let part = subst (GrowsByPrefix turn after) (sym step.1.0) cut in
    rw p.1 (subst (GrowsByPrefix before after) (sym so_far.1) (GrowsByPrefix-after before turn after so_far.0 left so_far.2 part))
