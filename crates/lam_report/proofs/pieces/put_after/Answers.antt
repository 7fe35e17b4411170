use Rattle.std.proofs.Common.{None, sym, subst}
use Rattle.lam_report.specs.inside.Pieces.{Puts, seen}
use Rattle.lam_report.proofs.Handing.{put_piece}
use Rattle.lam_report.proofs.pieces.put_after.Goals as goal

pub returns-in-None : goal.returns-in-None
returns-in-None g c =
    let view = seen g.K.Sink.written g.K.Sink.faults g.K.Sink.stalls g.K.Sink.terms in
    let old = view c.args.sink.now in
    let new = view c.put_all.new.sink in
    let puts = put_piece old new c.put_all.result c.args.piece.now (record {
      faults = c.put_all.ensures.faults_never_fall;
      stalls = c.put_all.ensures.stalls_never_fall;
      failed = c.put_all.ensures.failed;
      took_none = c.put_all.ensures.took_none;
      stalls_only_there = c.put_all.ensures.stalls_only_there;
      terms = c.put_all.ensures.terms;
      written = c.put_all.ensures.written;
    }) in
    subst (λ f. Puts old f new c.err.result c.args.piece.now) (sym c.in-None.is)
    (subst (λ f. Puts old None new f c.args.piece.now) (sym c.err.ensures.value) puts)
