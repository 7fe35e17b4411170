use Rattle.std.proofs.Common.{List, ℕ, sym, subst}
use Rattle.lam_report.specs.inside.Pieces.{Kept, Handed, seen}
use Rattle.lam_report.proofs.Handing.{finished_well, finished_ill}
use Rattle.lam_report.proofs.pieces.Pieces.finish.Goals as goal

pub returns-in-Some-clause-written : goal.returns-in-Some-clause-written
returns-in-Some-clause-written g c start text h =
    let view = seen g.K.Sink.written g.K.Sink.faults g.K.Sink.stalls g.K.Sink.terms in
    let inside = subst (λ (k : Kept). Handed start (view c.args.sink.now) k.left k.fault text) (sym c.self.view_is) h in
    let kept = subst (λ (l : List ℕ). Handed start (view c.args.sink.now) l c.self.inside.fault text) (sym c.bytes.ensures) inside in
    finished_ill start (view c.args.sink.now) (view c.put_after.new.sink) c.bytes.result.now c.self.inside.fault c.put_after.result _ text c.in-Some.is c.put_after.ensures kept

pub returns-in-None-clause-written : goal.returns-in-None-clause-written
returns-in-None-clause-written g c start text h =
    let view = seen g.K.Sink.written g.K.Sink.faults g.K.Sink.stalls g.K.Sink.terms in
    let inside = subst (λ (k : Kept). Handed start (view c.args.sink.now) k.left k.fault text) (sym c.self.view_is) h in
    let kept = subst (λ (l : List ℕ). Handed start (view c.args.sink.now) l c.self.inside.fault text) (sym c.bytes.ensures) inside in
    finished_well start (view c.args.sink.now) (view c.put_after.new.sink) c.bytes.result.now c.self.inside.fault c.put_after.result text c.in-None.is c.put_after.ensures kept
