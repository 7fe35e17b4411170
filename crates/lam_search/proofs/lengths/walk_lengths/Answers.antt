use Rattle.std.proofs.Common.{sym, ap, subst, length, arith}
use Rattle.lam_job.specs.JobData.{JobData}
use Rattle.lam_tree.specs.declared.node.Seat.TheVariants as seat
use Rattle.lam_tree.specs.Reading.{root}
use Rattle.lam_search.specs.declared.state.Flow.{Flow}
use Rattle.lam_search.specs.inside.Here.{Here, basis, basis_of}
use Rattle.lam_search.specs.inside.Held.{IsKept}
use Rattle.lam_search.specs.inside.Steps.{Walked}
use Rattle.lam_search.proofs.WalkSteps.{spanned-begin, spanned-more, read-whole, read-cut}
use Rattle.lam_search.proofs.Endings.{kept-nothing}
use Rattle.lam_search.proofs.Turns.{whole-only}
use Rattle.lam_search.proofs.lengths.walk_lengths.Goals as goal

pub loop-n-init : goal.loop-n-init
loop-n-init g c =
    let m = basis_of c.args.design.now.stock.now c.args.design.now.job.now in
    let none = ap length c.requires.tree in
    record {
      kept = kept-nothing m c.args.state.now c.requires.tree c.requires.best;
      few = omega (arith, none);
      spanned = spanned-begin m c.args.state.now;
      heard = omega (arith, none);
    }

pub walk-requires-clause-seat : goal.walk-requires-clause-seat
walk-requires-clause-seat g c =
    let same = ap (λ (j : JobData). j.limit) c.job.view_is in
    let less = c.loop-n-test.true in
    let most = c.requires.ready.are_bounds.valid.limit.greatest in
    let some = c.loop-n.auto.n in
    (omega (arith, some), omega (arith, same, less, most))

pub walk-requires-clause-hints : goal.walk-requires-clause-hints
walk-requires-clause-hints g c = c.no_hints.ensures (basis c.new-place.result) c.new-place.result.partial

pub walk-requires-clause-kept : goal.walk-requires-clause-kept
walk-requires-clause-kept g c =
    subst (λ (h : Here). IsKept (basis h) c.loop-n.state) (sym c.new-place.ensures) c.loop-n.invariant.kept

pub walk-requires-clause-few : goal.walk-requires-clause-few
walk-requires-clause-few g c = c.loop-n.invariant.few

pub walk-requires-clause-quiet : goal.walk-requires-clause-quiet
walk-requires-clause-quiet g c =
    let heard = c.loop-n.invariant.heard in
    let quiet = c.requires.quiet in
    omega (arith, heard, quiet)

pub returns-in-Cut-clause-kept : goal.returns-in-Cut-clause-kept
returns-in-Cut-clause-kept g c =
    subst (λ (h : Here). IsKept (basis h) c.walk.new.state) c.new-place.ensures c.in_ok-flow.ensures.kept

pub returns-in-Cut-clause-heard : goal.returns-in-Cut-clause-heard
returns-in-Cut-clause-heard g c =
    let heard = c.loop-n.invariant.heard in
    let own = c.walk.ensures.heard in
    omega (arith, heard, own)

pub returns-in-Cut-clause-searched : goal.returns-in-Cut-clause-searched
returns-in-Cut-clause-searched g c =
    let m = basis_of c.args.design.now.stock.now c.args.design.now.job.now in
    let n = c.loop-n.n in
    let same = ap (λ (j : JobData). j.limit) c.job.view_is in
    let less = c.loop-n-test.true in
    let walked = subst (λ (f : Flow). Walked m c.args.budget (seat.Length n) (root n) f c.loop-n.state c.walk.new.state) c.in-Cut.is
    (subst (λ (h : Here). Walked (basis h) c.args.budget (seat.Length n) h.partial c.in_ok-flow.flow c.loop-n.state c.walk.new.state) c.new-place.ensures
    c.in_ok-flow.ensures.walked) in
    (walked.0, read-cut m n c.args.state.now c.loop-n.state c.walk.new.state (omega (arith, same, less)) c.loop-n.invariant.spanned walked.1)

pub loop-n-preserved : goal.loop-n-preserved
loop-n-preserved g c =
    let m = basis_of c.args.design.now.stock.now c.args.design.now.job.now in
    let n = c.loop-n.n in
    let same = ap (λ (j : JobData). j.limit) c.job.view_is in
    let less = c.loop-n-test.true in
    let heard = c.loop-n.invariant.heard in
    let own = c.walk.ensures.heard in
    record {
      kept = subst (λ (h : Here). IsKept (basis h) c.walk.new.state) c.new-place.ensures c.in_ok-flow.ensures.kept;
      few = c.walk.ensures.few;
      spanned = spanned-more m n c.args.state.now c.loop-n.state c.walk.new.state (omega (arith, same, less)) c.loop-n.invariant.spanned
          (whole-only m c.args.budget (seat.Length n) (root n) c.in_ok-flow.flow c.loop-n.state c.walk.new.state c.in_default.not-Cut
          (subst (λ (h : Here). Walked (basis h) c.args.budget (seat.Length n) h.partial c.in_ok-flow.flow c.loop-n.state c.walk.new.state) c.new-place.ensures
          c.in_ok-flow.ensures.walked));
      heard = omega (arith, heard, own);
    }

pub returns-clause-searched : goal.returns-clause-searched
returns-clause-searched g c =
    let m = basis_of c.args.design.now.stock.now c.args.design.now.job.now in
    let same = ap (λ (j : JobData). j.limit) c.job.view_is in
    let past = c.loop-n-test.false in
    read-whole m c.loop-n.n c.args.state.now c.loop-n.state (omega (arith, same, past)) c.loop-n.invariant.spanned
