use Rattle.std.proofs.Common.{◌+◌, arith}
use Rattle.std.proofs.lemmas.Option.{slice_get_within}
use Rattle.lam_bounds.proofs.RunningSteps.{share_of, sums-done, sums-rest}
use Rattle.lam_bounds.proofs.TriedSteps.{length-more}
use Rattle.lam_bounds.proofs.fixed.Fixed.add.Goals as goal

pub loop-k-preserved : goal.loop-k-preserved
loop-k-preserved c =
    let i = c.loop-k.invariant in
    let k = c.loop-k.k in
    let g = share_of c.args.places c.args.item.0 in
    record {
      cost = i.cost;
      places = i.places;
      long = length-more c.loop-k.self.carried k _ 12 i.long;
      first = i.first;
      done = sums-done (λ m n. m + n) g c.args.bounds.now.tried c.args.self.now.carried c.loop-k.self.carried k c.so_many.result i.long c.loop-k-test.true c.so_many.ensures.value i.rest i.done;
      rest = sums-rest (λ m n. m + n) g c.args.bounds.now.tried c.args.self.now.carried c.loop-k.self.carried k c.so_many.result i.long c.loop-k-test.true c.so_many.ensures.value i.rest;
    }

pub returns-clause-carried : goal.returns-clause-carried
returns-clause-carried c = λ k t at.
    let within = slice_get_within c.args.bounds.now.tried k t at in
    c.loop-k.invariant.done k t (omega (arith, within, c.requires.long)) at

pub overflow_add-self : goal.overflow_add-self
overflow_add-self c =
    let i = c.loop-k.invariant in
    let room = c.requires.room c.loop-k.k 0 (omega (arith, i.first, c.loop-k-test.true)) in
    let same = i.rest c.loop-k.k (omega arith) in
    omega (arith, room, same, c.so_many.ensures.small)
