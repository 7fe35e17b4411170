use Rattle.std.proofs.Common.{◌<◌, ◌≤◌, string_bytes, refl, arith}
use Rattle.lam_sample.proofs.TextLines.{draws_more, draws_whole, text_begun, text_more, text_whole}
use Rattle.lam_sample.proofs.catalogue.records.Goals as goal

pub loop-number-init : goal.loop-number-init
loop-number-init c = record {
  least = omega arith;
  most = omega arith;
  text = text_begun (string_bytes c.in_ok-text.text) c.args.draws.now c.in_ok-text.ensures.ok;
  state = refl;
}

pub loop-number-preserved : goal.loop-number-preserved
loop-number-preserved c =
    let k = c.loop-number.number in
    let less : k < 7 = omega (arith, c.loop-number-test.true) in
    let so_far = c.loop-number.invariant in
    record {
      least = omega arith;
      most = omega (arith, less);
      text = text_more (string_bytes c.loop-number.text) (string_bytes c.put_item.new.text) _ k c.loop-number.draws c.draw_item.new.draws c.draw_item.result less
          so_far.text c.draw_item.ensures.value c.draw_item.ensures.state c.in_ok-put_item.ensures;
      state = draws_more k c.args.draws.now c.loop-number.draws c.draw_item.new.draws so_far.least so_far.state c.draw_item.ensures.state;
    }

pub returns-clause-text : goal.returns-clause-text
returns-clause-text c =
    let done : 7 ≤ c.loop-number.number = omega (arith, c.loop-number-test.false) in
    text_whole (string_bytes c.loop-number.text) _ c.loop-number.number c.loop-number.draws done c.loop-number.invariant.text

pub returns-clause-state : goal.returns-clause-state
returns-clause-state c =
    let done : 7 ≤ c.loop-number.number = omega (arith, c.loop-number-test.false) in
    draws_whole c.loop-number.number c.args.draws.now c.loop-number.draws done c.loop-number.invariant.most c.loop-number.invariant.state
