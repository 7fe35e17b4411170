use Rattle.std.proofs.Common.{length, ◌∙◌, lit<, arith}
use Rattle.std.proofs.lemmas.Iterator.Consumers.{YieldsList-end, YieldsList-turn}
use Rattle.std.proofs.lemmas.Iterator.Splits.{YieldsList-from_str_split}
use Rattle.std.proofs.lemmas.List.{length_push}
use Rattle.laminate.specs.Schedule.{names_of}
use Rattle.laminate.proofs.Listings.{all_listed, listed_all, one_listed, one_refused}
use Rattle.laminate.proofs.schedule.plies_of.Goals as goal

pub list-requires : goal.list-requires
list-requires c =
    let turn = YieldsList-turn (YieldsList-from_str_split 44 c.args.word.now (lit< tt) (cc) (cc) (cc)) c.loop-name.yielded _ c.loop-name.yielded_by _ _ c.in-Some.name c.in-Some.is c.next.ensures.steps in
    omega (arith, turn.0, c.loop-name.invariant.number, c.requires)

pub loop-name-preserved : goal.loop-name-preserved
loop-name-preserved c =
    let turn = YieldsList-turn (YieldsList-from_str_split 44 c.args.word.now (lit< tt) (cc) (cc) (cc)) c.loop-name.yielded _ c.loop-name.yielded_by _ _ c.in-Some.name c.in-Some.is c.next.ensures.steps in
    let more = length_push c.loop-name.yielded c.in-Some.name in
    record {
      number = omega (arith, more, c.loop-name.invariant.number, c.in_default.ensures.1);
      left = rw more (one_listed c.args.stock.now c.loop-name.listed c.list.new.listed (names_of c.args.word.now) (length c.loop-name.yielded)
          c.in-Some.name.now c.in-Some.name.now _ turn c.loop-name.invariant.left c.in_default.ensures);
    }

pub returns-in-Err : goal.returns-in-Err
returns-in-Err c =
    let turn = YieldsList-turn (YieldsList-from_str_split 44 c.args.word.now (lit< tt) (cc) (cc) (cc)) c.loop-name.yielded _ c.loop-name.yielded_by _ _ c.in-Some.name c.in-Some.is c.next.ensures.steps in
    one_refused c.args.stock.now c.loop-name.listed c.list.new.listed (names_of c.args.word.now) (length c.loop-name.yielded)
    c.in-Some.name.now c.in-Some.name.now _ c.in-Err.fault turn c.loop-name.invariant.left c.in-Err.ensures
    ∙ listed_all c.args.stock.now (names_of c.args.word.now)

pub returns : goal.returns
returns c =
    let end = YieldsList-end (YieldsList-from_str_split 44 c.args.word.now (lit< tt) (cc) (cc) (cc)) c.loop-name.yielded _ c.loop-name.yielded_by _ _ c.in-None.is c.next.ensures.steps in
    all_listed c.args.stock.now c.loop-name.listed (names_of c.args.word.now) (length c.loop-name.yielded) _
    (omega (arith, end.1)) c.loop-name.invariant.left
    ∙ listed_all c.args.stock.now (names_of c.args.word.now)
