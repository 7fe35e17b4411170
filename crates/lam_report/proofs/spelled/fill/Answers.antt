use Rattle.std.proofs.Common.{◌∙◌, ◌∷◌, [], sym, ap, subst, List, length, length-append, arith}
use Rattle.lam_stock.specs.declared.item.ItemNo.{ItemNo}
use Rattle.lam_report.proofs.ListLoops.{Filled, name_found, fill_begins, fill_goes_on, fill_fails, fill_ends, fill_none, fill_many, no_plies, no_word, some_word}
use Rattle.lam_report.proofs.spelled.fill.Goals as goal

pub loop-place-init : goal.loop-place-init
loop-place-init c = record {
  filled = subst (λ (f : List ItemNo). Filled c.args.stock.now f c.args.words.now c.args.words.now) (sym c.requires) (fill_begins c.args.stock.now c.args.words.now);
  place = ap length c.requires;
}

pub loop-place-preserved : goal.loop-place-preserved
loop-place-preserved c =
    let stock = c.args.stock.now in
    let item = c.in-Some-find.item in
    let plies = c.loop-place.plies in
    let found = name_found stock c.in-Some.name.now c.find.result c.find.ensures.place ∙ c.in-Some-find.is in
    let pushed = ap length c.push.ensures in
    let long = length-append plies (item ∷ []) in
    let place = c.loop-place.invariant.place in
    record {
      filled = subst (λ (f : List ItemNo). Filled stock f c.next.new.self c.args.words.now) (sym c.push.ensures)
          (fill_goes_on stock plies c.loop-place.words c.args.words.now c.next.new.self c.in-Some.name.now item c.loop-place.invariant.filled c.in-Some.ensures found);
      place = omega (arith, pushed, long, place);
    }

pub push-requires : goal.push-requires
push-requires c = let place = c.loop-place.invariant.place in let less = c.loop-place-test.true in omega (arith, place, less)

pub returns-then-place-gt0 : goal.returns-then-place-gt0
returns-then-place-gt0 c =
    let place = c.loop-place.invariant.place in let less = c.loop-place-test.true in let more = c.if-place-gt0.true in
    fill_ends c.args.stock.now c.loop-place.plies c.loop-place.words c.args.words.now c.loop-place.invariant.filled c.in_default.ensures.0 (omega (arith, place, more)) (omega (arith, place, less))

pub returns-in_default : goal.returns-in_default
returns-in_default c =
    let place = c.loop-place.invariant.place in let none = c.if-place-gt0.false in
    fill_none c.args.stock.now c.loop-place.plies c.loop-place.words c.args.words.now c.loop-place.invariant.filled c.in_default.ensures.0
    (no_plies c.loop-place.plies (omega (arith, place, none)))

pub returns-in_default-find : goal.returns-in_default-find
returns-in_default-find c =
    let found = name_found c.args.stock.now c.in-Some.name.now c.find.result c.find.ensures.place ∙ c.in_default-find.is in
    fill_fails c.args.stock.now c.loop-place.plies c.loop-place.words c.args.words.now c.next.new.self c.in-Some.name.now c.loop-place.invariant.filled c.in-Some.ensures found

pub returns-then-is_done : goal.returns-then-is_done
returns-then-is_done c =
    let place = c.loop-place.invariant.place in let end = c.loop-place-test.false in let most = c.loop-place.auto.place-end in
    fill_ends c.args.stock.now c.loop-place.plies c.loop-place.words c.args.words.now c.loop-place.invariant.filled
    (no_word c.loop-place.words (sym c.is_done.ensures ∙ c.if-is_done.true)) (omega (arith, place, end)) (omega (arith, place, most))

pub returns : goal.returns
returns c =
    let place = c.loop-place.invariant.place in let end = c.loop-place-test.false in
    let some = some_word c.loop-place.words (sym c.is_done.ensures ∙ c.if-is_done.false) in
    fill_many c.args.stock.now c.loop-place.plies c.loop-place.words c.args.words.now some.0 some.1 c.loop-place.invariant.filled some.2 (omega (arith, place, end))
