use Rattle.std.proofs.Common.{◌≡◌, refl, sym, ◌∙◌, ap, subst, ℕ, ◌-◌, ◌<◌, length, take, get_or, [], ◌∷◌, inl, Option, arith}
use Rattle.std.proofs.lemmas.List.{take_all, length-append}
use Rattle.lam_stock.specs.declared.item.ItemNo.{ItemNo}
use Rattle.lam_job.specs.Partial.{child, half}
use Rattle.lam_tree.specs.declared.node.Seat.TheVariants as seat
use Rattle.lam_tree.specs.declared.node.Word.{Word}
use Rattle.lam_search.specs.inside.Here.{Here, basis}
use Rattle.lam_search.specs.inside.Held.{IsHeld}
use Rattle.lam_search.specs.inside.Steps.{Added, places}
use Rattle.lam_search.specs.inside.Ordered.{IsEachOnce}
use Rattle.lam_search.proofs.Places.{back}
use Rattle.lam_search.proofs.WalkSteps.{node, visit_of, written-leaf, explored-begin}
use Rattle.lam_search.proofs.Turns.{split-open, falls, down-hints, down-kept, down-known, up-kept, up-walked, next-known, turn, turn-cut, all-turned}
use Rattle.lam_search.proofs.walking.+walk.Goals as goal

abbrev no_item : ItemNo
no_item = record { 0 = 0 }

-- where the budget is used up before the node
pub returns-then-nodes-budget-clause-place : goal.returns-then-nodes-budget-clause-place
returns-then-nodes-budget-clause-place g t c = refl

pub returns-then-nodes-budget-clause-kept : goal.returns-then-nodes-budget-clause-kept
returns-then-nodes-budget-clause-kept g t c = c.requires.kept

pub returns-then-nodes-budget-clause-few : goal.returns-then-nodes-budget-clause-few
returns-then-nodes-budget-clause-few g t c = c.requires.few

pub returns-then-nodes-budget-clause-heard : goal.returns-then-nodes-budget-clause-heard
returns-then-nodes-budget-clause-heard g t c = refl

pub returns-then-nodes-budget-clause-walked : goal.returns-then-nodes-budget-clause-walked
returns-then-nodes-budget-clause-walked g t c =
    let n = ap length c.nodes.ensures in
    let few = c.requires.few in
    let all = c.if-nodes-budget.true in
    (omega (arith, n, few, all), inl (record { tree = refl; best = refl }))

-- the node
pub word-word-requires : goal.word-word-requires
word-word-requires g t c = c.requires.hints

pub enter-requires-clause-held : goal.enter-requires-clause-held
enter-requires-clause-held g t c =
    subst (λ (o : Option ℕ). IsHeld (basis c.args.place.now) o c.args.place.now.partial c.word-word.result) c.incumbent.ensures c.word-word.ensures

pub enter-requires-clause-kept : goal.enter-requires-clause-kept
enter-requires-clause-kept g t c = c.requires.kept

pub enter-requires-clause-room : goal.enter-requires-clause-room
enter-requires-clause-room g t c =
    let n = ap length c.nodes.ensures in
    let less = c.if-nodes-budget.false in
    let most = c.requires.most in
    omega (arith, n, less, most)

pub enter-requires-clause-seat : goal.enter-requires-clause-seat
enter-requires-clause-seat g t c = c.requires.seat

pub returns-in_err-enter-clause-few : goal.returns-in_err-enter-clause-few
returns-in_err-enter-clause-few g t c =
    let same = ap length c.in_err-enter.ensures.err in
    let few = c.requires.few in
    omega (arith, same, few)

pub returns-in_err-enter-clause-heard : goal.returns-in_err-enter-clause-heard
returns-in_err-enter-clause-heard g t c =
    let same = ap length c.in_err-enter.ensures.err in
    omega (arith, same)

pub tell-requires : goal.tell-requires
tell-requires g t c =
    let n = ap length c.nodes.ensures in
    let less = c.if-nodes-budget.false in
    let quiet = c.requires.quiet in
    omega (arith, n, less, quiet)

-- a leaf
pub returns-in_default : goal.returns-in_default
returns-in_default g t c =
    let n = ap length c.nodes.ensures in
    let less = c.if-nodes-budget.false in
    let long = ap length c.in_ok-enter.ensures.entered.lines in
    let grown = length-append c.args.state.now.tree (node c.args.seat c.word-word.result ∷ []) in
    let told = c.tell.ensures in
    record {
      place = refl;
      kept = c.in_ok-enter.ensures.kept;
      few = omega (arith, n, less, long, grown);
      heard = omega (arith, long, grown, told);
      walked = written-leaf (basis c.args.place.now) c.args.seat c.args.place.now.partial c.word-word.result c.args.state.now c.enter.new.state
          c.in_default.not-Split c.in_ok-enter.ensures.entered;
    }

-- a split
pub child_hints-below-requires : goal.child_hints-below-requires
child_hints-below-requires g t c =
    split-open (basis c.args.place.now) c.incumbent.result c.args.place.now.partial c.word-word.result c.word-word.ensures c.in-Split.is

pub loop-item-init : goal.loop-item-init
loop-item-init g t c =
    let n = ap length c.nodes.ensures in
    let less = c.if-nodes-budget.false in
    let long = ap length c.in_ok-enter.ensures.entered.lines in
    let grown = length-append c.args.state.now.tree (node c.args.seat c.word-word.result ∷ []) in
    let told = c.tell.ensures in
    let asked = c.order-order.ensures.heard in
    let m = basis c.args.place.now in
    let p = c.args.place.now.partial in
    record {
      place = refl;
      kept = c.in_ok-enter.ensures.kept;
      few = omega (arith, n, less, long, grown);
      explored = explored-begin m (places m p - 1) p c.enter.new.state;
      heard = omega (arith, long, grown, told, asked);
    }

-- a child
pub push-requires-clause-known : goal.push-requires-clause-known
push-requires-clause-known g t c =
    let here = c.args.place.now in
    let once = subst (IsEachOnce (length here.stock)) (sym c.items-items.ensures) c.order-order.ensures.once in
    let more = split-open (basis here) c.incumbent.result here.partial c.word-word.result c.word-word.ensures c.in-Split.is in
    subst (λ (h : Here). (get_or c.items-items.result.now c.loop-item.item-index no_item).0 < length h.stock) (sym c.loop-item.invariant.place)
    (next-known (basis here) here.partial c.items-items.result.now c.loop-item.item-index no_item once c.loop-item-test.true more)

pub push-requires-clause-more : goal.push-requires-clause-more
push-requires-clause-more g t c =
    let here = c.args.place.now in
    subst (λ (h : Here). length h.partial.prefix < half h.job h.partial.n) (sym c.loop-item.invariant.place)
    (split-open (basis here) c.incumbent.result here.partial c.word-word.result c.word-word.ensures c.in-Split.is)

pub walk-requires : goal.walk-requires
walk-requires g t c = λ κs inside.
    let here = c.args.place.now in
    let item = get_or c.items-items.result.now c.loop-item.item-index no_item in
    let there = c.push.new.self in
    let down : there ≡ record here { partial = child here.partial item }
    = c.push.ensures ∙ ap (λ (h : Here). record h { partial = child h.partial item }) c.loop-item.invariant.place in
    let once = subst (IsEachOnce (length here.stock)) (sym c.items-items.ensures) c.order-order.ensures.once in
    let more = split-open (basis here) c.incumbent.result here.partial c.word-word.result c.word-word.ensures c.in-Split.is in
    let known = next-known (basis here) here.partial c.items-items.result.now c.loop-item.item-index no_item once c.loop-item-test.true more in
    let less = falls here there item down more in
    let quiet = c.requires.quiet in
    let heard = c.loop-item.invariant.heard in (
      (let d = c.decreases in omega (arith, d, less)),
      (
        inside,
        (
          down-known here there item down known,
          (
            down-hints here there item down c.child_hints-below.result c.child_hints-below.ensures known,
            (down-kept here there item down c.loop-item.state c.loop-item.invariant.kept, (c.loop-item.invariant.few, (c.requires.most, omega (arith, quiet, heard)))),
          ),
        ),
      ),
    )

pub returns-in_err-flow-clause-few : goal.returns-in_err-flow-clause-few
returns-in_err-flow-clause-few g t c = c.walk.ensures.few

pub returns-in_err-flow-clause-heard : goal.returns-in_err-flow-clause-heard
returns-in_err-flow-clause-heard g t c =
    let own = c.walk.ensures.heard in
    let heard = c.loop-item.invariant.heard in
    omega (arith, own, heard)

pub returns-in-Cut-clause-place : goal.returns-in-Cut-clause-place
returns-in-Cut-clause-place g t c =
    let here = c.args.place.now in
    let item = get_or c.items-items.result.now c.loop-item.item-index no_item in
    let down : c.push.new.self ≡ record here { partial = child here.partial item }
    = c.push.ensures ∙ ap (λ (h : Here). record h { partial = child h.partial item }) c.loop-item.invariant.place in
    back here c.walk.new.place c.pop.new.self item (c.in_ok-flow.ensures.place ∙ down) c.pop.ensures

pub returns-in-Cut-clause-kept : goal.returns-in-Cut-clause-kept
returns-in-Cut-clause-kept g t c =
    let here = c.args.place.now in
    let item = get_or c.items-items.result.now c.loop-item.item-index no_item in
    let down : c.push.new.self ≡ record here { partial = child here.partial item }
    = c.push.ensures ∙ ap (λ (h : Here). record h { partial = child h.partial item }) c.loop-item.invariant.place in
    up-kept here c.push.new.self item down c.walk.new.state c.in_ok-flow.ensures.kept

pub returns-in-Cut-clause-few : goal.returns-in-Cut-clause-few
returns-in-Cut-clause-few g t c = c.walk.ensures.few

pub returns-in-Cut-clause-heard : goal.returns-in-Cut-clause-heard
returns-in-Cut-clause-heard g t c =
    let own = c.walk.ensures.heard in
    let heard = c.loop-item.invariant.heard in
    omega (arith, own, heard)

pub returns-in-Cut-clause-walked : goal.returns-in-Cut-clause-walked
returns-in-Cut-clause-walked g t c =
    let here = c.args.place.now in
    let m = basis here in
    let p = here.partial in
    let items = c.items-items.result.now in
    let k = c.loop-item.item-index in
    let item = get_or items k no_item in
    let down : c.push.new.self ≡ record here { partial = child here.partial item }
    = c.push.ensures ∙ ap (λ (h : Here). record h { partial = child h.partial item }) c.loop-item.invariant.place in
    let once = subst (IsEachOnce (length here.stock)) (sym c.items-items.ensures) c.order-order.ensures.once in
    let more = split-open m c.incumbent.result p c.word-word.result c.word-word.ensures c.in-Split.is in
    let added = subst (λ (w : Word). Added m c.args.state.now c.enter.new.state (node c.args.seat w ∷ []) (visit_of p w ∷ [])) c.in-Split.is c.in_ok-enter.ensures.entered in
    turn-cut m p items k no_item once c.loop-item-test.true more c.args.budget c.args.seat c.in_ok-flow.flow c.args.state.now c.enter.new.state c.loop-item.state c.walk.new.state
    c.in-Cut.is added c.loop-item.invariant.explored
    (up-walked here c.push.new.self item down c.args.budget (seat.Item item) c.in_ok-flow.flow c.loop-item.state c.walk.new.state c.in_ok-flow.ensures.walked)

pub loop-item-smaller : goal.loop-item-smaller
loop-item-smaller g t c = omega arith

pub loop-item-preserved : goal.loop-item-preserved
loop-item-preserved g t c =
    let here = c.args.place.now in
    let m = basis here in
    let p = here.partial in
    let items = c.items-items.result.now in
    let k = c.loop-item.item-index in
    let item = get_or items k no_item in
    let down : c.push.new.self ≡ record here { partial = child here.partial item }
    = c.push.ensures ∙ ap (λ (h : Here). record h { partial = child h.partial item }) c.loop-item.invariant.place in
    let once = subst (IsEachOnce (length here.stock)) (sym c.items-items.ensures) c.order-order.ensures.once in
    let more = split-open m c.incumbent.result p c.word-word.result c.word-word.ensures c.in-Split.is in
    let own = c.walk.ensures.heard in
    let heard = c.loop-item.invariant.heard in
    record {
      place = back here c.walk.new.place c.pop.new.self item (c.in_ok-flow.ensures.place ∙ down) c.pop.ensures;
      kept = up-kept here c.push.new.self item down c.walk.new.state c.in_ok-flow.ensures.kept;
      few = c.walk.ensures.few;
      explored = turn m p items k no_item once c.loop-item-test.true more c.args.budget c.in_ok-flow.flow c.enter.new.state c.loop-item.state c.walk.new.state
          c.in_default-flow.not-Cut c.loop-item.invariant.explored
          (up-walked here c.push.new.self item down c.args.budget (seat.Item item) c.in_ok-flow.flow c.loop-item.state c.walk.new.state c.in_ok-flow.ensures.walked);
      heard = omega (arith, own, heard);
    }

-- all children
pub returns-clause-place : goal.returns-clause-place
returns-clause-place g t c = c.loop-item.invariant.place

pub returns-clause-kept : goal.returns-clause-kept
returns-clause-kept g t c = c.loop-item.invariant.kept

pub returns-clause-few : goal.returns-clause-few
returns-clause-few g t c = c.loop-item.invariant.few

pub returns-clause-heard : goal.returns-clause-heard
returns-clause-heard g t c = c.loop-item.invariant.heard

pub returns-clause-walked : goal.returns-clause-walked
returns-clause-walked g t c =
    let here = c.args.place.now in
    let m = basis here in
    let p = here.partial in
    let items = c.items-items.result.now in
    let once = subst (IsEachOnce (length here.stock)) (sym c.items-items.ensures) c.order-order.ensures.once in
    let more = split-open m c.incumbent.result p c.word-word.result c.word-word.ensures c.in-Split.is in
    let added = subst (λ (w : Word). Added m c.args.state.now c.enter.new.state (node c.args.seat w ∷ []) (visit_of p w ∷ [])) c.in-Split.is c.in_ok-enter.ensures.entered in
    all-turned m c.args.seat p items (take c.loop-item.item-index items) c.args.state.now c.enter.new.state c.loop-item.state more once
    (take_all c.loop-item.item-index items c.loop-item-test.false) added c.loop-item.invariant.explored
