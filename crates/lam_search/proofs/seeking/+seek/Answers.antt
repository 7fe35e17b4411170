use Rattle.std.proofs.Common.{◌≡◌, ◌≢◌, refl, sym, ◌∙◌, ap, subst, ℕ, suc, ◌+◌, ◌-◌, Bool, true, length, drop, Some, arith}
use Rattle.std.proofs.lemmas.List.{length-set}
use Rattle.lam_job.specs.Partial.{half}
use Rattle.lam_rules.specs.Conditions.{IsPartial}
use Rattle.lam_tree.specs.declared.node.Seat.TheVariants as seat
use Rattle.lam_tree.specs.Reading.{Whole, due_item, children}
use Rattle.lam_search.specs.declared.seeking.Sight.TheVariants.{Lost, Passed}
use Rattle.lam_search.specs.inside.Here.{basis_of}
use Rattle.lam_search.specs.inside.Sights.{AreSeen, had_by}
use Rattle.lam_search.proofs.Places.{child-partial, child-long, half-le}
use Rattle.lam_search.proofs.SeekSteps.{none-had, one-had, full-lost, seen-begin, seen-child, sees-child, sees-stray, seen-all, as-split, of-child, still-open}
use Rattle.lam_search.proofs.seeking.+seek.Goals as goal

pub leaf-requires : goal.leaf-requires
leaf-requires t c = record { ready = c.requires.ready; partial = c.requires.partial; from = c.requires.from; leaf = c.in_default.not-Split }

pub returns-in_default : goal.returns-in_default
returns-in_default t c = c.leaf.ensures

pub returns-then-is_full : goal.returns-then-is_full
returns-then-is_full t c =
    let m = basis_of c.args.design.now.stock.now c.args.design.now.job.now in
    let p = c.args.partial.now in
    let h = half c.args.design.now.job.now p.n - length p.prefix in
    let full = c.is_full.ensures.0 c.if-is_full.true in
    full-lost m c.args.best c.args.nodes.now h p c.args.word c.args.from c.in-Split.is (omega (arith, full))

pub loop-k-init : goal.loop-k-init
loop-k-init t c =
    let m = basis_of c.args.design.now.stock.now c.args.design.now.job.now in
    let p = c.args.partial.now in
    let places = half c.args.design.now.job.now p.n - length p.prefix - 1 in
    record {
      long = refl;
      seen = subst (λ (had : ℕ → Bool). AreSeen m c.args.best c.args.nodes.now places p c.args.from c.args.from 0 had) (none-had 64)
          (seen-begin m c.args.best c.args.nodes.now places p c.args.from c.requires.from);
    }

pub next_child-requires-clause-at : goal.next_child-requires-clause-at
next_child-requires-clause-at t c = c.loop-k.invariant.seen.within

pub next_child-requires-clause-few : goal.next_child-requires-clause-few
next_child-requires-clause-few t c =
    let same = ap length c.items-count.ensures.items in
    let few = c.items-count.ensures.few in
    omega (arith, same, few)

pub returns-in_default-next_child : goal.returns-in_default-next_child
returns-in_default-next_child t c =
    let m = basis_of c.args.design.now.stock.now c.args.design.now.job.now in
    let p = c.args.partial.now in
    let h = half c.args.design.now.job.now p.n - length p.prefix in
    let count = c.items-count.result.now in
    let same = ap length c.items-count.ensures.items in
    let less = c.loop-k-test.true in
    as-split m c.args.best c.args.nodes.now h (h - 1) p c.args.word c.args.from Lost c.in-Split.is
    (still-open c.args.design.now.job.now p c.is_full.result c.if-is_full.false c.is_full.ensures.1 c.requires.partial.within)
    (sees-stray m c.args.best c.args.nodes.now (h - 1) p c.args.from c.loop-k.at c.loop-k._k (had_by c.loop-k.had) c.loop-k.invariant.seen (omega (arith, same, less))
    (λ T to_come q next. subst (λ n. (children n T (suc to_come) (had_by c.loop-k.had) q (drop c.loop-k.at c.args.nodes.now) next).ending ≢ Whole) same
    (c.in_default-next_child.ensures.none refl T to_come q next)))

pub overflow_cast-had : goal.overflow_cast-had
overflow_cast-had t c = let fits = c.in-Some.ensures.item in omega (arith, fits)

pub bounds-had-item : goal.bounds-had-item
bounds-had-item t c =
    let known = c.in-Some.ensures.item in
    let same = ap length c.items-count.ensures.items in
    let few = c.items-count.ensures.few in
    let long = c.loop-k.invariant.long in
    omega (arith, known, same, few, long)

pub child_of-child-requires : goal.child_of-child-requires
child_of-child-requires t c =
    let within = c.requires.partial.within in
    let few = c.requires.partial.few in
    let most = half-le c.args.design.now.job.now c.args.partial.now.n in
    omega (arith, within, few, most)

pub overflow_add-at : goal.overflow_add-at
overflow_add-at t c =
    let within = c.in-Some.ensures.within in
    let fits = c.loop-k.auto.at-fits in
    omega (arith, within, fits)

pub seek-sight-requires : goal.seek-sight-requires
seek-sight-requires t c =
    let stock = c.args.design.now.stock.now in
    let job = c.args.design.now.job.now in
    let p = c.args.partial.now in
    let item = c.in-Some.item in
    let open_still = still-open job p c.is_full.result c.if-is_full.false c.is_full.ensures.1 c.requires.partial.within in
    let same = ap length c.items-count.ensures.items in
    let known = c.in-Some.ensures.item in
    let is = c.child_of-child.ensures in
    let long = child-long p item in
    let e = ap (λ q. half job q.n - length q.prefix) is in
    let within = c.in-Some.ensures.within in (
      (let d = c.decreases in omega (arith, d, e, long, open_still)),
      (
        c.requires.ready,
        (
          subst (IsPartial stock job) (sym is)
              (child-partial stock job p item c.requires.partial (omega (arith, open_still)) (omega (arith, known, same))),
          omega (arith, within),
        ),
      ),
    )

pub returns-in_default-sight : goal.returns-in_default-sight
returns-in_default-sight t c =
    let m = basis_of c.args.design.now.stock.now c.args.design.now.job.now in
    let nodes = c.args.nodes.now in
    let p = c.args.partial.now in
    let h = half c.args.design.now.job.now p.n - length p.prefix in
    let same = ap length c.items-count.ensures.items in
    let less = c.loop-k-test.true in
    as-split m c.args.best nodes h (h - 1) p c.args.word c.args.from c.seek-sight.result c.in-Split.is
    (still-open c.args.design.now.job.now p c.is_full.result c.if-is_full.false c.is_full.ensures.1 c.requires.partial.within)
    (sees-child m c.args.best nodes (h - 1) p c.args.from c.loop-k.at c.loop-k._k (had_by c.loop-k.had) c.loop-k.invariant.seen
    c.in-Some.item c.in-Some.word c.seek-sight.result (omega (arith, same, less))
    (subst (λ n. due_item n (had_by c.loop-k.had) (seat.Item c.in-Some.item) ≡ Some c.in-Some.item) same c.in-Some.ensures.due)
    c.in-Some.ensures.some c.in_default-sight.not-Passed
    (of-child m c.args.best nodes p c.child_of-child.result c.in-Some.item c.in-Some.word (c.loop-k.at + 1) c.seek-sight.result c.child_of-child.ensures c.seek-sight.ensures))

pub loop-k-smaller : goal.loop-k-smaller
loop-k-smaller t c = omega arith

pub loop-k-preserved : goal.loop-k-preserved
loop-k-preserved t c =
    let m = basis_of c.args.design.now.stock.now c.args.design.now.job.now in
    let nodes = c.args.nodes.now in
    let p = c.args.partial.now in
    let h = half c.args.design.now.job.now p.n - length p.prefix in
    let same = ap length c.items-count.ensures.items in
    let few = c.items-count.ensures.few in
    let known = c.in-Some.ensures.item in
    let long = c.loop-k.invariant.long in
    let less = c.loop-k-test.true in
    let passed = of-child m c.args.best nodes p c.child_of-child.result c.in-Some.item c.in-Some.word (c.loop-k.at + 1) (Passed c.in-Passed.to) c.child_of-child.ensures
    (c.in-Passed.ensures) in
    record {
      long = length-set c.loop-k.had c.in-Some.item.0 true ∙ long;
      seen = subst (λ (had : ℕ → Bool). AreSeen m c.args.best nodes (h - 1) p c.args.from c.in-Passed.to (c.loop-k._k + 1) had)
          (one-had c.loop-k.had c.in-Some.item (omega (arith, known, same, few, long)))
          (seen-child m c.args.best nodes (h - 1) p c.args.from c.loop-k.at c.loop-k._k (had_by c.loop-k.had) c.loop-k.invariant.seen
          c.in-Some.item c.in-Some.word c.in-Passed.to (omega (arith, same, less))
          (subst (λ n. due_item n (had_by c.loop-k.had) (seat.Item c.in-Some.item) ≡ Some c.in-Some.item) same c.in-Some.ensures.due)
          c.in-Some.ensures.some passed);
    }

pub returns : goal.returns
returns t c =
    let m = basis_of c.args.design.now.stock.now c.args.design.now.job.now in
    let nodes = c.args.nodes.now in
    let p = c.args.partial.now in
    let h = half c.args.design.now.job.now p.n - length p.prefix in
    let same = ap length c.items-count.ensures.items in
    let all = c.loop-k-test.false in
    as-split m c.args.best nodes h (h - 1) p c.args.word c.args.from (Passed c.loop-k.at) c.in-Split.is
    (still-open c.args.design.now.job.now p c.is_full.result c.if-is_full.false c.is_full.ensures.1 c.requires.partial.within)
    (seen-all m c.args.best nodes (h - 1) p c.args.from c.loop-k.at c.loop-k._k (had_by c.loop-k.had) c.loop-k.invariant.seen (omega (arith, same, all)))
