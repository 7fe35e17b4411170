use Rattle.std.proofs.Common.{◌≡◌, ◌+◌, ◌<◌, ℕ, All, slice_index, subst, true, false}
use Rattle.std.proofs.lemmas.List.{take_all}
use Rattle.lam_stock.specs.declared.item.ItemNo.{ItemNo}
use Rattle.lam_rules.proofs.Among.{none_among}
use Rattle.lam_rules.proofs.growing.misses_some.Goals as goal

pub returns : goal.returns
returns c =
    let times = c.args.times.now in
    let places = c.args.places in
    let P = λ (count : ItemNo × ℕ). slice_index times count.0.0 + places < count.1 in (
      (λ t. absurd (let e : false ≡ true = t in cc)),
      (λ some. absurd (none_among P c.args.asked.now
          (subst (All (λ (count : ItemNo × ℕ). ¬ P count)) (take_all c.loop-count.count-index c.args.asked.now c.loop-count-test.false) c.loop-count.invariant)
          some)),
    )
