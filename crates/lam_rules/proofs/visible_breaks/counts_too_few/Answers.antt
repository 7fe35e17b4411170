use Rattle.std.proofs.Common.{◌≡◌, ◌+◌, ◌<◌, ℕ, All, subst, true, false}
use Rattle.std.proofs.lemmas.List.{take_all}
use Rattle.lam_stock.specs.declared.item.ItemNo.{ItemNo}
use Rattle.lam_job.specs.Rules.{times_of}
use Rattle.lam_rules.proofs.Among.{none_among}
use Rattle.lam_rules.proofs.visible_breaks.counts_too_few.Goals as goal

pub returns : goal.returns
returns c =
    let plies = c.args.plies.now in
    let places = c.args.places in (
      (λ t. absurd (let e : false ≡ true = t in cc)),
      (λ some. absurd (none_among (λ (count : ItemNo × ℕ). times_of count.0 plies + places < count.1) c.args.asked.now
          (subst (All (λ (count : ItemNo × ℕ). ¬ (times_of count.0 plies + places < count.1))) (take_all c.loop-count.count-index c.args.asked.now c.loop-count-test.false) c.loop-count.invariant)
          some)),
    )
