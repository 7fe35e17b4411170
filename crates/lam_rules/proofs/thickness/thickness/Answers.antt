use Rattle.std.proofs.Common.{◌≡◌, sym, ◌∙◌, ap, true, arith, List}
use Rattle.std.proofs.lemmas.Int.{ints}
use Rattle.lam_stock.specs.declared.item.Item.{Item}
use Rattle.lam_stock.specs.declared.item.ItemNo.{ItemNo}
use Rattle.lam_job.specs.JobData.{JobData}
use Rattle.lam_job.specs.Schedule.{items_of}
use Rattle.lam_job.specs.Wall.{wall_thickness}
use Rattle.lam_rules.proofs.Thickest.{small_sum, thick_in_wall}
use Rattle.lam_rules.proofs.thickness.thickness.Goals as goal

pub returns-clause-value : goal.returns-clause-value
returns-clause-value c =
    let stock = c.args.stock.now in
    let job = c.args.job.now in
    let listed = c.args.listed.now in
    let liner = c.thickness_of in
    let own = c.thickness_of-own in
    let few = c.items-3.ensures.few in
    let in_wall : job.liner_in_wall ≡ true = sym (ap (λ (j : JobData). j.liner_in_wall) c.job.view_is) ∙ c.if-not-job.false in
    let of_liner : liner.result ≡ wall_thickness (items_of stock job.liner)
    = liner.ensures.value ∙ ap (λ (s : List Item). wall_thickness (items_of s c.items-3.result.now)) c.items-2.ensures.items
    ∙ ap (λ (n : List ItemNo). wall_thickness (items_of stock n)) (c.items-3.ensures.items ∙ ap (λ (j : JobData). j.liner) c.job.view_is) in
    let of_own : own.result ≡ wall_thickness (items_of stock listed)
    = own.ensures.value ∙ ap (λ (s : List Item). wall_thickness (items_of s listed)) c.items.ensures.items in
    small_sum liner.result own.result (omega (arith, ints, liner.ensures.least)) (omega (arith, ints, liner.ensures.greatest, few))
    (omega (arith, ints, own.ensures.least)) (omega (arith, ints, own.ensures.greatest, c.requires.few))
    ∙ thick_in_wall stock job listed liner.result own.result in_wall of_liner of_own
