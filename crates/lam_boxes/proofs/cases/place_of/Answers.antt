use Rattle.std.proofs.Common.{rules, ◌≡◌, sym, ◌∙◌, ap, subst, ℤ, List, length, Some, arith}
use Rattle.lam_fraction.proofs.numbers.Machine.{stored-64}
use Rattle.lam_number.specs.inside.FixNumbers.{fix_numbers}
use Rattle.lam_stock.specs.declared.item.Item.{Item}
use Rattle.lam_stock.specs.declared.item.ItemNo.{ItemNo}
use Rattle.lam_stock.specs.Scale.{scale_of}
use Rattle.lam_stock.specs.Stock.{IsStock}
use Rattle.lam_job.specs.JobData.{CaseData}
use Rattle.lam_job.specs.LoadOf.{load_of}
use Rattle.lam_job.specs.Schedule.{items_of}
use Rattle.lam_solve.specs.inside.Parts.{IsScaled}
use Rattle.lam_tsai.specs.inside.Values.{criterion}
use Rattle.lam_boxes.specs.inside.Boxes.{box_under, failing_in, failing_side, first_failing}
use Rattle.lam_boxes.proofs.BoxedCases.{found-case, found-ply}
use Rattle.lam_boxes.proofs.Truth.{scaled-of}
use Rattle.lam_boxes.proofs.cases.place_of.Goals as goal

pub box_under-requires-clause-scale : goal.box_under-requires-clause-scale
box_under-requires-clause-scale c =
    let stock = c.args.stock.now in
    let is : IsStock stock (scale_of stock) = subst (IsStock stock) c.scale.ensures.value c.scale.ensures.stock in
    subst IsScaled (sym c.scale.ensures.value) (scaled-of stock is)

pub returns-clause-value : goal.returns-clause-value
returns-clause-value c = λ none.
    let n = fix_numbers 60 in
    let stock = c.args.stock.now in
    let prefix = c.args.prefix.now in
    let case = c.args.case.now in
    let strains = c.in_ok-strains.strains in
    let under : box_under n (scale_of stock) c.args.shape.now (load_of case.kind) ≡ Some strains =
    sym (c.box_under.ensures.value ∙ (λ j. box_under n (c.scale.ensures.value j) c.args.shape.now (c.resultants-load.ensures.value j))) ∙ c.in_ok-strains.was in
    let kept : stored-64 c.case.inside.factor ≡ c.case.inside.factor = search rules in
    let factor : stored-64 c.case.inside.factor ≡ case.factor = kept ∙ ap (λ (d : CaseData). d.factor) c.case.view_is in
    c.first_failing.ensures
    ∙ ap (λ (x : ℤ). first_failing c.args.number (λ (i : Item). failing_side n (criterion n (scale_of stock) i) strains x) 0 (items_of stock prefix)) factor
    ∙ sym (ap (failing_in n stock prefix c.args.number case.factor) under)

pub returns-clause-case : goal.returns-clause-case
returns-clause-case c = found-case c.args.number _ (items_of c.args.stock.now c.args.prefix.now) c.first_failing.result c.first_failing.ensures

pub returns-clause-ply : goal.returns-clause-ply
returns-clause-ply c =
    let few = c.items-plies.ensures.few in
    let same = ap (λ (ns : List ItemNo). length ns) c.items-plies.ensures.items in
    found-ply c.args.number _ c.args.stock.now c.args.prefix.now c.first_failing.result c.requires.known (omega (arith, few, same)) c.first_failing.ensures
