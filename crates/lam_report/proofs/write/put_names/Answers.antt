use Rattle.std.proofs.Common.{◌∙◌, ap, sym, subst, get_or, ℕ, List, [], ◌∷◌, Option, Some, None}
use Rattle.std.proofs.lemmas.Option.{slice_get-get_or}
use Rattle.lam_stock.specs.declared.item.Item.{Item}
use Rattle.lam_stock.specs.declared.item.ItemNo.{ItemNo}
use Rattle.lam_stock.specs.Stock.{IsKnown}
use Rattle.lam_tree.specs.Lines.{spaced}
use Rattle.lam_report.specs.ReportText.{name_of}
use Rattle.lam_report.proofs.Handing.{Hands-then}
use Rattle.lam_report.proofs.TextLaws.{hands_same, spaced-more}
use Rattle.lam_report.proofs.write.put_names.Goals as goal

pub loop-ply-preserved : goal.loop-ply-preserved
loop-ply-preserved g c =
    let plies = c.items-ply-items.result.now in
    let stock = c.args.stock.now in
    let k = c.loop-ply.ply-index in
    let zero : ItemNo = record { 0 = 0 } in
    let any = c.index-items-ply.result in
    let j = (get_or plies k zero).0 in
    let named : Option Item → List ℕ = λ o. elim o [ None ↦ [] | Some i ↦ i.name ] in
    let known = subst (λ (ps : List ItemNo). IsKnown stock ps) (sym c.items-ply-items.ensures.items) c.requires k zero c.loop-ply-test.true in
    let name =
    c.as_bytes.ensures.bytes ∙ ap (λ items. (get_or items j any).name) c.items.ensures.items
    ∙ ap named (sym (slice_get-get_or stock j any known)) in
    hands_same (sym (spaced-more (name_of stock) plies k zero c.loop-ply-test.true))
    (Hands-then c.loop-ply.invariant (hands_same (ap (λ w. spaced (w ∷ [])) name) c.put_name.ensures))
