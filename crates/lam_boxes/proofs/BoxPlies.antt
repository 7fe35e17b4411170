-- The criterion of a listed ply, by a table.
use Rattle.std.proofs.Common.{◌≡◌, sym, ◌∙◌, subst, ℕ, ◌<◌, List, length, get_or, slice_get, Some, arith, rules}
use Rattle.std.proofs.lemmas.List.Elements.{All-get_or}
use Rattle.std.proofs.lemmas.Option.{get_or_from_slice_get, slice_get_within}
use Rattle.lam_fraction.specs.numbers.Numbers.{Lawful}
use Rattle.lam_number.specs.declared.fix.Fix.{Fix}
use Rattle.lam_number.specs.inside.FixLaws.{fix_lawful}
use Rattle.lam_number.specs.inside.FixNumbers.{fix_numbers}
use Rattle.lam_stock.specs.declared.item.Item.{Item}
use Rattle.lam_stock.specs.declared.item.ItemNo.{ItemNo}
use Rattle.lam_stock.specs.Scale.{scale_of}
use Rattle.lam_stock.specs.Stock.{IsKnown, IsStock}
use Rattle.lam_job.specs.Schedule.{items_of}
use Rattle.lam_job.proofs.Listed.{item_of, items_of-get}
use Rattle.lam_tsai.specs.declared.criterion.Criterion.{Criterion}
use Rattle.lam_tsai.specs.inside.Reach.{ReachCriterion}
use Rattle.lam_tsai.specs.inside.Values.{criterion}
use Rattle.lam_tsai.proofs.ItemFacts.{reach-criterion}
use Rattle.lam_boxes.specs.declared.tables.BoxTables.{BoxTables}
use Rattle.lam_boxes.specs.inside.Tables.{AreBoxTablesOf}

laws : Lawful (fix_numbers 60)
laws = fix_lawful 60 (search rules)

module _ (stock : List Item) (numbers : List ItemNo) (t : BoxTables) (is : IsStock stock (scale_of stock)) (known : IsKnown stock numbers) (tables : AreBoxTablesOf stock t) (k : ℕ) (ply : ItemNo) (there : slice_get numbers k ≡ Some ply) where
  pub ply-known : ply.0 < length stock
  ply-known = subst (λ (p : ItemNo). p.0 < length stock) (get_or_from_slice_get numbers k ply ply there) (All-get_or (λ (p : ItemNo). p.0 < length stock) numbers k ply (slice_get_within numbers k ply there) known)

  pub ply-few : ply.0 < 64
  ply-few = omega (arith, ply-known, is.few)

  abbrev found : (i : Item) × (slice_get stock ply.0 ≡ Some i)
  found = item_of stock ply ply-known

  abbrev pub ply-item : Item
  ply-item = found.0

  pub ply-stands : slice_get stock ply.0 ≡ Some ply-item
  ply-stands = found.1

  pub ply-listed : slice_get (items_of stock numbers) k ≡ Some ply-item
  ply-listed = items_of-get stock k numbers ply known there ∙ found.1

  module _ (c : Criterion (Fix 60)) (here : c ≡ get_or t.criteria ply.0 c) where
    pub ply-criterion : c ≡ criterion (fix_numbers 60) (scale_of stock) ply-item
    ply-criterion = here ∙ get_or_from_slice_get t.criteria ply.0 (criterion (fix_numbers 60) (scale_of stock) found.0) c (tables.criteria ply.0 found.0 found.1)

    pub ply-made : ReachCriterion (fix_numbers 60) c
    ply-made = subst (ReachCriterion (fix_numbers 60)) (sym ply-criterion) (reach-criterion (record { items = stock; stock = is; place = ply.0; listed = found.1 }) laws)
