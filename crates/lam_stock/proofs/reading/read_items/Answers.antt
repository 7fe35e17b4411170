use Rattle.std.proofs.Common.{◌≡◌, length, length-append, sym, ap, ◌∙◌, arith, rules}
use Rattle.std.proofs.lemmas.List.Elements.{All-push}
use Rattle.csv.specs.Records.{fields_of}
use Rattle.lam_stock.specs.Catalogue.{columns_of, ended, item_of}
use Rattle.lam_stock.specs.inside.Rows.{rows_of}
use Rattle.lam_stock.specs.Stock.{WithinLimits}
use Rattle.lam_stock.proofs.Meaning.{gives-refused, gives-same, more-items, no-more-items, refused-item, took, took-none}
use Rattle.lam_stock.proofs.Names.{item-names}
use Rattle.lam_stock.proofs.reading.read_items.Goals as goal

pub loop-items-preserved : goal.loop-items-preserved
loop-items-preserved c =
    let earlier = c.loop-items.items.items in
    let old = rows_of c.loop-items.reader in
    let new = rows_of c.next_row.new.reader in
    let row = fields_of c.next_row.new.row in
    let items = c.in_ok-keep-in-Ok.ensures.ok in
    let left = took c.in_ok-next_row.field-0 old row new c.if-branch.true c.in_ok-next_row.ensures.row in
    let reads = c.in-Ok.ensures.reads ∙ ap (λ e. item_of e (columns_of row)) c.deref.ensures.value in
    let room = c.in-Ok.ensures.room in
    record {
      reader = c.in_ok-next_row.ensures.reader;
      few = rw (items, length-append) (omega (arith, room, ap length c.deref.ensures.value));
      limits = rw items (All-push WithinLimits _ _ c.loop-items.invariant.limits c.in-Ok.ensures.limits);
      names = rw items (item-names earlier (columns_of row) c.in-Ok.item c.loop-items.invariant.names reads);
      meaning = sym (more-items earlier c.keep.new.items.items old new row c.in-Ok.item left reads items) ∙ c.loop-items.invariant.meaning;
    }

pub returns-in-Err : goal.returns-in-Err
returns-in-Err c =
    let earlier = c.loop-items.items.items in
    let old = rows_of c.loop-items.reader in
    let new = rows_of c.next_row.new.reader in
    let row = fields_of c.next_row.new.row in
    let left = took c.in_ok-next_row.field-0 old row new c.if-branch.true c.in_ok-next_row.ensures.row in
    let reads = c.in-Err.ensures.reads ∙ ap (λ e. item_of e (columns_of row)) c.deref.ensures.value in
    let size : length earlier ≡ c.len.result = search rules in
    let meaning = sym c.loop-items.invariant.meaning ∙ refused-item earlier old new row c.in-Err.cause left reads in
    gives-refused c.refused.result _ _ c.refused.ensures (rw size at meaning)

pub returns : goal.returns
returns c =
    let earlier = c.loop-items.items.items in
    let old = rows_of c.loop-items.reader in
    let new = rows_of c.next_row.new.reader in
    let row = fields_of c.next_row.new.row in
    let none = took-none c.in_ok-next_row.field-0 old row new c.if-branch.false c.in_ok-next_row.ensures.row in
    gives-same c.finish.result (ended earlier) _ (sym (no-more-items earlier old none) ∙ c.loop-items.invariant.meaning) c.finish.ensures
