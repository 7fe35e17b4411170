use Rattle.std.proofs.Common.{◌≡◌, ◌<◌, length, take, drop, get_or, sym, ap, ◌∙◌, arith, rules, Some, None, []}
use mir.Val.{SFits}
use mir.Syntax.{w64}
use Rattle.std.proofs.lemmas.Int.{to_z-of_z}
use Rattle.std.proofs.lemmas.List.{length-drop, length-map, length-set, take_more, take_more_set}
use Rattle.csv.specs.Records.{fields_of}
use Rattle.lam_stock.specs.Catalogue.{columns_of}
use Rattle.lam_stock.specs.Field.{number_of}
use Rattle.lam_stock.proofs.Columns.{column-drop, numbers-more, numbers-none}
use Rattle.lam_stock.proofs.reading.numbers.numbers_of.Goals as goal

pub returns-in-None : goal.returns-in-None
returns-in-None c =
    let columns = columns_of (fields_of c.args.row.now) in
    let k = c.loop-k.k in
    let size : length (drop 2 columns) ≡ 15 = rw (length-drop, length-map) (omega (arith, c.requires)) in
    let none : number_of (get_or (drop 2 columns) k []) ≡ None = ap number_of (column-drop columns k 2 ∙ sym c.field.ensures) ∙ sym c.in-None.ensures.value in
    sym (numbers-none (drop 2 columns) k (omega arith) none)

pub loop-k-preserved : goal.loop-k-preserved
loop-k-preserved c =
    let columns = columns_of (fields_of c.args.row.now) in
    let k = c.loop-k.k in
    let ns = c.loop-k.numbers in
    let n = c.in-Some.number in
    let fits : SFits w64 n = search rules in
    let size : length (drop 2 columns) ≡ 15 = rw (length-drop, length-map) (omega (arith, c.requires)) in
    let less : k < length (drop 2 columns) = omega arith in
    let room : k < length ns = omega (arith, c.loop-k.invariant.whole) in
    let some : number_of (get_or (drop 2 columns) k []) ≡ Some n = ap number_of (column-drop columns k 2 ∙ sym c.field.ensures) ∙ sym c.in-Some.ensures.value in
    let more = numbers-more (take k (drop 2 columns)) (get_or (drop 2 columns) k []) (take k ns) n c.loop-k.invariant.so_far some in
    rw (to_z-of_z w64 n fits) record {
      whole = rw length-set c.loop-k.invariant.whole;
      so_far = rw (take_more (drop 2 columns) k [] less, take_more_set ns k n room) more;
    }
