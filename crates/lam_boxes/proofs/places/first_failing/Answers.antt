use Rattle.std.proofs.Common.{rules, ◌≡◌, refl, sym, ◌∙◌, ap, subst, ℤ, List, length, get_or, slice_get, Option, Some, None, ◌<◌, true, false, arith}
use Rattle.std.proofs.lemmas.List.{length-set}
use Rattle.std.proofs.lemmas.Option.{slice_get-get_or}
use Rattle.lam_fraction.proofs.numbers.Machine.{stored-64}
use Rattle.lam_number.specs.declared.fix.Fix.{Fix}
use Rattle.lam_number.specs.inside.FixNumbers.{fix_numbers}
use Rattle.lam_stock.specs.declared.item.Item.{Item}
use Rattle.lam_stock.specs.declared.item.ItemNo.{ItemNo}
use Rattle.lam_stock.specs.Scale.{scale_of}
use Rattle.lam_stock.specs.Stock.{IsStock}
use Rattle.lam_job.specs.Schedule.{items_of}
use Rattle.lam_job.proofs.Listed.{items_of-length}
use Rattle.lam_tsai.specs.declared.criterion.Criterion.{Criterion}
use Rattle.lam_tsai.specs.declared.place.Side.{Side}
use Rattle.lam_tsai.specs.inside.Reach.{ReachCriterion}
use Rattle.lam_tsai.specs.inside.Values.{criterion}
use Rattle.lam_boxes.specs.inside.Boxes.{failing_side, first_failing}
use Rattle.lam_boxes.proofs.BoxPlies.{ply-criterion, ply-few, ply-item, ply-listed, ply-made, ply-stands}
use Rattle.lam_boxes.proofs.FailingSteps.{DoNotFail, first-found, first-next, first-none, none-passed, one-passed}
use Rattle.lam_boxes.proofs.places.first_failing.Goals.{then-not-passed-item+in_default, else-not-passed-item}
use Rattle.lam_boxes.proofs.places.first_failing.Goals as goal

pub bounds-passed-item : goal.bounds-passed-item
bounds-passed-item c =
    let n = fix_numbers 60 in
    let stock = c.args.stock.now in
    let k = c.loop-k.k in
    let ply = get_or c.items-plies.result.now k (record { 0 = 0 }) in
    let there : slice_get c.args.prefix.now k ≡ Some ply = ap (λ (ns : List ItemNo). slice_get ns k) (sym c.items-plies.ensures.items) ∙ slice_get-get_or c.items-plies.result.now k (record { 0 = 0 }) c.loop-k-test.true in
    let is : IsStock stock (scale_of stock) = subst (IsStock stock) c.scale-scale.ensures.value c.scale-scale.ensures.stock in
    let few = ply-few stock c.args.prefix.now c.args.tables.now is c.requires.known c.requires.tables k ply there in
    let long = c.loop-k.invariant.long in
    omega (arith, few, long)

pub bounds-tables-item : goal.bounds-tables-item
bounds-tables-item c =
    let n = fix_numbers 60 in
    let stock = c.args.stock.now in
    let k = c.loop-k.k in
    let ply = get_or c.items-plies.result.now k (record { 0 = 0 }) in
    let there : slice_get c.args.prefix.now k ≡ Some ply = ap (λ (ns : List ItemNo). slice_get ns k) (sym c.items-plies.ensures.items) ∙ slice_get-get_or c.items-plies.result.now k (record { 0 = 0 }) c.loop-k-test.true in
    let is : IsStock stock (scale_of stock) = subst (IsStock stock) c.scale-scale.ensures.value c.scale-scale.ensures.stock in
    ply-few stock c.args.prefix.now c.args.tables.now is c.requires.known c.requires.tables k ply there

pub bounds-passed-item-then-not-passed-item : goal.bounds-passed-item-then-not-passed-item
bounds-passed-item-then-not-passed-item c =
    let n = fix_numbers 60 in
    let stock = c.args.stock.now in
    let k = c.loop-k.k in
    let ply = get_or c.items-plies.result.now k (record { 0 = 0 }) in
    let there : slice_get c.args.prefix.now k ≡ Some ply = ap (λ (ns : List ItemNo). slice_get ns k) (sym c.items-plies.ensures.items) ∙ slice_get-get_or c.items-plies.result.now k (record { 0 = 0 }) c.loop-k-test.true in
    let is : IsStock stock (scale_of stock) = subst (IsStock stock) c.scale-scale.ensures.value c.scale-scale.ensures.stock in
    let few = ply-few stock c.args.prefix.now c.args.tables.now is c.requires.known c.requires.tables k ply there in
    let long = c.loop-k.invariant.long in
    omega (arith, few, long)

pub failing_side-requires-clause-made : goal.failing_side-requires-clause-made
failing_side-requires-clause-made c =
    let n = fix_numbers 60 in
    let stock = c.args.stock.now in
    let k = c.loop-k.k in
    let ply = get_or c.items-plies.result.now k (record { 0 = 0 }) in
    let there : slice_get c.args.prefix.now k ≡ Some ply = ap (λ (ns : List ItemNo). slice_get ns k) (sym c.items-plies.ensures.items) ∙ slice_get-get_or c.items-plies.result.now k (record { 0 = 0 }) c.loop-k-test.true in
    let is : IsStock stock (scale_of stock) = subst (IsStock stock) c.scale-scale.ensures.value c.scale-scale.ensures.stock in
    let here = c.index-tables-item.is in
    subst (ReachCriterion n) here (ply-made stock c.args.prefix.now c.args.tables.now is c.requires.known c.requires.tables k ply there c.index-tables-item.result here)

pub loop-k-init : goal.loop-k-init
loop-k-init c =
    let of = λ (i : Item). failing_side (fix_numbers 60) (criterion (fix_numbers 60) (scale_of c.args.stock.now) i) c.args.at.now (stored-64 c.args.factor) in
    record { same = refl; long = refl; clear = none-passed c.args.stock.now of 64 }

pub returns-in-Some : goal.returns-in-Some
returns-in-Some c =
    let n = fix_numbers 60 in
    let stock = c.args.stock.now in
    let k = c.loop-k.k in
    let ply = get_or c.items-plies.result.now k (record { 0 = 0 }) in
    let there : slice_get c.args.prefix.now k ≡ Some ply = ap (λ (ns : List ItemNo). slice_get ns k) (sym c.items-plies.ensures.items) ∙ slice_get-get_or c.items-plies.result.now k (record { 0 = 0 }) c.loop-k-test.true in
    let is : IsStock stock (scale_of stock) = subst (IsStock stock) c.scale-scale.ensures.value c.scale-scale.ensures.stock in
    let here = c.index-tables-item.is in
    let item = ply-item stock c.args.prefix.now c.args.tables.now is c.requires.known c.requires.tables k ply there in
    let listed = ply-listed stock c.args.prefix.now c.args.tables.now is c.requires.known c.requires.tables k ply there in
    let so = sym here ∙ ply-criterion stock c.args.prefix.now c.args.tables.now is c.requires.known c.requires.tables k ply there c.index-tables-item.result here in
    let value : c.failing_side.result ≡ failing_side n (criterion n (scale_of stock) item) c.args.at.now (stored-64 c.args.factor) = c.failing_side.ensures ∙ ap (λ (x : Criterion (Fix 60)). failing_side n x c.args.at.now (stored-64 c.args.factor)) so in
    let f : stored-64 c.args.factor ≡ c.args.factor = search rules in
    first-found c.args.case (λ (i : Item). failing_side n (criterion n (scale_of stock) i) c.args.at.now (stored-64 c.args.factor)) (items_of stock c.args.prefix.now) k item c.in-Some.side listed (sym value ∙ c.in-Some.is) ∙ c.loop-k.invariant.same ∙ ap (λ (x : ℤ). first_failing c.args.case (λ (i : Item). failing_side n (criterion n (scale_of stock) i) c.args.at.now x) 0 (items_of stock c.args.prefix.now)) f

pub loop-k-preserved : goal.loop-k-preserved
loop-k-preserved c =
    let n = fix_numbers 60 in
    let stock = c.args.stock.now in
    let k = c.loop-k.k in
    let ply = get_or c.items-plies.result.now k (record { 0 = 0 }) in
    let there : slice_get c.args.prefix.now k ≡ Some ply = ap (λ (ns : List ItemNo). slice_get ns k) (sym c.items-plies.ensures.items) ∙ slice_get-get_or c.items-plies.result.now k (record { 0 = 0 }) c.loop-k-test.true in
    let is : IsStock stock (scale_of stock) = subst (IsStock stock) c.scale-scale.ensures.value c.scale-scale.ensures.stock in
    let item = ply-item stock c.args.prefix.now c.args.tables.now is c.requires.known c.requires.tables k ply there in
    let listed = ply-listed stock c.args.prefix.now c.args.tables.now is c.requires.known c.requires.tables k ply there in
    let few = ply-few stock c.args.prefix.now c.args.tables.now is c.requires.known c.requires.tables k ply there in
    let stands = ply-stands stock c.args.prefix.now c.args.tables.now is c.requires.known c.requires.tables k ply there in
    let long = c.loop-k.invariant.long in
    let within : ply.0 < length c.loop-k.passed = omega (arith, few, long) in
    let of : Item → Option Side = λ (i : Item). failing_side n (criterion n (scale_of stock) i) c.args.at.now (stored-64 c.args.factor) in
    elim c.if-not-passed-item.branch [
      | then-not-passed-item+in_default w ↦ (
          let here = w.index-tables-item.is in
          let so = sym here ∙ ply-criterion stock c.args.prefix.now c.args.tables.now is c.requires.known c.requires.tables k ply there w.index-tables-item.result here in
          let value : w.failing_side.result ≡ of item = w.failing_side.ensures ∙ ap (λ (x : Criterion (Fix 60)). failing_side n x c.args.at.now (stored-64 c.args.factor)) so in
          let none : of item ≡ None = sym value ∙ w.in_default.is in
          record {
            same = first-next c.args.case of (items_of stock c.args.prefix.now) k item listed none ∙ c.loop-k.invariant.same;
            long = ap length w.passed-is ∙ length-set c.loop-k.passed ply.0 true ∙ long;
            clear = subst (DoNotFail stock of) (sym w.passed-is) (one-passed stock of c.loop-k.passed ply.0 item within stands none c.loop-k.invariant.clear);
          })
      | else-not-passed-item w ↦ (
          let none : of item ≡ None = c.loop-k.invariant.clear ply.0 item stands w.if-not-passed-item.false in
          record {
            same = first-next c.args.case of (items_of stock c.args.prefix.now) k item listed none ∙ c.loop-k.invariant.same;
            long = ap length w.passed-is ∙ long;
            clear = subst (DoNotFail stock of) (sym w.passed-is) c.loop-k.invariant.clear;
          })
    ]

pub returns : goal.returns
returns c =
    let n = fix_numbers 60 in
    let stock = c.args.stock.now in
    let k = c.loop-k.k in
    let count = items_of-length stock c.args.prefix.now c.requires.known in
    let whole = ap (λ (ns : List ItemNo). length ns) c.items-plies.ensures.items in
    let end = c.loop-k-test.false in
    let f : stored-64 c.args.factor ≡ c.args.factor = search rules in
    first-none c.args.case (λ (i : Item). failing_side n (criterion n (scale_of stock) i) c.args.at.now (stored-64 c.args.factor)) (items_of stock c.args.prefix.now) k (omega (arith, count, whole, end)) ∙ c.loop-k.invariant.same ∙ ap (λ (x : ℤ). first_failing c.args.case (λ (i : Item). failing_side n (criterion n (scale_of stock) i) c.args.at.now x) 0 (items_of stock c.args.prefix.now)) f
