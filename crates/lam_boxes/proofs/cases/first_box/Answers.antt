use Rattle.std.proofs.Common.{refl, ◌≡◌, sym, ◌∙◌, ap, subst, List, length, slice_get, Some, true, false, arith}
use Rattle.std.proofs.lemmas.Option.{slice_get_read, slice_get_within}
use Rattle.lam_stock.specs.Scale.{scale_of}
use Rattle.lam_stock.specs.Stock.{IsStock}
use Rattle.lam_job.specs.JobData.{CaseData, JobData}
use Rattle.lam_job.specs.Partial.{Partial}
use Rattle.lam_job.specs.Ranges.{IsJob}
use Rattle.lam_boxes.proofs.BoxedCases.{boxed-fails-so, boxed-none, boxed-shut, boxed-some, none-more, place-boxed}
use Rattle.lam_boxes.proofs.cases.first_box.Goals as goal

pub returns-then-not-is_open-clause-none : goal.returns-then-not-is_open-clause-none
returns-then-not-is_open-clause-none c = λ none k d at may.
    let e : c.is_open.result ≡ false = cc in
    boxed-shut c.args.stock.now c.args.job.now c.args.partial.now k (sym c.is_open.ensures ∙ e)

pub returns-then-is_some-clause-some : goal.returns-then-is_some-clause-some
returns-then-is_some-clause-some c =
    let stock = c.args.stock.now in
    let job = c.args.job.now in
    let p = c.args.partial.now in
    let k = c.loop-k.k in
    let case = c.index-cases-k.result in
    let cases : c.items-cases.result.now ≡ job.cases = c.items-cases.ensures ∙ ap (λ (j : JobData). j.cases) c.job.view_is in
    let there : slice_get job.cases k ≡ Some case =
    ap (λ (cs : List CaseData). slice_get cs k) (sym cases) ∙ slice_get_read c.items-cases.result.now (length c.items-cases.result.now) k case refl c.loop-k-test.true c.index-cases-k.is in
    let e : c.is_open.result ≡ true = cc in
    let value = place-boxed stock job p k case there (sym c.is_open.ensures ∙ e) c.partial.inside.prefix (ap (λ (q : Partial). q.prefix) c.partial.view_is)
    c.shape_of-shape.result c.shape_of-shape.ensures.value c.place_of-place.result c.place_of-place.ensures.value in
    boxed-some stock job p k case there c.place_of-place.result value c.place_of-place.ensures.moments c.place_of-place.ensures.case (c.stays_flat.ensures.0 c.if-not-stays_flat.false)

pub returns-then-is_some-clause-so : goal.returns-then-is_some-clause-so
returns-then-is_some-clause-so c =
    let stock = c.args.stock.now in
    let job = c.args.job.now in
    let p = c.args.partial.now in
    let k = c.loop-k.k in
    let case = c.index-cases-k.result in
    let cases : c.items-cases.result.now ≡ job.cases = c.items-cases.ensures ∙ ap (λ (j : JobData). j.cases) c.job.view_is in
    let there : slice_get job.cases k ≡ Some case =
    ap (λ (cs : List CaseData). slice_get cs k) (sym cases) ∙ slice_get_read c.items-cases.result.now (length c.items-cases.result.now) k case refl c.loop-k-test.true c.index-cases-k.is in
    let e : c.is_open.result ≡ true = cc in
    let value = place-boxed stock job p k case there (sym c.is_open.ensures ∙ e) c.partial.inside.prefix (ap (λ (q : Partial). q.prefix) c.partial.view_is)
    c.shape_of-shape.result c.shape_of-shape.ensures.value c.place_of-place.result c.place_of-place.ensures.value in
    let is : IsStock stock (scale_of stock) = subst (IsStock stock) c.scale-scale.ensures.value c.scale-scale.ensures.stock in
    boxed-fails-so stock job p k case there is (subst IsJob c.job.view_is c.job.invariant) c.requires.partial c.place_of-place.result value c.place_of-place.ensures.moments
    (c.stays_flat.ensures.0 c.if-not-stays_flat.false)

pub loop-k-preserved : goal.loop-k-preserved
loop-k-preserved c =
    let stock = c.args.stock.now in
    let job = c.args.job.now in
    let p = c.args.partial.now in
    let k = c.loop-k.k in
    let case = c.index-cases-k.result in
    let cases : c.items-cases.result.now ≡ job.cases = c.items-cases.ensures ∙ ap (λ (j : JobData). j.cases) c.job.view_is in
    let there : slice_get job.cases k ≡ Some case =
    ap (λ (cs : List CaseData). slice_get cs k) (sym cases) ∙ slice_get_read c.items-cases.result.now (length c.items-cases.result.now) k case refl c.loop-k-test.true c.index-cases-k.is in
    let e : c.is_open.result ≡ true = cc in
    let value = place-boxed stock job p k case there (sym c.is_open.ensures ∙ e) c.partial.inside.prefix (ap (λ (q : Partial). q.prefix) c.partial.view_is)
    c.shape_of-shape.result c.shape_of-shape.ensures.value c.place_of-place.result c.place_of-place.ensures.value in
    none-more stock job p k c.loop-k.invariant (boxed-none stock job p k case there c.place_of-place.result c.is_some.result c.is_some.ensures c.if-is_some.false value)

pub returns-clause-none : goal.returns-clause-none
returns-clause-none c = λ none n d at may.
    let within = slice_get_within c.args.job.now.cases n d at in
    let count = ap (λ (cs : List CaseData). length cs) c.items-cases.ensures in
    let all = ap (λ (j : JobData). length j.cases) c.job.view_is in
    let end = c.loop-k-test.false in
    c.loop-k.invariant n d (omega (arith, within, count, all, end)) at may
