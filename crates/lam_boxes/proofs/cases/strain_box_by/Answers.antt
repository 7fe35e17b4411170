use Rattle.std.proofs.Common.{refl, ◌≡◌, sym, ◌∙◌, ap, subst, List, length, slice_get, Some, None, true, false}
use Rattle.std.proofs.lemmas.Option.{slice_get_past, slice_get_read}
use Rattle.lam_stock.specs.Scale.{scale_of}
use Rattle.lam_stock.specs.Stock.{IsStock}
use Rattle.lam_job.specs.JobData.{CaseData, JobData}
use Rattle.lam_job.specs.Partial.{Partial}
use Rattle.lam_job.specs.Ranges.{IsJob}
use Rattle.lam_boxes.proofs.BoxedCases.{boxed-absent, boxed-shut, boxed-so, place-boxed}
use Rattle.lam_boxes.proofs.cases.strain_box_by.Goals as goal

pub returns-then-not-is_open-clause-value : goal.returns-then-not-is_open-clause-value
returns-then-not-is_open-clause-value c =
    let e : c.is_open.result ≡ false = cc in
    sym (boxed-shut c.args.stock.now c.args.job.now c.args.partial.now c.args.case (sym c.is_open.ensures ∙ e))

pub returns-in-Some-clause-value : goal.returns-in-Some-clause-value
returns-in-Some-clause-value c =
    let stock = c.args.stock.now in
    let job = c.args.job.now in
    let p = c.args.partial.now in
    let k = c.args.case in
    let asked = c.in-Some.asked.now in
    let cases : c.items.result.now ≡ job.cases = c.items.ensures ∙ ap (λ (j : JobData). j.cases) c.job.view_is in
    let there : slice_get job.cases k ≡ Some asked =
    ap (λ (cs : List CaseData). slice_get cs k) (sym cases) ∙ slice_get_read c.items.result.now (length c.items.result.now) k asked refl c.in-Some.ensures.lookup.3.0 c.in-Some.ensures.lookup.1 in
    let e : c.is_open.result ≡ true = cc in
    place-boxed stock job p k asked there (sym c.is_open.ensures ∙ e) c.partial.inside.prefix (ap (λ (q : Partial). q.prefix) c.partial.view_is)
    c.shape_of-shape.result c.shape_of-shape.ensures.value c.place_of.result c.place_of.ensures.value (c.requires.may asked there).moments

pub returns-in-Some-clause-so : goal.returns-in-Some-clause-so
returns-in-Some-clause-so c =
    let stock = c.args.stock.now in
    let job = c.args.job.now in
    let p = c.args.partial.now in
    let k = c.args.case in
    let asked = c.in-Some.asked.now in
    let cases : c.items.result.now ≡ job.cases = c.items.ensures ∙ ap (λ (j : JobData). j.cases) c.job.view_is in
    let there : slice_get job.cases k ≡ Some asked =
    ap (λ (cs : List CaseData). slice_get cs k) (sym cases) ∙ slice_get_read c.items.result.now (length c.items.result.now) k asked refl c.in-Some.ensures.lookup.3.0 c.in-Some.ensures.lookup.1 in
    let is : IsStock stock (scale_of stock) = subst (IsStock stock) c.scale-scale.ensures.value c.scale-scale.ensures.stock in
    boxed-so stock job p k asked there is (subst IsJob c.job.view_is c.job.invariant) c.requires.partial c.place_of.result (returns-in-Some-clause-value c) (c.requires.may asked there)

pub returns-in-None-clause-value : goal.returns-in-None-clause-value
returns-in-None-clause-value c =
    let job = c.args.job.now in
    let cases : c.items.result.now ≡ job.cases = c.items.ensures ∙ ap (λ (j : JobData). j.cases) c.job.view_is in
    let absent : slice_get job.cases c.args.case ≡ None = ap (λ (cs : List CaseData). slice_get cs c.args.case) (sym cases) ∙ slice_get_past c.items.result.now c.args.case c.in-None.ensures.lookup.3 in
    sym (boxed-absent c.args.stock.now job c.args.partial.now c.args.case absent)
