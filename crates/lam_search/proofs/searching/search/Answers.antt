use Rattle.std.proofs.Common.{Ok, Err, Result, IfOk}
use Rattle.lam_search.specs.declared.searching.Found.{Found}
use Rattle.lam_search.specs.inside.Here.{basis_of}
use Rattle.lam_search.specs.inside.Outcome.{IsFound}
use Rattle.lam_search.proofs.Outcomes.{is_accepted, keeps_promise, is_report, is_best, is_enough}
use Rattle.lam_search.proofs.searching.search.Goals as goal

-- what follows of what is found
follows : {E : Type 0} (P Q : Found → Type 0) (r : Result Found E) → ((f : Found) → P f → Q f) → IfOk r P → IfOk r Q
follows P Q (Ok f) so found = so f found
follows P Q (Err e) so found = tt

pub search_in-requires-clause-ready : goal.search_in-requires-clause-ready
search_in-requires-clause-ready g c = record { job_for = c.requires.job_for; are_tables = c.of-tables.ensures; are_bounds = c.of-bounds.ensures; are_boxes = c.of-boxes.ensures }

pub returns-clause-accepted : goal.returns-clause-accepted
returns-clause-accepted g c =
    let m = basis_of c.args.stock.now c.args.job.now in
    follows (IsFound m c.args.budget) _ c.search_in.result (λ f found. is_accepted m c.of-bounds.ensures.valid c.args.budget f found) c.search_in.ensures.found

pub returns-clause-promise : goal.returns-clause-promise
returns-clause-promise g c =
    let m = basis_of c.args.stock.now c.args.job.now in
    follows (IsFound m c.args.budget) _ c.search_in.result (λ f found. keeps_promise m c.of-bounds.ensures.valid c.args.budget f found) c.search_in.ensures.found

pub returns-clause-grammar : goal.returns-clause-grammar
returns-clause-grammar g c =
    let m = basis_of c.args.stock.now c.args.job.now in
    follows (IsFound m c.args.budget) _ c.search_in.result
    (λ f found ratios panels. is_report m c.of-bounds.ensures.valid c.args.budget f found ratios panels c.requires.some c.requires.most) c.search_in.ensures.found

pub returns-clause-best : goal.returns-clause-best
returns-clause-best g c =
    let m = basis_of c.args.stock.now c.args.job.now in
    follows (IsFound m c.args.budget) _ c.search_in.result (λ f found. is_best m c.of-bounds.ensures.valid c.args.budget f found) c.search_in.ensures.found

pub returns-clause-enough : goal.returns-clause-enough
returns-clause-enough g c = λ enough.
    let m = basis_of c.args.stock.now c.args.job.now in
    follows (IsFound m c.args.budget) _ c.search_in.result (λ f found. is_enough m c.of-bounds.ensures.valid c.args.budget f found enough) c.search_in.ensures.found

pub returns-clause-heard : goal.returns-clause-heard
returns-clause-heard g c = c.search_in.ensures.heard
