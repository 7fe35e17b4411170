use Rattle.std.proofs.Common.{refl, sym, ◌∙◌, subst, length}
use Rattle.std.proofs.lemmas.List.Elements.{All-get_or}
use Rattle.std.proofs.lemmas.Option.{slice_get_read}
use Rattle.lam_job.specs.JobData.{CaseData}
use Rattle.lam_job.specs.LoadOf.{load_of}
use Rattle.lam_job.specs.LoadRange.{LoadInRange}
use Rattle.lam_job.specs.Schedule.{items_of}
use Rattle.lam_job.specs.Wall.{placed_plies}
use Rattle.lam_stock.specs.Scale.{scale_of}
use Rattle.lam_judge.specs.inside.Findings.{at_cases, at_plies}
use Rattle.lam_judge.specs.inside.Judged.{place_verdict}
use Rattle.lam_judge.proofs.PlacesWalked.{cases-none, cases-one}
use Rattle.lam_judge.proofs.Walked.{all-passed, passed, stopped}
use Rattle.lam_judge.proofs.coarse.first_of_cases.Goals as goal

pub loop-number-init : goal.loop-number-init
loop-number-init c = refl

pub first_of_case-found-requires-clause-range : goal.first_of_case-found-requires-clause-range
first_of_case-found-requires-clause-range c =
    let d = c.index-cases-number in
    let InRange = λ (x : CaseData). LoadInRange (scale_of c.args.stock.now).floor c.args.layup.now.h (load_of x.kind) in
    subst InRange (sym d.is) (All-get_or InRange c.args.cases.now c.loop-number.number d.result c.loop-number-test.true c.requires.range)

pub returns-then-not-is_clear : goal.returns-then-not-is_clear
returns-then-not-is_clear c =
    let d = c.index-cases-number in
    let wall = items_of c.args.stock.now c.args.layup.now.plies in
    let V = place_verdict (scale_of c.args.stock.now) wall in
    let plies = placed_plies wall in
    let k = c.loop-number.number in
    let at = slice_get_read c.args.cases.now (length c.args.cases.now) k d.result refl c.loop-number-test.true d.is in
    stopped (at_cases V plies) (λ k x. at_plies (V x) k 0 plies) (cases-none V plies) (cases-one V plies) c.args.cases.now
    _ k d.result c.first_of_case-found.result at c.first_of_case-found.ensures (sym c.is_clear.ensures ∙ c.if-not-is_clear.true) c.loop-number.invariant

pub loop-number-preserved : goal.loop-number-preserved
loop-number-preserved c =
    let d = c.index-cases-number in
    let wall = items_of c.args.stock.now c.args.layup.now.plies in
    let V = place_verdict (scale_of c.args.stock.now) wall in
    let plies = placed_plies wall in
    let k = c.loop-number.number in
    let at = slice_get_read c.args.cases.now (length c.args.cases.now) k d.result refl c.loop-number-test.true d.is in
    passed (at_cases V plies) (λ k x. at_plies (V x) k 0 plies) (cases-none V plies) (cases-one V plies) c.args.cases.now
    _ k d.result c.first_of_case-found.result at c.first_of_case-found.ensures (sym c.is_clear.ensures ∙ c.if-not-is_clear.false) c.loop-number.invariant

pub returns : goal.returns
returns c =
    let wall = items_of c.args.stock.now c.args.layup.now.plies in
    let V = place_verdict (scale_of c.args.stock.now) wall in
    let plies = placed_plies wall in
    all-passed (at_cases V plies) (λ k x. at_plies (V x) k 0 plies) (cases-none V plies) (cases-one V plies) c.args.cases.now _ c.loop-number.number c.loop-number-test.false c.loop-number.invariant
