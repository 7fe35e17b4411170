use Rattle.std.proofs.Common.{refl, sym, ◌∙◌, subst, length}
use Rattle.std.proofs.lemmas.List.Elements.{All-get_or}
use Rattle.std.proofs.lemmas.Option.{slice_get_read}
use Rattle.lam_job.specs.JobData.{CaseData}
use Rattle.lam_job.specs.LoadOf.{load_of}
use Rattle.lam_job.specs.LoadRange.{LoadInRange}
use Rattle.lam_job.specs.Schedule.{items_of}
use Rattle.lam_job.specs.Wall.{placed_plies}
use Rattle.lam_stock.specs.Scale.{scale_of}
use Rattle.lam_judge.specs.inside.Findings.{at_cases, at_plies}
use Rattle.lam_judge.specs.inside.Judged.{place_verdict}
use Rattle.lam_judge.proofs.LoadedVerdicts.{case-found}
use Rattle.lam_judge.proofs.PlacesWalked.{cases-none, cases-one}
use Rattle.lam_judge.proofs.Walked.{all, more, settled}
use Rattle.lam_judge.proofs.cases.at_cases.Goals as goal

pub loop-number-init : goal.loop-number-init
loop-number-init c = refl

pub of-loaded-requires : goal.of-loaded-requires
of-loaded-requires c =
    let d = c.index-cases-number in
    let scale = scale_of c.args.stock.now in
    record {
      layup = c.requires.layup;
      coarse = c.requires.coarse;
      fine = c.requires.fine;
      range = subst (λ (x : CaseData). LoadInRange scale.floor c.args.layup.now.h (load_of x.kind)) (sym d.is)
          (All-get_or (λ (x : CaseData). LoadInRange scale.floor c.args.layup.now.h (load_of x.kind)) c.args.cases.now c.loop-number.number d.result c.loop-number-test.true c.requires.range);
    }

pub at_plies-case-requires : goal.at_plies-case-requires
at_plies-case-requires c = record { tables = c.requires.tables; layup = c.requires.layup; borne = c.of-loaded.ensures.borne }

pub returns-then-is_settled : goal.returns-then-is_settled
returns-then-is_settled c =
    let d = c.index-cases-number in
    let wall = items_of c.args.stock.now c.args.layup.now.plies in
    let V = place_verdict (scale_of c.args.stock.now) wall in
    let plies = placed_plies wall in
    let k = c.loop-number.number in
    let at = slice_get_read c.args.cases.now (length c.args.cases.now) k d.result refl c.loop-number-test.true d.is in
    settled (at_cases V plies) (λ k x. at_plies (V x) k 0 plies) (cases-none V plies) (cases-one V plies) c.args.cases.now
    _ c.loop-number.found c.then-found.result k d.result c.at_plies-case.result at (c.at_plies-case.ensures ∙ case-found c.of-loaded.ensures plies) c.loop-number.invariant c.then-found.ensures (sym c.is_settled.ensures ∙ c.if-is_settled.true)

pub loop-number-preserved : goal.loop-number-preserved
loop-number-preserved c =
    let d = c.index-cases-number in
    let wall = items_of c.args.stock.now c.args.layup.now.plies in
    let V = place_verdict (scale_of c.args.stock.now) wall in
    let plies = placed_plies wall in
    let k = c.loop-number.number in
    let at = slice_get_read c.args.cases.now (length c.args.cases.now) k d.result refl c.loop-number-test.true d.is in
    more (at_cases V plies) (λ k x. at_plies (V x) k 0 plies) (cases-none V plies) (cases-one V plies) c.args.cases.now
    _ c.loop-number.found c.then-found.result k d.result c.at_plies-case.result at (c.at_plies-case.ensures ∙ case-found c.of-loaded.ensures plies) c.loop-number.invariant c.then-found.ensures

pub returns : goal.returns
returns c =
    let wall = items_of c.args.stock.now c.args.layup.now.plies in
    let V = place_verdict (scale_of c.args.stock.now) wall in
    let plies = placed_plies wall in
    all (at_cases V plies) (λ k x. at_plies (V x) k 0 plies) (cases-none V plies) (cases-one V plies) c.args.cases.now _ c.loop-number.found c.loop-number.number c.loop-number-test.false c.loop-number.invariant
