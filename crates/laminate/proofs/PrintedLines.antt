-- Printed ratios are those that an analysis has to say.
use Rattle.std.proofs.Common.{ℕ, ◌+◌, ◌*◌, ◌/◌, ◌%◌, ◌<◌, List, length, get_or, Option, Some, None, subst, arith}
use Rattle.std.specs.Prelude.{MatchOption}
use Rattle.std.proofs.lemmas.Nat.{div-mul-add, mod-mul-add, mul-add-lt}
use Rattle.std.proofs.lemmas.Option.{slice_get-get_or}
use Rattle.lam_stock.specs.declared.item.Item.{Item}
use Rattle.lam_stock.specs.declared.item.ItemNo.{ItemNo}
use Rattle.lam_job.specs.JobData.{JobData}
use Rattle.lam_job.specs.Rules.{Fit}
use Rattle.lam_job.specs.Schedule.{wall_of}
use Rattle.lam_sharp.specs.SharpRatios.{HasSharpPanel, HasSharpRatio}
use Rattle.lam_judge.specs.Printed.{ArePrinted, HavePanelRatios, Printed, panel_in, panel_of, ratio_of}

-- number `case * plies + ply` is that of a ply under a case
at_number : (stock : List Item) (job : JobData) (listed : List ItemNo) (case ply plies r : ℕ) → ply < plies
    → HasSharpRatio stock job listed ((case * plies + ply) / plies) ((case * plies + ply) % plies) r
    → HasSharpRatio stock job listed case ply r
at_number stock job listed case ply plies r there h =
    subst (λ (c : ℕ). HasSharpRatio stock job listed c ply r) (div-mul-add case plies ply there)
    (subst (λ (k : ℕ). HasSharpRatio stock job listed ((case * plies + ply) / plies) k r) (mod-mul-add case plies ply there) h)

pub printed_ratios : (stock : List Item) (job : JobData) (listed : List ItemNo) (p : Printed) → ArePrinted stock job listed p
    → (case ply : ℕ) → case < length job.cases → ply < length (wall_of stock job listed)
    → HasSharpRatio stock job listed case ply (ratio_of p case ply)
printed_ratios stock job listed p are case ply is_case is_ply =
    let there : ply < p.plies = omega (arith, are.plies, is_ply) in
    let within : case * p.plies + ply < length p.ratios = omega (arith, are.number, mul-add-lt case p.plies ply (length job.cases) is_case there) in
    at_number stock job listed case ply p.plies (ratio_of p case ply) there
    (are.ratios (case * p.plies + ply) (ratio_of p case ply) (slice_get-get_or p.ratios (case * p.plies + ply) 0 within))

by_fitness : (stock : List Item) (job : JobData) (listed : List ItemNo) (panels : Option (List ℕ)) (k : ℕ) → k < length job.panels
    → MatchOption panels (¬ Fit stock job listed) (λ ratios. Fit stock job listed × HavePanelRatios stock job listed ratios)
    → MatchOption (panel_in panels k) (¬ Fit stock job listed) (λ r. Fit stock job listed × HasSharpPanel stock job listed k r)
by_fitness stock job listed None k within unfit = unfit
by_fitness stock job listed (Some ratios) k within (fit, have) =
    (fit, have.each k (get_or ratios k 0) (slice_get-get_or ratios k 0 (omega (arith, have.number, within))))

pub printed_panels : (stock : List Item) (job : JobData) (listed : List ItemNo) (p : Printed) → ArePrinted stock job listed p
    → (k : ℕ) → k < length job.panels
    → MatchOption (panel_of p k) (¬ Fit stock job listed) (λ r. Fit stock job listed × HasSharpPanel stock job listed k r)
printed_panels stock job listed p are k within = by_fitness stock job listed p.panels k within are.panels
