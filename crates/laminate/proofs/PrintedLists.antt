-- The lists of printed ratios, from the room in which they were printed.
use Rattle.std.proofs.Common.{◌≡◌, refl, sym, ◌∙◌, ap, subst, ℕ, zero, suc, ◌+◌, ◌*◌, ◌/◌, ◌%◌, ◌<◌, ◌≤◌, List, [], ◌∷◌, length, get_or, Option, Some, None, All, arith}
use Rattle.std.specs.Prelude.{MatchOption}
use Rattle.std.proofs.Math.Nat.{mod-add-div', mul-le-mul}
use Rattle.std.proofs.lemmas.Option.{none-some}
use Rattle.lam_stock.specs.declared.item.Item.{Item}
use Rattle.lam_stock.specs.declared.item.ItemNo.{ItemNo}
use Rattle.lam_stock.specs.Stock.{IsKnown}
use Rattle.lam_job.specs.JobData.{JobData}
use Rattle.lam_job.specs.Design.{Admissible}
use Rattle.lam_job.specs.Rules.{Fit, FitnessRule}
use Rattle.lam_job.specs.Schedule.{items_of, wall_of}
use Rattle.lam_sharp.specs.SharpRatios.{HasSharpRatio}
use Rattle.lam_job.proofs.Listed.{items_of-length}
use Rattle.lam_judge.specs.Printed.{ArePrinted, HavePanelRatios, Printed, panel_in, panel_of, ratio_of}
use Rattle.lam_judge.specs.inside.Ratios.{printed}
use Rattle.lam_tree.specs.declared.limits.TheConstants.{MOST_RATIO}
use Rattle.lam_tree.specs.Checks.{PanelChecks, RatioChecks}
use Rattle.lam_tree.specs.Promise.{HasPanels}
use Rattle.lam_answers.specs.inside.Computed.{computed}
use Rattle.laminate.specs.inside.Printing.{ArePrintedOf, panels_in}
use Rattle.laminate.proofs.PrintedBounds.{panels_small, ratios_small}

-- ---- numbers of ratios

-- number `number` is that of ply `number % plies` under case `number / plies`
pub ratio_numbered : (room : Printed) (plies number : ℕ) → plies ≡ room.plies
    → ratio_of room (number / plies) (number % plies) ≡ get_or room.ratios number 0
ratio_numbered room plies number same =
    let place : number / plies * room.plies + number % plies ≡ number =
    ap (λ n. number / plies * n + number % plies) (sym same) ∙ (let d = mod-add-div' number plies in omega (arith, d)) in
    ap (λ k. get_or room.ratios k 0) place

pub few_ratios : (cases plies : ℕ) → cases ≤ 16 → plies ≤ 64 → cases * plies ≤ 1024
few_ratios cases plies few short = mul-le-mul few short

pub few_cases : (cases plies : ℕ) → cases ≤ 16 → cases * plies ≤ 16 * plies
few_cases cases plies few = mul-le-mul few (let h : plies ≤ plies = omega arith in h)

-- the plies of a wall that are listed are as many as those of which ratios were printed
pub wall_plies_are : (stock : List Item) (job : JobData) (listed wall : List ItemNo) (room : Printed) → IsKnown stock wall
    → items_of stock wall ≡ wall_of stock job listed → ArePrinted stock job listed room → length wall ≡ room.plies
wall_plies_are stock job listed wall room known e are = sym (items_of-length stock wall known) ∙ ap length e ∙ sym are.plies

-- ---- panels

-- where panels are asked for, the schedule is fit, so that all of them have a ratio
pub panels_there : (stock : List Item) (job : JobData) (listed : List ItemNo) (room : Printed) → Admissible stock job listed
    → ArePrinted stock job listed room → length (panels_in room.panels) ≡ length job.panels
panels_there stock job listed room admissible are = by room.panels are.panels (length job.panels) refl
  where
    by : (own : Option (List ℕ)) → MatchOption own (¬ Fit stock job listed) (λ ratios. Fit stock job listed × HavePanelRatios stock job listed ratios)
        → (number : ℕ) → length job.panels ≡ number → length (panels_in own) ≡ number
    by (Some ratios) (fit, have) number e = have.number ∙ e
    by None unfit zero e = refl
    by None unfit (suc number) e =
        absurd (unfit (admissible.rules FitnessRule (let h : 0 < length job.panels = omega (arith, e) in h)))

pub panel_there : (own : Option (List ℕ)) (panel : ℕ) → panel < length (panels_in own)
    → panel_in own panel ≡ Some (get_or (panels_in own) panel 0)
panel_there None panel within = absurd (omega (arith, within))
panel_there (Some ratios) panel within = refl

-- ---- what a report says of them

module _ (stock : List Item) (job : JobData) (listed : List ItemNo) (room : Printed) (is : room ≡ printed stock job listed) where
  ratio_checks : (plies line first : ℕ) (ratios : List ℕ)
      → ((k : ℕ) → k < length ratios → get_or ratios k 0 ≡ ratio_of room ((first + k) / plies) ((first + k) % plies))
      → RatioChecks stock job (computed stock job) listed plies line first ratios None
  unfolding RatioChecks
  ratio_checks plies line first [] each = tt
  ratio_checks plies line first (r ∷ rest) each = (
    each 0 (omega arith)
        ∙ ap (λ n. ratio_of room (n / plies) (n % plies)) (let e : first + 0 ≡ first = omega arith in e)
        ∙ ap (λ p. ratio_of p (first / plies) (first % plies)) is,
    ratio_checks plies (suc line) (suc first) rest (λ k within.
        each (suc k) (omega (arith, within))
        ∙ ap (λ n. ratio_of room (n / plies) (n % plies)) (let e : first + suc k ≡ suc first + k = omega arith in e)),
  )

  panel_checks : (line first : ℕ) (panels : List ℕ)
      → ((k : ℕ) → k < length panels → Some (get_or panels k 0) ≡ panel_of room (first + k))
      → PanelChecks stock job (computed stock job) listed line first panels None
  unfolding PanelChecks
  panel_checks line first [] each = tt
  panel_checks line first (r ∷ rest) each = (
    each 0 (omega arith)
        ∙ ap (λ n. panel_of room n) (let e : first + 0 ≡ first = omega arith in e)
        ∙ ap (λ p. panel_of p first) is,
    panel_checks (suc line) (suc first) rest (λ k within.
        each (suc k) (omega (arith, within))
        ∙ ap (λ n. panel_of room n) (let e : first + suc k ≡ suc first + k = omega arith in e)),
  )

  has_panels : (own : Option (List ℕ)) → MatchOption own (¬ Fit stock job listed) (λ ratios. Fit stock job listed × HavePanelRatios stock job listed ratios)
      → HasPanels stock job listed (panels_in own)
  has_panels None unfit = λ i r at. absurd (none-some r at)
  has_panels (Some ratios) (fit, have) = have.each

  pub printed_lists : Admissible stock job listed → ArePrinted stock job listed room → ArePrintedOf stock job listed room.ratios (panels_in room.panels)
  printed_lists admissible are =
      let plies : length (wall_of stock job listed) ≡ room.plies = sym are.plies in
      record {
        ratios_computed = ratio_checks (length (wall_of stock job listed)) 6 0 room.ratios (λ k within.
            sym (ratio_numbered room (length (wall_of stock job listed)) k plies)
            ∙ ap (λ n. ratio_of room (n / length (wall_of stock job listed)) (n % length (wall_of stock job listed))) (let e : k ≡ 0 + k = omega arith in e));
        panels_computed = panel_checks (6 + length room.ratios) 0 (panels_in room.panels) (λ k within.
            sym (panel_there room.panels k within) ∙ ap (λ n. panel_of room n) (let e : k ≡ 0 + k = omega arith in e));
        has_ratios = λ i r at. subst (λ n. HasSharpRatio stock job listed (i / n) (i % n) r) are.plies (are.ratios i r at);
        has_panels = has_panels room.panels are.panels;
        are_ratios = record {
          many = are.number ∙ ap (λ n. length job.cases * n) are.plies;
          small = subst (λ p. All (λ r. r ≤ MOST_RATIO) p.ratios) (sym is) (ratios_small stock job listed);
        };
        are_panels = record {
          many = panels_there stock job listed room admissible are;
          small = subst (λ (p : Printed). All (λ r. r ≤ MOST_RATIO) (panels_in p.panels)) (sym is) (panels_small stock job listed);
        };
      }

-- lists that are those of the room
pub as_listed : (stock : List Item) (job : JobData) (listed : List ItemNo) (ratios own panels own_panels : List ℕ)
    → ratios ≡ own → panels ≡ own_panels → ArePrintedOf stock job listed own own_panels → ArePrintedOf stock job listed ratios panels
as_listed stock job listed ratios own panels own_panels same same_panels are =
    subst (λ (x : List ℕ). ArePrintedOf stock job listed x panels) (sym same)
    (subst (λ (x : List ℕ). ArePrintedOf stock job listed own x) (sym same_panels) are)
