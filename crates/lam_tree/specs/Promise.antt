-- What a report promises, whoever wrote it.
use Rattle.std.specs.Prelude.{◌≡◌, ◌≢◌, ℕ, ◌/◌, ◌%◌, ◌≤◌, List, [], ◌∷◌, length, slice_get, All, Option, Some, None, MatchOption}
use Rattle.lam_stock.specs.declared.item.Item.{Item}
use Rattle.lam_stock.specs.declared.item.ItemNo.{ItemNo}
use Rattle.lam_job.specs.JobData.{JobData}
use Rattle.lam_job.specs.Schedule.{wall_of, cost_of}
use Rattle.lam_job.specs.Design as design
use Rattle.lam_sharp.specs.SharpRatios.{HasSharpRatio, HasSharpPanel}
use Rattle.lam_tree.specs.declared.node.Word.TheVariants as word
use Rattle.lam_tree.specs.declared.report.Best.{Best}
use Rattle.lam_tree.specs.declared.report.Answer.{Answer}
use Rattle.lam_tree.specs.declared.report.Answer.TheVariants as answer
use Rattle.lam_tree.specs.declared.report.Report.{Report}
use Rattle.lam_tree.specs.Words.{IsTrueOf, HangsAt}
use Rattle.lam_tree.specs.Reading.{Visit, Cut, Stray, Whole, Reading, read}
use Rattle.lam_tree.specs.Closings.{IsBelow, IsLawful, incumbent_with}
use Rattle.lam_tree.specs.Checks.{best_cost, final}

module _ (stock : List Item) (job : JobData) where
  -- each split is lawful with the incumbent of its moment
  abbrev pub AreLawful : (incumbent : Option ℕ) → List Visit → Type 0
  AreLawful c [] = Unit {0}
  AreLawful c (v ∷ rest) =
      (v.word ≡ word.Split → IsLawful stock job c v.partial) × AreLawful (incumbent_with stock job c v.partial v.word) rest

  -- ratio number i is that of ply i % plies under case i / plies, plies being those of the wall, and it is sharp
  abbrev pub HasRatios : List ItemNo → List ℕ → Type 0
  HasRatios listed ratios =
      (i r : ℕ) → slice_get ratios i ≡ Some r
      → HasSharpRatio stock job listed (i / length (wall_of stock job listed)) (i % length (wall_of stock job listed)) r

  abbrev pub HasPanels : List ItemNo → List ℕ → Type 0
  HasPanels listed panels = (i r : ℕ) → slice_get panels i ≡ Some r → HasSharpPanel stock job listed i r

  -- the best schedule may be built and has what is printed of it; its cost is the least of an admissible leaf
  pub record IsBest (report : Report) (visits : List Visit) (b : Best) : Type 0 where
    pub sequence : design.IsSequence stock job b.plies
    pub admissible : design.Admissible stock job b.plies
    pub cost : b.cost ≡ cost_of stock job b.plies
    pub least : Some b.cost ≡ final stock job visits
    pub ratios : HasRatios b.plies report.ratios
    pub panels : HasPanels b.plies report.panels

  -- the best schedule may be built and has the ratios that are printed of it
  pub record IsPrinted (report : Report) (b : Best) : Type 0 where
    pub admissible : design.Admissible stock job b.plies
    pub ratios : HasRatios b.plies report.ratios
    pub panels : HasPanels b.plies report.panels

  -- where there is none, no leaf is admissible
  abbrev pub NoLeafIsAdmissible : List Visit → Type 0
  NoLeafIsAdmissible visits = All (λ v. v.word ≢ word.Admissible) visits

  -- what each answer says
  abbrev pub AnswerHolds : Report → Reading → Answer → Type 0
  AnswerHolds report r answer.Least =
      (r.ending ≡ Whole) × MatchOption report.best ⊥ (λ b. design.Least stock job b.plies)
  AnswerHolds report r answer.NoneMeets = (r.ending ≡ Whole) × design.NoneMeets stock job
  AnswerHolds report r answer.OpenBudget = (r.ending ≡ Cut) × (length report.tree ≡ report.budget)
  AnswerHolds report r (answer.OpenStraddle near) =
      (r.ending ≡ Whole) × design.IsSequence stock job near.plies × (near.cost ≡ cost_of stock job near.plies)
      × IsBelow near.cost (best_cost report.best) × HangsAt stock job near.plies near.at

  pub record Promise (budget : ℕ) (report : Report) : Type 0 where
    pub budget_is : report.budget ≡ budget
    pub few : length report.tree ≤ budget
    pub due : (read stock job report.tree).ending ≢ Stray
    pub lawful : AreLawful None (read stock job report.tree).visits
    pub leaves : All (λ v. IsTrueOf stock job (best_cost report.best) v.partial v.word) (read stock job report.tree).visits
    pub best : MatchOption report.best (NoLeafIsAdmissible (read stock job report.tree).visits) (IsBest report (read stock job report.tree).visits)
    pub answer : AnswerHolds report (read stock job report.tree) report.answer
