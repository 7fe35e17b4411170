-- The ranges of what a report says.
use Rattle.std.specs.Prelude.{◌≡◌, ◌≢◌, ℕ, ◌*◌, ◌≤◌, ◌<◌, List, [], length, All, Option, Some, None, ⊤}
use Rattle.lam_stock.specs.declared.item.Item.{Item}
use Rattle.lam_stock.specs.declared.item.ItemNo.{ItemNo}
use Rattle.lam_stock.specs.Stock.{IsKnown}
use Rattle.lam_job.specs.declared.limits.TheConstants.{MOST_PLIES, MOST_CASES, MOST_WALL_PLIES, MOST_PANELS}
use Rattle.lam_job.specs.JobData.{JobData}
use Rattle.lam_job.specs.Schedule.{wall_of}
use Rattle.lam_tsai.specs.declared.place.Place.{Place}
use Rattle.lam_tree.specs.declared.limits.TheConstants.{MOST_NODES, MOST_RATIO, MOST_COST, MOST_RULES}
use Rattle.lam_tree.specs.declared.spot.Spot.{Spot}
use Rattle.lam_tree.specs.declared.spot.Spot.TheVariants.{Ply, Panel}
use Rattle.lam_tree.specs.declared.node.Node.{Node}
use Rattle.lam_tree.specs.declared.node.Seat.{Seat}
use Rattle.lam_tree.specs.declared.node.Seat.TheVariants as seat
use Rattle.lam_tree.specs.declared.node.Word.{Word}
use Rattle.lam_tree.specs.declared.node.Word.TheVariants as word
use Rattle.lam_tree.specs.declared.report.Best.{Best}
use Rattle.lam_tree.specs.declared.report.Answer.{Answer}
use Rattle.lam_tree.specs.declared.report.Answer.TheVariants as answer
use Rattle.lam_tree.specs.declared.report.Report.{Report}

-- ---- nodes, of a catalogue of so many items. Whether a job has such a case, ply or panel is not asked

-- cases, plies and panels count from 0
pub record IsPlace (at : Place) : Type 0 where
  pub case : at.case < MOST_CASES
  pub ply : at.ply < MOST_WALL_PLIES

abbrev pub IsSpot : Spot → Type 0
IsSpot (Ply at) = IsPlace at
IsSpot (Panel panel) = panel < MOST_PANELS

abbrev pub IsSeat : (items : ℕ) → Seat → Type 0
IsSeat items (seat.Length n) = (1 ≤ n) × (n ≤ MOST_PLIES)
IsSeat items (seat.Item i) = i.0 < items

abbrev pub IsWord : Word → Type 0
IsWord word.Split = ⊤
IsWord word.Cost = ⊤
IsWord (word.Rule rule) = (1 ≤ rule.0) × (rule.0 ≤ MOST_RULES)
IsWord (word.NetShort case weight) = case < MOST_CASES
IsWord (word.NetCost case weight) = case < MOST_CASES
IsWord (word.Box at) = IsPlace at
IsWord (word.Range case) = case < MOST_CASES
IsWord (word.Fails at) = IsPlace at
IsWord (word.Buckles panel) = panel < MOST_PANELS
IsWord (word.Straddles spot) = IsSpot spot
IsWord word.Admissible = ⊤

pub record IsNode (items : ℕ) (node : Node) : Type 0 where
  pub seat : IsSeat items node.seat
  pub word : IsWord node.word

-- ---- reports

-- 1 to 56 plies of the catalogue
pub record AreListed (stock : List Item) (plies : List ItemNo) : Type 0 where
  pub some : 1 ≤ length plies
  pub few : length plies ≤ MOST_PLIES
  pub known : IsKnown stock plies

-- so many ratios, from 0.000 to 20.000
pub record AreRatios (count : ℕ) (ratios : List ℕ) : Type 0 where
  pub many : length ratios ≡ count
  pub small : All (λ r. r ≤ MOST_RATIO) ratios

-- a ratio for each case and wall ply, and for each panel, where there is a best schedule
abbrev pub IsBlock : List Item → JobData → Option Best → (ratios panels : List ℕ) → Type 0
IsBlock stock job None ratios panels = (ratios ≡ []) × (panels ≡ [])
IsBlock stock job (Some b) ratios panels =
    (b.cost ≤ MOST_COST) × AreListed stock b.plies
    × AreRatios (length job.cases * length (wall_of stock job b.plies)) ratios × AreRatios (length job.panels) panels

-- a best schedule stands with a least answer, and not where none meets
abbrev pub IsAnswer : List Item → Answer → Option Best → Type 0
IsAnswer stock answer.Least best = best ≢ None
IsAnswer stock answer.NoneMeets best = best ≡ None
IsAnswer stock answer.OpenBudget best = ⊤
IsAnswer stock (answer.OpenStraddle near) best = (near.cost ≤ MOST_COST) × AreListed stock near.plies × IsSpot near.at

pub record IsReport (stock : List Item) (job : JobData) (report : Report) : Type 0 where
  pub some : 1 ≤ report.budget
  pub most : report.budget ≤ MOST_NODES
  pub answer : IsAnswer stock report.answer report.best
  pub block : IsBlock stock job report.best report.ratios report.panels
  pub some_nodes : 1 ≤ length report.tree
  pub few_nodes : length report.tree ≤ MOST_NODES
  pub nodes : All (IsNode (length stock)) report.tree
