-- The texts of an analysis and of a report: what is written after a search, or of one schedule.
use Rattle.std.specs.Prelude.{◌≡◌, ℕ, zero, suc, ◌+◌, ◌*◌, ◌/◌, ◌%◌, List, [], ◌∷◌, ◌++◌, length, map, slice_get, Option, Some, None, codes, decimal}
use Rattle.lam_stock.specs.declared.item.Item.{Item}
use Rattle.lam_stock.specs.declared.item.ItemNo.{ItemNo}
use Rattle.lam_job.specs.JobData.{JobData}
use Rattle.lam_job.specs.Rules.{Keeps, IsLeastBroken}
use Rattle.lam_job.specs.Schedule.{wall_of, cost_of}
use Rattle.lam_tree.specs.declared.node.Node.{Node}
use Rattle.lam_tree.specs.declared.report.Best.{Best}
use Rattle.lam_tree.specs.declared.report.Answer.{Answer}
use Rattle.lam_tree.specs.declared.report.Answer.TheVariants as answer
use Rattle.lam_tree.specs.declared.report.Report.{Report}
use Rattle.lam_tree.specs.Lines.{line_of, ordinal, spot_words, node_line}
use Rattle.lam_report.specs.LineText.{text_of}

-- ---- lines

-- a ratio in thousandths: its thousands, a point, and three digits
abbrev pub ratio_text : ℕ → List ℕ
ratio_text r = decimal (r / 1000) ++ (46 ∷ (48 + r / 100 % 10) ∷ (48 + r / 10 % 10) ∷ (48 + r % 10) ∷ [])

abbrev pub number_line : (word : List ℕ) → ℕ → List ℕ
number_line word n = line_of (word ∷ decimal n ∷ [])

-- cases, plies and panels count from 0, and are printed from 1
abbrev pub ratio_line : (case ply ratio : ℕ) → List ℕ
ratio_line case ply ratio = line_of (codes "ratio" ∷ ordinal case ∷ ordinal ply ∷ ratio_text ratio ∷ [])

abbrev pub panel_line : (panel : ℕ) → (value : List ℕ) → List ℕ
panel_line panel value = line_of (codes "panel" ∷ ordinal panel ∷ value ∷ [])

-- the names of plies
abbrev pub name_of : List Item → ItemNo → List ℕ
name_of stock ply = elim (slice_get stock ply.0) [ None ↦ [] | Some i ↦ i.name ]

abbrev pub names_line : (word : List ℕ) → List Item → List ItemNo → List ℕ
names_line word stock plies = line_of (word ∷ map (name_of stock) plies)

-- so many lines, by their number from one on
abbrev pub counted : (ℕ → List ℕ) → (from count : ℕ) → List (List ℕ)
counted line from zero = []
counted line from (suc count) = line from ∷ counted line (suc from) count

-- the lines of values, each by its number too
abbrev pub numbered : {X : Type 0} → (ℕ → X → List ℕ) → (from : ℕ) → List X → List (List ℕ)
numbered line from [] = []
numbered line from (x ∷ xs) = line from x ∷ numbered line (suc from) xs

-- ---- an analysis

-- the least broken rule, if one is broken
abbrev pub rules_line : Option ℕ → List ℕ
rules_line None = line_of (codes "rules" ∷ codes "kept" ∷ [])
rules_line (Some rule) = line_of (codes "rules" ∷ codes "broken" ∷ decimal rule ∷ [])

-- a panel has no ratio where the schedule is not fit
abbrev pub panel_value : Option ℕ → List ℕ
panel_value None = codes "unfit"
panel_value (Some ratio) = ratio_text ratio

-- the cost of a schedule, the rule that it breaks, the ratio of each wall ply under each case, and that of each panel
abbrev pub analysis_lines : (cost : ℕ) → (broken : Option ℕ) → (cases plies panels : ℕ) → (ratio : (case ply : ℕ) → ℕ) → (panel : ℕ → Option ℕ) → List (List ℕ)
analysis_lines cost broken cases plies panels ratio panel =
    codes "laminate analysis 1" ∷ number_line (codes "cost") cost ∷ rules_line broken
    ∷ (counted (λ i. ratio_line (i / plies) (i % plies) (ratio (i / plies) (i % plies))) 0 (cases * plies)
    ++ (counted (λ k. panel_line k (panel_value (panel k))) 0 panels ++ codes "end" ∷ []))

abbrev pub analysis_text : List Item → JobData → List ItemNo → (broken : Option ℕ) → (ratio : (case ply : ℕ) → ℕ) → (panel : ℕ → Option ℕ) → List ℕ
analysis_text stock job listed broken ratio panel =
    text_of (analysis_lines (cost_of stock job listed) broken (length job.cases) (length (wall_of stock job listed)) (length job.panels) ratio panel)

-- the rule that an analysis names: the least that the listed plies break, or none where they keep all
abbrev pub NamesRule : List Item → JobData → List ItemNo → (broken : Option ℕ) → Type 0
NamesRule stock job listed None = Keeps stock job listed
NamesRule stock job listed (Some rule) = IsLeastBroken rule stock job listed

-- a text is an analysis of a schedule, with these ratios
abbrev pub IsAnalysis : List Item → JobData → List ItemNo → (ratio : (case ply : ℕ) → ℕ) → (panel : ℕ → Option ℕ) → List ℕ → Type 0
IsAnalysis stock job listed ratio panel text =
    (broken : Option ℕ) × NamesRule stock job listed broken × (text ≡ analysis_text stock job listed broken ratio panel)

-- ---- a report

abbrev pub answer_line : Answer → List ℕ
answer_line answer.Least = line_of (codes "answer" ∷ codes "least" ∷ [])
answer_line answer.NoneMeets = line_of (codes "answer" ∷ codes "none" ∷ [])
answer_line answer.OpenBudget = line_of (codes "answer" ∷ codes "open" ∷ codes "budget" ∷ [])
answer_line (answer.OpenStraddle near) = line_of (codes "answer" ∷ codes "open" ∷ codes "straddle" ∷ [])

-- the best schedule with its cost, the ratios of its wall plies under the cases, and those of its panels
abbrev pub best_lines : List Item → JobData → Option Best → (ratios panels : List ℕ) → List (List ℕ)
best_lines stock job None ratios panels = []
best_lines stock job (Some b) ratios panels =
    let plies = length (wall_of stock job b.plies) in
    number_line (codes "cost") b.cost ∷ names_line (codes "schedule") stock b.plies
    ∷ (numbered (λ i r. ratio_line (i / plies) (i % plies) r) 0 ratios ++ numbered (λ k r. panel_line k (ratio_text r)) 0 panels)

abbrev pub near_lines : List Item → Answer → List (List ℕ)
near_lines stock (answer.OpenStraddle near) =
    line_of (codes "near" ∷ decimal near.cost ∷ spot_words near.at) ∷ names_line (codes "named") stock near.plies ∷ []
near_lines stock other = []

abbrev pub tree_lines : List Node → List (List ℕ)
tree_lines tree = number_line (codes "nodes") (length tree) ∷ (map node_line tree ++ codes "end" ∷ [])

abbrev pub report_lines : List Item → JobData → Report → List (List ℕ)
report_lines stock job report =
    codes "laminate report 1" ∷ number_line (codes "budget") report.budget ∷ answer_line report.answer
    ∷ (best_lines stock job report.best report.ratios report.panels ++ (near_lines stock report.answer ++ tree_lines report.tree))

abbrev pub report_text : List Item → JobData → Report → List ℕ
report_text stock job report = text_of (report_lines stock job report)
