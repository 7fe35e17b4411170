-- Which bytes spell a report of a job and a catalogue, and where others stop doing so.
use Rattle.std.specs.Prelude.{◌≡◌, ℕ, ◌+◌, ◌-◌, ◌≤◌, List, [], ◌∷◌, ◌++◌, length, map, take, drop, codes, Result, Ok, Err, ⊤}
use Rattle.lam_stock.specs.declared.item.Item.{Item}
use Rattle.lam_job.specs.JobData.{JobData}
use Rattle.lam_tree.specs.declared.report.Report.{Report}
use Rattle.lam_tree.specs.declared.report.Head.{Head}
use Rattle.lam_tree.specs.Lines.{node_line}
use Rattle.lam_tree.specs.ReportRanges.{IsReport}
use Rattle.lam_report.specs.declared.fault.ReportError.{ReportError}
use Rattle.lam_report.specs.declared.fault.ReportError.TheVariants.{Refused, Memory}
use Rattle.lam_report.specs.LineText.{text_of, whole_lines}
use Rattle.lam_report.specs.ReportText.{report_lines, report_text}

module _ (stock : List Item) (job : JobData) where
  -- the bytes are the text of a report
  pub record Spells (report : Report) (bytes : List ℕ) : Type 0 where
    pub report_is : IsReport stock job report
    pub text : bytes ≡ report_text stock job report

  -- some report's lines begin with these
  abbrev pub Begins : List (List ℕ) → Type 0
  Begins lines = (report : Report) × (rest : List (List ℕ)) × IsReport stock job report × (report_lines stock job report ≡ lines ++ rest)

  -- the bytes are no report, and this is the first line with which none goes on, or the one behind the last whole line
  pub record IsFirstFault (bytes : List ℕ) (line : ℕ) : Type 0 where
    pub counted : 1 ≤ line
    pub within : line ≤ length (whole_lines bytes) + 1
    pub before : Begins (take (line - 1) (whole_lines bytes))
    pub here : line ≤ length (whole_lines bytes) → ¬ Begins (take line (whole_lines bytes))
    pub no_report : (report : Report) → ¬ Spells report bytes

  -- what stands before the tree, how many nodes it has, and the line and the byte at which it begins
  pub record IsHead (bytes : List ℕ) (report : Report) (head : Head) : Type 0 where
    pub budget : head.budget ≡ report.budget
    pub answer : head.answer ≡ report.answer
    pub best : head.best ≡ report.best
    pub ratios : head.ratios ≡ report.ratios
    pub panels : head.panels ≡ report.panels
    pub nodes : head.nodes ≡ length report.tree
    pub line : head.first + length report.tree ≡ length (report_lines stock job report)
    pub byte : drop head.at bytes ≡ text_of (map node_line report.tree ++ codes "end" ∷ [])

  -- ---- what reading answers

  abbrev pub IsRefused : List ℕ → ReportError → Type 0
  IsRefused bytes (Refused fault) = IsFirstFault bytes fault.line
  IsRefused bytes Memory = ⊤

  -- the report that the bytes spell, or the first fault
  abbrev pub Reads : List ℕ → Result Report ReportError → Type 0
  Reads bytes (Ok report) = Spells report bytes
  Reads bytes (Err error) = IsRefused bytes error

  -- the head of the report that the bytes spell, or the first fault
  abbrev pub Scans : List ℕ → Result Head ReportError → Type 0
  Scans bytes (Ok head) = (report : Report) × Spells report bytes × IsHead bytes report head
  Scans bytes (Err error) = IsRefused bytes error

-- bytes that spell a report are read as that one, if memory does not want
abbrev pub AnswersIt : Report → Result Report ReportError → Type 0
AnswersIt report (Ok read) = read ≡ report
AnswersIt report (Err (Refused fault)) = ⊥
AnswersIt report (Err Memory) = ⊤

-- they are not refused
abbrev pub IsNotRefused : {X : Type 0} → Result X ReportError → Type 0
IsNotRefused (Ok x) = ⊤
IsNotRefused (Err (Refused fault)) = ⊥
IsNotRefused (Err Memory) = ⊤
