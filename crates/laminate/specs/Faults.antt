-- The line and the status of a fault.
use Rattle.std.specs.Prelude.{ℕ, List, [], ◌++◌, length, codes, decimal, nat_eq, if◌then◌else◌}
use Rattle.lam_stock.specs.declared.fault.StockCause.{StockCause}
use Rattle.lam_stock.specs.declared.fault.StockCause.TheVariants as cause
use Rattle.lam_stock.specs.declared.fault.StockFault.{StockFault}
use Rattle.lam_job.specs.declared.fault.JobCause.{JobCause}
use Rattle.lam_job.specs.declared.fault.JobCause.TheVariants as job_cause
use Rattle.lam_job.specs.declared.fault.JobFault.{JobFault}
use Rattle.lam_job.specs.declared.fault.JobTable.{JobTable}
use Rattle.lam_job.specs.declared.fault.JobTable.TheVariants as at
use Rattle.lam_job.specs.Keys.{key_text, table_text}
use Rattle.lam_check.specs.declared.fault.CheckCause.{CheckCause}
use Rattle.lam_check.specs.declared.fault.CheckCause.TheVariants as check_cause
use Rattle.laminate.specs.declared.fault.Fault.{Fault}
use Rattle.laminate.specs.declared.fault.Fault.TheVariants as fault
use Rattle.laminate.specs.declared.fault.ReportRefusal.{ReportRefusal}
use Rattle.laminate.specs.declared.fault.ReportRefusal.TheVariants as refusal
use Rattle.laminate.specs.declared.fault.ScheduleFault.{ScheduleFault}
use Rattle.laminate.specs.declared.fault.ScheduleFault.TheVariants as schedule
use Rattle.laminate.specs.declared.fault.Source.{Source}
use Rattle.laminate.specs.declared.fault.Source.TheVariants as source
use Rattle.laminate.specs.declared.status.Status.{Status}
use Rattle.laminate.specs.declared.status.Status.TheVariants as status

-- the word of a file
abbrev pub source_text : Source → List ℕ
source_text source.Job = codes "job"
source_text source.Catalogue = codes "catalogue"
source_text source.Report = codes "report"

-- ---- a catalogue's fault

abbrev pub cause_text : StockCause → List ℕ
cause_text cause.Empty = codes "empty"
cause_text cause.Header = codes "header"
cause_text cause.Many = codes "many"
cause_text cause.Fields = codes "fields"
cause_text cause.Name = codes "name"
cause_text cause.Twice = codes "twice"
cause_text cause.Kind = codes "kind"
cause_text cause.Number = codes "number"
cause_text cause.Range = codes "range"
cause_text cause.Poisson = codes "poisson"
cause_text cause.Ratio = codes "ratio"
cause_text cause.Cross = codes "f12"
cause_text cause.Slack = codes "slack"
cause_text cause.Unit = codes "unit"
cause_text cause.Half = codes "half"
cause_text cause.NoItem = codes "none"
cause_text cause.Spread = codes "spread"

abbrev pub stock_text : StockFault → List ℕ
stock_text f = codes "record " ++ (decimal f.row ++ (codes " " ++ cause_text f.cause))

-- ---- a job's fault

abbrev pub job_cause_text : JobCause → List ℕ
job_cause_text job_cause.Text = codes "text"
job_cause_text job_cause.Missing = codes "missing"
job_cause_text job_cause.Kind = codes "kind"
job_cause_text job_cause.Range = codes "range"
job_cause_text job_cause.Item = codes "item"
job_cause_text job_cause.Unknown = codes "unknown"

-- a blank and the number of a case or a panel, where the place has one
abbrev pub number_shown : JobTable → ℕ → ℕ
number_shown at.Top number = 0
number_shown at.Liner number = 0
number_shown at.Rules number = 0
number_shown at.Counts number = 0
number_shown at.Case number = number
number_shown at.Panel number = number

abbrev pub number_text : ℕ → List ℕ
number_text number = if nat_eq number 0 then [] else codes " " ++ decimal number

-- a blank and the key, where the place has one
abbrev pub after_blank : List ℕ → List ℕ
after_blank text = if nat_eq (length text) 0 then [] else codes " " ++ text

abbrev pub job_text : JobFault → List ℕ
job_text f =
    table_text f.place.table
    ++ (number_text (number_shown f.place.table f.place.number)
    ++ (after_blank (key_text f.place.key) ++ (codes " " ++ job_cause_text f.cause)))

-- ---- a schedule word's fault; names and cases are counted from 1

abbrev pub schedule_text : ScheduleFault → List ℕ
schedule_text schedule.Empty = codes "empty"
schedule_text schedule.Many = codes "many"
schedule_text (schedule.Name number) = codes "name " ++ decimal number
schedule_text (schedule.Range number) = codes "range " ++ decimal number

-- ---- why a report is refused: the line, counted from 1, and the cause

abbrev pub check_cause_text : CheckCause → List ℕ
check_cause_text check_cause.Cost = codes "cost"
check_cause_text check_cause.Best = codes "best"
check_cause_text check_cause.Ratio = codes "ratio"
check_cause_text check_cause.Near = codes "near"
check_cause_text check_cause.Order = codes "order"
check_cause_text check_cause.Unlawful = codes "unlawful"
check_cause_text check_cause.Leaf = codes "leaf"
check_cause_text check_cause.Budget = codes "budget"
check_cause_text check_cause.Answer = codes "answer"

abbrev pub report_cause_text : ReportRefusal → List ℕ
report_cause_text (refusal.Form f) = codes "form"
report_cause_text (refusal.Cause f) = check_cause_text f.cause

abbrev pub report_line : ReportRefusal → ℕ
report_line (refusal.Form f) = f.line
report_line (refusal.Cause f) = f.line

abbrev pub report_text : ReportRefusal → List ℕ
report_text r = codes "line " ++ (decimal (report_line r) ++ (codes " " ++ report_cause_text r))

-- ---- all faults

-- the line of a fault, without its end
abbrev pub fault_text : Fault → List ℕ
fault_text fault.Usage = codes "usage: laminate design JOB CATALOGUE | analyse JOB CATALOGUE SCHEDULE | check JOB CATALOGUE REPORT | sample N; options of design and sample: --guide cheapest|thickest|learner, --nodes N"
fault_text (fault.CannotRead file) = codes "cannot read " ++ source_text file
fault_text (fault.TooLong file) = codes "refused " ++ (source_text file ++ codes ": too long")
fault_text (fault.Catalogue f) = codes "refused catalogue: " ++ stock_text f
fault_text (fault.Job f) = codes "refused job: " ++ job_text f
fault_text (fault.Schedule f) = codes "refused schedule: " ++ schedule_text f
fault_text (fault.Report r) = codes "refused report: " ++ report_text r

abbrev pub fault_line : Fault → List ℕ
fault_line f = fault_text f ++ codes "\n"

abbrev pub fault_status : Fault → Status
fault_status fault.Usage = status.Usage
fault_status (fault.CannotRead file) = status.ReadFault
fault_status (fault.TooLong file) = status.Refused
fault_status (fault.Catalogue f) = status.Refused
fault_status (fault.Job f) = status.Refused
fault_status (fault.Schedule f) = status.Refused
fault_status (fault.Report r) = status.ReportRefused
