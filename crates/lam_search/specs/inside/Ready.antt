-- What is made before a walk begins, and what it keeps at a partial schedule.
use Rattle.std.specs.Prelude.{◌≡◌, ◌≤◌, List, Option, IsNone, IfSome}
use Rattle.lam_stock.specs.declared.item.Item.{Item}
use Rattle.lam_job.specs.JobData.{JobData}
use Rattle.lam_job.specs.Schedule.{IsJobFor}
use Rattle.lam_job.specs.Partial.{Partial, ForEveryCompletion, IsFull, SeemsWell}
use Rattle.lam_job.specs.Rules.{Breaks}
use Rattle.lam_judge.specs.inside.Tables.{AreTablesOf}
use Rattle.lam_bounds.specs.declared.fixed.Fixed.{Fixed}
use Rattle.lam_bounds.specs.inside.Tables.{AreBoundsOf}
use Rattle.lam_bounds.specs.inside.RunningSums.{AreSumsOf}
use Rattle.lam_boxes.specs.inside.Tables.{AreBoxTablesOf}
use Rattle.lam_rules.specs.declared.rule.RuleNo.{RuleNo}
use Rattle.lam_rules.specs.Conditions.{IsPartial}
use Rattle.lam_rules.specs.Growing.{Grown}
use Rattle.lam_tree.specs.Closings.{ClosesByRule}
use Rattle.lam_search.specs.declared.design.Design.{Design}
use Rattle.lam_search.specs.inside.Here.{Basis, basis_of}

-- the catalogue and the job of a design, with what is computed for them
abbrev pub basis_at : Design → Basis
basis_at d = basis_of d.stock.now d.job.now

-- the job is one of the catalogue, and what is made once is theirs
pub record IsReady (d : Design) : Type 0 where
  pub job_for : IsJobFor d.stock.now d.job.now
  pub are_tables : AreTablesOf d.stock.now d.tables.now
  pub are_bounds : AreBoundsOf d.stock.now d.job.now d.bounds.now
  pub are_boxes : AreBoxTablesOf d.stock.now d.boxes.now

-- a walk is at a partial schedule of a length that the job allows
pub record IsAt (d : Design) (growing : Grown) (fixed : Fixed) : Type 0 where
  pub ready : IsReady d
  pub same_stock : growing.stock ≡ d.stock.now
  pub same_job : growing.job ≡ d.job.now
  pub sums : AreSumsOf d.stock.now d.job.now growing.partial fixed
  pub part : IsPartial d.stock.now d.job.now growing.partial
  pub short : growing.partial.n ≤ d.job.now.limit

-- the first rule that a full partial breaks, or that any other is seen to break, if there is one
pub record IsSeen (stock : List Item) (job : JobData) (p : Partial) (seen : Option RuleNo) : Type 0 where
  pub none : IsNone seen → ¬ IsFull job p → SeemsWell stock job p
  pub some : IfSome seen (λ rule. ClosesByRule stock job p rule.0)
  pub number : IfSome seen (λ rule. (1 ≤ rule.0) × (rule.0 ≤ 9))
  pub so : IfSome seen (λ rule. ForEveryCompletion stock job p (Breaks rule.0 stock job))
