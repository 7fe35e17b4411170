-- A job as plain records: the numbers and truth values that its file gives. Two jobs of the same data are one job.
use Rattle.std.specs.Prelude.{ℕ, ℤ, Bool, List, Option}
use Rattle.lam_stock.specs.declared.item.ItemNo.{ItemNo}
use Rattle.lam_job.specs.declared.case.CaseKind.{CaseKind}
use Rattle.lam_job.specs.declared.rules.ItemSet.{ItemSet}

-- a case of load, and the strength ratio that is asked under it, in thousandths
pub record CaseData : Type 0 where
  pub kind : CaseKind
  pub factor : ℤ

-- a panel: its sides in mm, its compressive load in N/m, and the number of loads that is asked, in thousandths
pub record PanelData : Type 0 where
  pub length : ℤ
  pub width : ℤ
  pub load : ℤ
  pub factor : ℤ

-- what the listed plies have to keep; what is None, false or empty is not asked
pub record RuleData : Type 0 where
  pub inner : Option ItemSet
  pub outer : Option ItemSet
  pub symmetric : Bool
  pub balanced : Bool
  pub run : Option ℕ
  pub fewest : Option ℕ
  pub thickness : Option ℤ
  pub counts : List (ItemNo × ℕ)

-- the most plies that may be listed, the plies inside of them and whether these carry load, the rules, the cases of
-- load and the panels
pub record JobData : Type 0 where
  pub limit : ℕ
  pub liner : List ItemNo
  pub liner_in_wall : Bool
  pub rules : RuleData
  pub cases : List CaseData
  pub panels : List PanelData
