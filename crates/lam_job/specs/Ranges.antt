-- The ranges of the numbers of a job.
use Rattle.std.specs.Prelude.{ℤ, pos, neg_ℤ, ◌≤ℤ◌, ℕ, ◌≤◌, ◌<◌, length, All, IfSome}
use Rattle.lam_job.specs.declared.limits.TheConstants.{GREATEST_FORCE, GREATEST_MOMENT, GREATEST_PRESSURE, GREATEST_DIAMETER, LEAST_FACTOR, GREATEST_FACTOR, LEAST_SIDE, GREATEST_SIDE, GREATEST_PANEL_LOAD, GREATEST_ASKED_THICKNESS, MOST_PLIES, MOST_LINER_PLIES, MOST_CASES, MOST_PANELS}
use Rattle.lam_job.specs.declared.case.CaseKind.{CaseKind}
use Rattle.lam_job.specs.declared.case.CaseKind.TheVariants.{Resultants, Cylinder}
use Rattle.lam_job.specs.JobData.{CaseData, PanelData, RuleData, JobData}

-- a whole number is in a range
pub record IsFrom (low high z : ℤ) : Type 0 where
  pub least : low ≤ℤ z
  pub greatest : z ≤ℤ high

-- a force in N/m
abbrev pub IsForce : ℤ → Type 0
IsForce z = IsFrom (neg_ℤ GREATEST_FORCE) GREATEST_FORCE z

-- a moment in mN
abbrev pub IsMoment : ℤ → Type 0
IsMoment z = IsFrom (neg_ℤ GREATEST_MOMENT) GREATEST_MOMENT z

-- a pressure in kPa
abbrev pub IsPressure : ℤ → Type 0
IsPressure z = IsFrom (pos 0) GREATEST_PRESSURE z

-- a diameter in mm
abbrev pub IsDiameter : ℤ → Type 0
IsDiameter z = IsFrom (pos 1) GREATEST_DIAMETER z

-- a strength ratio or a number of loads that is asked for, in thousandths
abbrev pub IsFactor : ℤ → Type 0
IsFactor z = IsFrom LEAST_FACTOR GREATEST_FACTOR z

-- the length or the width of a panel in mm
abbrev pub IsPanelSide : ℤ → Type 0
IsPanelSide z = IsFrom LEAST_SIDE GREATEST_SIDE z

-- the load of a panel in N/m
abbrev pub IsPanelLoad : ℤ → Type 0
IsPanelLoad z = IsFrom (pos 1) GREATEST_PANEL_LOAD z

-- a thickness in µm that is asked of a wall
abbrev pub IsAskedThickness : ℤ → Type 0
IsAskedThickness z = IsFrom (pos 1) GREATEST_ASKED_THICKNESS z

-- a number of listed plies
pub record IsPlyNumber (n : ℕ) : Type 0 where
  pub least : 1 ≤ n
  pub greatest : n ≤ MOST_PLIES

-- ---- records

-- each number of a kind of case is in range
abbrev pub IsKind : CaseKind → Type 0
IsKind (Resultants nx ny nxy mx my mxy) = IsForce nx × IsForce ny × IsForce nxy × IsMoment mx × IsMoment my × IsMoment mxy
IsKind (Cylinder pressure diameter closed axial mx my) = IsPressure pressure × IsDiameter diameter × IsForce axial × IsMoment mx × IsMoment my

pub record IsCase (c : CaseData) : Type 0 where
  pub kind : IsKind c.kind
  pub factor : IsFactor c.factor

pub record IsPanel (p : PanelData) : Type 0 where
  pub length : IsPanelSide p.length
  pub width : IsPanelSide p.width
  pub load : IsPanelLoad p.load
  pub factor : IsFactor p.factor

-- a set that is asked names an item at least
pub record AreRules (r : RuleData) : Type 0 where
  pub inner : IfSome r.inner (λ set. 0 < set.0)
  pub outer : IfSome r.outer (λ set. 0 < set.0)
  pub run : IfSome r.run IsPlyNumber
  pub fewest : IfSome r.fewest IsPlyNumber
  pub thickness : IfSome r.thickness IsAskedThickness
  pub counts : All (λ count. IsPlyNumber count.1) r.counts

pub record IsJob (job : JobData) : Type 0 where
  pub limit : IsPlyNumber job.limit
  pub liner : length job.liner ≤ MOST_LINER_PLIES
  pub rules : AreRules job.rules
  pub some_case : 1 ≤ length job.cases
  pub few_cases : length job.cases ≤ MOST_CASES
  pub cases : All IsCase job.cases
  pub few_panels : length job.panels ≤ MOST_PANELS
  pub panels : All IsPanel job.panels
