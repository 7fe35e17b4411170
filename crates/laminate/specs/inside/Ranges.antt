-- Cases whose loads are in range for a thickness.
use Rattle.std.specs.Prelude.{ℕ, ◌<◌, ℤ, List, slice_get, IsSomeAnd}
use Rattle.lam_job.specs.JobData.{CaseData}
use Rattle.lam_job.specs.LoadOf.{load_of}
use Rattle.lam_job.specs.LoadRange.{LoadInRange}

abbrev pub IsWithin : (floor h : ℤ) → CaseData → Type 0
IsWithin floor h c = LoadInRange floor h (load_of c.kind)

-- the case of a number is there, and out of range
abbrev pub IsBeyond : (floor h : ℤ) → List CaseData → ℕ → Type 0
IsBeyond floor h cases k = IsSomeAnd (slice_get cases k) (λ c. ¬ IsWithin floor h c)

pub record IsFirstBeyond (floor h : ℤ) (cases : List CaseData) (k : ℕ) : Type 0 where
  pub out : IsBeyond floor h cases k
  pub first : (other : ℕ) → other < k → ¬ IsBeyond floor h cases other
