-- The job of a sample: a cylinder, and resultants.
use Rattle.std.specs.Prelude.{ℕ, ◌+◌, ◌*◌, pos, [], ◌∷◌, true, false, None}
use Rattle.lam_job.specs.declared.case.CaseKind.TheVariants.{Resultants, Cylinder}
use Rattle.lam_job.specs.JobData.{CaseData, JobData}
use Rattle.lam_sample.specs.declared.loads.Loads.{Loads}
use Rattle.lam_sample.specs.Draws.{draw, steps}

-- the loads that are drawn after a state
abbrev pub loads_after : ℕ → Loads
loads_after x = record {
  pressure = 100 + draw 1 200 x;
  diameter = 1000 + draw 2 1000 x;
  nx = 1000 * draw 3 50 x;
  nxy = 1000 + 1000 * draw 4 20 x;
}

-- the first case: a cylinder with closed ends, at the factor 4
abbrev pub cylinder_case : Loads → CaseData
cylinder_case l = record {
  kind = Cylinder (pos l.pressure) (pos l.diameter) true (pos 0) (pos 0) (pos 0);
  factor = pos 4000;
}

-- the second case: forces, at the factor 3
abbrev pub resultants_case : Loads → CaseData
resultants_case l = record {
  kind = Resultants (pos l.nx) (pos 0) (pos l.nxy) (pos 0) (pos 0) (pos 0);
  factor = pos 3000;
}

-- the job with these loads: ten plies at most, in a list that is symmetric
abbrev pub job_with : Loads → JobData
job_with l = record {
  limit = 10;
  liner = [];
  liner_in_wall = false;
  rules = record {
    inner = None;
    outer = None;
    symmetric = true;
    balanced = false;
    run = None;
    fewest = None;
    thickness = None;
    counts = [];
  };
  cases = cylinder_case l ∷ resultants_case l ∷ [];
  panels = [];
}

-- the job of a number: its loads are drawn after the six items of the catalogue, of eleven draws each
abbrev pub sample_job : ℕ → JobData
sample_job number = job_with (loads_after (steps 66 number))
