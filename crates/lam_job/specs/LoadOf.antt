-- The load of a case of load.
use Rattle.std.specs.Prelude.{ℤ, pos, ◌+ℤ◌, ◌*ℤ◌, if◌then◌else◌}
use Rattle.lam_job.specs.declared.load.Load.{Load}
use Rattle.lam_job.specs.declared.case.CaseKind.{CaseKind}
use Rattle.lam_job.specs.declared.case.CaseKind.TheVariants.{Resultants, Cylinder}

-- a force in N/m, counted in quarters of N/m
abbrev pub quarters : ℤ → ℤ
quarters n = pos 4 *ℤ n

-- the hoop force of a cylinder under pressure is p d / 2 per length, here in quarters of N/m, since kPa times mm is N/m
abbrev pub hoop_force : (pressure diameter : ℤ) → ℤ
hoop_force p d = pos 2 *ℤ (p *ℤ d)

-- the axial force of the pressure on the closed ends is p d / 4 per length
abbrev pub end_force : (pressure diameter : ℤ) → ℤ
end_force p d = p *ℤ d

-- the load that a case names, or that the pressure on a cylinder gives (Jones, the thin-walled pressure vessel)
abbrev pub load_of : CaseKind → Load
load_of (Resultants nx ny nxy mx my mxy) = record {
  nx = quarters nx;
  ny = quarters ny;
  nxy = quarters nxy;
  mx = mx;
  my = my;
  mxy = mxy;
}
load_of (Cylinder p d closed axial mx my) = record {
  nx = (if closed then end_force p d else pos 0) +ℤ quarters axial;
  ny = hoop_force p d;
  nxy = pos 0;
  mx = mx;
  my = my;
  mxy = pos 0;
}
