-- How a schedule is judged, as it is computed. The verdict at a place is that over 28 bits, or where this does not decide that
-- over 60 bits; panels are computed over 60 bits.
use Rattle.std.specs.Prelude.{ℕ, ℤ, List, Option, Some, None}
use Rattle.lam_fraction.specs.numbers.Numbers.{Numbers}
use Rattle.lam_number.specs.declared.strength.FaceStrain.{FaceStrain}
use Rattle.lam_number.specs.declared.strength.Verdict.{Verdict}
use Rattle.lam_number.specs.declared.strength.Verdict.TheVariants as verdict
use Rattle.lam_stock.specs.declared.item.Item.{Item}
use Rattle.lam_stock.specs.declared.item.ItemNo.{ItemNo}
use Rattle.lam_stock.specs.declared.scale.Scale.{Scale}
use Rattle.lam_stock.specs.Scale.{scale_of}
use Rattle.lam_job.specs.declared.load.Load.{Load}
use Rattle.lam_job.specs.JobData.{CaseData, PanelData, JobData}
use Rattle.lam_job.specs.LoadOf.{load_of}
use Rattle.lam_job.specs.Schedule.{wall_of}
use Rattle.lam_job.specs.Wall.{Placed, placed_plies, wall_thickness}
use Rattle.lam_wall.specs.declared.wall.Wall.{Wall}
use Rattle.lam_wall.specs.inside.Formulas.{assembled}
use Rattle.lam_solve.specs.declared.strains.Strains.{Strains}
use Rattle.lam_solve.specs.inside.Formulas as formulas
use Rattle.lam_solve.specs.inside.Solution.{solution}
use Rattle.lam_tsai.specs.declared.place.FaceSide.{FaceSide}
use Rattle.lam_tsai.specs.declared.place.FaceSide.TheVariants.{Inner, Outer}
use Rattle.lam_tsai.specs.declared.place.Place.{Place}
use Rattle.lam_tsai.specs.declared.place.Side.{Side}
use Rattle.lam_tsai.specs.Levels.{verdict_of}
use Rattle.lam_tsai.specs.inside.Values.{level}
use Rattle.lam_plate.specs.inside.Formulas as plate
use Rattle.lam_judge.specs.declared.finding.Finding.{Finding}
use Rattle.lam_judge.specs.declared.finding.Finding.TheVariants as found
use Rattle.lam_judge.specs.declared.judgement.Judgement.{Judgement}
use Rattle.lam_judge.specs.declared.judgement.Judgement.TheVariants.{Admissible, Broken, OutOfRange, Fails, Buckles, StraddlesPly, StraddlesPanel}
use Rattle.lam_judge.specs.inside.Findings.{at_cases, at_panels}
use Rattle.lam_judge.specs.inside.Kept.{first_broken, first_out}
use Rattle.lam_judge.specs.inside.Scales.{coarse, fine}

-- ---- over one kind of enclosures

module _ {A : Type 0} (n : Numbers A) (scale : Scale) (wall : List Item) where
  -- the matrices of the wall
  abbrev pub matrices : Wall A
  matrices = assembled n.calc scale.q0 wall

  -- its strains under a load
  abbrev pub strains : Load → Strains A
  strains load = solution n matrices load scale

  -- those at a z
  abbrev pub face_strain : Load → ℤ → FaceStrain A
  face_strain load z = formulas.at_face n.calc (strains load) z (wall_thickness wall)

  -- the verdict on an item at a z, on a side, under a load and at a factor
  unfoldable pub verdict_over : Load → ℤ → Item → Side → ℤ → Verdict
  verdict_over load factor i side z = verdict_of n (level n i side scale (face_strain load z) factor)

-- ---- over both

-- the first where it decides, else the second
abbrev pub decided : Verdict → Verdict → Verdict
decided verdict.Meets second = verdict.Meets
decided verdict.Fails second = verdict.Fails
decided verdict.Straddles second = second

-- z of a face of two
abbrev pub z_by : (inner outer : ℤ) → FaceSide → ℤ
z_by inner outer Inner = inner
z_by inner outer Outer = outer

-- the verdict on a panel of a wall of these matrices
unfoldable pub panel_over : {A : Type 0} → Numbers A → ℤ → Wall A → PanelData → Verdict
panel_over n q0 w panel = plate.panel_verdict n q0 w panel panel.factor

module _ (scale : Scale) (wall : List Item) where
  unfoldable pub place_verdict : CaseData → Placed → FaceSide → Side → Verdict
  place_verdict case p face side =
      decided
      (verdict_over coarse scale wall (load_of case.kind) case.factor p.item side (z_by p.inner p.outer face))
      (verdict_over fine scale wall (load_of case.kind) case.factor p.item side (z_by p.inner p.outer face))

  -- what is found in the wall of a job
  abbrev pub plies_found : JobData → Finding Place
  plies_found job = at_cases place_verdict (placed_plies wall) 0 job.cases

  abbrev pub panels_found : JobData → Finding ℕ
  panels_found job = at_panels (panel_over fine scale.q0 (matrices fine scale wall)) 0 job.panels

-- ---- the judgement

abbrev pub by_findings : Finding Place → Finding ℕ → Judgement
by_findings (found.Fails at) panels = Fails at
by_findings found.Clear found.Clear = Admissible
by_findings found.Clear (found.Fails panel) = Buckles panel
by_findings found.Clear (found.Straddles panel) = StraddlesPanel panel
by_findings (found.Straddles at) found.Clear = StraddlesPly at
by_findings (found.Straddles at) (found.Fails panel) = Buckles panel
by_findings (found.Straddles at) (found.Straddles panel) = StraddlesPly at

abbrev pub by_strength : List Item → JobData → List ItemNo → Judgement
by_strength stock job listed =
    by_findings (plies_found (scale_of stock) (wall_of stock job listed) job) (panels_found (scale_of stock) (wall_of stock job listed) job)

abbrev pub or_broken : Option ℕ → Judgement → Judgement
or_broken (Some rule) later = Broken (record { 0 = rule })
or_broken None later = later

abbrev pub or_out : Option ℕ → Judgement → Judgement
or_out (Some case) later = OutOfRange case
or_out None later = later

-- the first broken rule, else the first case out of range, else what is found of strength
unfoldable pub judged : List Item → JobData → List ItemNo → Judgement
judged stock job listed =
    or_broken (first_broken stock job listed) (or_out (first_out stock job listed) (by_strength stock job listed))
