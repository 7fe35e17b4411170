-- A wall under a case of load as it is computed, and the verdicts at its places.
use Rattle.std.specs.Prelude.{◌≡◌, ℕ, ℤ, pos, neg_ℤ, ◌≤ℤ◌, List}
use Rattle.lam_fraction.specs.numbers.Numbers.{Numbers}
use Rattle.lam_number.specs.declared.strength.FaceStrain.{FaceStrain}
use Rattle.lam_number.specs.declared.strength.Verdict.{Verdict}
use Rattle.lam_stock.specs.declared.item.Item.{Item}
use Rattle.lam_stock.specs.declared.scale.Scale.{Scale}
use Rattle.lam_job.specs.JobData.{CaseData}
use Rattle.lam_job.specs.LoadOf.{load_of}
use Rattle.lam_job.specs.Ranges.{IsFactor}
use Rattle.lam_job.specs.Wall.{Placed, wall_thickness}
use Rattle.lam_solve.specs.Solutions.{AreShort}
use Rattle.lam_solve.specs.inside.Formulas.{at_face}
use Rattle.lam_tsai.specs.declared.criterion.Criterion.{Criterion}
use Rattle.lam_tsai.specs.declared.place.FaceSide.{FaceSide}
use Rattle.lam_tsai.specs.declared.place.FaceSide.TheVariants.{Inner, Outer}
use Rattle.lam_tsai.specs.declared.place.Side.{Side}
use Rattle.lam_tsai.specs.Levels.{verdict_of}
use Rattle.lam_tsai.specs.inside.Reach.{ReachCriterion}
use Rattle.lam_tsai.specs.inside.Values.{level_by}
use Rattle.lam_judge.specs.declared.loaded.Loaded.{Loaded}
use Rattle.lam_judge.specs.declared.tables.Criteria.{Criteria}
use Rattle.lam_judge.specs.inside.Judged.{decided, strains, z_by}
use Rattle.lam_judge.specs.inside.Scales.{coarse, fine}
use Rattle.lam_judge.specs.inside.Tables.{criteria}

-- the strains of a wall under some load, as far as the calls at its places need it
pub record IsBorne (wall : List Item) (l : Loaded) : Type 0 where
  pub asked : IsFactor l.factor
  pub thickness : l.h ≡ wall_thickness wall
  pub thick : pos 1 ≤ℤ l.h
  pub thin : l.h ≤ℤ pos 1280000
  pub coarse_short : AreShort coarse l.coarse
  pub fine_short : AreShort fine l.fine

-- those under the case of a number
pub record IsLoaded (scale : Scale) (wall : List Item) (number : ℕ) (c : CaseData) (l : Loaded) : Type 0 where
  pub borne : IsBorne wall l
  pub case_is : l.case ≡ number
  pub factor : l.factor ≡ c.factor
  pub coarse_is : l.coarse ≡ strains coarse scale wall (load_of c.kind)
  pub fine_is : l.fine ≡ strains fine scale wall (load_of c.kind)

-- what the calls at a face need
pub record IsReady (c : Criteria) (l : Loaded) : Type 0 where
  pub coarse_made : ReachCriterion coarse c.coarse
  pub fine_made : ReachCriterion fine c.fine
  pub coarse_short : AreShort coarse l.coarse
  pub fine_short : AreShort fine l.fine
  pub asked : IsFactor l.factor
  pub thick : pos 1 ≤ℤ l.h
  pub thin : l.h ≤ℤ pos 1280000

-- z lies in a wall of thickness h
pub record IsWithin (h z : ℤ) : Type 0 where
  pub inner : neg_ℤ h ≤ℤ z
  pub outer : z ≤ℤ h

-- the verdict at the strains of a face
abbrev pub verdict_by : {A : Type 0} → Numbers A → Criterion A → FaceStrain A → Side → ℤ → Verdict
verdict_by n c at side factor = verdict_of n (level_by n c side at factor)

-- the strains at a face of two
abbrev pub strain_by : {A : Type 0} → (inner outer : FaceStrain A) → FaceSide → FaceStrain A
strain_by inner outer Inner = inner
strain_by inner outer Outer = outer

-- over both scales, by what was made before
unfoldable pub loaded_verdict : Criteria → Loaded → ℤ → Side → Verdict
loaded_verdict c l z side =
    decided
    (verdict_by coarse c.coarse (at_face coarse.calc l.coarse z l.h) side l.factor)
    (verdict_by fine c.fine (at_face fine.calc l.fine z l.h) side l.factor)

-- of an item in the wall
abbrev pub item_verdict : Scale → Loaded → Placed → FaceSide → Side → Verdict
item_verdict scale l p face side = loaded_verdict (criteria scale p.item) l (z_by p.inner p.outer face) side
