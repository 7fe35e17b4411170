-- The strength ratio of a ply in a loaded wall: how many times the load the ply stands by the Tsai-Wu criterion
-- (Jones, the strength of laminates up to the first failure of a ply).
use Rattle.std.specs.Prelude.{◌≡◌, ℕ, ℤ, List, [], ◌∷◌, Some, slice_get, IsSomeAnd, ⊤}
use Rattle.std.specs.Cmp.Lexicographic.{slice_cmp}
use Rattle.std.specs.Ordering.{nat_cmp}
use Rattle.std.specs.declared.cmp.Ordering.TheVariants.{Less}
use Rattle.lam_fraction.specs.Fraction.{ℚ, whole}
use Rattle.lam_stock.specs.declared.item.Item.{Item}
use Rattle.lam_stock.specs.declared.item.ItemNo.{ItemNo}
use Rattle.lam_stock.specs.declared.item.Lamina.{Lamina}
use Rattle.lam_stock.specs.declared.item.Kind.{Kind}
use Rattle.lam_stock.specs.declared.item.Kind.TheVariants.{Ply, Pair}
use Rattle.lam_stock.specs.PlyLaw.{OnAxis, Side, Plus, Minus, side_stress}
use Rattle.lam_stock.specs.TsaiWu.{RatioAtLeast}
use Rattle.lam_job.specs.declared.load.Load.{Load}
use Rattle.lam_job.specs.JobData.{CaseData, JobData}
use Rattle.lam_job.specs.LoadOf.{load_of}
use Rattle.lam_job.specs.Schedule.{wall_of}
use Rattle.lam_job.specs.Wall.{Placed, placed_plies}
use Rattle.lam_job.specs.LaminateStrain.{LaminateStrain, strain_at}
use Rattle.lam_job.specs.Equilibrium.{Solves}

-- the two faces of a ply
pub data Face : Type 0 where
  InnerFace : Face
  OuterFace : Face

-- z of a face
abbrev pub face_z : Face → Placed → ℤ
face_z InnerFace p = p.inner
face_z OuterFace p = p.outer

-- a pair is asked on both of its sides, a ply on its only one
abbrev pub HasSide : Kind → Side → Type 0
HasSide Ply Plus = ⊤
HasSide Ply Minus = ⊥
HasSide Pair side = ⊤

-- the stress in a ply at a face and on a side, in MPa and in its own axes
abbrev pub stress_at : LaminateStrain → Placed → Face → Side → OnAxis
stress_at f p face side = side_stress p.item.lamina p.item.dir side (strain_at f (face_z face p))

-- what is said of a lamina and its stress is so in every laminate strain of the wall under the load, at a
-- face and a side
abbrev pub EverySolution : List Item → Load → Placed → Face → Side → (Lamina → OnAxis → Type 0) → Type 0
EverySolution wall load p face side So =
    (f : LaminateStrain) → Solves wall load f → So p.item.lamina (stress_at f p face side)

-- at a face and on a side, the ratio of a ply is at least r thousandths
abbrev pub RatioThere : List Item → Load → Placed → Face → Side → ℚ → Type 0
RatioThere wall load p face side r = EverySolution wall load p face side (λ l t. RatioAtLeast l t r)

-- ---- places by number, from 0, and plies from the inside. "The ratio is at least r" says nothing of a case, a ply or a
-- side that is not there, and "fails" is false there

pub record PlyPlace : Type 0 where
  pub case : ℕ
  pub ply : ℕ
  pub face : Face
  pub side : Side

-- the ratio of a ply of a wall is at least r thousandths: at both faces, on all its sides
abbrev pub PlyRatio : List Item → Load → ℕ → ℚ → Type 0
PlyRatio wall load ply r =
    (p : Placed) → slice_get (placed_plies wall) ply ≡ Some p
    → (face : Face) (side : Side) → HasSide p.item.kind side → RatioThere wall load p face side r

-- so it is of a wall ply under a case of the job
abbrev pub CaseRatio : List Item → JobData → List ItemNo → (case ply : ℕ) → ℚ → Type 0
CaseRatio stock job listed case ply r =
    (c : CaseData) → slice_get job.cases case ≡ Some c → PlyRatio (wall_of stock job listed) (load_of c.kind) ply r

-- the ratio at one place is at least r thousandths
abbrev pub RatioAt : List Item → JobData → List ItemNo → PlyPlace → ℚ → Type 0
RatioAt stock job listed at r =
    (c : CaseData) → slice_get job.cases at.case ≡ Some c
    → (p : Placed) → slice_get (placed_plies (wall_of stock job listed)) at.ply ≡ Some p
    → HasSide p.item.kind at.side → RatioThere (wall_of stock job listed) (load_of c.kind) p at.face at.side r

-- the place is there, and its ratio is not as great as the factor of its case
abbrev pub FailsAt : List Item → JobData → List ItemNo → PlyPlace → Type 0
FailsAt stock job listed at =
    IsSomeAnd (slice_get job.cases at.case) (λ case. ¬ RatioAt stock job listed at (whole case.factor))

-- ---- their order: by case, then by ply, the inner face before the outer one, and Plus before Minus

abbrev pub face_number : Face → ℕ
face_number InnerFace = 0
face_number OuterFace = 1

abbrev pub side_number : Side → ℕ
side_number Plus = 0
side_number Minus = 1

abbrev pub place_numbers : PlyPlace → List ℕ
place_numbers at = at.case ∷ at.ply ∷ face_number at.face ∷ side_number at.side ∷ []

abbrev pub ComesBefore : PlyPlace → PlyPlace → Type 0
ComesBefore a b = slice_cmp nat_cmp (place_numbers a) (place_numbers b) ≡ Less

-- a place is the first of which something is so
pub record IsFirstPlace (So : PlyPlace → Type 0) (at : PlyPlace) : Type 0 where
  pub so : So at
  pub first : (other : PlyPlace) → ComesBefore other at → ¬ So other
