-- What the word of a leaf says, and when it is true.
use Rattle.std.specs.Prelude.{ℕ, ◌≤◌, ◌⊎◌, List, slice_get, Option, IsSomeAnd, ⊤}
use Rattle.lam_stock.specs.declared.item.Item.{Item}
use Rattle.lam_stock.specs.declared.item.ItemNo.{ItemNo}
use Rattle.lam_job.specs.JobData.{JobData}
use Rattle.lam_job.specs.LoadOf.{load_of}
use Rattle.lam_job.specs.Schedule.{wall_of, cost_of}
use Rattle.lam_job.specs.LoadRange.{WallInRange, OutOfRange}
use Rattle.lam_job.specs.Strength.{Face, InnerFace, OuterFace, PlyPlace, FailsAt}
use Rattle.lam_job.specs.Plate.{Buckles}
use Rattle.lam_job.specs.Rules.{Breaks}
use Rattle.lam_job.specs.Near as near
use Rattle.lam_job.specs.Design.{Admissible}
use Rattle.lam_job.specs.Partial.{Partial, ForEveryCompletion, IsFull, completion, cost_floor}
use Rattle.lam_tsai.specs.Levels.{side_of}
use Rattle.lam_tsai.specs.declared.place.FaceSide.{FaceSide}
use Rattle.lam_tsai.specs.declared.place.FaceSide.TheVariants.{Inner, Outer}
use Rattle.lam_tsai.specs.declared.place.Place.{Place}
use Rattle.lam_tree.specs.declared.spot.Spot.{Spot}
use Rattle.lam_tree.specs.declared.spot.Spot.TheVariants.{Ply, Panel}
use Rattle.lam_tree.specs.declared.node.Word.{Word}
use Rattle.lam_tree.specs.declared.node.Word.TheVariants as word

-- ---- places and spots, as the definitions of a design name them

abbrev pub face_of : FaceSide → Face
face_of Inner = InnerFace
face_of Outer = OuterFace

abbrev pub place_of : Place → PlyPlace
place_of at = record { case = at.case; ply = at.ply; face = face_of at.face; side = side_of at.side }

abbrev pub spot_of : Spot → near.Spot
spot_of (Ply at) = near.AtPly (place_of at)
spot_of (Panel panel) = near.AtPanel panel

-- ---- words

-- the partial is full, and something is so of its completion
abbrev pub OfFull : JobData → Partial → (List ItemNo → Type 0) → Type 0
OfFull job p So = IsFull job p × So (completion job p)

-- no completion may be built
abbrev pub NoneMayBeBuilt : List Item → JobData → Partial → Type 0
NoneMayBeBuilt stock job p = ForEveryCompletion stock job p (λ listed. ¬ Admissible stock job listed)

-- no completion that may be built costs less
abbrev pub NoneIsCheaper : List Item → JobData → Partial → ℕ → Type 0
NoneIsCheaper stock job p cost =
    ForEveryCompletion stock job p (λ listed. Admissible stock job listed → cost ≤ cost_of stock job listed)

-- the job has the case of a place, and every completion that is in range for it fails there
abbrev pub AllFailAt : List Item → JobData → Partial → Place → Type 0
AllFailAt stock job p at =
    IsSomeAnd (slice_get job.cases at.case) (λ c. ForEveryCompletion stock job p (λ listed.
    WallInRange stock (wall_of stock job listed) (load_of c.kind) → FailsAt stock job listed (place_of at)))

-- a schedule hangs at a spot
abbrev pub HangsAt : List Item → JobData → List ItemNo → Spot → Type 0
HangsAt stock job listed spot = near.Hangs stock job listed (spot_of spot)

-- what a leaf says of its partial is so, where `best` is the cost of the best schedule, or none. A split says nothing
abbrev pub IsTrueOf : List Item → JobData → (best : Option ℕ) → Partial → Word → Type 0
IsTrueOf stock job best p word.Split = ⊤
IsTrueOf stock job best p word.Cost = IsSomeAnd best (λ cost. cost ≤ cost_floor stock job p)
IsTrueOf stock job best p (word.Rule rule) = ForEveryCompletion stock job p (Breaks rule.0 stock job)
IsTrueOf stock job best p (word.NetShort case weight) = NoneMayBeBuilt stock job p
IsTrueOf stock job best p (word.NetCost case weight) = NoneMayBeBuilt stock job p ⊎ IsSomeAnd best (NoneIsCheaper stock job p)
IsTrueOf stock job best p (word.Box at) = AllFailAt stock job p at
IsTrueOf stock job best p (word.Range case) = OfFull job p (λ listed. OutOfRange stock job listed case)
IsTrueOf stock job best p (word.Fails at) = OfFull job p (λ listed. FailsAt stock job listed (place_of at))
IsTrueOf stock job best p (word.Buckles panel) = OfFull job p (λ listed. Buckles stock job listed panel)
IsTrueOf stock job best p (word.Straddles spot) = OfFull job p (λ listed. HangsAt stock job listed spot)
IsTrueOf stock job best p word.Admissible = OfFull job p (Admissible stock job)
