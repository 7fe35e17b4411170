-- The box of strains of all completions of a partial schedule under a case without moments, and the first place that
-- fails in it. A symmetric wall that bears no moment does not bend, so that its strain is that of the mid-plane everywhere.
use Rattle.std.specs.Prelude.{ℕ, suc, ◌*◌, ℤ, pos, ◌+ℤ◌, ◌-ℤ◌, unsigned_abs, Bool, true, false, not, ◌&&◌, ◌==◌, nat_le, if◌then◌else◌, List, [], ◌∷◌, length, slice_get, Option, Some, None}
use Rattle.lam_fraction.specs.numbers.Numbers.{Numbers, unit}
use Rattle.lam_number.specs.declared.strength.FaceStrain.{FaceStrain}
use Rattle.lam_number.specs.declared.strength.Verdict.{Verdict}
use Rattle.lam_number.specs.declared.strength.Verdict.TheVariants.{Meets, Fails, Straddles}
use Rattle.lam_number.specs.inside.FixNumbers.{fix_numbers}
use Rattle.lam_stock.specs.declared.item.Item.{Item}
use Rattle.lam_stock.specs.declared.item.ItemNo.{ItemNo}
use Rattle.lam_stock.specs.declared.item.Kind.{Kind}
use Rattle.lam_stock.specs.declared.item.Kind.TheVariants.{Ply, Pair}
use Rattle.lam_stock.specs.declared.scale.Scale.{Scale}
use Rattle.lam_stock.specs.Scale.{scale_of}
use Rattle.lam_job.specs.declared.load.Load.{Load}
use Rattle.lam_job.specs.JobData.{JobData, CaseData}
use Rattle.lam_job.specs.LoadOf.{load_of}
use Rattle.lam_job.specs.Partial.{Partial, half, open_places}
use Rattle.lam_job.specs.Schedule.{items_of}
use Rattle.lam_solve.specs.inside.Steps.{over_up}
use Rattle.lam_tsai.specs.declared.criterion.Criterion.{Criterion}
use Rattle.lam_tsai.specs.declared.place.FaceSide.TheVariants.{Inner}
use Rattle.lam_tsai.specs.declared.place.Place.{Place}
use Rattle.lam_tsai.specs.declared.place.Side.{Side}
use Rattle.lam_tsai.specs.declared.place.Side.TheVariants.{Plus, Minus}
use Rattle.lam_tsai.specs.Levels.{verdict_of}
use Rattle.lam_tsai.specs.inside.Values.{criterion, level_by}
use Rattle.lam_boxes.specs.declared.three.Shape.{Shape}
use Rattle.lam_boxes.specs.declared.three.Three.{Three}
use Rattle.lam_boxes.specs.inside.Centres.{guess, is_near}
use Rattle.lam_boxes.specs.inside.Extents.{fixed_items, least_thick, most_thick}
use Rattle.lam_boxes.specs.inside.Extensions.{extension}
use Rattle.lam_boxes.specs.inside.Residuals.{forces, eighths, residual, are_small, radius}

-- ---- the box

-- no force is above so much
abbrev pub forces_within : ℕ → Load → Bool
forces_within most load =
    nat_le (unsigned_abs load.nx) most && (nat_le (unsigned_abs load.ny) most && nat_le (unsigned_abs load.nxy) most)

-- none is above floor times the thickness
abbrev pub bears : (floor h : ℤ) → Load → Bool
bears floor h load = forces_within (unsigned_abs floor * unsigned_abs h) load

module _ {A : Type 0} (n : Numbers A) where
  -- from a radius below a centre to a radius above it
  abbrev pub around : ℤ → ℕ → A
  around c r = n.hull (n.calc.ratio (c -ℤ pos r) (pos (unit n))) (n.calc.ratio (c +ℤ pos r) (pos (unit n)))

  -- the shear strain counts half, so that its radius is half as much again, a little more than the root of two times it
  abbrev pub box_round : Three ℤ → ℕ → FaceStrain A
  box_round c r = record { ex = around c.x r; ey = around c.y r; g = around c.s (over_up (3 * r) 2) }

  abbrev pub box_within : Three ℤ → ℕ → Option (FaceStrain A)
  box_within c r = if nat_le r (unit n) then Some (box_round c r) else None

  abbrev pub box_left : Scale → Shape A → Three ℤ → Three A → Option (FaceStrain A)
  box_left scale shape c rest = if are_small n rest then box_within c (radius n scale shape.most shape.least rest) else None

  abbrev pub box_at : Scale → Shape A → Three A → Three ℤ → Option (FaceStrain A)
  box_at scale shape loads c =
      if is_near n c then box_left scale shape c (residual n.calc shape.extension loads (eighths n.calc (unit n) c)) else None

  unfoldable pub box_under : Scale → Shape A → Load → Option (FaceStrain A)
  box_under scale shape load =
      let loads = forces n.calc scale.q0 shape.most load in
      if bears scale.floor shape.most load then box_at scale shape loads (guess n shape.extension loads) else None

  -- what the completions of a partial have in common
  abbrev pub shape_of : List Item → JobData → Partial → Shape A
  shape_of stock job p = record {
    extension = extension n (scale_of stock).q0 (most_thick stock job p) (fixed_items stock job p) (pos (open_places job p)) stock;
    most = most_thick stock job p;
    least = least_thick stock job p;
  }

-- ---- the first place that fails

abbrev pub is_failed : Verdict → Bool
is_failed Meets = false
is_failed Fails = true
is_failed Straddles = false

-- a pair is asked on both sides
abbrev pub minus_side : Kind → Bool → Option Side
minus_side Ply failed = None
minus_side Pair failed = if failed then Some Minus else None

module _ {A : Type 0} (n : Numbers A) where
  abbrev pub fails : Criterion A → FaceStrain A → ℤ → Side → Bool
  fails c at factor side = is_failed (verdict_of n (level_by n c side at factor))

  abbrev pub failing_side : Criterion A → FaceStrain A → ℤ → Option Side
  failing_side c at factor = if fails c at factor Plus then Some Plus else minus_side c.kind (fails c at factor Minus)

-- the first of some plies, from a number on
unfoldable pub first_failing : (case : ℕ) → (Item → Option Side) → ℕ → List Item → Option Place
first_failing case of k [] = None
first_failing case of k (i ∷ rest) = elim (of i) [
  | Some side ↦ Some (record { case = case; ply = k; face = Inner; side = side })
  | None ↦ first_failing case of (suc k) rest
]

-- ---- the answer

-- some plies are settled, and not all
abbrev pub is_open : JobData → Partial → Bool
is_open job p = not (length p.prefix == half job p.n) && not (length p.prefix == 0)

module _ {A : Type 0} (n : Numbers A) where
  -- in a box, at the plies of the prefix
  abbrev pub failing_in : List Item → (prefix : List ItemNo) → (case : ℕ) → (factor : ℤ) → Option (FaceStrain A) → Option Place
  failing_in stock prefix case factor None = None
  failing_in stock prefix case factor (Some at) =
      first_failing case (λ i. failing_side n (criterion n (scale_of stock) i) at factor) 0 (items_of stock prefix)

  abbrev pub boxed_under : List Item → JobData → Partial → (case : ℕ) → CaseData → Option Place
  boxed_under stock job p case c =
      if is_open job p
      then failing_in stock p.prefix case c.factor (box_under n (scale_of stock) (shape_of n stock job p) (load_of c.kind))
      else None

  abbrev pub boxed_at : List Item → JobData → Partial → (case : ℕ) → Option CaseData → Option Place
  boxed_at stock job p case None = None
  boxed_at stock job p case (Some c) = boxed_under stock job p case c

-- where every completion in range for a case fails, if the box of its strains shows such a place
unfoldable pub boxed : List Item → JobData → Partial → ℕ → Option Place
boxed stock job p case = boxed_at (fix_numbers 60) stock job p case (slice_get job.cases case)
