-- The value of a printed ratio, and where a factor is met.
use Rattle.std.specs.Prelude.{◌≡◌, ℕ, zero, suc, ◌+◌, ◌-◌, ◌/◌, nat_lt, pos, Bool, true, false, ◌&&◌, if◌then◌else◌, Some, None}
use Rattle.std.specs.declared.option.Option.{Option}
use Rattle.lam_fraction.specs.numbers.Numbers.{Numbers}
use Rattle.lam_job.specs.Strength.{HasSide}
use Rattle.lam_number.specs.declared.strength.FaceStrain.{FaceStrain}
use Rattle.lam_number.specs.declared.strength.Verdict.{Verdict}
use Rattle.lam_number.specs.declared.strength.Verdict.TheVariants.{Meets, Fails, Straddles}
use Rattle.lam_stock.specs.declared.item.Item.{Item}
use Rattle.lam_stock.specs.declared.item.Kind.{Kind}
use Rattle.lam_stock.specs.declared.item.Kind.TheVariants.{Ply, Pair}
use Rattle.lam_stock.specs.declared.scale.Scale.{Scale}
use Rattle.lam_tsai.specs.declared.components.Components.{Components}
use Rattle.lam_tsai.specs.declared.criterion.Criterion.{Criterion}
use Rattle.lam_tsai.specs.declared.place.FaceSide.{FaceSide}
use Rattle.lam_tsai.specs.declared.place.Side.{Side}
use Rattle.lam_tsai.specs.declared.place.Side.TheVariants.{Plus, Minus}
use Rattle.lam_tsai.specs.declared.ratio.FaceStresses.{FaceStresses}
use Rattle.lam_tsai.specs.Levels.{side_of, verdict_of}
use Rattle.lam_tsai.specs.Ratios.{at_face}
use Rattle.lam_tsai.specs.inside.Values as value

abbrev pub is_met : Verdict → Bool
is_met Meets = true
is_met Fails = false
is_met Straddles = false

-- ---- halving

-- between one number and another, of which a test passes the first and not the second
unfoldable pub between : ℕ → (ℕ → Bool) → ℕ → ℕ → ℕ
between zero test met beyond = met
between (suc more) test met beyond =
    if nat_lt 1 (beyond - met)
    then (if test ((met + beyond) / 2) then between more test ((met + beyond) / 2) beyond else between more test met ((met + beyond) / 2))
    else met

-- in at most 15 turns
abbrev pub halved : (ℕ → Bool) → ℕ
halved test = between 15 test 0 20001

module _ {A : Type 0} (n : Numbers A) where
  -- ---- which factors are met

  abbrev pub side_meets : Criterion A → Components A → ℕ → Bool
  side_meets c t r = is_met (verdict_of n (value.at_factor n c t (pos r)))

  abbrev pub minus_meets : Criterion A → Option (Components A) → ℕ → Bool
  minus_meets c None r = true
  minus_meets c (Some t) r = side_meets c t r

  abbrev pub face_meets : Criterion A → FaceStresses A → ℕ → Bool
  face_meets c s r = side_meets c s.plus r && minus_meets c s.minus r

  unfoldable pub meets : Criterion A → FaceStresses A → FaceStresses A → ℕ → Bool
  meets c inner outer r = face_meets c inner r && face_meets c outer r

  abbrev pub minus_of : Kind → Criterion A → FaceStrain A → Option (Components A)
  minus_of Ply c at = None
  minus_of Pair c at = Some (value.stress n c Minus at)

  abbrev pub face_stresses : Criterion A → FaceStrain A → FaceStresses A
  face_stresses c at = record { plus = value.stress n c Plus at; minus = minus_of c.kind c at }

  abbrev pub meets_at : Criterion A → FaceStrain A → FaceStrain A → ℕ → Bool
  meets_at c inner outer r = meets c (face_stresses c inner) (face_stresses c outer) r

  abbrev pub ratio_by : Criterion A → FaceStrain A → FaceStrain A → ℕ
  ratio_by c inner outer = halved (meets c (face_stresses c inner) (face_stresses c outer))

  abbrev pub printed_ratio : Item → Scale → FaceStrain A → FaceStrain A → ℕ
  printed_ratio i scale inner outer = ratio_by (value.criterion n scale i) inner outer

  -- the verdict on the level of both faces and of all sides is Meets
  abbrev pub AllMeet : Item → Scale → FaceStrain A → FaceStrain A → ℕ → Type 0
  AllMeet i scale inner outer r =
      (face : FaceSide) (side : Side) → HasSide i.kind (side_of side)
      → verdict_of n (value.level n i side scale (at_face inner outer face) (pos r)) ≡ Meets
