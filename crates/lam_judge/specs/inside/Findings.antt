-- What is found at some places, one after the other: the first that fails, else the first that straddles.
use Rattle.std.specs.Prelude.{◌≡◌, ⊤, ℕ, suc, Bool, true, false, List, [], ◌∷◌}
use Rattle.lam_job.specs.JobData.{CaseData, PanelData}
use Rattle.lam_job.specs.Wall.{Placed}
use Rattle.lam_number.specs.declared.strength.Verdict.{Verdict}
use Rattle.lam_number.specs.declared.strength.Verdict.TheVariants as verdict
use Rattle.lam_stock.specs.declared.item.Kind.{Kind}
use Rattle.lam_stock.specs.declared.item.Kind.TheVariants.{Ply, Pair}
use Rattle.lam_tsai.specs.declared.place.FaceSide.{FaceSide}
use Rattle.lam_tsai.specs.declared.place.FaceSide.TheVariants.{Inner, Outer}
use Rattle.lam_tsai.specs.declared.place.Place.{Place}
use Rattle.lam_tsai.specs.declared.place.Side.{Side}
use Rattle.lam_tsai.specs.declared.place.Side.TheVariants.{Plus, Minus}
use Rattle.lam_judge.specs.declared.finding.Finding.{Finding}
use Rattle.lam_judge.specs.declared.finding.Finding.TheVariants.{Clear, Fails, Straddles}

module _ {T : Type 0} where
  -- at one place
  abbrev pub found : Verdict → T → Finding T
  found verdict.Meets at = Clear
  found verdict.Fails at = Fails at
  found verdict.Straddles at = Straddles at

  -- with what is found at later places
  abbrev pub and_then : Finding T → Finding T → Finding T
  and_then Clear later = later
  and_then (Fails at) later = Fails at
  and_then (Straddles at) Clear = Straddles at
  and_then (Straddles at) (Fails other) = Fails other
  and_then (Straddles at) (Straddles other) = Straddles at

  abbrev pub is_clear : Finding T → Bool
  is_clear Clear = true
  is_clear (Fails at) = false
  is_clear (Straddles at) = false

  -- nothing that is found later matters
  abbrev pub is_settled : Finding T → Bool
  is_settled Clear = false
  is_settled (Fails at) = true
  is_settled (Straddles at) = false

  -- what one test finds is what all tests find, where it does not straddle
  abbrev pub Settles : (first all : Finding T) → Type 0
  Settles Clear all = Clear ≡ all
  Settles (Fails at) all = Fails at ≡ all
  Settles (Straddles at) all = ⊤

-- ---- the places of a case

module _ (case k : ℕ) where
  abbrev pub at_side : Verdict → FaceSide → Side → Finding Place
  at_side v face side = found v (record { case = case; ply = k; face = face; side = side })

  -- a ply has the side Plus alone
  abbrev pub at_face : Kind → (Side → Verdict) → FaceSide → Finding Place
  at_face Ply verdict face = at_side (verdict Plus) face Plus
  at_face Pair verdict face = and_then (at_side (verdict Plus) face Plus) (at_side (verdict Minus) face Minus)

  unfoldable pub at_ply : Kind → (FaceSide → Side → Verdict) → Finding Place
  at_ply kind verdict = and_then (at_face kind (verdict Inner) Inner) (at_face kind (verdict Outer) Outer)

module _ (verdict : Placed → FaceSide → Side → Verdict) (case : ℕ) where
  -- some plies, the first of a number
  unfoldable pub at_plies : ℕ → List Placed → Finding Place
  at_plies k [] = Clear
  at_plies k (p ∷ rest) = and_then (at_ply case k p.item.kind (verdict p)) (at_plies (suc k) rest)

-- some cases, the first of a number
unfoldable pub at_cases : (CaseData → Placed → FaceSide → Side → Verdict) → List Placed → ℕ → List CaseData → Finding Place
at_cases verdicts plies number [] = Clear
at_cases verdicts plies number (case ∷ rest) =
    and_then (at_plies (verdicts case) number 0 plies) (at_cases verdicts plies (suc number) rest)

-- some panels, the first of a number
unfoldable pub at_panels : (PanelData → Verdict) → ℕ → List PanelData → Finding ℕ
at_panels verdict number [] = Clear
at_panels verdict number (panel ∷ rest) = and_then (found (verdict panel) number) (at_panels verdict (suc number) rest)
