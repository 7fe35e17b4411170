-- Where a judgement names a place, the wall has it.
use Rattle.std.proofs.Common.{◌≡◌, refl, sym, ◌∙◌, ap, subst, ℕ, suc, ◌+◌, ◌≤◌, ◌<◌, List, [], ◌∷◌, ◌++◌, length, Option, Some, None, Bool, true, false, if◌then◌else◌, arith}
use Rattle.std.proofs.lemmas.List.{length-append}
use Rattle.lam_number.specs.declared.strength.Verdict.{Verdict}
use Rattle.lam_number.specs.declared.strength.Verdict.TheVariants as verdict
use Rattle.lam_stock.specs.declared.item.Item.{Item}
use Rattle.lam_stock.specs.declared.item.ItemNo.{ItemNo}
use Rattle.lam_stock.specs.declared.item.Kind.{Kind}
use Rattle.lam_stock.specs.declared.item.Kind.TheVariants.{Ply, Pair}
use Rattle.lam_stock.specs.Scale.{scale_of}
use Rattle.lam_stock.specs.Stock.{IsKnown}
use Rattle.lam_job.specs.JobData.{CaseData, PanelData, JobData}
use Rattle.lam_job.specs.Schedule.{items_of, wall_of}
use Rattle.lam_job.specs.Wall.{Placed, placed_plies}
use Rattle.lam_job.proofs.Listed.{items_of-append, items_of-length}
use Rattle.lam_tsai.specs.declared.place.FaceSide.{FaceSide}
use Rattle.lam_tsai.specs.declared.place.FaceSide.TheVariants.{Inner, Outer}
use Rattle.lam_tsai.specs.declared.place.Place.{Place}
use Rattle.lam_tsai.specs.declared.place.Side.{Side}
use Rattle.lam_tsai.specs.declared.place.Side.TheVariants.{Plus, Minus}
use Rattle.lam_judge.specs.declared.finding.Finding.{Finding}
use Rattle.lam_judge.specs.declared.finding.Finding.TheVariants as found
use Rattle.lam_judge.specs.declared.judgement.Judgement.{Judgement}
use Rattle.lam_judge.specs.declared.judgement.Judgement.TheVariants.{Admissible, Broken, OutOfRange, Fails, Buckles, StraddlesPly, StraddlesPanel}
use Rattle.lam_judge.specs.inside.Findings.{and_then, at_side, at_face, at_ply, at_plies, at_cases, at_panels}
use Rattle.lam_judge.specs.inside.Findings as by
use Rattle.lam_judge.specs.inside.Judged.{by_findings, by_strength, or_broken, or_out, panel_over, matrices, place_verdict, judged}
use Rattle.lam_judge.specs.inside.Scales.{fine}
use Rattle.lam_judge.specs.inside.Kept.{first_broken, first_out}
use Rattle.lam_judge.proofs.PlacedPlies.{placed-length}
use Rattle.lam_judge.proofs.PlacesWalked.{plies-none, plies-one, cases-none, cases-one, panels-none, panels-one}

-- what is found is at a place that has something
abbrev FoundAt : {T : Type 0} → (T → Type 0) → Finding T → Type 0
FoundAt P found.Clear = Unit {0}
FoundAt P (found.Fails at) = P at
FoundAt P (found.Straddles at) = P at

found_weaker : {T : Type 0} (P Q : T → Type 0) → ((at : T) → P at → Q at) → (f : Finding T) → FoundAt P f → FoundAt Q f
found_weaker P Q w found.Clear h = tt
found_weaker P Q w (found.Fails at) h = w at h
found_weaker P Q w (found.Straddles at) h = w at h

found_both : {T : Type 0} (P : T → Type 0) (one other : Finding T) → FoundAt P one → FoundAt P other → FoundAt P (and_then one other)
found_both P found.Clear other a b = b
found_both P (found.Fails at) other a b = a
found_both P (found.Straddles at) found.Clear a b = a
found_both P (found.Straddles at) (found.Fails x) a b = b
found_both P (found.Straddles at) (found.Straddles x) a b = a

found_one : {T : Type 0} (P : T → Type 0) (v : Verdict) (at : T) → P at → FoundAt P (by.found v at)
found_one P verdict.Meets at h = tt
found_one P verdict.Fails at h = h
found_one P verdict.Straddles at h = h

-- ---- places

record IsAt (case ply : ℕ) (at : Place) : Type 0 where
  case_is : at.case ≡ case
  ply_is : at.ply ≡ ply

record IsAmong (cases plies : ℕ) (at : Place) : Type 0 where
  case : at.case < cases
  ply : at.ply < plies

face-found : (case k : ℕ) (kind : Kind) (v : Side → Verdict) (face : FaceSide) → FoundAt (IsAt case k) (at_face case k kind v face)
face-found case k Ply v face = found_one (IsAt case k) (v Plus) (record { case = case; ply = k; face = face; side = Plus }) (record { case_is = refl; ply_is = refl })
face-found case k Pair v face =
    found_both (IsAt case k) (at_side case k (v Plus) face Plus) (at_side case k (v Minus) face Minus)
    (found_one (IsAt case k) (v Plus) (record { case = case; ply = k; face = face; side = Plus }) (record { case_is = refl; ply_is = refl }))
    (found_one (IsAt case k) (v Minus) (record { case = case; ply = k; face = face; side = Minus }) (record { case_is = refl; ply_is = refl }))

ply-found : (case k : ℕ) (kind : Kind) (v : FaceSide → Side → Verdict) → FoundAt (IsAt case k) (at_ply case k kind v)
unfolding at_ply
ply-found case k kind v =
    found_both (IsAt case k) (at_face case k kind (v Inner) Inner) (at_face case k kind (v Outer) Outer)
    (face-found case k kind (v Inner) Inner) (face-found case k kind (v Outer) Outer)

module _ (V : Placed → FaceSide → Side → Verdict) (case : ℕ) where
  plies-found : (k : ℕ) (plies : List Placed) → FoundAt (IsAmong (suc case) (k + length plies)) (at_plies V case k plies)
  plies-found k [] = subst (FoundAt (IsAmong (suc case) (k + 0))) (sym (plies-none V case k)) tt
  plies-found k (p ∷ rest) =
      let Q = IsAmong (suc case) (k + length (p ∷ rest)) in
      let here : FoundAt Q (at_ply case k p.item.kind (V p))
      = found_weaker (IsAt case k) Q (λ at h. let c = h.case_is in let n = h.ply_is in record { case = omega (arith, c); ply = omega (arith, n) }) (at_ply case k p.item.kind (V p)) (ply-found case k p.item.kind (V p)) in
      let later : FoundAt Q (at_plies V case (suc k) rest)
      = found_weaker (IsAmong (suc case) (suc k + length rest)) Q (λ at h. let c = h.case in let n = h.ply in record { case = c; ply = omega (arith, n) }) (at_plies V case (suc k) rest) (plies-found (suc k) rest) in
      subst (FoundAt Q) (sym (plies-one V case k p rest)) (found_both Q (at_ply case k p.item.kind (V p)) (at_plies V case (suc k) rest) here later)

module _ (V : CaseData → Placed → FaceSide → Side → Verdict) (plies : List Placed) where
  cases-found : (k : ℕ) (cases : List CaseData) → FoundAt (IsAmong (k + length cases) (length plies)) (at_cases V plies k cases)
  cases-found k [] = subst (FoundAt (IsAmong (k + 0) (length plies))) (sym (cases-none V plies k)) tt
  cases-found k (c ∷ rest) =
      let Q = IsAmong (k + length (c ∷ rest)) (length plies) in
      let here : FoundAt Q (at_plies (V c) k 0 plies)
      = found_weaker (IsAmong (suc k) (0 + length plies)) Q (λ at h. let a = h.case in let n = h.ply in record { case = omega (arith, a); ply = omega (arith, n) }) (at_plies (V c) k 0 plies) (plies-found (V c) k 0 plies) in
      let later : FoundAt Q (at_cases V plies (suc k) rest)
      = found_weaker (IsAmong (suc k + length rest) (length plies)) Q (λ at h. let a = h.case in let n = h.ply in record { case = omega (arith, a); ply = n }) (at_cases V plies (suc k) rest) (cases-found (suc k) rest) in
      subst (FoundAt Q) (sym (cases-one V plies k c rest)) (found_both Q (at_plies (V c) k 0 plies) (at_cases V plies (suc k) rest) here later)

panels-found : (V : PanelData → Verdict) (k : ℕ) (panels : List PanelData) → FoundAt (λ at. at < k + length panels) (at_panels V k panels)
panels-found V k [] = subst (FoundAt (λ at. at < k + 0)) (sym (panels-none V k)) tt
panels-found V k (p ∷ rest) =
    let Q : ℕ → Type 0 = λ at. at < k + length (p ∷ rest) in
    let later : FoundAt Q (at_panels V (suc k) rest)
    = found_weaker (λ at. at < suc k + length rest) Q (λ at h. omega (arith, h)) (at_panels V (suc k) rest) (panels-found V (suc k) rest) in
    subst (FoundAt Q) (sym (panels-one V k p rest))
    (found_both Q (by.found (V p) k) (at_panels V (suc k) rest) (found_one Q (V p) k (let h : k < k + suc (length rest) = omega arith in h)) later)

-- ---- judgements

-- the places that a judgement of strength names are there
abbrev pub IsPlaced : (cases plies panels : ℕ) → Judgement → Type 0
IsPlaced cases plies panels Admissible = Unit {0}
IsPlaced cases plies panels (Broken rule) = Unit {0}
IsPlaced cases plies panels (OutOfRange case) = Unit {0}
IsPlaced cases plies panels (Fails at) = (at.case < cases) × (at.ply < plies)
IsPlaced cases plies panels (Buckles panel) = panel < panels
IsPlaced cases plies panels (StraddlesPly at) = (at.case < cases) × (at.ply < plies)
IsPlaced cases plies panels (StraddlesPanel panel) = panel < panels

findings-placed : (cases plies panels : ℕ) (one : Finding Place) (other : Finding ℕ) → FoundAt (IsAmong cases plies) one → FoundAt (λ at. at < panels) other
    → IsPlaced cases plies panels (by_findings one other)
findings-placed cases plies panels (found.Fails at) other a b = (a.case, a.ply)
findings-placed cases plies panels found.Clear found.Clear a b = tt
findings-placed cases plies panels found.Clear (found.Fails panel) a b = b
findings-placed cases plies panels found.Clear (found.Straddles panel) a b = b
findings-placed cases plies panels (found.Straddles at) found.Clear a b = (a.case, a.ply)
findings-placed cases plies panels (found.Straddles at) (found.Fails panel) a b = b
findings-placed cases plies panels (found.Straddles at) (found.Straddles panel) a b = (a.case, a.ply)

or-broken : (cases plies panels : ℕ) (o : Option ℕ) (later : Judgement) → IsPlaced cases plies panels later → IsPlaced cases plies panels (or_broken o later)
or-broken cases plies panels None later h = h
or-broken cases plies panels (Some rule) later h = tt

or-out : (cases plies panels : ℕ) (o : Option ℕ) (later : Judgement) → IsPlaced cases plies panels later → IsPlaced cases plies panels (or_out o later)
or-out cases plies panels None later h = h
or-out cases plies panels (Some case) later h = tt

pub judged-placed : (stock : List Item) (job : JobData) (listed : List ItemNo)
    → IsPlaced (length job.cases) (length (wall_of stock job listed)) (length job.panels) (judged stock job listed)
unfolding judged
judged-placed stock job listed =
    let wall = wall_of stock job listed in
    let scale = scale_of stock in
    let cases = length job.cases in
    let panels = length job.panels in
    let plies = cases-found (place_verdict scale wall) (placed_plies wall) 0 job.cases in
    let many : length (placed_plies wall) ≡ length wall = placed-length _ wall in
    let none : 0 + cases ≡ cases = omega arith in
    let zero_panels : 0 + panels ≡ panels = omega arith in
    let one : FoundAt (IsAmong cases (length wall)) (at_cases (place_verdict scale wall) (placed_plies wall) 0 job.cases)
    = subst (λ n. FoundAt (IsAmong cases n) (at_cases (place_verdict scale wall) (placed_plies wall) 0 job.cases)) many
    (subst (λ n. FoundAt (IsAmong n (length (placed_plies wall))) (at_cases (place_verdict scale wall) (placed_plies wall) 0 job.cases)) none plies) in
    let other : FoundAt (λ at. at < panels) (at_panels (panel_over fine scale.q0 (matrices fine scale wall)) 0 job.panels)
    = subst (λ n. FoundAt (λ at. at < n) (at_panels (panel_over fine scale.q0 (matrices fine scale wall)) 0 job.panels)) zero_panels (panels-found (panel_over fine scale.q0 (matrices fine scale wall)) 0 job.panels) in
    or-broken cases (length wall) panels (first_broken stock job listed) (or_out (first_out stock job listed) (by_strength stock job listed))
    (or-out cases (length wall) panels (first_out stock job listed) (by_strength stock job listed)
    (findings-placed cases (length wall) panels (at_cases (place_verdict scale wall) (placed_plies wall) 0 job.cases) (at_panels (panel_over fine scale.q0 (matrices fine scale wall)) 0 job.panels) one other))

-- ---- how many plies a wall has

plies-of : (in_wall : Bool) (stock : List Item) (liner listed : List ItemNo) → IsKnown stock liner → IsKnown stock listed
    → length (if in_wall then items_of stock (liner ++ listed) else items_of stock listed) ≤ length liner + length listed
plies-of true stock liner listed a b =
    let all = items_of-append stock liner listed in
    let e = ap length all ∙ length-append (items_of stock liner) (items_of stock listed) in
    let l = items_of-length stock liner a in
    let r = items_of-length stock listed b in
    omega (arith, e, l, r)
plies-of false stock liner listed a b = let r = items_of-length stock listed b in omega (arith, r)

pub wall-plies : (stock : List Item) (job : JobData) (listed : List ItemNo) → IsKnown stock job.liner → IsKnown stock listed
    → length (wall_of stock job listed) ≤ length job.liner + length listed
wall-plies stock job listed a b = plies-of job.liner_in_wall stock job.liner listed a b
