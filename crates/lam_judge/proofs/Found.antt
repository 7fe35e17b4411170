-- What the first finding at some places says of each of them.
use Rattle.std.proofs.Common.{◌≡◌, refl, sym, ◌∙◌, subst, ℕ, zero, suc, ◌+◌, List, [], ◌∷◌, slice_get, Some, None, true, false, ◌⊎◌, inl, inr, arith}
use Rattle.std.proofs.lemmas.Option.{same_Some}
use Rattle.lam_job.specs.JobData.{CaseData, PanelData}
use Rattle.lam_job.specs.Strength.{HasSide}
use Rattle.lam_job.specs.Wall.{Placed}
use Rattle.lam_number.specs.declared.strength.Verdict.{Verdict}
use Rattle.lam_number.specs.declared.strength.Verdict.TheVariants as verdict
use Rattle.lam_stock.specs.declared.item.Kind.{Kind}
use Rattle.lam_stock.specs.declared.item.Kind.TheVariants.{Ply, Pair}
use Rattle.lam_tsai.specs.Levels.{side_of}
use Rattle.lam_tsai.specs.declared.place.FaceSide.{FaceSide}
use Rattle.lam_tsai.specs.declared.place.FaceSide.TheVariants.{Inner, Outer}
use Rattle.lam_tsai.specs.declared.place.Place.{Place}
use Rattle.lam_tsai.specs.declared.place.Side.{Side}
use Rattle.lam_tsai.specs.declared.place.Side.TheVariants.{Plus, Minus}
use Rattle.lam_judge.specs.declared.finding.Finding.{Finding}
use Rattle.lam_judge.specs.declared.finding.Finding.TheVariants.{Clear, Fails, Straddles}
use Rattle.lam_judge.specs.inside.Findings.{found, and_then, is_settled, at_side, at_face, at_ply, at_plies, at_cases, at_panels}

-- a verdict whose place is named
abbrev pub IsNamed : Verdict → Type 0
IsNamed verdict.Meets = ⊥
IsNamed verdict.Fails = Unit {0}
IsNamed verdict.Straddles = Unit {0}

unnamed : {T : Type 0} (what : Verdict) → IsNamed what → (at : T) → Clear ≡ found what at → ⊥
unnamed verdict.Meets named at e = named
unnamed verdict.Fails named at e = cc
unnamed verdict.Straddles named at e = cc

-- ---- two findings

module _ {T : Type 0} where
  pub then-clear : (a : Finding T) → and_then a Clear ≡ a
  then-clear Clear = refl
  then-clear (Fails at) = refl
  then-clear (Straddles at) = refl

  pub then-then : (a b c : Finding T) → and_then (and_then a b) c ≡ and_then a (and_then b c)
  then-then Clear b c = refl
  then-then (Fails at) b c = refl
  then-then (Straddles at) Clear c = refl
  then-then (Straddles at) (Fails other) c = refl
  then-then (Straddles at) (Straddles other) Clear = refl
  then-then (Straddles at) (Straddles other) (Fails third) = refl
  then-then (Straddles at) (Straddles other) (Straddles third) = refl

  -- where the first is settled, the later does not matter
  pub settled-then : (a b : Finding T) → is_settled a ≡ true → a ≡ and_then a b
  settled-then Clear b e = absurd (let n : false ≡ true = e in cc)
  settled-then (Fails at) b e = refl
  settled-then (Straddles at) b e = absurd (let n : false ≡ true = e in cc)

  pub both-clear : (a b : Finding T) → and_then a b ≡ Clear → (a ≡ Clear) × (b ≡ Clear)
  both-clear Clear b e = (refl, e)
  both-clear (Fails at) b e = absurd (cc)
  both-clear (Straddles at) Clear e = absurd (cc)
  both-clear (Straddles at) (Fails other) e = absurd (cc)
  both-clear (Straddles at) (Straddles other) e = absurd (cc)

  -- nothing fails
  abbrev pub IsUnsettled : Finding T → Type 0
  IsUnsettled a = is_settled a ≡ false

  pub both-unsettled : (a b : Finding T) → IsUnsettled (and_then a b) → IsUnsettled a × IsUnsettled b
  both-unsettled Clear b e = (refl, e)
  both-unsettled (Fails at) b e = absurd (let n : true ≡ false = e in cc)
  both-unsettled (Straddles at) Clear e = (refl, refl)
  both-unsettled (Straddles at) (Fails other) e = absurd (let n : true ≡ false = e in cc)
  both-unsettled (Straddles at) (Straddles other) e = (refl, refl)

  -- what is named of two is one of them
  pub one-found : (what : Verdict) → IsNamed what → (a b : Finding T) (at : T) → and_then a b ≡ found what at → (a ≡ found what at) ⊎ (b ≡ found what at)
  one-found verdict.Meets named a b at e = absurd named
  one-found what named Clear b at e = inr e
  one-found verdict.Fails named (Fails at') b at e = inl e
  one-found verdict.Straddles named (Fails at') b at e = absurd (cc)
  one-found what named (Straddles at') Clear at e = inl e
  one-found verdict.Fails named (Straddles at') (Fails other) at e = inr e
  one-found verdict.Straddles named (Straddles at') (Fails other) at e = absurd (cc)
  one-found what named (Straddles at') (Straddles other) at e = inl e

  pub found-clear : (v : Verdict) (at : T) → found v at ≡ Clear → v ≡ verdict.Meets
  found-clear verdict.Meets at e = refl
  found-clear verdict.Fails at e = absurd (cc)
  found-clear verdict.Straddles at e = absurd (cc)

  pub found-unsettled : (v : Verdict) (at : T) → IsUnsettled (found v at) → ¬ (v ≡ verdict.Fails)
  found-unsettled verdict.Meets at e is = absurd (cc)
  found-unsettled verdict.Fails at e is = absurd (let n : true ≡ false = e in cc)
  found-unsettled verdict.Straddles at e is = absurd (cc)

  pub found-named : (what v : Verdict) → IsNamed what → (at other : T) → found v at ≡ found what other → (v ≡ what) × (at ≡ other)
  found-named verdict.Meets v named at other e = absurd named
  found-named verdict.Fails verdict.Meets named at other e = absurd (cc)
  found-named verdict.Fails verdict.Fails named at other e = (refl, cc)
  found-named verdict.Fails verdict.Straddles named at other e = absurd (cc)
  found-named verdict.Straddles verdict.Meets named at other e = absurd (cc)
  found-named verdict.Straddles verdict.Fails named at other e = absurd (cc)
  found-named verdict.Straddles verdict.Straddles named at other e = (refl, cc)

-- ---- what is so of each place, by what is found at all

module _ (So : Finding Place → Type 0) (both : (a b : Finding Place) → So (and_then a b) → So a × So b) (P : Verdict → Type 0) (one : (v : Verdict) (at : Place) → So (found v at) → P v) where
  module _ (case k : ℕ) where
    face-each : (kind : Kind) (v : Side → Verdict) (face : FaceSide) → So (at_face case k kind v face) → (side : Side) → HasSide kind (side_of side) → P (v side)
    face-each Ply v face e Plus has = one _ _ e
    face-each Ply v face e Minus has = absurd has
    face-each Pair v face e Plus has = one _ _ (both _ _ e).0
    face-each Pair v face e Minus has = one _ _ (both (at_side case k (v Plus) face Plus) _ e).1

    ply-each : (kind : Kind) (v : FaceSide → Side → Verdict) → So (at_ply case k kind v) → (face : FaceSide) (side : Side) → HasSide kind (side_of side) → P (v face side)
    unfolding at_ply
    ply-each kind v e Inner side has = face-each kind (v Inner) Inner (both _ _ e).0 side has
    ply-each kind v e Outer side has = face-each kind (v Outer) Outer (both (at_face case k kind (v Inner) Inner) _ e).1 side has

  pub plies-each : (V : Placed → FaceSide → Side → Verdict) (case k : ℕ) (plies : List Placed) → So (at_plies V case k plies) → (j : ℕ) (p : Placed) → slice_get plies j ≡ Some p
      → (face : FaceSide) (side : Side) → HasSide p.item.kind (side_of side) → P (V p face side)
  unfolding at_plies
  plies-each V case k [] e j p is = absurd (let n : None ≡ Some p = is in cc)
  plies-each V case k (q ∷ rest) e zero p is =
      subst (λ (x : Placed). (face : FaceSide) (side : Side) → HasSide x.item.kind (side_of side) → P (V x face side)) (same_Some q p is)
      (ply-each case k q.item.kind (V q) (both _ _ e).0)
  plies-each V case k (q ∷ rest) e (suc j) p is = plies-each V case (suc k) rest (both (at_ply case k q.item.kind (V q)) _ e).1 j p is

  -- and so it is of the plies under each case
  pub cases-each : (V : CaseData → Placed → FaceSide → Side → Verdict) (plies : List Placed) (number : ℕ) (cases : List CaseData) → So (at_cases V plies number cases)
      → (k : ℕ) (c : CaseData) → slice_get cases k ≡ Some c → So (at_plies (V c) (number + k) 0 plies)
  unfolding at_cases
  cases-each V plies number [] e k c is = absurd (let n : None ≡ Some c = is in cc)
  cases-each V plies number (d ∷ rest) e zero c is =
      let same : number ≡ number + 0 = omega arith in
      subst (λ m. So (at_plies (V c) m 0 plies)) same (subst (λ x. So (at_plies (V x) number 0 plies)) (same_Some d c is) (both _ _ e).0)
  cases-each V plies number (d ∷ rest) e (suc k) c is =
      let same : suc number + k ≡ number + suc k = omega arith in
      subst (λ m. So (at_plies (V c) m 0 plies)) same (cases-each V plies (suc number) rest (both (at_plies (V d) number 0 plies) _ e).1 k c is)

module _ (So : Finding ℕ → Type 0) (both : (a b : Finding ℕ) → So (and_then a b) → So a × So b) (P : Verdict → Type 0) (one : (v : Verdict) (at : ℕ) → So (found v at) → P v) where
  pub panels-each : (V : PanelData → Verdict) (number : ℕ) (panels : List PanelData) → So (at_panels V number panels) → (k : ℕ) (p : PanelData) → slice_get panels k ≡ Some p → P (V p)
  unfolding at_panels
  panels-each V number [] e k p is = absurd (let n : None ≡ Some p = is in cc)
  panels-each V number (q ∷ rest) e zero p is = subst (λ x. P (V x)) (same_Some q p is) (one _ _ (both _ _ e).0)
  panels-each V number (q ∷ rest) e (suc k) p is = panels-each V (suc number) rest (both (found (V q) number) _ e).1 k p is

-- ---- the place that is named

-- of a ply of a number: the place is on one of its sides, and has the verdict
pub record FoundIn (what : Verdict) (case k : ℕ) (kind : Kind) (v : FaceSide → Side → Verdict) (at : Place) : Type 0 where
  pub case_is : at.case ≡ case
  pub ply_is : at.ply ≡ k
  pub has : HasSide kind (side_of at.side)
  pub is : v at.face at.side ≡ what

module _ (what : Verdict) (named : IsNamed what) where
  module _ (case k : ℕ) where
    side-found : (kind : Kind) (v : FaceSide → Side → Verdict) (face : FaceSide) (side : Side) (at : Place) → HasSide kind (side_of side) → at_side case k (v face side) face side ≡ found what at → FoundIn what case k kind v at
    side-found kind v face side at has e =
        let both = found-named what (v face side) named (record { case = case; ply = k; face = face; side = side }) at e in
        subst (FoundIn what case k kind v) both.1 (record { case_is = refl; ply_is = refl; has = has; is = both.0 })

    face-found : (kind : Kind) (v : FaceSide → Side → Verdict) (face : FaceSide) (at : Place) → at_face case k kind (v face) face ≡ found what at → FoundIn what case k kind v at
    face-found Ply v face at e = side-found Ply v face Plus at tt e
    face-found Pair v face at e = elim (one-found what named (at_side case k (v face Plus) face Plus) (at_side case k (v face Minus) face Minus) at e) [
      | inl f ↦ side-found Pair v face Plus at tt f
      | inr f ↦ side-found Pair v face Minus at tt f
    ]

    ply-found : (kind : Kind) (v : FaceSide → Side → Verdict) (at : Place) → at_ply case k kind v ≡ found what at → FoundIn what case k kind v at
    unfolding at_ply
    ply-found kind v at e =
        elim (one-found what named (at_face case k kind (v Inner) Inner) (at_face case k kind (v Outer) Outer) at e) [ inl f ↦ face-found kind v Inner at f | inr f ↦ face-found kind v Outer at f ]

  -- of plies where a place is named, it is one of them
  pub plies-found : (V : Placed → FaceSide → Side → Verdict) (case k : ℕ) (plies : List Placed) (at : Place) → at_plies V case k plies ≡ found what at
      → (j : ℕ) × (p : Placed) × (slice_get plies j ≡ Some p) × FoundIn what case (k + j) p.item.kind (V p) at
  unfolding at_plies
  plies-found V case k [] at e = absurd (unnamed what named at e)
  plies-found V case k (q ∷ rest) at e = elim (one-found what named (at_ply case k q.item.kind (V q)) (at_plies V case (suc k) rest) at e) [
    | inl f ↦ (let same : k ≡ k + 0 = omega arith in (0, q, refl, subst (λ m. FoundIn what case m q.item.kind (V q) at) same (ply-found case k q.item.kind (V q) at f)))
    | inr f ↦ (let later = plies-found V case (suc k) rest at f in
        let same : suc k + later.0 ≡ k + suc later.0 = omega arith in
        (suc later.0, later.1, later.2, subst (λ m. FoundIn what case m later.1.item.kind (V later.1) at) same later.3))
  ]

  pub cases-found : (V : CaseData → Placed → FaceSide → Side → Verdict) (plies : List Placed) (number : ℕ) (cases : List CaseData) (at : Place) → at_cases V plies number cases ≡ found what at
      → (k : ℕ) × (c : CaseData) × (slice_get cases k ≡ Some c) × (at_plies (V c) (number + k) 0 plies ≡ found what at)
  unfolding at_cases
  cases-found V plies number [] at e = absurd (unnamed what named at e)
  cases-found V plies number (d ∷ rest) at e = elim (one-found what named (at_plies (V d) number 0 plies) (at_cases V plies (suc number) rest) at e) [
    | inl f ↦ (let same : number ≡ number + 0 = omega arith in (0, d, refl, subst (λ m. at_plies (V d) m 0 plies ≡ found what at) same f))
    | inr f ↦ (let later = cases-found V plies (suc number) rest at f in
        let same : suc number + later.0 ≡ number + suc later.0 = omega arith in
        (suc later.0, later.1, later.2, subst (λ m. at_plies (V later.1) m 0 plies ≡ found what at) same later.3))
  ]

  pub panels-found : (V : PanelData → Verdict) (number : ℕ) (panels : List PanelData) (at : ℕ) → at_panels V number panels ≡ found what at
      → (k : ℕ) × (p : PanelData) × (slice_get panels k ≡ Some p) × (at ≡ number + k) × (V p ≡ what)
  unfolding at_panels
  panels-found V number [] at e = absurd (unnamed what named at e)
  panels-found V number (q ∷ rest) at e = elim (one-found what named (found (V q) number) (at_panels V (suc number) rest) at e) [
    | inl f ↦ (let both = found-named what (V q) named number at f in let same : number ≡ number + 0 = omega arith in (0, q, refl, sym both.1 ∙ same, both.0))
    | inr f ↦ (let later = panels-found V (suc number) rest at f in
        let same : suc number + later.0 ≡ number + suc later.0 = omega arith in
        (suc later.0, later.1, later.2, later.3 ∙ same, later.4))
  ]
