-- The first case out of range, by the test.
use Rattle.std.proofs.Common.{◌≡◌, refl, sym, ◌∙◌, ap, subst, ℕ, zero, suc, ◌+◌, ◌≤◌, ◌<◌, inl, inr, Bool, true, false, ℤ, List, [], ◌∷◌, length, slice_get, All, get_or, Some, None, if◌then◌else◌, arith}
use Rattle.std.proofs.lemmas.Bool.{cases_lt}
use Rattle.std.proofs.lemmas.List.Elements.{All-cons, All-head, All-tail}
use Rattle.std.proofs.lemmas.Option.{same_Some, slice_get-get_or, slice_get_read}
use Rattle.lam_job.specs.JobData.{CaseData}
use Rattle.lam_job.specs.LoadOf.{load_of}
use Rattle.lam_job.specs.LoadRange.{LoadInRange}
use Rattle.lam_judge.specs.inside.Kept.{first_out_from, load_in_range}
use Rattle.lam_judge.proofs.Kept.{range-decides}

module _ (floor h : ℤ) where
  abbrev pub InRange : CaseData → Type 0
  InRange c = LoadInRange floor h (load_of c.kind)

  in-range : (number : ℕ) (c : CaseData) (rest : List CaseData) → InRange c → first_out_from floor h number (c ∷ rest) ≡ first_out_from floor h (suc number) rest
  unfolding first_out_from
  in-range number c rest r = ap (λ b. if b then first_out_from floor h (suc number) rest else Some number) ((range-decides floor h (load_of c.kind)).1 r)

  is-out : (b : Bool) → (b ≡ true → ⊥) → b ≡ false
  is-out true h = absurd (h refl)
  is-out false h = refl

  out-of-range : (number : ℕ) (c : CaseData) (rest : List CaseData) → ¬ InRange c → first_out_from floor h number (c ∷ rest) ≡ Some number
  unfolding first_out_from
  out-of-range number c rest r =
      ap (λ b. if b then first_out_from floor h (suc number) rest else Some number)
      (is-out (load_in_range floor h (load_of c.kind)) (λ t. r ((range-decides floor h (load_of c.kind)).0 t)))

  ended : (number : ℕ) → first_out_from floor h number [] ≡ None
  unfolding first_out_from
  ended number = refl

  -- all in range
  pub none-out : (number : ℕ) (cases : List CaseData) → All InRange cases → first_out_from floor h number cases ≡ None
  none-out number [] all = ended number
  none-out number (c ∷ rest) all = in-range number c rest (All-head InRange c rest all) ∙ none-out (suc number) rest (All-tail InRange c rest all)

  -- the first that is out of range
  pub some-out : (number : ℕ) (cases : List CaseData) (k : ℕ) (c : CaseData) → slice_get cases k ≡ Some c → ¬ InRange c
      → ((other : ℕ) (o : CaseData) → other < k → slice_get cases other ≡ Some o → InRange o) → first_out_from floor h number cases ≡ Some (number + k)
  some-out number [] k c is out before = absurd (let e : None ≡ Some c = is in cc)
  some-out number (d ∷ rest) zero c is out before =
      let same : d ≡ c = same_Some d c is in
      let e : number ≡ number + 0 = omega arith in
      out-of-range number d rest (λ r. out (subst InRange same r)) ∙ ap Some e
  some-out number (d ∷ rest) (suc k) c is out before =
      let e : suc number + k ≡ number + suc k = omega arith in
      in-range number d rest (before 0 d (omega arith) refl)
      ∙ some-out (suc number) rest k c is out (λ other o less at. before (suc other) o (omega (arith, less)) at)
      ∙ ap Some e

-- ---- case by case

module _ (floor h : ℤ) (cases : List CaseData) where
  abbrev BelowAreIn : ℕ → Type 0
  BelowAreIn k = (j : ℕ) (c : CaseData) → j < k → slice_get cases j ≡ Some c → InRange floor h c

  -- the case of a number is in range too
  pub one-more-in : (k : ℕ) (d : CaseData) → d ≡ get_or cases k d → k < length cases → BelowAreIn k → InRange floor h d → BelowAreIn (k + 1)
  one-more-in k d is within below here j c less at =
      elim (cases_lt j k) [
        | inl before ↦ below j c before at
        | inr last ↦ (let e : j ≡ k = omega (arith, less, last) in
            subst (InRange floor h) (same_Some d c (sym (slice_get_read cases (length cases) k d refl within is) ∙ ap (slice_get cases) (sym e) ∙ at)) here)
      ]

  -- it is the first that is not
  pub first-is-out : (k : ℕ) (d : CaseData) → d ≡ get_or cases k d → k < length cases → BelowAreIn k → ¬ InRange floor h d → Some k ≡ first_out_from floor h 0 cases
  first-is-out k d is within below out =
      let e : 0 + k ≡ k = omega arith in
      sym (some-out floor h 0 cases k d (slice_get_read cases (length cases) k d refl within is) out (λ j c less at. below j c less at) ∙ ap Some e)

  pub each-in : BelowAreIn (length cases) → All (InRange floor h) cases
  each-in below k d within = below k (get_or cases k d) within (slice_get-get_or cases k d within)

  -- none is
  pub none-is-out : (k : ℕ) → length cases ≤ k → BelowAreIn k → None ≡ first_out_from floor h 0 cases
  none-is-out k all below = sym (none-out floor h 0 cases (each-in (λ j c less at. below j c (omega (arith, all, less)) at)))

  -- where none is, all are in range
  tail-in : (number : ℕ) (c : CaseData) (rest : List CaseData) → (first_out_from floor h (suc number) rest ≡ None → All (InRange floor h) rest) → first_out_from floor h number (c ∷ rest) ≡ None
      → (b : Bool) → load_in_range floor h (load_of c.kind) ≡ b → All (InRange floor h) (c ∷ rest)
  tail-in number c rest later e true t =
      let here = (range-decides floor h (load_of c.kind)).0 t in
      All-cons (InRange floor h) c rest here (later (sym (in-range floor h number c rest here) ∙ e))
  tail-in number c rest later e false t =
      let out : ¬ InRange floor h c = λ r. let y = (range-decides floor h (load_of c.kind)).1 r in let n : false ≡ true = sym t ∙ y in cc in
      let n : None ≡ Some number = sym e ∙ out-of-range floor h number c rest out in
      absurd (cc)

  pub in-where-none : (number : ℕ) (some : List CaseData) → first_out_from floor h number some ≡ None → All (InRange floor h) some
  in-where-none number [] e = λ k d within. absurd (omega (arith, within))
  in-where-none number (c ∷ rest) e = tail-in number c rest (in-where-none (suc number) rest) e (load_in_range floor h (load_of c.kind)) refl

-- ---- what the first case out of range is

pub record IsFirstOutAt (floor h : ℤ) (cases : List CaseData) (k : ℕ) (c : CaseData) : Type 0 where
  pub at : slice_get cases k ≡ Some c
  pub out : ¬ InRange floor h c
  pub before : (j : ℕ) (d : CaseData) → j < k → slice_get cases j ≡ Some d → InRange floor h d

module _ (floor h : ℤ) where
  abbrev FirstOf : ℕ → List CaseData → ℕ → Type 0
  FirstOf number cases m = (k : ℕ) × (c : CaseData) × (m ≡ number + k) × IsFirstOutAt floor h cases k c

  later-out : (number : ℕ) (d : CaseData) (rest : List CaseData) (m : ℕ) → ((first_out_from floor h (suc number) rest ≡ Some m) → FirstOf (suc number) rest m) → first_out_from floor h number (d ∷ rest) ≡ Some m
      → (b : Bool) → load_in_range floor h (load_of d.kind) ≡ b → FirstOf number (d ∷ rest) m
  later-out number d rest m later e true t =
      let here = (range-decides floor h (load_of d.kind)).0 t in
      let f = later (sym (in-range floor h number d rest here) ∙ e) in
      let is : m ≡ number + suc f.0 = omega (arith, f.2) in (
        suc f.0,
        f.1,
        is,
        record { at = f.3.at; out = f.3.out; before = in-front d rest here f.0 f.3.before },
      ) where
        in-front : (d : CaseData) (rest : List CaseData) → InRange floor h d → (k : ℕ) → ((j : ℕ) (c : CaseData) → j < k → slice_get rest j ≡ Some c → InRange floor h c)
            → (j : ℕ) (c : CaseData) → j < suc k → slice_get (d ∷ rest) j ≡ Some c → InRange floor h c
        in-front d rest here k before zero c less at = subst (InRange floor h) (same_Some d c at) here
        in-front d rest here k before (suc j) c less at = before j c (omega (arith, less)) at
  later-out number d rest m later e false t =
      let out : ¬ InRange floor h d = λ r. let y = (range-decides floor h (load_of d.kind)).1 r in let n : false ≡ true = sym t ∙ y in cc in
      let same : number ≡ m = same_Some number m (sym (out-of-range floor h number d rest out) ∙ e) in
      let is : m ≡ number + 0 = omega (arith, same) in
      (0, d, is, record { at = refl; out = out; before = λ j c less. absurd (omega (arith, less)) })

  pub out-means : (number : ℕ) (cases : List CaseData) (m : ℕ) → first_out_from floor h number cases ≡ Some m → FirstOf number cases m
  out-means number [] m e = absurd (let n : None ≡ Some m = sym (ended floor h number) ∙ e in cc)
  out-means number (d ∷ rest) m e = later-out number d rest m (out-means (suc number) rest m) e (load_in_range floor h (load_of d.kind)) refl
