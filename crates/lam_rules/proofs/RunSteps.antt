-- The runs of a list that grows at its end.
use Rattle.std.proofs.Common.{◌≡◌, refl, sym, ◌∙◌, ap, subst, ℕ, zero, suc, ◌+◌, ◌≤◌, ◌<◌, ◌↔◌, ◌⊎◌, ◌==◌, List, [], ◌∷◌, ◌++◌, reverse, length, take, drop, replicate, slice_get, Option, Some, None, Bool, true, false, inl, inr, if◌then◌else◌, max, arith}
use Rattle.std.specs.Bool.{Decides}
use Rattle.std.proofs.lemmas.Bool.{cases_lt}
use Rattle.std.proofs.lemmas.Bool.Decides.{Decides-eqb}
use Rattle.std.proofs.lemmas.Option.{same_Some}
use Rattle.std.proofs.lemmas.List.{append_assoc, drop_at, length-drop, length-replicate, length-take, reverse-append, reverse-reverse, replicate_more, take-append-drop, take-append-le, drop-append-le, take_at}
use Rattle.lam_stock.specs.declared.item.ItemNo.{ItemNo}
use Rattle.lam_job.specs.Rules.{HasRun, last_ply}
use Rattle.lam_rules.specs.inside.RunsOf.{EndsInRun, run_with}

abbrev item_no : ℕ → ItemNo
item_no k = record { 0 = k }

-- ---- a run within a list, from either end

reverse-replicate : (n : ℕ) (x : ItemNo) → reverse (replicate n x) ≡ replicate n x
reverse-replicate zero x = refl
reverse-replicate (suc n) x =
    reverse-append (x ∷ []) (replicate n x) ∙ ap (λ l. l ++ x ∷ []) (reverse-replicate n x) ∙ replicate_more n x ∙ (let e : n + 1 ≡ suc n = omega arith in ap (λ k. replicate k x) e)

-- a run stands between what is before it and what is behind it
between : (n : ℕ) (item : ItemNo) (before behind : List ItemNo) → HasRun n (before ++ (replicate n item ++ behind))
between n item before behind = (
  item,
  length before,
  ap (take n) (drop_at before (replicate n item ++ behind) (length before) refl) ∙ take_at (replicate n item) behind n (length-replicate n item),
)

split : (n : ℕ) (plies : List ItemNo) (run : HasRun n plies) → plies ≡ take run.1 plies ++ (replicate n run.0 ++ drop n (drop run.1 plies))
split n plies run =
    sym (take-append-drop run.1 plies)
    ∙ ap (λ l. take run.1 plies ++ l) (sym (take-append-drop n (drop run.1 plies)) ∙ ap (λ l. l ++ drop n (drop run.1 plies)) run.2)

pub run_reversed : (n : ℕ) (plies : List ItemNo) → HasRun n plies → HasRun n (reverse plies)
run_reversed n plies run =
    let a = take run.1 plies in
    let r = replicate n run.0 in
    let b = drop n (drop run.1 plies) in
    let turned : reverse plies ≡ reverse b ++ (r ++ reverse a)
    = ap reverse (split n plies run) ∙ reverse-append a (r ++ b)
    ∙ ap (λ l. l ++ reverse a) (reverse-append r b ∙ ap (λ l. reverse b ++ l) (reverse-replicate n run.0))
    ∙ append_assoc (reverse b) r (reverse a) in
    subst (HasRun n) (sym turned) (between n run.0 (reverse b) (reverse a))

-- a run is no longer than its list
pub run_within : (n : ℕ) (plies : List ItemNo) → HasRun n plies → n ≤ length plies
run_within n plies run =
    let e : length (take n (drop run.1 plies)) ≡ n = ap length run.2 ∙ length-replicate n run.0 in
    let t = length-take n (drop run.1 plies) in
    let d = length-drop run.1 plies in
    omega (arith, e, t, d)

-- a run of some plies stands in each longer list
pub run_kept : (n : ℕ) (plies more : List ItemNo) → 0 < n → HasRun n plies → HasRun n (plies ++ more)
run_kept n plies more some run =
    let e : length (take n (drop run.1 plies)) ≡ n = ap length run.2 ∙ length-replicate n run.0 in
    let t = length-take n (drop run.1 plies) in
    let d = length-drop run.1 plies in (
      run.0,
      run.1,
      ap (take n) (drop-append-le run.1 plies more (omega (arith, e, t, d)))
          ∙ take-append-le n (drop run.1 plies) more (omega (arith, e, t, d))
          ∙ run.2,
    )

-- ---- one ply more, seen from the end

-- the first n plies are of one item
abbrev Starts : ℕ → List ItemNo → Type 0
Starts n plies = (item : ItemNo) × (take n plies ≡ replicate n item)

-- the first of more plies of one item is that item
head_is : (n : ℕ) (x item : ItemNo) (rest : List ItemNo) → take (suc n) (x ∷ rest) ≡ replicate (suc n) item
    → (x ≡ item) × (take n rest ≡ replicate n item)
head_is n x item rest e = (cc, cc)

-- what a start with one ply more is
start_goes_on : (n : ℕ) (x : ItemNo) (rest : List ItemNo) → slice_get rest 0 ≡ Some x → Starts (suc n) (x ∷ rest) ↔ Starts n rest
start_goes_on zero x rest e = ((λ s. (x, refl)), (λ s. (x, refl)))
start_goes_on (suc n) x [] e = absurd (let none : None ≡ Some x = e in cc)
start_goes_on (suc n) x (y ∷ rest) e =
    let same : y ≡ x = cc in (
      (λ s. (s.0, (head_is (suc n) x s.0 (y ∷ rest) s.1).1)),
      (λ s. (x, ap (λ l. x ∷ l) (s.1 ∙ ap (λ (item : ItemNo). replicate (suc n) item) (sym (head_is n y s.0 rest s.1).0 ∙ same)))),
    )

start_is_new : (n : ℕ) (x : ItemNo) (rest : List ItemNo) → (slice_get rest 0 ≡ Some x → ⊥) → Starts (suc n) (x ∷ rest) → n ≡ 0
start_is_new zero x rest other s = refl
start_is_new (suc n) x [] other s = absurd (let e : [] ≡ replicate (suc n) s.0 = (head_is (suc n) x s.0 [] s.1).1 in cc)
start_is_new (suc n) x (y ∷ rest) other s =
    let h = head_is (suc n) x s.0 (y ∷ rest) s.1 in
    let g = head_is n y s.0 rest h.1 in
    absurd (other (ap Some (g.0 ∙ sym h.0)))

-- ---- the step of a run at the end

module _ (plies : List ItemNo) (x : ItemNo) where
  turned : reverse (plies ++ x ∷ []) ≡ x ∷ reverse plies
  turned = reverse-append plies (x ∷ [])

  pub last_more : last_ply (plies ++ x ∷ []) ≡ Some x
  last_more = ap (λ l. slice_get l 0) turned

  along : (n : ℕ) → EndsInRun n (plies ++ x ∷ []) ↔ Starts n (x ∷ reverse plies)
  along n = (subst (Starts n) turned, subst (Starts n) (sym turned))

  going_on : (at_end : ℕ) → last_ply plies ≡ Some x → ((n : ℕ) → EndsInRun n plies ↔ (n ≤ at_end))
      → (n : ℕ) → EndsInRun n (plies ++ x ∷ []) ↔ (n ≤ at_end + 1)
  going_on at_end same before zero = ((λ s. omega arith), (λ h. (x, refl)))
  going_on at_end same before (suc n) =
      let step = start_goes_on n x (reverse plies) same in (
        (λ s. let h = (before n).0 (step.0 ((along (suc n)).0 s)) in omega (arith, h)),
        (λ h. (along (suc n)).1 (step.1 ((before n).1 (omega (arith, h))))),
      )

  anew : (last_ply plies ≡ Some x → ⊥) → (n : ℕ) → EndsInRun n (plies ++ x ∷ []) ↔ (n ≤ 1)
  anew other zero = ((λ s. omega arith), (λ h. (x, refl)))
  anew other (suc n) = (
    (λ s. let e = start_is_new n x (reverse plies) other ((along (suc n)).0 s) in omega (arith, e)),
    (λ h. let e : n ≡ 0 = omega (arith, h) in
        subst (λ k. EndsInRun (suc k) (plies ++ x ∷ [])) (sym e) ((along 1).1 (x, refl))),
  )

  pub at_end_more : (last : Option ItemNo) (at_end : ℕ) → last ≡ last_ply plies → ((n : ℕ) → EndsInRun n plies ↔ (n ≤ at_end))
      → (n : ℕ) → EndsInRun n (plies ++ x ∷ []) ↔ (n ≤ run_with last at_end x)
  at_end_more None at_end e before = anew (λ same. let none : None ≡ Some x = e ∙ same in cc)
  at_end_more (Some y) at_end e before = by_test (y.0 == x.0) (Decides-eqb y.0 x.0) where
    by_test : (b : Bool) → Decides b (y.0 ≡ x.0) → (n : ℕ) → EndsInRun n (plies ++ x ∷ []) ↔ (n ≤ (if b then at_end + 1 else 1))
    by_test true d = going_on at_end (sym e ∙ ap (λ (k : ℕ). Some (item_no k)) (d.0 refl)) before
    by_test false d = anew (λ same. let one : y ≡ x = same_Some y x (e ∙ same) in
        let not : false ≡ true = d.1 (ap (λ (i : ItemNo). i.0) one) in cc)

  -- a run of the longer list stands at its end or in the shorter one
  run_more : (n : ℕ) → HasRun n (x ∷ reverse plies) → EndsInRun n (plies ++ x ∷ []) ⊎ HasRun n plies
  run_more n run = go run.1 run.2 where
    go : (from : ℕ) → take n (drop from (x ∷ reverse plies)) ≡ replicate n run.0 → EndsInRun n (plies ++ x ∷ []) ⊎ HasRun n plies
    go zero e = inl ((along n).1 (run.0, e))
    go (suc from) e = inr (subst (HasRun n) (reverse-reverse plies) (run_reversed n (reverse plies) (run.0, from, e)))

  pub longest_more : (at_end longest most : ℕ) → ((n : ℕ) → EndsInRun n (plies ++ x ∷ []) ↔ (n ≤ at_end))
      → ((n : ℕ) → HasRun n plies ↔ (n ≤ longest)) → ((n : ℕ) → (n ≤ most) ↔ ((n ≤ at_end) ⊎ (n ≤ longest)))
      → (n : ℕ) → HasRun n (plies ++ x ∷ []) ↔ (n ≤ most)
  longest_more at_end longest most ends runs greater n = (
    (λ run. (greater n).1 (elim (run_more n (subst (HasRun n) turned (run_reversed n (plies ++ x ∷ []) run)))
        [ inl e ↦ inl ((ends n).0 e) | inr r ↦ inr ((runs n).0 r) ])),
    (λ h. elim ((greater n).0 h) [ inl e ↦ from_end ((ends n).1 e) | inr r ↦ from_before ((runs n).1 r) ]),
  ) where
    from_end : EndsInRun n (plies ++ x ∷ []) → HasRun n (plies ++ x ∷ [])
    from_end e = subst (HasRun n) (reverse-reverse (plies ++ x ∷ [])) (run_reversed n (reverse (plies ++ x ∷ [])) (e.0, 0, e.1))

    from_before : HasRun n plies → HasRun n (plies ++ x ∷ [])
    from_before run = elim (cases_lt 0 n) [
      | inl some ↦ run_kept n plies (x ∷ []) some run
      | inr none ↦ (let e : n ≡ 0 = omega (arith, none) in subst (λ k. HasRun k (plies ++ x ∷ [])) (sym e) (x, 0, refl))
    ]

-- ---- the empty list

pub ends_of_none : (n : ℕ) → EndsInRun n [] ↔ (n ≤ 0)
ends_of_none n = (
  (λ e. run_within n [] (e.0, 0, e.1)),
  (λ h. let e : 0 ≡ n = omega (arith, h) in subst (λ k. EndsInRun k []) e (item_no 0, refl)),
)

pub runs_of_none : (n : ℕ) → HasRun n [] ↔ (n ≤ 0)
runs_of_none n = (
  (λ run. run_within n [] run),
  (λ h. let e : 0 ≡ n = omega (arith, h) in subst (λ k. HasRun k []) e (item_no 0, 0, refl)),
)

-- ---- a limit on runs

pub runs_keep : (most longest : ℕ) (plies : List ItemNo) → ((n : ℕ) → HasRun n plies ↔ (n ≤ longest)) → (longest ≤ most) ↔ (¬ HasRun (suc most) plies)
runs_keep most longest plies runs = (
  (λ h run. let l = (runs (suc most)).0 run in omega (arith, h, l)),
  (λ none. elim (cases_lt most longest) [ inl less ↦ absurd (none ((runs (suc most)).1 less)) | inr h ↦ h ]),
)

-- what is at most the greater of two numbers is at most one of them
pub at_most_one : (longest at_end most : ℕ) → most ≡ max longest at_end → (n : ℕ) → (n ≤ most) ↔ ((n ≤ at_end) ⊎ (n ≤ longest))
at_most_one longest at_end most e n = (
  (λ h. elim (cases_lt longest at_end) [ inl less ↦ inl (omega (arith, e, h, less)) | inr more ↦ inr (omega (arith, e, h, more)) ]),
  (λ o. elim o [ inl a ↦ omega (arith, e, a) | inr b ↦ omega (arith, e, b) ]),
)
