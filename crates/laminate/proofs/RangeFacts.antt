-- Cases in range and out of range: the first that is not, and none that is.
use Rattle.std.proofs.Common.{◌≡◌, inl, inr, ℕ, zero, suc, ◌+◌, ◌≤◌, ◌<◌, List, [], ◌∷◌, length, get_or, Option, Some, None, refl, sym, ap, subst, ◌∙◌, All, slice_get, arith}
use Rattle.std.specs.Prelude.{ℤ, IfNone, IfSome, IsSomeAnd}
use Rattle.std.proofs.lemmas.List.Elements.{All-head, All-tail}
use Rattle.std.proofs.lemmas.Bool.{cases_lt}
use Rattle.std.proofs.lemmas.Option.{same_Some, slice_get-get_or, slice_get_read}
use Rattle.lam_stock.specs.declared.item.Item.{Item}
use Rattle.lam_stock.specs.declared.item.ItemNo.{ItemNo}
use Rattle.lam_job.specs.JobData.{CaseData, JobData}
use Rattle.lam_job.specs.Design.{InRangeForAll}
use Rattle.lam_job.specs.LoadOf.{load_of}
use Rattle.lam_job.specs.LoadRange.{WallInRange}
use Rattle.lam_job.specs.Schedule.{wall_of}
use Rattle.lam_job.specs.Wall.{wall_thickness}
use Rattle.lam_stock.specs.Scale.{scale_of}
use Rattle.lam_judge.specs.Judgements.{IsFirstOut}
use Rattle.laminate.specs.inside.Ranges.{IsFirstBeyond, IsWithin}

none_fails : {A : Type 0} (P : A → Type 0) (xs : List A) (k : ℕ) → All P xs → IsSomeAnd (slice_get xs k) (λ x. ¬ (P x)) → ⊥
none_fails P [] k all fails = absurd fails
none_fails P (x ∷ xs) zero all fails = fails (All-head P x xs all)
none_fails P (x ∷ xs) (suc k) all fails = none_fails P xs k (All-tail P x xs all) fails

pub never_out : (stock : List Item) (job : JobData) (listed : List ItemNo) (case : ℕ)
    → InRangeForAll stock job listed → IsFirstOut stock job listed case → ⊥
never_out stock job listed case all first =
    none_fails (λ (c : CaseData). WallInRange stock (wall_of stock job listed) (load_of c.kind)) job.cases case all first.out

-- ---- case by case

module _ {A : Type 0} (P : A → Type 0) (xs : List A) where
  -- each before a number holds
  abbrev pub HoldsBelow : ℕ → Type 0
  HoldsBelow k = (j : ℕ) (x : A) → j < k → slice_get xs j ≡ Some x → P x

  -- and the one of the number too
  pub one_more : (k : ℕ) (d : A) → d ≡ get_or xs k d → k < length xs → HoldsBelow k → P d → HoldsBelow (k + 1)
  one_more k d is within below here j x less at =
      elim (cases_lt j k) [
        | inl before ↦ below j x before at
        | inr last ↦ (let e : j ≡ k = omega (arith, less, last) in
            subst P (same_Some d x (sym (slice_get_read xs (length xs) k d refl within is) ∙ ap (slice_get xs) (sym e) ∙ at)) here)
      ]

  -- the one of the number fails
  pub fails_here : (k : ℕ) (d : A) → d ≡ get_or xs k d → k < length xs → ¬ (P d) → IsSomeAnd (slice_get xs k) (λ x. ¬ (P x))
  fails_here k d is within not =
      subst (λ (o : Option A). IsSomeAnd o (λ x. ¬ (P x))) (sym (slice_get_read xs (length xs) k d refl within is)) not

  none_fails_at : (k : ℕ) (o : Option A) → slice_get xs k ≡ o → ((x : A) → slice_get xs k ≡ Some x → P x) → ¬ (IsSomeAnd o (λ x. ¬ (P x)))
  none_fails_at k None e holds fails = absurd fails
  none_fails_at k (Some x) e holds fails = fails (holds x e)

  -- and none before it
  pub none_fails_below : (k : ℕ) → HoldsBelow k → (j : ℕ) → j < k → ¬ (IsSomeAnd (slice_get xs j) (λ x. ¬ (P x)))
  none_fails_below k below j less = none_fails_at j (slice_get xs j) refl (λ x at. below j x less at)

  pub all_hold : (k : ℕ) → length xs ≤ k → HoldsBelow k → All P xs
  all_hold k past below j d within = below j (get_or xs j d) (omega (arith, past, within)) (slice_get-get_or xs j d within)

-- ---- the wall of a schedule, by its floor and its thickness

-- what the cases are asked of is what the schedule's wall is
pub record IsAsked (stock : List Item) (job : JobData) (listed : List ItemNo) (floor h : ℤ) (cases : List CaseData) : Type 0 where
  pub floor_is : floor ≡ (scale_of stock).floor
  pub thickness_is : h ≡ wall_thickness (wall_of stock job listed)
  pub cases_are : cases ≡ job.cases

-- so a fact of the cases is one of the schedule
as_asked : (stock : List Item) (job : JobData) (listed : List ItemNo) (floor h : ℤ) (cases : List CaseData) (So : ℤ → ℤ → List CaseData → Type 0)
    → IsAsked stock job listed floor h cases → So floor h cases
    → So (scale_of stock).floor (wall_thickness (wall_of stock job listed)) job.cases
as_asked stock job listed floor h cases So a so =
    subst (λ (f : ℤ). So f (wall_thickness (wall_of stock job listed)) job.cases) a.floor_is
    (subst (λ (t : ℤ). So floor t job.cases) a.thickness_is (subst (λ (cs : List CaseData). So floor h cs) a.cases_are so))

pub all_asked : (stock : List Item) (job : JobData) (listed : List ItemNo) (floor h : ℤ) (cases : List CaseData) (found : Option ℕ)
    → IsAsked stock job listed floor h cases → IfNone found (All (IsWithin floor h) cases) → IfNone found (InRangeForAll stock job listed)
all_asked stock job listed floor h cases None a all = as_asked stock job listed floor h cases (λ f t cs. All (IsWithin f t) cs) a all
all_asked stock job listed floor h cases (Some k) a all = tt

as_first : (stock : List Item) (job : JobData) (listed : List ItemNo) (k : ℕ)
    → IsFirstBeyond (scale_of stock).floor (wall_thickness (wall_of stock job listed)) job.cases k → IsFirstOut stock job listed k
as_first stock job listed k first = record { out = first.out; first = first.first }

pub first_asked : (stock : List Item) (job : JobData) (listed : List ItemNo) (floor h : ℤ) (cases : List CaseData) (found : Option ℕ)
    → IsAsked stock job listed floor h cases → IfSome found (IsFirstBeyond floor h cases) → IfSome found (IsFirstOut stock job listed)
first_asked stock job listed floor h cases None a first = tt
first_asked stock job listed floor h cases (Some k) a first =
    as_first stock job listed k (as_asked stock job listed floor h cases (λ f t cs. IsFirstBeyond f t cs k) a first)
