-- The tests of rules, of ranges and of fitness decide what they are tests of.
use Rattle.std.proofs.Common.{◌≡◌, refl, sym, ◌∙◌, ap, subst, ℕ, zero, suc, ◌≤◌, ◌⊎◌, inl, inr, ◌==◌, ℤ, pos, ◌*ℤ◌, ◌≤ℤ◌, int_le, Bool, true, false, not, ◌&&◌, ◌||◌, nat_lt, nat_le, IsTrue, List, [], ◌∷◌, length, reverse, take, drop, replicate, slice_get, All, Option, Some, None, IfSome, IsSomeAnd, rules, arith}
use Rattle.std.specs.Bool.{Decides}
use Rattle.std.specs.Cmp.Lexicographic.{pointwise_decides}
use Rattle.std.specs.List.{list_all}
use Rattle.std.proofs.lemmas.Bool.Decides.{Decides-eqb, Decides-int_eq, Decides-like, Decides-not, Decides-and, Decides-or, Decides-ltb, Decides-by_and, nat_tests}
use Rattle.lam_stock.specs.declared.item.Item.{Item}
use Rattle.lam_stock.specs.declared.item.ItemNo.{ItemNo}
use Rattle.lam_stock.specs.declared.item.Kind.{Kind}
use Rattle.lam_stock.specs.declared.item.Kind.TheVariants.{Ply, Pair}
use Rattle.lam_stock.specs.Likeness.{is_ply}
use Rattle.lam_job.specs.declared.load.Load.{Load}
use Rattle.lam_job.specs.declared.rules.ItemSet.{ItemSet}
use Rattle.lam_job.specs.JobData.{JobData}
use Rattle.lam_job.specs.LoadRange.{SizeWithin, LoadInRange}
use Rattle.lam_job.specs.Rules.{Rule, InnerRule, OuterRule, SymmetricRule, BalancedRule, RunRule, FewestRule, ThicknessRule, CountsRule, FitnessRule, IsIn, IsSlanted, IsBalanced, HasRun, KeepsRule, LinerCarries, Fit}
use Rattle.lam_job.specs.Schedule.{items_of}
use Rattle.lam_judge.specs.inside.Kept.{if_asked, is_in, same_plies, is_slanted, slanted_at, is_balanced, has_run, is_fit, is_kept, size_within, load_in_range}

-- ---- words

module _ {P : Type 0} where
  implied : (a b : Bool) → Decides b P → Decides (not a || b) (IsTrue a → P)
  implied true b d = Decides-like b (λ p t. p) (λ f. f refl) d
  implied false b d = ((λ e t. absurd (let n : false ≡ true = t in cc)), (λ f. refl))

  implied_by : {Q : Type 0} (a b : Bool) → Decides a Q → Decides b P → Decides (not a || b) (Q → P)
  implied_by a b e d = Decides-like (not a || b) (λ f q. f (e.1 q)) (λ f t. f (e.0 t)) (implied a b d)

leb-decides : (a b : ℕ) → Decides (nat_le a b) (a ≤ b)
leb-decides a b = ((λ e. grind (arith, nat_tests)), (λ e. grind (arith, nat_tests)))

le-decides : (a b : ℤ) → Decides (int_le a b) (a ≤ℤ b)
le-decides a b = ((λ h. record { le = search rules }), (λ h. search rules))

asked-decides : {A : Type 0} (test : A → Bool) (P : A → Type 0) → ((a : A) → Decides (test a) (P a)) → (o : Option A) → Decides (if_asked test o) (IfSome o P)
asked-decides test P each None = ((λ e. tt), (λ t. refl))
asked-decides test P each (Some a) = each a

all-decides : {X : Type 0} (test : X → Bool) (P : X → Type 0) → ((x : X) → Decides (test x) (P x)) → (xs : List X) → Decides (list_all test xs) (All P xs)
all-decides test P each xs = Decides-by_and test P (list_all test) each refl (λ _ _. refl) xs

some-decides : {A : Type 0} (P : A → Type 0) (test : A → Bool) → ((a : A) → Decides (test a) (P a)) → (of : Option A → Bool) → of None ≡ false → ((a : A) → of (Some a) ≡ test a)
    → (o : Option A) → Decides (of o) (IsSomeAnd o P)
some-decides P test each of none some None = ((λ e. let n : false ≡ true = sym none ∙ e in cc), (λ h. absurd h))
some-decides P test each of none some (Some a) = subst (λ b. Decides b (P a)) (sym (some a)) (each a)

-- ---- plies

same-item : (a b : ItemNo) → Decides (a.0 == b.0) (a ≡ b)
same-item a b = Decides-like (a.0 == b.0) (λ e. ap (λ (k : ℕ). let i : ItemNo = record { 0 = k } in i) e) (λ e. ap (λ (i : ItemNo). i.0) e) (Decides-eqb a.0 b.0)

same-decides : (a b : List ItemNo) → Decides (same_plies a b) (a ≡ b)
same-decides a b = pointwise_decides same-item a b

in-decides : (set : ItemSet) (ply : Option ItemNo) → Decides (is_in set ply) (IsSomeAnd ply (IsIn set))
in-decides set None = ((λ e. let n : false ≡ true = e in cc), (λ h. absurd h))
in-decides set (Some ply) = Decides-not _ (Decides-eqb _ 0)

ply-decides : (k : Kind) → Decides (is_ply k) (k ≡ Ply)
ply-decides Ply = ((λ e. refl), (λ e. refl))
ply-decides Pair = ((λ e. let n : false ≡ true = e in cc), (λ e. let n : Pair ≡ Ply = e in cc))

slanted-decides : (i : Item) → Decides (is_slanted i) (IsSlanted i)
slanted-decides i = Decides-and _ _ (ply-decides i.kind) (Decides-not _ (Decides-or _ _ (Decides-int_eq i.dir.p (pos 0)) (Decides-int_eq i.dir.q (pos 0))))

slanted-at-decides : (o : Option Item) → Decides (slanted_at o) (IsSomeAnd o IsSlanted)
slanted-at-decides None = ((λ e. let n : false ≡ true = e in cc), (λ h. absurd h))
slanted-at-decides (Some i) = slanted-decides i

balanced-decides : (stock : List Item) (listed : List ItemNo) (ply : ItemNo) → Decides (is_balanced stock listed ply) (IsBalanced stock listed ply)
balanced-decides stock listed ply = Decides-eqb _ _

-- ---- runs

run-decides : (n : ℕ) (plies : List ItemNo) → Decides (has_run (suc n) plies) (HasRun (suc n) plies)
run-decides n [] = ((λ e. let f : false ≡ true = e in cc), (λ h. none h.0 h.1 h.2)) where
  none : (item : ItemNo) (from : ℕ) → take (suc n) (drop from []) ≡ replicate (suc n) item → false ≡ true
  none item zero e = cc
  none item (suc from) e = cc
run-decides n (x ∷ rest) =
    Decides-like _ to back (Decides-or _ _ (same-decides (take (suc n) (x ∷ rest)) (replicate (suc n) x)) (run-decides n rest)) where
      to : (take (suc n) (x ∷ rest) ≡ replicate (suc n) x) ⊎ HasRun (suc n) rest → HasRun (suc n) (x ∷ rest)
      to (inl e) = (x, 0, e)
      to (inr h) = (h.0, suc h.1, h.2)

      at : (item : ItemNo) (from : ℕ) → take (suc n) (drop from (x ∷ rest)) ≡ replicate (suc n) item → (take (suc n) (x ∷ rest) ≡ replicate (suc n) x) ⊎ HasRun (suc n) rest
      at item zero e =
          let first : x ≡ item = cc in
          inl (e ∙ ap (λ (i : ItemNo). replicate (suc n) i) (sym first))
      at item (suc from) e = inr (item, from, e)

      back : HasRun (suc n) (x ∷ rest) → (take (suc n) (x ∷ rest) ≡ replicate (suc n) x) ⊎ HasRun (suc n) rest
      back h = at h.0 h.1 h.2

-- ---- fitness, and the rules

module _ (stock : List Item) (job : JobData) (listed : List ItemNo) where
  carries-decides : Decides (nat_lt 0 (length job.liner) && job.liner_in_wall) (LinerCarries job)
  carries-decides = Decides-and _ _ (Decides-ltb 0 (length job.liner)) ((λ e. e), (λ t. t))

  pub fit-decides : Decides (is_fit stock job listed) (Fit stock job listed)
  unfolding is_fit
  fit-decides =
      Decides-like _
      (λ h. record { liner = h.0; symmetric = h.1.0; straight = h.1.1 })
      (λ f. (f.liner, (f.symmetric, f.straight)))
      (Decides-and _ _ (Decides-not _ carries-decides)
      (Decides-and _ _ (same-decides listed (reverse listed))
      (all-decides (λ i. not (is_slanted i)) (λ i. ¬ IsSlanted i) (λ i. Decides-not _ (slanted-decides i)) (items_of stock listed))))

  pub kept-decides : (rule : Rule) → Decides (is_kept rule stock job listed) (KeepsRule rule stock job listed)
  unfolding is_kept
  kept-decides InnerRule = asked-decides _ _ (λ set. in-decides set _) job.rules.inner
  kept-decides OuterRule = asked-decides _ _ (λ set. in-decides set _) job.rules.outer
  kept-decides SymmetricRule = implied job.rules.symmetric _ (same-decides listed (reverse listed))
  kept-decides BalancedRule =
      implied job.rules.balanced _
      (all-decides (λ ply. not (slanted_at (slice_get stock ply.0)) || is_balanced stock listed ply) _
      (λ ply. implied_by _ _ (slanted-at-decides (slice_get stock ply.0)) (balanced-decides stock listed ply)) listed)
  kept-decides RunRule = asked-decides _ _ (λ most. Decides-not _ (run-decides most listed)) job.rules.run
  kept-decides FewestRule = asked-decides _ _ (λ least. leb-decides least _) job.rules.fewest
  kept-decides ThicknessRule = asked-decides _ _ (λ least. le-decides least _) job.rules.thickness
  kept-decides CountsRule = all-decides _ _ (λ count. leb-decides count.1 _) job.rules.counts
  kept-decides FitnessRule = implied_by _ _ (Decides-ltb 0 (length job.panels)) fit-decides

-- ---- the range of loads

size-decides : (bound z : ℤ) → Decides (size_within bound z) (SizeWithin bound z)
size-decides bound z = le-decides _ bound

pub range-decides : (floor h : ℤ) (load : Load) → Decides (load_in_range floor h load) (LoadInRange floor h load)
unfolding load_in_range
range-decides floor h load =
    Decides-like _
    (λ t. record { nx = t.0; ny = t.1.0; nxy = t.1.1.0; mx = t.1.1.1.0; my = t.1.1.1.1.0; mxy = t.1.1.1.1.1 })
    (λ r. (r.nx, (r.ny, (r.nxy, (r.mx, (r.my, r.mxy))))))
    (Decides-and _ _ (size-decides _ load.nx) (Decides-and _ _ (size-decides _ load.ny) (Decides-and _ _ (size-decides _ load.nxy)
    (Decides-and _ _ (size-decides _ (pos 8000 *ℤ load.mx)) (Decides-and _ _ (size-decides _ (pos 8000 *ℤ load.my)) (size-decides _ (pos 8000 *ℤ load.mxy)))))))
