-- What a partial schedule visibly breaks, every completion breaks.
use Rattle.std.proofs.Common.{◌≡◌, sym, ◌∙◌, ap, subst, ℕ, suc, ◌+◌, ◌≤◌, ◌<◌, ℤ, ◌≤ℤ◌, ◌<ℤ◌, inl, inr, List, [], ◌∷◌, ◌++◌, length, Option, Some, None, IfSome, IsSomeAnd, All, Any, cond, ◌==◌, arith}
use Rattle.std.proofs.lemmas.Int.{ints}
use Rattle.std.proofs.lemmas.List.{get_or_append_left, length-append}
use Rattle.std.proofs.lemmas.List.Sums.{sum_by-append, count_by-le-length}
use Rattle.lam_stock.specs.declared.item.Item.{Item}
use Rattle.lam_stock.specs.declared.item.ItemNo.{ItemNo}
use Rattle.lam_job.specs.declared.rules.ItemSet.{ItemSet}
use Rattle.lam_job.specs.JobData.{JobData}
use Rattle.lam_job.specs.Schedule.{items_of}
use Rattle.lam_job.specs.Rules.{Rule, InnerRule, OuterRule, SymmetricRule, BalancedRule, RunRule, FewestRule, ThicknessRule, CountsRule, FitnessRule, KeepsRule, Breaks, IsIn, IsPalindrome, first_ply, times_of, IsSlanted, KeepsInner, KeepsOuter, KeepsRun, KeepsFewest, KeepsCounts, KeepsFitness}
use Rattle.lam_job.specs.Partial.{Partial, Completes, ForEveryCompletion, fixed_plies, open_places, StartsWrong, RunsTooLong, HasTooFew, IsUnfit, VisiblyBreaksRule, VisiblyBreaks}
use Rattle.lam_job.proofs.Listed.{items_of-append}
use Rattle.lam_rules.proofs.Among.{none_among}
use Rattle.lam_rules.proofs.Parts.{InParts, mirror_images, fixed_in_parts, completion_in_parts}
use Rattle.lam_rules.proofs.RunSteps.{run_kept}
use Rattle.lam_rules.proofs.Thickest.{thick_completion}

-- ---- each rule by itself

starts_wrong : (asked : Option ItemSet) (prefix more : List ItemNo) → StartsWrong asked prefix → ¬ KeepsInner asked (prefix ++ more)
starts_wrong None prefix more wrong kept = wrong
starts_wrong (Some set) [] more wrong kept = wrong
starts_wrong (Some set) (x ∷ rest) more wrong kept = wrong kept

ends_wrong : (asked : Option ItemSet) (listed : List ItemNo) → IsPalindrome listed → ¬ KeepsInner asked listed → ¬ KeepsOuter asked listed
ends_wrong asked listed same wrong kept =
    wrong (subst (λ l. IfSome asked (λ set. IsSomeAnd (first_ply l) (IsIn set))) (sym same) kept)

runs_too_long : (asked : Option ℕ) (prefix more : List ItemNo) → RunsTooLong asked prefix → ¬ KeepsRun asked (prefix ++ more)
runs_too_long None prefix more run kept = run
runs_too_long (Some most) prefix more run kept = kept (run_kept (suc most) prefix more (omega arith) run)

has_too_few : (asked : Option ℕ) (n : ℕ) (listed : List ItemNo) → length listed ≡ n → HasTooFew asked n → ¬ KeepsFewest asked listed
has_too_few None n listed long few kept = few
has_too_few (Some least) n listed long few kept = omega (arith, long, few, kept)

stays_too_thin : (asked : Option ℤ) (most thickness : ℤ) → thickness ≤ℤ most → IsSomeAnd asked (λ least. most <ℤ least)
    → ¬ IfSome asked (λ least. least ≤ℤ thickness)
stays_too_thin None most thickness h thin kept = thin
stays_too_thin (Some least) most thickness h thin kept = omega (arith, ints, h, thin, kept)

-- an item stands at most as often in a list as in its first and last plies, and once more at each other place
times_at_most : (item : ItemNo) (prefix images listed : List ItemNo) (places : ℕ) → InParts prefix images listed places
    → times_of item listed ≤ times_of item (prefix ++ images) + places
times_at_most item prefix images listed places i =
    let f = λ (ply : ItemNo). cond (ply.0 == item.0) 1 0 in
    let own : times_of item listed ≡ times_of item prefix + (times_of item i.between + times_of item images)
    = ap (times_of item) i.parts ∙ sum_by-append f prefix (i.between ++ images) ∙ ap (λ n. times_of item prefix + n) (sum_by-append f i.between images) in
    let fixed : times_of item (prefix ++ images) ≡ times_of item prefix + times_of item images = sum_by-append f prefix images in
    let most = count_by-le-length (λ (ply : ItemNo). ply.0 == item.0) i.between in
    let long = i.long in
    omega (arith, own, fixed, most, long)

counts_too_few : (asked : List (ItemNo × ℕ)) (fixed listed : List ItemNo) (places : ℕ)
    → ((item : ItemNo) → times_of item listed ≤ times_of item fixed + places)
    → Any (λ count. times_of count.0 fixed + places < count.1) asked → ¬ KeepsCounts asked listed
counts_too_few asked fixed listed places most few kept =
    let count = few.1 in
    let enough : count.1 ≤ times_of count.0 listed
    = subst (λ (c : ItemNo × ℕ). c.1 ≤ times_of c.0 listed) few.3 (kept few.0 count few.2) in
    let least = most count.0 in
    let less = few.4 in
    omega (arith, enough, least, less)

-- what is among some plies is among more
pub slanted_kept : (items more : List Item) → Any IsSlanted items → Any IsSlanted (items ++ more)
slanted_kept items more some =
    let long = length-append items more in
    let within = some.2 in
    (some.0, some.1, omega (arith, long, within), get_or_append_left items more some.1 some.0 some.2 ∙ some.3, some.4)

is_unfit : (stock : List Item) (job : JobData) (prefix more : List ItemNo) → IsUnfit stock job prefix → ¬ KeepsFitness stock job (prefix ++ more)
is_unfit stock job prefix more unfit kept =
    let fit = kept unfit.0 in
    elim unfit.1 [
      | inl carries ↦ fit.liner carries
      | inr slanted ↦ (let s = slanted_kept (items_of stock prefix) (items_of stock more) slanted in
          let all = subst (All (λ i. ¬ IsSlanted i)) (items_of-append stock prefix more) fit.straight in
          none_among IsSlanted (items_of stock prefix ++ items_of stock more) all s)
    ]

-- ---- all of them

module _ (stock : List Item) (job : JobData) (p : Partial) where
  -- a completion begins with the prefix
  abbrev more_of : (listed : List ItemNo) → Completes stock job p listed → List ItemNo
  more_of listed c = (completion_in_parts stock job p listed c).between ++ mirror_images job.rules.symmetric p

  begins : (listed : List ItemNo) (c : Completes stock job p listed) → p.prefix ++ more_of listed c ≡ listed
  begins listed c = sym (completion_in_parts stock job p listed c).parts

  broken_rule : (rule : Rule) → VisiblyBreaksRule rule stock job p → (listed : List ItemNo) → Completes stock job p listed → ¬ KeepsRule rule stock job listed
  broken_rule InnerRule seen listed c = subst (λ l. ¬ KeepsInner job.rules.inner l) (begins listed c) (starts_wrong job.rules.inner p.prefix (more_of listed c) seen)
  broken_rule OuterRule seen listed c =
      ends_wrong job.rules.outer listed (c.symmetric seen.0)
      (subst (λ l. ¬ KeepsInner job.rules.outer l) (begins listed c) (starts_wrong job.rules.outer p.prefix (more_of listed c) seen.1))
  broken_rule SymmetricRule seen listed c = absurd seen
  broken_rule BalancedRule seen listed c = absurd seen
  broken_rule RunRule seen listed c = subst (λ l. ¬ KeepsRun job.rules.run l) (begins listed c) (runs_too_long job.rules.run p.prefix (more_of listed c) seen)
  broken_rule FewestRule seen listed c = has_too_few job.rules.fewest p.n listed c.long seen
  broken_rule ThicknessRule seen listed c = stays_too_thin job.rules.thickness _ _ (thick_completion stock job p listed c) seen
  broken_rule CountsRule seen listed c =
      let images = mirror_images job.rules.symmetric p in
      counts_too_few job.rules.counts (fixed_plies job p) listed (open_places job p)
      (λ item. subst (λ fixed. times_of item listed ≤ times_of item fixed + open_places job p) (sym (fixed_in_parts job p))
      (times_at_most item p.prefix images listed (open_places job p) (completion_in_parts stock job p listed c)))
      seen
  broken_rule FitnessRule seen listed c = subst (λ l. ¬ KeepsFitness stock job l) (begins listed c) (is_unfit stock job p.prefix (more_of listed c) seen)

  pub every_completion_breaks : (number : ℕ) → VisiblyBreaks number stock job p → ForEveryCompletion stock job p (Breaks number stock job)
  every_completion_breaks number seen listed c = (seen.0, seen.1, broken_rule seen.0 seen.2 listed c)
