-- The word of a full partial, as its completion is judged, may be written and is true.
use Rattle.std.proofs.Common.{◌≡◌, refl, sym, ap, subst, ℕ, ◌≤◌, ◌<◌, List, length, slice_get, Option, Some, None, IsSomeAnd, arith}
use Rattle.std.proofs.lemmas.Option.{slice_get_within}
use Rattle.lam_stock.specs.declared.item.Item.{Item}
use Rattle.lam_stock.specs.declared.item.ItemNo.{ItemNo}
use Rattle.lam_stock.specs.Stock.{IsKnown}
use Rattle.lam_job.specs.JobData.{JobData, CaseData}
use Rattle.lam_job.specs.Ranges.{IsJob}
use Rattle.lam_job.specs.Schedule.{cost_of, wall_of}
use Rattle.lam_job.specs.LoadOf.{load_of}
use Rattle.lam_job.specs.LoadRange.{WallInRange}
use Rattle.lam_job.specs.Rules.{Rule, InnerRule, OuterRule, SymmetricRule, BalancedRule, RunRule, FewestRule, ThicknessRule, CountsRule, FitnessRule, rule_number}
use Rattle.lam_job.specs.Partial.{Partial, Completes, IsFull, completion}
use Rattle.lam_rules.specs.Conditions.{IsPartial}
use Rattle.lam_judge.specs.declared.judgement.Judgement.{Judgement}
use Rattle.lam_judge.specs.declared.judgement.Judgement.TheVariants as judgement
use Rattle.lam_judge.specs.Judgements as said
use Rattle.lam_judge.specs.inside.Judged.{judged}
use Rattle.lam_judge.proofs.JudgedPlaces.{IsPlaced, judged-placed, wall-plies}
use Rattle.lam_tree.specs.declared.limits.TheConstants.{MOST_COST}
use Rattle.lam_tree.specs.declared.node.Word.{Word}
use Rattle.lam_tree.specs.Closings.{IsSound}
use Rattle.lam_tree.specs.ReportRanges.{IsWord}
use Rattle.lam_answers.specs.inside.Computed.{computed, word_of}
use Rattle.lam_answers.proofs.Judged.{judged_so}
use Rattle.lam_search.specs.inside.Here.{basis_of}
use Rattle.lam_search.specs.inside.Held.{IsHeld}

-- the numbers of the rules
rule-range : (rule : Rule) → (1 ≤ rule_number rule) × (rule_number rule ≤ 9)
rule-range InnerRule = (omega arith, omega arith)
rule-range OuterRule = (omega arith, omega arith)
rule-range SymmetricRule = (omega arith, omega arith)
rule-range BalancedRule = (omega arith, omega arith)
rule-range RunRule = (omega arith, omega arith)
rule-range FewestRule = (omega arith, omega arith)
rule-range ThicknessRule = (omega arith, omega arith)
rule-range CountsRule = (omega arith, omega arith)
rule-range FitnessRule = (omega arith, omega arith)

-- a job has the case of which something is so
pub case-within : (cases : List CaseData) (So : CaseData → Type 0) (k : ℕ) → IsSomeAnd (slice_get cases k) So → k < length cases
case-within cases So k some = by (slice_get cases k) refl some where
  by : (o : Option CaseData) → slice_get cases k ≡ o → IsSomeAnd o So → k < length cases
  by None is so = absurd so
  by (Some case) is so = slice_get_within cases k case is

module _ (stock : List Item) (job : JobData) (valid : IsJob job) (liner : IsKnown stock job.liner) (c : Option ℕ) (p : Partial)
    (part : IsPartial stock job p) (short : p.n ≤ job.limit) (full : IsFull job p) where
  abbrev listed : List ItemNo
  listed = completion job p

  sound : (j : Judgement) → said.IsSaid stock job listed j → (computed stock job).judged listed ≡ word_of j → IsSound stock job (computed stock job) c c p (word_of j)
  sound judgement.Admissible is named = (full, named)
  sound (judgement.Broken rule) is named = record { broken = λ _. is; visible = λ open_still. absurd (open_still full) }
  sound (judgement.OutOfRange case) is named = (full, named)
  sound (judgement.Fails at) is named = (full, named)
  sound (judgement.Buckles panel) is named = (full, named)
  sound (judgement.StraddlesPly at) is named = (full, named)
  sound (judgement.StraddlesPanel panel) is named = (full, named)

  few_plies : Completes stock job p listed → length (wall_of stock job listed) ≤ 64
  few_plies completes =
      let most = wall-plies stock job listed liner completes.sequence.known in
      let own = completes.sequence.short in
      let limit = valid.limit.greatest in
      let thin = valid.liner in
      omega (arith, most, own, limit, thin)

  range : (j : Judgement) → said.IsSaid stock job listed j → IsPlaced (length job.cases) (length (wall_of stock job listed)) (length job.panels) j
      → length (wall_of stock job listed) ≤ 64 → IsWord (word_of j)
  range judgement.Admissible is placed few = tt
  range (judgement.Broken rule) is placed few =
      let r = rule-range is.broken.0 in
      let e = is.broken.1 in
      (omega (arith, r.0, e), omega (arith, r.1, e))
  range (judgement.OutOfRange case) is placed few =
      let within = case-within job.cases (λ k. ¬ WallInRange stock (wall_of stock job listed) (load_of k.kind)) case is.1.out in
      let most = valid.few_cases in
      omega (arith, within, most)
  range (judgement.Fails at) is placed few =
      let most = valid.few_cases in
      let k = placed.0 in
      let ply = placed.1 in
      record { case = omega (arith, k, most); ply = omega (arith, ply, few) }
  range (judgement.Buckles panel) is placed few =
      let most = valid.few_panels in omega (arith, placed, most)
  range (judgement.StraddlesPly at) is placed few =
      let most = valid.few_cases in
      let k = placed.0 in
      let ply = placed.1 in
      record { case = omega (arith, k, most); ply = omega (arith, ply, few) }
  range (judgement.StraddlesPanel panel) is placed few =
      let most = valid.few_panels in omega (arith, placed, most)

  pub held-judged : (j : Judgement) (w : Word) → w ≡ word_of j → j ≡ judged stock job listed → said.IsSaid stock job listed j
      → Completes stock job p listed → cost_of stock job listed ≤ MOST_COST → IsHeld (basis_of stock job) c p w
  held-judged j w is_word value is completes small =
      let named : (computed stock job).judged listed ≡ word_of j = ap word_of (sym value) in
      let placed = subst (IsPlaced (length job.cases) (length (wall_of stock job listed)) (length job.panels)) (sym value) (judged-placed stock job listed) in
      subst (IsHeld (basis_of stock job) c p) (sym is_word) (record {
        part = part;
        short = short;
        sound = sound j is named;
        so = judged_so stock job c p full j (word_of j) refl is;
        range = range j is placed (few_plies completes);
        small = small;
      })
