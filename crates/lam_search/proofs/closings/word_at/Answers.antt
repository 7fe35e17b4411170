use Rattle.std.proofs.Common.{◌≡◌, ◌≤◌, refl, sym, ◌∙◌, ap, is_some, subst, slice_get, inr, Option, IfSome, true, false, arith}
use Rattle.lam_job.specs.Rules.{Breaks}
use Rattle.lam_job.specs.Partial.{ForEveryCompletion, IsFull}
use Rattle.lam_rules.specs.declared.rule.RuleNo.{RuleNo}
use Rattle.lam_tree.specs.Closings.{ClosesByRule, Reaches, IsBelow}
use Rattle.lam_tree.specs.ForceBalance.{IsShort, net_cost}
use Rattle.lam_bounds.specs.inside.Computed.{capacity_value}
use Rattle.lam_search.proofs.JudgedWords.{case-within}
use Rattle.lam_search.proofs.Closing.{small-cost, case-either}
use Rattle.lam_search.proofs.closings.word_at.Goals as goal

pub judged_at-requires-clause-small : goal.judged_at-requires-clause-small
judged_at-requires-clause-small c =
    small-cost c.args.design.now.stock.now c.args.design.now.job.now c.args.partial.now c.args.design.now.bounds.now c.args.fixed.now
    c.requires.partial c.requires.ready.are_bounds c.requires.sums

pub returns-in-Some : goal.returns-in-Some
returns-in-Some c =
    let stock = c.args.design.now.stock.now in
    let job = c.args.design.now.job.now in
    let p = c.args.partial.now in
    let seen = c.requires.seen in
    record {
      part = c.requires.partial;
      short = c.requires.short;
      sound = subst (λ (o : Option RuleNo). IfSome o (λ rule. ClosesByRule stock job p rule.0)) c.in-Some.is seen.some;
      so = subst (λ (o : Option RuleNo). IfSome o (λ rule. ForEveryCompletion stock job p (Breaks rule.0 stock job))) c.in-Some.is seen.so;
      range = subst (λ (o : Option RuleNo). IfSome o (λ rule. (1 ≤ rule.0) × (rule.0 ≤ 9))) c.in-Some.is seen.number;
      small = small-cost stock job p c.args.design.now.bounds.now c.args.fixed.now c.requires.partial c.requires.ready.are_bounds c.requires.sums;
    }

pub returns-then-reaches : goal.returns-then-reaches
returns-then-reaches c =
    let stock = c.args.design.now.stock.now in
    let job = c.args.design.now.job.now in
    let p = c.args.partial.now in
    let high = subst (λ n. Reaches n c.args.incumbent) c.floor_at.ensures (c.reaches.ensures.reaches c.if-reaches.true) in
    record {
      part = c.requires.partial;
      short = c.requires.short;
      sound = high;
      so = high;
      range = tt;
      small = small-cost stock job p c.args.design.now.bounds.now c.args.fixed.now c.requires.partial c.requires.ready.are_bounds c.requires.sums;
    }

pub returns-in-Some-short_at : goal.returns-in-Some-short_at
returns-in-Some-short_at c =
    let stock = c.args.design.now.stock.now in
    let job = c.args.design.now.job.now in
    let p = c.args.partial.now in
    let w = c.in-Some-short_at.w in
    let short = c.in-Some-short_at.ensures.some in
    let within = case-within job.cases (λ k. IsShort stock job p k w (λ i. capacity_value i w)) c.in-Some-short_at.case short in
    let most = c.requires.ready.are_bounds.valid.few_cases in
    record {
      part = c.requires.partial;
      short = c.requires.short;
      sound = short;
      so = c.in-Some-short_at.ensures.so refl;
      range = omega (arith, within, most);
      small = small-cost stock job p c.args.design.now.bounds.now c.args.fixed.now c.requires.partial c.requires.ready.are_bounds c.requires.sums;
    }

pub returns-in-Some-dear_at : goal.returns-in-Some-dear_at
returns-in-Some-dear_at c =
    let stock = c.args.design.now.stock.now in
    let job = c.args.design.now.job.now in
    let p = c.args.partial.now in
    let w = c.in-Some-dear_at.w in
    let dear = c.in-Some-dear_at.ensures.some in
    let within = case-within job.cases (λ k. Reaches (net_cost stock job p k w (λ i. capacity_value i w)) c.args.incumbent) c.in-Some-dear_at.case dear in
    let most = c.requires.ready.are_bounds.valid.few_cases in
    record {
      part = c.requires.partial;
      short = c.requires.short;
      sound = case-either (slice_get job.cases c.in-Some-dear_at.case) (λ k. IsShort stock job p k w (λ i. capacity_value i w))
          (λ k. Reaches (net_cost stock job p k w (λ i. capacity_value i w)) c.args.incumbent) dear;
      so = inr (c.in-Some-dear_at.ensures.so refl);
      range = omega (arith, within, most);
      small = small-cost stock job p c.args.design.now.bounds.now c.args.fixed.now c.requires.partial c.requires.ready.are_bounds c.requires.sums;
    }

pub returns-in-Some-first_box : goal.returns-in-Some-first_box
returns-in-Some-first_box c =
    let stock = c.args.design.now.stock.now in
    let job = c.args.design.now.job.now in
    let p = c.args.partial.now in
    record {
      part = c.requires.partial;
      short = c.requires.short;
      sound = c.in-Some-first_box.ensures.some;
      so = c.in-Some-first_box.ensures.so;
      range = c.in-Some-first_box.ensures.range;
      small = small-cost stock job p c.args.design.now.bounds.now c.args.fixed.now c.requires.partial c.requires.ready.are_bounds c.requires.sums;
    }

pub returns : goal.returns
returns c =
    let stock = c.args.design.now.stock.now in
    let job = c.args.design.now.job.now in
    let p = c.args.partial.now in
    let open_still : ¬ IsFull job p = λ full. (let n : true ≡ false = sym (c.is_full.ensures.1 full) ∙ c.if-is_full.false in cc) in
    record {
      part = c.requires.partial;
      short = c.requires.short;
      sound = record {
        lawful = record {
          more = open_still;
          well = c.requires.seen.none (ap is_some c.in_default.is) open_still;
          cheap = subst (λ n. IsBelow n c.args.incumbent) c.floor_at.ensures (c.reaches.ensures.below c.if-reaches.false);
        };
        cases = λ k case is. record {
          carried = c.in_default-short_at.ensures.none refl k case is;
          cheap = c.in_default-dear_at.ensures.none refl k case is;
          unboxed = c.in_default-first_box.ensures.none refl k case is;
        };
      };
      so = tt;
      range = tt;
      small = small-cost stock job p c.args.design.now.bounds.now c.args.fixed.now c.requires.partial c.requires.ready.are_bounds c.requires.sums;
    }
