-- What the reading of a whole search gives: its ending, its cost, and its answer.
use Rattle.std.proofs.Common.{◌≡◌, ◌≢◌, refl, sym, ◌∙◌, ap, subst, ℕ, zero, suc, ◌≤◌, List, [], ◌∷◌, ◌++◌, length, All, Option, Some, None, IfSome, arith}
use Rattle.std.proofs.lemmas.List.{append-nil}
use Rattle.std.proofs.lemmas.List.Elements.{All-nil}
use Rattle.lam_job.specs.JobData.{JobData}
use Rattle.lam_tree.specs.declared.node.Node.{Node}
use Rattle.lam_tree.specs.declared.report.Best.{Best}
use Rattle.lam_tree.specs.declared.report.Answer.{Answer}
use Rattle.lam_tree.specs.declared.report.Answer.TheVariants as answer
use Rattle.lam_tree.specs.Reading.{Visit, Ending, Cut, Stray, Whole, Reading, lengths, read}
use Rattle.lam_tree.specs.Closings.{incumbent_after}
use Rattle.lam_tree.specs.Checks.{best_cost, final, first_undecided, answer_with, answer_at, answer_of}
use Rattle.lam_tree.specs.ReportRanges.{IsNode}
use Rattle.lam_tree.proofs.Equations.{lengths-cut}
use Rattle.lam_search.specs.declared.seeking.Sight.{Sight}
use Rattle.lam_search.specs.declared.seeking.Sight.TheVariants.{Seen, Passed, Lost}
use Rattle.lam_search.specs.declared.state.State.{State}
use Rattle.lam_search.specs.declared.state.Flow.{Flow}
use Rattle.lam_search.specs.declared.state.Flow.TheVariants as flow
use Rattle.lam_search.specs.inside.Here.{Basis}
use Rattle.lam_search.specs.inside.Held.{AreHeld, IsGood, IsKept}
use Rattle.lam_search.specs.inside.Sights.{SeesAll}
use Rattle.lam_search.specs.inside.Steps.{IsRead, Searched}
use Rattle.lam_search.specs.inside.Outcome.{ending_of, answer_seen, IsFound}

-- nothing is kept at the start
pub kept-nothing : (m : Basis) (state : State) → state.tree ≡ [] → state.best ≡ None → IsKept m state
kept-nothing m state tree best = record {
  best = subst (λ (o : Option Best). IfSome o (IsGood m)) (sym best) tt;
  nodes = subst (All (IsNode (length m.stock))) (sym tree) (All-nil (IsNode (length m.stock)));
}

-- the reading of all that was written, up to its ending
pub record IsSearched (m : Basis) (budget : ℕ) (f : Flow) (new : State) : Type 0 where
  pub visits : List Visit
  pub reads : read m.stock m.job new.tree ≡ record { visits = visits; ending = ending_of f }
  pub held : AreHeld m None visits
  pub cost : best_cost new.best ≡ final m.stock m.job visits
  pub spent : ending_of f ≡ Cut → length new.tree ≡ budget

module _ (m : Basis) (budget : ℕ) (old new : State) (tree : old.tree ≡ []) (best : old.best ≡ None) where
  reads : (e : Ending) (r : IsRead m e old new) → read m.stock m.job new.tree ≡ record { visits = r.visits; ending = e }
  reads e r =
      ap (lengths (length m.stock) m.job m.job.limit 1) (r.added.lines ∙ ap (λ l. l ++ r.own) tree)
      ∙ r.reads
      ∙ ap (λ v. record { visits = v; ending = e }) (append-nil r.visits)

  held : (e : Ending) (r : IsRead m e old new) → AreHeld m None r.visits
  held e r = subst (λ o. AreHeld m o r.visits) (ap best_cost best) r.added.held

  cost : (e : Ending) (r : IsRead m e old new) → best_cost new.best ≡ final m.stock m.job r.visits
  cost e r = r.added.incumbent ∙ ap (λ o. incumbent_after m.stock m.job o r.visits) (ap best_cost best)

  pub searched-so : (f : Flow) → Searched m budget f old new → IsSearched m budget f new
  searched-so flow.Whole r = record {
    visits = r.visits;
    reads = reads Whole r;
    held = held Whole r;
    cost = cost Whole r;
    spent = λ is. absurd (let n : Whole ≡ Cut = is in cc);
  }
  searched-so flow.Cut s = let r = s.1 in record {
    visits = r.visits;
    reads = reads Cut r;
    held = held Cut r;
    cost = cost Cut r;
    spent = λ is. s.0;
  }

never-stray : (f : Flow) → ending_of f ≢ Stray
never-stray flow.Whole is = let n : Whole ≡ Stray = is in cc
never-stray flow.Cut is = let n : Cut ≡ Stray = is in cc

-- a tree has a node
some-lines : (items : ℕ) (job : JobData) (limit : ℕ) (lines : List Node) → 1 ≤ limit → (lengths items job limit 1 lines).ending ≡ Whole → 1 ≤ length lines
some-lines items job zero lines some whole = absurd (omega (arith, some))
some-lines items job (suc k) [] some whole =
    absurd (let e : Cut ≡ Whole = sym (ap (λ (r : Reading). r.ending) (lengths-cut items job k 1)) ∙ whole in cc)
some-lines items job (suc k) (line ∷ rest) some whole = let n = length rest in let h : 1 ≤ suc n = omega arith in h

some-nodes : (m : Basis) (budget : ℕ) (f : Flow) (new : State) → 1 ≤ budget → 1 ≤ m.job.limit → IsSearched m budget f new → 1 ≤ length new.tree
some-nodes m budget flow.Whole new some limit s =
    some-lines (length m.stock) m.job m.job.limit new.tree limit (ap (λ (r : Reading). r.ending) s.reads)
some-nodes m budget flow.Cut new some limit s = let e = s.spent refl in omega (arith, e, some)

pub found-so : (m : Basis) (budget : ℕ) (f : Flow) (new : State) (given : Answer) → 1 ≤ budget → 1 ≤ m.job.limit → IsSearched m budget f new → IsKept m new
    → length new.tree ≤ budget → given ≡ answer_of m.stock m.job (read m.stock m.job new.tree)
    → IsFound m budget (record { answer = given; best = new.best; tree = new.tree })
found-so m budget f new given some limit s kept few answered = record {
  visits = s.visits;
  ending = ending_of f;
  reads = s.reads;
  due = never-stray f;
  held = s.held;
  cost = s.cost;
  answered = answered;
  good = kept.best;
  nodes = kept.nodes;
  some = some-nodes m budget f new some limit s;
  few = few;
  spent = s.spent;
}

-- ---- answers

module _ (m : Basis) (r : Reading) where
  pub cut-answer : r.ending ≡ Cut → answer.OpenBudget ≡ answer_of m.stock m.job r
  cut-answer cut =
      sym (ap (λ e. answer_at e (final m.stock m.job r.visits) (first_undecided m.stock m.job (final m.stock m.job r.visits) r.visits)) cut)

  seen-answer : (nodes : List Node) (c : Option ℕ) (sight : Sight) → r.ending ≡ Whole → SeesAll m c nodes r sight
      → answer_seen c sight ≡ answer_with c (first_undecided m.stock m.job c r.visits)
  seen-answer nodes c (Seen near) whole sees = sym (ap (answer_with c) sees)
  seen-answer nodes None (Passed to) whole sees = sym (ap (answer_with None) sees)
  seen-answer nodes (Some cost) (Passed to) whole sees = sym (ap (answer_with (Some cost)) sees)
  seen-answer nodes c Lost whole sees = absurd (sees whole)

  pub whole-answer : (nodes : List Node) (c : Option ℕ) (sight : Sight) → r.ending ≡ Whole → c ≡ final m.stock m.job r.visits → SeesAll m c nodes r sight
      → answer_seen c sight ≡ answer_of m.stock m.job r
  whole-answer nodes c sight whole cost sees =
      seen-answer nodes c sight whole sees
      ∙ ap (λ o. answer_with o (first_undecided m.stock m.job o r.visits)) cost
      ∙ sym (ap (λ e. answer_at e (final m.stock m.job r.visits) (first_undecided m.stock m.job (final m.stock m.job r.visits) r.visits)) whole)
