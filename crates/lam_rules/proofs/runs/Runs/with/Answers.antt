use Rattle.std.proofs.Common.{◌≤◌, ◌↔◌, ◌++◌, ◌∷◌, [], sym, subst, ℕ}
use Rattle.lam_rules.specs.inside.RunsOf.{EndsInRun}
use Rattle.lam_rules.proofs.RunSteps.{last_more, at_end_more, longest_more, at_most_one}
use Rattle.lam_rules.proofs.runs.Runs.with.Goals as goal

pub returns-clause-runs : goal.returns-clause-runs
returns-clause-runs c = λ plies are.
    let x = c.args.ply in
    let old = c.args.self.now in
    let at_end = c.at_end_with-at_end.result in
    let ends : (n : ℕ) → EndsInRun n (plies ++ x ∷ []) ↔ (n ≤ at_end)
    = λ n. subst (λ r. EndsInRun n (plies ++ x ∷ []) ↔ (n ≤ r)) (sym c.at_end_with-at_end.ensures) (at_end_more plies x old.last old.at_end are.last are.at_end n) in
    record {
      last = sym (last_more plies x);
      at_end = ends;
      longest = longest_more plies x at_end old.longest c.max.result ends are.longest (at_most_one old.longest at_end c.max.result c.max.ensures);
    }
