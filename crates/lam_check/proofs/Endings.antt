-- What a tree that was read gives as the answer, by what is kept of it.
use Rattle.std.proofs.Common.{◌≡◌, ◌≢◌, refl, sym, ◌∙◌, ap, subst, ℕ, Bool, true, false, Option, Some, None, if◌then◌else◌}
use Rattle.std.specs.Prelude.{◌↔◌}
use Rattle.std.proofs.lemmas.Option.{same_Some}
use Rattle.lam_tree.specs.declared.report.Near.{Near}
use Rattle.lam_tree.specs.declared.report.Answer.{Answer}
use Rattle.lam_tree.specs.declared.report.Answer.TheVariants as answer
use Rattle.lam_tree.specs.Reading.{Ending, Cut, Whole, Reading}
use Rattle.lam_tree.specs.Checks.{final, first_undecided, answer_with, answer_at, answer_of}
use Rattle.lam_check.specs.declared.state.Summary.{Summary}
use Rattle.lam_check.specs.inside.Basis.{Basis}
use Rattle.lam_check.specs.inside.Steps.{Remembers, Sums}
use Rattle.lam_check.specs.inside.Claimed.{Gives}

not_budget : (c : Option ℕ) (near : Option Near) → answer.OpenBudget ≢ answer_with c near
not_budget c (Some near) e = cc
not_budget (Some cost) None e = cc
not_budget None None e = cc

-- ---- a whole tree, by whether a leaf is undecided

gives-least : (named : Option Bool) (c : Option ℕ) (first : Option Near) → Remembers answer.Least named first
    → Gives answer.Least true named c ↔ (answer.Least ≡ answer_with c first)
gives-least None (Some cost) first is = ((λ g. sym (ap (answer_with (Some cost)) is)), (λ e. (refl, refl, refl)))
gives-least None None first is =
    ((λ g. absurd (let n : false ≡ true = g.2 in cc)), (λ e. absurd (let n : answer.Least ≡ answer.NoneMeets = e ∙ ap (answer_with None) is in cc)))
gives-least (Some b) c first is =
    ((λ g. absurd (let n : Some b ≡ None = g.1 in cc)), (λ e. absurd (let n : answer.Least ≡ answer.OpenStraddle is.0 = e ∙ ap (answer_with c) is.1 in cc)))

gives-none : (named : Option Bool) (c : Option ℕ) (first : Option Near) → Remembers answer.NoneMeets named first
    → Gives answer.NoneMeets true named c ↔ (answer.NoneMeets ≡ answer_with c first)
gives-none None None first is = ((λ g. sym (ap (answer_with None) is)), (λ e. (refl, refl, refl)))
gives-none None (Some cost) first is =
    ((λ g. absurd (let n : Some cost ≡ None = g.2 in cc)), (λ e. absurd (let n : answer.NoneMeets ≡ answer.Least = e ∙ ap (answer_with (Some cost)) is in cc)))
gives-none (Some b) c first is =
    ((λ g. absurd (let n : Some b ≡ None = g.1 in cc)), (λ e. absurd (let n : answer.NoneMeets ≡ answer.OpenStraddle is.0 = e ∙ ap (answer_with c) is.1 in cc)))

none_open : (near : Near) (c : Option ℕ) → answer.OpenStraddle near ≢ answer_with c None
none_open near None e = cc
none_open near (Some cost) e = cc

gives-open : (near : Near) (named : Option Bool) (c : Option ℕ) (first : Option Near) → Remembers (answer.OpenStraddle near) named first
    → Gives (answer.OpenStraddle near) true named c ↔ (answer.OpenStraddle near ≡ answer_with c first)
gives-open near None c first is =
    ((λ g. absurd (let n : None ≡ Some true = g.1 in cc)), (λ e. absurd (none_open near c (e ∙ ap (answer_with c) is))))
gives-open near (Some b) c first is = (
  (λ g. is.2.0 (same_Some b true g.1) ∙ sym (ap (answer_with c) is.1)),
  (λ e. (refl, ap (λ v. Some v) (is.2.1 (e ∙ ap (answer_with c) is.1)))),
)

-- ---- any tree

gives : (given : Answer) (whole : Bool) (named : Option Bool) (c : Option ℕ) (first : Option Near) → Remembers given named first
    → Gives given whole named c ↔ (given ≡ answer_at (if whole then Whole else Cut) c first)
gives answer.OpenBudget false named c first is = ((λ g. refl), (λ e. refl))
gives answer.OpenBudget true named c first is = ((λ g. absurd (let n : true ≡ false = g in cc)), (λ e. absurd (not_budget c first e)))
gives answer.Least false named c first is = ((λ g. absurd (let n : false ≡ true = g.0 in cc)), (λ e. absurd (let n : answer.Least ≡ answer.OpenBudget = e in cc)))
gives answer.Least true named c first is = gives-least named c first is
gives answer.NoneMeets false named c first is = ((λ g. absurd (let n : false ≡ true = g.0 in cc)), (λ e. absurd (let n : answer.NoneMeets ≡ answer.OpenBudget = e in cc)))
gives answer.NoneMeets true named c first is = gives-none named c first is
gives (answer.OpenStraddle near) false named c first is =
    ((λ g. absurd (let n : false ≡ true = g.0 in cc)), (λ e. absurd (let n : answer.OpenStraddle near ≡ answer.OpenBudget = e in cc)))
gives (answer.OpenStraddle near) true named c first is = gives-open near named c first is

-- the answer is what the tree gives
pub answer-gives : (m : Basis) (given : Answer) (best : Option ℕ) (r : Reading) (s : Summary) → Sums m given best r s → best ≡ s.incumbent
    → Gives given s.whole s.named s.incumbent ↔ (given ≡ answer_of m.stock m.job r)
answer-gives m given best r s sums same =
    let c = final m.stock m.job r.visits in
    let is_final : best ≡ c = same ∙ sums.incumbent in
    let named : Remembers given s.named (first_undecided m.stock m.job c r.visits)
    = subst (λ o. Remembers given s.named (first_undecided m.stock m.job o r.visits)) is_final sums.named in
    subst (λ o. Gives given s.whole s.named o ↔ (given ≡ answer_of m.stock m.job r)) (sym sums.incumbent)
    (subst (λ (e : Ending). Gives given s.whole s.named c ↔ (given ≡ answer_at e c (first_undecided m.stock m.job c r.visits))) (sym sums.ending)
    (gives given s.whole s.named c (first_undecided m.stock m.job c r.visits) named))
