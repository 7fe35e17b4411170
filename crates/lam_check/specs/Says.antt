-- What is said of an accepted report.
use Rattle.std.specs.Prelude.{◌≡◌, ℕ, ◌⊎◌, Option, Some}
use Rattle.lam_tree.specs.declared.report.Near.{Near}
use Rattle.lam_tree.specs.declared.report.Answer.{Answer}
use Rattle.lam_tree.specs.declared.report.Answer.TheVariants as answer
use Rattle.lam_tree.specs.declared.report.Report.{Report}
use Rattle.lam_tree.specs.Checks.{best_cost}
use Rattle.lam_check.specs.declared.accepted.Accepted.{Accepted}
use Rattle.lam_check.specs.declared.accepted.Accepted.TheVariants as accepted

-- of an answer and the cost of the best schedule
abbrev pub SaysSo : Answer → (best : Option ℕ) → Accepted → Type 0
SaysSo given best (accepted.Least cost) = (given ≡ answer.Least) × (best ≡ Some cost)
SaysSo given best accepted.NoneMeets = given ≡ answer.NoneMeets
SaysSo given best accepted.Open = (given ≡ answer.OpenBudget) ⊎ ((near : Near) × (given ≡ answer.OpenStraddle near))

abbrev pub Says : Report → Accepted → Type 0
Says report said = SaysSo report.answer (best_cost report.best) said
