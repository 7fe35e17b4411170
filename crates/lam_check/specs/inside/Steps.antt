-- What a line of a tree does: it is passed, or it stops the check.
use Rattle.std.specs.Prelude.{◌≡◌, ℕ, ◌⊎◌, ◌↔◌, List, ◌∷◌, Bool, IsTrue, if◌then◌else◌, Option, Some, None}
use Rattle.lam_job.specs.Partial.{Partial}
use Rattle.lam_tree.specs.declared.node.Node.{Node}
use Rattle.lam_tree.specs.declared.node.Word.{Word}
use Rattle.lam_tree.specs.declared.report.Near.{Near}
use Rattle.lam_tree.specs.declared.report.Answer.{Answer}
use Rattle.lam_tree.specs.declared.report.Answer.TheVariants as answer
use Rattle.lam_tree.specs.Words.{IsTrueOf}
use Rattle.lam_tree.specs.Reading.{Stray, Whole, Cut, Reading, ends, visit}
use Rattle.lam_tree.specs.Findings.{OutOfOrder}
use Rattle.lam_tree.specs.Closings.{IsSound, incumbent_with}
use Rattle.lam_tree.specs.Checks.{cause_of, final, first_undecided, undecided}
use Rattle.lam_check.specs.declared.fault.CheckCause.{CheckCause}
use Rattle.lam_check.specs.declared.state.State.{State}
use Rattle.lam_check.specs.declared.state.Summary.{Summary}
use Rattle.lam_check.specs.Faults.{cause_is}
use Rattle.lam_check.specs.inside.Basis.{Basis}
use Rattle.lam_check.specs.inside.Machine.{left, IsSettled}

-- what a leaf says is so
abbrev pub IsTrueLeaf : Basis → (best : Option ℕ) → Partial → Word → Type 0
IsTrueLeaf m best p w = IsTrueOf m.stock m.job best p w

-- a machine keeps whether the first undecided leaf is the one that the answer names
abbrev pub Remembers : Answer → Option Bool → (first : Option Near) → Type 0
Remembers given None first = first ≡ None
Remembers given (Some named) first = (own : Near) × (first ≡ Some own) × (IsTrue named ↔ (given ≡ answer.OpenStraddle own))

-- with one leaf more, which may be undecided
abbrev pub Adds : Answer → (before after : Option Bool) → Option Near → Type 0
Adds given None after own = Remembers given after own
Adds given (Some named) after own = after ≡ Some named

-- a line is passed: it is read, and what it says is sound and so
pub record Passes (m : Basis) (given : Answer) (best : Option ℕ) (from : List Node → Reading) (before after : State) (p : Partial) (w : Word) : Type 0 where
  pub reads : (rest : List Node) → from rest ≡ visit p w (left m after.cursor rest)
  pub sound : IsSound m.stock m.job m.tests best before.incumbent p w
  pub so : IsTrueLeaf m best p w
  pub incumbent : after.incumbent ≡ incumbent_with m.stock m.job before.incumbent p w
  pub named : Adds given before.named after.named (undecided m.stock m.job best p w)
  pub settled : IsSettled m after.cursor

abbrev pub PassesLine : Basis → Answer → (best : Option ℕ) → (before after : State) → Node → Type 0
PassesLine m given best before after node =
    (p : Partial) × Passes m given best (λ rest. left m before.cursor (node ∷ rest)) before after p node.word

-- a line is read, and what it says is not sound
pub record Stops (m : Basis) (best : Option ℕ) (from : List Node → Reading) (before : State) (cause : CheckCause) (p : Partial) (w : Word) : Type 0 where
  pub reads : (rest : List Node) → (more : Reading) × (from rest ≡ visit p w more)
  pub unsound : ¬ IsSound m.stock m.job m.tests best before.incumbent p w
  pub cause_is : cause_is cause ≡ cause_of m.stock m.job m.tests w

-- a line's seat is not due
pub record Strays (m : Basis) (before : State) (cause : CheckCause) (node : Node) : Type 0 where
  pub reads : (rest : List Node) → left m before.cursor (node ∷ rest) ≡ ends Stray
  pub cause_is : cause_is cause ≡ OutOfOrder

abbrev pub StopsLine : Basis → (best : Option ℕ) → (before : State) → CheckCause → Node → Type 0
StopsLine m best before cause node =
    Strays m before cause node
    ⊎ ((p : Partial) × Stops m best (λ rest. left m before.cursor (node ∷ rest)) before cause p node.word)

-- what is kept of a tree that was read
pub record Sums (m : Basis) (given : Answer) (best : Option ℕ) (r : Reading) (s : Summary) : Type 0 where
  pub incumbent : s.incumbent ≡ final m.stock m.job r.visits
  pub named : Remembers given s.named (first_undecided m.stock m.job best r.visits)
  pub ending : r.ending ≡ (if s.whole then Whole else Cut)
