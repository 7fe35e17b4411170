-- A line whose seat is due is passed, or stops the check, as its word does.
use Rattle.std.proofs.Common.{◌≡◌, ◌≢◌, refl, sym, ◌∙◌, ap, subst, ℕ, inr, List, ◌∷◌, Result, Ok, Err, Option}
use Rattle.std.specs.Prelude.{OnOk, IfErr}
use Rattle.lam_tree.specs.declared.node.Node.{Node}
use Rattle.lam_tree.specs.declared.node.Word.{Word}
use Rattle.lam_tree.specs.declared.node.Word.TheVariants as word
use Rattle.lam_tree.specs.declared.report.Answer.{Answer}
use Rattle.lam_tree.specs.Findings.{WrongLeaf}
use Rattle.lam_tree.specs.Checks.{cause_of}
use Rattle.lam_check.specs.declared.fault.CheckCause.{CheckCause}
use Rattle.lam_check.specs.declared.cursor.Cursor.{Cursor}
use Rattle.lam_check.specs.declared.state.State.{State}
use Rattle.lam_check.specs.inside.Basis.{Basis}
use Rattle.lam_check.specs.inside.Machine.{left, left_at}
use Rattle.lam_check.specs.inside.Steps.{Passes, PassesLine, Stops, StopsLine}

pub leaf_cause : (m : Basis) (w : Word) → w ≢ word.Split → cause_of m.stock m.job m.tests w ≡ WrongLeaf
leaf_cause m word.Split leaf = absurd (leaf refl)
leaf_cause m w leaf = refl

pub on_ok : {T E : Type 0} (r : Result T E) (P Q : Type 0) → (P → Q) → OnOk r P → OnOk r Q
on_ok (Ok x) P Q so is = so is
on_ok (Err e) P Q so is = tt

pub if_err : {T E : Type 0} (r : Result T E) (P Q : E → Type 0) → ((e : E) → P e → Q e) → IfErr r P → IfErr r Q
if_err (Ok x) P Q so is = tt
if_err (Err e) P Q so is = so e is

module _ (m : Basis) (best : Option ℕ) (before : State) (node : Node) (at : Cursor) (w : Word) (is : node.word ≡ w)
    (due : (word : Word) (rest : List Node) → left m before.cursor (record { seat = node.seat; word = word } ∷ rest) ≡ left_at m at word rest) where
  abbrev seated : State
  seated = record { cursor = at; incumbent = before.incumbent; named = before.named }

  reads : (rest : List Node) → left m before.cursor (node ∷ rest) ≡ left_at m at w rest
  reads rest = due node.word rest ∙ ap (λ v. left_at m at v rest) is

  pub passes_line : (given : Answer) (after : State) → Passes m given best (left_at m at w) seated after at.partial w → PassesLine m given best before after node
  passes_line given after by = (
    at.partial,
    subst (Passes m given best (λ rest. left m before.cursor (node ∷ rest)) before after at.partial) (sym is) (record {
      reads = λ rest. reads rest ∙ by.reads rest;
      sound = by.sound;
      so = by.so;
      incumbent = by.incumbent;
      named = by.named;
      settled = by.settled;
    }),
  )

  pub stops_line : (cause : CheckCause) → Stops m best (left_at m at w) seated cause at.partial w → StopsLine m best before cause node
  stops_line cause by =
      inr (
        at.partial,
        subst (Stops m best (λ rest. left m before.cursor (node ∷ rest)) before cause at.partial) (sym is) (record {
          reads = λ rest. (let more = by.reads rest in (more.0, reads rest ∙ more.1));
          unsound = by.unsound;
          cause_is = by.cause_is;
        }),
      )
