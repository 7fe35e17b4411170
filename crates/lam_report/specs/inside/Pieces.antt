-- A text on its way into a sink, in pieces: what is kept of it until a piece is full, and what was put.
use Rattle.std.specs.Prelude.{◌≡◌, ℕ, ◌≤◌, List, [], ◌++◌, Option, Some, None}
use Rattle.std.specs.Io.KnownBytes.{Appends}
use Rattle.lam_outside.specs.Counts.{Rose}
use Rattle.lam_outside.specs.Told.{GrowsByPrefix}
use Rattle.lam_outside.specs.declared.writing.WriteFault.{WriteFault}
use Rattle.lam_outside.specs.declared.writing.WriteFault.TheVariants.{Failed, TookNone}

-- what a sink tells of itself
pub record SinkView : Type 0 where
  pub written : Option (List ℕ)
  pub faults : ℕ
  pub stalls : ℕ
  pub terms : List ℕ

abbrev pub seen : {S : Type 0} → (written : S → Option (List ℕ)) → (faults stalls : S → ℕ) → (terms : S → List ℕ) → S → SinkView
seen written faults stalls terms sink =
    record { written = written sink; faults = faults sink; stalls = stalls sink; terms = terms sink }

-- the bytes that no piece was full of yet, and the fault of a piece, after which nothing is put
pub record Kept : Type 0 where
  pub left : List ℕ
  pub fault : Option WriteFault

abbrev pub none_kept : Kept
none_kept = record { left = []; fault = None }

-- of a text, all but what is left is written behind what was there at the start; after a fault, a prefix of it is
abbrev pub Handed : (start : Option (List ℕ)) → SinkView → (left : List ℕ) → (fault : Option WriteFault) → (text : List ℕ) → Type 0
Handed start now left None text = (done : List ℕ) × Appends start now.written done × (text ≡ done ++ left)
Handed start now left (Some fault) text = GrowsByPrefix start now.written text

-- which counts rose, where the first fault came in between
abbrev pub Counted : SinkView → SinkView → (before after : Option WriteFault) → Type 0
Counted old new None None = new.stalls ≡ old.stalls
Counted old new None (Some Failed) = Rose old.faults new.faults × (new.stalls ≡ old.stalls)
Counted old new None (Some TookNone) = Rose old.stalls new.stalls
Counted old new (Some fault) None = ⊥
Counted old new (Some fault) (Some same) = (fault ≡ same) × (new.faults ≡ old.faults) × (new.stalls ≡ old.stalls)

-- a text is handed on, behind what was handed on before
pub record Hands (old : SinkView) (before : Kept) (new : SinkView) (after : Kept) (text : List ℕ) : Type 0 where
  pub handed : (start : Option (List ℕ)) (front : List ℕ)
      → Handed start old before.left before.fault front → Handed start new after.left after.fault (front ++ text)
  pub faults : old.faults ≤ new.faults
  pub stalls : old.stalls ≤ new.stalls
  pub terms : new.terms ≡ old.terms
  pub counted : Counted old new before.fault after.fault

-- a piece is put, unless there was a fault before: with what was left, and what the piece takes besides
pub record Puts (old : SinkView) (before : Option WriteFault) (new : SinkView) (after : Option WriteFault) (piece : List ℕ) : Type 0 where
  pub handed : (start : Option (List ℕ)) (front left part : List ℕ) → piece ≡ left ++ part
      → Handed start old left before front → Handed start new [] after (front ++ part)
  pub faults : old.faults ≤ new.faults
  pub stalls : old.stalls ≤ new.stalls
  pub terms : new.terms ≡ old.terms
  pub counted : Counted old new before after

-- the same, of sinks
abbrev pub PutsText : {S : Type 0} → (written : S → Option (List ℕ)) → (faults stalls : S → ℕ) → (terms : S → List ℕ) → (old : S) → Kept → (new : S) → Kept → List ℕ → Type 0
PutsText written faults stalls terms old before new after text =
    Hands (seen written faults stalls terms old) before (seen written faults stalls terms new) after text
