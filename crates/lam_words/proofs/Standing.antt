-- Where clap's walk stands after words that can be sorted.
use Rattle.std.proofs.Common.{ℕ, ◌+◌, ◌≡◌, List, [], Bool, true, false, Some, None, length, codes}
use Rattle.clap.specs.Walk.{Row, Held, Walk, Waiting, idle, option, settled_rows, walked}
use Rattle.clap.specs.Faults.{settle_fault, turn_fault}
use Rattle.lam_words.specs.declared.option_name.OptionName.{OptionName}
use Rattle.lam_words.specs.declared.option_name.OptionName.TheVariants.{Guide, Nodes}
use Rattle.lam_words.specs.declared.option_name.Expects.{Expects}
use Rattle.lam_words.specs.declared.option_name.Expects.TheVariants.{Word, Value, Text}
use Rattle.lam_words.specs.Sorting.{Sorted}
use Rattle.lam_words.proofs.Built.{rules, shape}
use Rattle.lam_words.proofs.FoundRows.{HasRows}

abbrev pub name_of : OptionName → List ℕ
name_of Guide = codes "guide"
name_of Nodes = codes "nodes"

abbrev pub waiting_for : Expects → Waiting
waiting_for Word = idle
waiting_for Text = idle
waiting_for (Value o) = option (name_of o)

abbrev pub is_text : Expects → Bool
is_text Word = false
is_text Text = true
is_text (Value o) = false

abbrev pub place_of : List (List ℕ) → ℕ
place_of texts = 1 + length texts

abbrev pub at_place : Held → Expects → ℕ → Walk
at_place h e place = record { held = h; waiting = waiting_for e; position = place; is_trailing = is_text e; stopped = None }

-- the rows once the pending argument is used
abbrev pub rows_from : Held → List Row
rows_from h = settled_rows rules h.pending h.rows

pub record Settles (h : Held) (s : Sorted) : Type 0 where
  pub rows : HasRows (rows_from h) s
  pub passes : settle_fault rules false h ≡ []

pub record Waits (h : Held) (o : OptionName) (s : Sorted) : Type 0 where
  pub rows : List Row
  pub skip : ℕ
  pub is : h ≡ record { rows = rows; pending = Some (name_of o, []); skip = skip }
  pub has : HasRows rows s

abbrev pub StandsAt : Expects → Held → Sorted → Type 0
StandsAt Word h s = Settles h s
StandsAt Text h s = Settles h s
StandsAt (Value o) h s = Waits h o s

-- a word was taken without a fault
pub record Turned (w : Walk) (word : List ℕ) (e : Expects) (s : Sorted) : Type 0 where
  pub held : Held
  pub walks : walked rules [] w word ≡ at_place held e (place_of s.texts)
  pub passes : turn_fault shape [] w word ≡ []
  pub stands : StandsAt e held s
