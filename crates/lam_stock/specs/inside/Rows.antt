-- The records that a reader of CSV has left.
use Rattle.std.specs.Prelude.{◌≡◌, ℕ, ◌+◌, Bool, true, false, List, [], ◌∷◌, length, Option, Some, None, IsSome}
use Rattle.std.specs.Borrow.{Bor}
use Rattle.csv.specs.Reading.{Ready, default_config, is_flexible, reader_config, reader_state, reader_trim, records_from, source_of}
use Rattle.csv.specs.declared.parser.State.{State}
use Rattle.csv.specs.declared.reader.Reader.{Reader}
use Rattle.csv.specs.declared.reader.Trim.TheVariants as trim

-- a reader of a slice of bytes
abbrev pub SliceReader : Type 0
SliceReader = Reader (Bor (List ℕ))

-- the bytes that a reader has left
abbrev pub bytes_of : SliceReader → Option (List ℕ)
bytes_of r = source_of (λ s. Some s.now) r

-- a reader that takes each record as it is, the first as the others, and has not failed
pub record IsRowReader (r : SliceReader) : Type 0 where
  pub ready : Ready r
  pub flexible : is_flexible r ≡ true
  pub trim : reader_trim r ≡ trim.None
  pub config : reader_config r ≡ default_config
  pub known : IsSome (bytes_of r)

-- the records of these bytes from a state
abbrev pub rows_from : State → Option (List ℕ) → List (List (List ℕ))
rows_from s None = []
rows_from s (Some xs) = records_from default_config (length xs + 1) s xs

-- the records that a reader has left
abbrev pub rows_of : SliceReader → List (List (List ℕ))
rows_of r = rows_from (reader_state r) (bytes_of r)

-- a read took the first of the records left, or there was none
abbrev pub TakesRow : Bool → List (List (List ℕ)) → List (List ℕ) → List (List (List ℕ)) → Type 0
TakesRow true old row new = old ≡ row ∷ new
TakesRow false old row new = old ≡ []
