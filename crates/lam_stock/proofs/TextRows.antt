-- The records of a text, one at a time.
use Rattle.std.proofs.Common.{◌≡◌, ◌≤◌, ◌<◌, ◌+◌, ℕ, zero, suc, Bool, true, false, List, [], ◌∷◌, length, Option, Some, None, refl, sym, ap, ◌∙◌, arith, add-one, if◌then◌else◌, IsSome}
use Rattle.csv.proofs.ReadFacts.{rows-end, rows-more}
use Rattle.csv.specs.Machine.{Read, ends_at_end, field_after, fields_after, is_end, next_record, step}
use Rattle.csv.specs.Reading.{Reached, ReadRecord, default_config, reader_state, records_from, records_next}
use Rattle.csv.specs.declared.parser.Config.{Config}
use Rattle.csv.specs.declared.parser.State.{State}
use Rattle.csv.specs.declared.parser.State.TheVariants as st
use Rattle.lam_stock.specs.inside.Rows.{IsRowReader, SliceReader, TakesRow, bytes_of, rows_from, rows_of}

-- what is left of a text after a record that is known
kept : (x p : Read) (n : ℕ) → Some x ≡ Some p → length x.2 ≤ n → length p.2 ≤ n
kept x p n e h = let same : x ≡ p = cc in rw (← same) h

-- the end of a text leaves nothing
ended : (b : Bool) (fields : List (List ℕ)) (p : Read) → (if b then Some (fields, st.StartRecord, []) else None) ≡ Some p
    → (p.1 ≡ st.StartRecord) × (p.2 ≡ [])
ended true fields p e = let same : (fields, st.StartRecord, []) ≡ p = cc in (ap (λ (q : Read). q.1) (sym same), ap (λ (q : Read). q.2) (sym same))
ended false fields p e = cc e

-- a read from a byte on takes at least that byte
shorter : (cfg : Config) (s : State) (fields : List (List ℕ)) (field : List ℕ) (c : ℕ) (rest : List ℕ) (p : Read)
    → next_record cfg s fields field (c ∷ rest) ≡ Some p → length p.2 ≤ length rest
unfolding next_record
shorter cfg s fields field c [] p e = by (is_end (step cfg s c).1) refl
  where
    by : (b : Bool) → is_end (step cfg s c).1 ≡ b → length p.2 ≤ 0
    by true k = kept _ p 0 (rw k at e) (omega arith)
    by false k = let last = ended _ _ p (rw k at e) in rw last.1 (omega arith)
shorter cfg s fields field c (d ∷ rest) p e = by (is_end (step cfg s c).1) refl (shorter cfg (step cfg s c).0 _ _ d rest p)
  where
    by : (b : Bool) → is_end (step cfg s c).1 ≡ b
        → (next_record cfg (step cfg s c).0 (fields_after (step cfg s c).1 fields field) (field_after (step cfg s c).1 c field) (d ∷ rest) ≡ Some p → length p.2 ≤ length rest)
        → length p.2 ≤ length (d ∷ rest)
    by true k more = kept _ p (length (d ∷ rest)) (rw k at e) (omega arith)
    by false k more = let less = more (rw k at e) in omega arith

-- a text with nothing left has no record
none_left : (cfg : Config) (n : ℕ) → records_from cfg n st.StartRecord [] ≡ []
unfolding records_from next_record
none_left cfg zero = refl
none_left cfg (suc n) = refl

-- a last record leaves nothing
last_read : (cfg : Config) (s : State) (p : Read) → next_record cfg s [] [] [] ≡ Some p → (p.1 ≡ st.StartRecord) × (p.2 ≡ [])
unfolding next_record
last_read cfg s p e = ended (ends_at_end s) _ p e

-- any number that is above the length of a text is enough to read its records
enough : (cfg : Config) (n m : ℕ) (s : State) (xs : List ℕ) → length xs < n → length xs < m → records_from cfg n s xs ≡ records_from cfg m s xs
unfolding records_from
enough cfg zero m s xs hn hm = absurd (omega arith)
enough cfg (suc n) zero s xs hn hm = absurd (omega arith)
enough cfg (suc n) (suc m) s [] hn hm = by (next_record cfg s [] [] []) refl
  where
    by : (o : Option Read) → next_record cfg s [] [] [] ≡ o → records_next (records_from cfg n) o ≡ records_next (records_from cfg m) o
    by None e = refl
    by (Some p) e =
        let last = last_read cfg s p e in
        ap (λ (rows : List (List (List ℕ))). p.0 ∷ rows) (rw (last.0, last.1) (none_left cfg n ∙ sym (none_left cfg m)))
enough cfg (suc n) (suc m) s (c ∷ rest) hn hm = by (next_record cfg s [] [] (c ∷ rest)) refl (λ (p : Read) (a : length p.2 < n) (b : length p.2 < m). enough cfg n m p.1 p.2 a b)
  where
    by : (o : Option Read) → next_record cfg s [] [] (c ∷ rest) ≡ o
        → ((p : Read) → length p.2 < n → length p.2 < m → records_from cfg n p.1 p.2 ≡ records_from cfg m p.1 p.2)
        → records_next (records_from cfg n) o ≡ records_next (records_from cfg m) o
    by None e more = refl
    by (Some p) e more =
        let less = shorter cfg s [] [] c rest p e in
        ap (λ (rows : List (List (List ℕ))). p.0 ∷ rows) (more p (omega arith) (omega arith))

-- the records of a text are the first and those of what is left after it
pub first_row : (s : State) (xs : List ℕ) (p : Read) → next_record default_config s [] [] xs ≡ Some p
    → rows_from s (Some xs) ≡ p.0 ∷ rows_from p.1 (Some p.2)
unfolding records_from
first_row s [] p e =
    let last = last_read default_config s p e in
    rw e (ap (λ (rows : List (List (List ℕ))). p.0 ∷ rows) (rw (last.0, last.1) (none_left default_config 0 ∙ sym (none_left default_config 1))))
first_row s (c ∷ rest) p e =
    let less = shorter default_config s [] [] c rest p e in
    rw (add-one, e) (ap (λ (rows : List (List (List ℕ))). p.0 ∷ rows) (enough default_config (length (c ∷ rest)) (length p.2 + 1) p.1 p.2 (omega arith) (omega arith)))

-- a text that gives no record has none
pub no_row : (s : State) (xs : List ℕ) → next_record default_config s [] [] xs ≡ None → rows_from s (Some xs) ≡ []
unfolding records_from
no_row s xs e = rw (add-one, e) refl

-- an option that has a value
some_of : {X : Type 0} (o : Option X) → IsSome o → (x : X) × (o ≡ Some x)
some_of None h = cc h
some_of (Some x) h = (x, refl)

-- one record that was reached is the first of the records
reached-one : (s s2 : State) (xs ys : List ℕ) (row : List (List ℕ)) → Reached default_config s xs (row ∷ []) s2 ys
    → rows_from s (Some xs) ≡ row ∷ rows_from s2 (Some ys)
unfolding Reached
reached-one s s2 xs ys row h = rw (h.2, ← h.3.0, ← h.3.1) (first_row s xs h.0 h.1)

-- nothing was reached yet
reached-none : (s : State) (xs : List ℕ) → Reached default_config s xs [] s xs
unfolding Reached
reached-none s xs = (refl, refl)

-- a read that found a record takes it off the records left
takes-row : (a b : SliceReader) (row : List (List ℕ)) → IsRowReader a → ReadRecord (λ s. Some s.now) a b true row → rows_of a ≡ row ∷ rows_of b
takes-row a b row h r =
    let y = some_of (bytes_of a) h.known in
    let m = rows-more (λ s. Some s.now) a b row default_config (reader_state a) y.0 y.0 [] h.config y.1 (reached-none _ _) r in
    rw (y.1, m.1) (reached-one _ _ _ _ row m.2)

-- a read that found none ends the records left
takes-none : (a b : SliceReader) (row : List (List ℕ)) → IsRowReader a → ReadRecord (λ s. Some s.now) a b false row → rows_of a ≡ []
takes-none a b row h r =
    let y = some_of (bytes_of a) h.known in
    rw y.1 (no_row (reader_state a) y.0 (rows-end (λ s. Some s.now) a b row default_config y.0 h.config y.1 r))

-- what a read of a record does to the records left
pub takes : (a b : SliceReader) (found : Bool) (row : List (List ℕ)) → IsRowReader a → ReadRecord (λ s. Some s.now) a b found row
    → TakesRow found (rows_of a) row (rows_of b)
takes a b true row h r = takes-row a b row h r
takes a b false row h r = takes-none a b row h r
