-- How lines are read: each reader answers what it reads with the lines that are left, or the lines from the faulty one on.
use Rattle.std.specs.Prelude.{ℕ, zero, suc, Bool, List, [], ◌∷◌, Option, Some, None, Result, Ok, Err, if◌then◌else◌}

abbrev pub Lines : Type 0
Lines = List (List ℕ)

abbrev pub Got : Type 0 → Type 0
Got X = Result (X × Lines) Lines

-- go on with what was read
abbrev pub then_got : {X Y : Type 0} → Got X → (X → Lines → Got Y) → Got Y
then_got (Ok (x, rest)) next = next x rest
then_got (Err left) next = Err left

-- the next line, by a reader of lines
abbrev pub line_at : {X : Type 0} → (List ℕ → Option X) → Lines → Got X
line_at read [] = Err []
line_at read (line ∷ rest) = elim (read line) [ Some x ↦ Ok (x, rest) | None ↦ Err (line ∷ rest) ]

-- in one way or another, as the next line says
abbrev pub by_next : {X : Type 0} → (List ℕ → Bool) → (one other : Lines → Got X) → Lines → Got X
by_next test one other [] = Err []
by_next test one other (line ∷ rest) = if test line then one (line ∷ rest) else other (line ∷ rest)

-- so many lines, each by a reader of its number
abbrev pub listed_at : {X : Type 0} → (ℕ → List ℕ → Option X) → (from count : ℕ) → Lines → Got (List X)
listed_at read from zero lines = Ok ([], lines)
listed_at read from (suc count) lines =
    then_got (line_at (read from) lines) (λ x rest. then_got (listed_at read (suc from) count rest) (λ xs rest. Ok (x ∷ xs, rest)))
