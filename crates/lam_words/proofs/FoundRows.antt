-- What clap found for a name, once a value of another name or of its own is added.
use Rattle.std.proofs.Common.{ℕ, ◌≡◌, ◌∙◌, ap, refl, List, [], ◌∷◌, ◌++◌, Bool, true, false, Option, Some, None, option_map, is_some, codes}
use Rattle.std.specs.Prelude.{if◌then◌else◌, find, slice_get, ◌||◌}
use Rattle.std.specs.Option.{option_or}
use Rattle.std.specs.Str.{bytes_eq}
use Rattle.std.proofs.lemmas.List.Folds.{find-append}
use Rattle.clap.specs.Walk.{Row, at_row, more_values, with_values, without, has_row}
use Rattle.clap.specs.declared.parser.matches.ValueSource.TheVariants.{CommandLine}
use Rattle.clap.specs.declared.builder.value_parser.Reading.TheVariants.{AsWritten}
use Rattle.lam_words.specs.Sorting.{Sorted}

-- the row of a name, with its one value
abbrev pub row_for : List ℕ → List ℕ → Row
row_for name v = record { id = name; values = v ∷ []; count = None; source = Some CommandLine; reading = AsWritten }

abbrev pub found : List ℕ → List Row → Option Row
found name rows = find (λ r. bytes_eq r.id name) rows

-- the rows after the one use of a name
abbrev pub added : List ℕ → List ℕ → List Row → List Row
added name v rows = with_values name AsWritten CommandLine (v ∷ []) (without name rows)

-- the changed row is not there
pub at_row-none : (name : List ℕ) (change : Row → List Row) (missing rows : List Row) → found name rows ≡ None → at_row name change missing rows ≡ rows ++ missing
at_row-none name change missing [] none = refl
at_row-none name change missing (r ∷ rows) none = go (at_row-none name change missing rows) (bytes_eq r.id name) none
  where
    go : (found name rows ≡ None → at_row name change missing rows ≡ rows ++ missing) → (b : Bool) → (if b then Some r else found name rows) ≡ None
        → (if b then change r ++ rows else r ∷ at_row name change missing rows) ≡ r ∷ (rows ++ missing)
    go later true none = cc
    go later false none = ap (λ xs. r ∷ xs) (later none)

pub has_row-found : (name : List ℕ) (rows : List Row) → has_row name rows ≡ is_some (found name rows)
has_row-found name [] = refl
has_row-found name (r ∷ rows) = go (has_row-found name rows) (bytes_eq r.id name)
  where
    go : has_row name rows ≡ is_some (found name rows) → (b : Bool) → (b || has_row name rows) ≡ is_some (if b then Some r else found name rows)
    go later true = refl
    go later false = later

append-nothing : (rows : List Row) → rows ++ [] ≡ rows
append-nothing [] = refl
append-nothing (r ∷ rows) = ap (λ xs. r ∷ xs) (append-nothing rows)

pub added-none : (name v : List ℕ) (rows : List Row) → found name rows ≡ None → added name v rows ≡ rows ++ row_for name v ∷ []
added-none name v rows none =
    let same : without name rows ≡ rows = at_row-none name (λ _. []) [] rows none ∙ append-nothing rows in
    ap (with_values name AsWritten CommandLine (v ∷ [])) same ∙ at_row-none name (more_values CommandLine (v ∷ [])) (row_for name v ∷ []) rows none

-- another name is found as before
pub found-other : (name v other : List ℕ) (rows : List Row) (o : Option Row) → found name rows ≡ None → bytes_eq name other ≡ false → found other rows ≡ o → found other (added name v rows) ≡ o
found-other name v other rows o none apart was =
    ap (found other) (added-none name v rows none) ∙ (find-append (λ r. bytes_eq r.id other) rows (row_for name v ∷ []) ∙ go (found other rows) (bytes_eq name other) apart ∙ was)
  where
    go : (x : Option Row) (b : Bool) → b ≡ false → option_or x (if b then Some (row_for name v) else None) ≡ x
    go x true e = cc
    go None false e = refl
    go (Some r) false e = refl

-- the name is found with its value
pub found-added : (name v : List ℕ) (rows : List Row) → found name rows ≡ None → bytes_eq name name ≡ true → found name (added name v rows) ≡ Some (row_for name v)
found-added name v rows none same =
    ap (found name) (added-none name v rows none) ∙ (find-append (λ r. bytes_eq r.id name) rows (row_for name v ∷ []) ∙ go (found name rows) (bytes_eq name name) none same)
  where
    go : (x : Option Row) (b : Bool) → x ≡ None → b ≡ true → option_or x (if b then Some (row_for name v) else None) ≡ Some (row_for name v)
    go None true e t = refl
    go None false e t = cc
    go (Some r) b e t = cc

-- what clap found is what was sorted
pub record HasRows (rows : List Row) (s : Sorted) : Type 0 where
  pub mode : found (codes "mode") rows ≡ option_map (row_for (codes "mode")) (slice_get s.texts 0)
  pub first : found (codes "first") rows ≡ option_map (row_for (codes "first")) (slice_get s.texts 1)
  pub second : found (codes "second") rows ≡ option_map (row_for (codes "second")) (slice_get s.texts 2)
  pub third : found (codes "third") rows ≡ option_map (row_for (codes "third")) (slice_get s.texts 3)
  pub guide : found (codes "guide") rows ≡ option_map (row_for (codes "guide")) s.guide
  pub nodes : found (codes "nodes") rows ≡ option_map (row_for (codes "nodes")) s.nodes

pub has_guide : (v : List ℕ) (rows : List Row) (t : List (List ℕ)) (n : Option (List ℕ)) → HasRows rows (record { texts = t; guide = None; nodes = n })
    → HasRows (added (codes "guide") v rows) (record { texts = t; guide = Some v; nodes = n })
has_guide v rows t n h = record {
  mode = found-other (codes "guide") v (codes "mode") rows _ h.guide refl h.mode;
  first = found-other (codes "guide") v (codes "first") rows _ h.guide refl h.first;
  second = found-other (codes "guide") v (codes "second") rows _ h.guide refl h.second;
  third = found-other (codes "guide") v (codes "third") rows _ h.guide refl h.third;
  guide = found-added (codes "guide") v rows h.guide refl;
  nodes = found-other (codes "guide") v (codes "nodes") rows _ h.guide refl h.nodes;
}

pub has_nodes : (v : List ℕ) (rows : List Row) (t : List (List ℕ)) (g : Option (List ℕ)) → HasRows rows (record { texts = t; guide = g; nodes = None })
    → HasRows (added (codes "nodes") v rows) (record { texts = t; guide = g; nodes = Some v })
has_nodes v rows t g h = record {
  mode = found-other (codes "nodes") v (codes "mode") rows _ h.nodes refl h.mode;
  first = found-other (codes "nodes") v (codes "first") rows _ h.nodes refl h.first;
  second = found-other (codes "nodes") v (codes "second") rows _ h.nodes refl h.second;
  third = found-other (codes "nodes") v (codes "third") rows _ h.nodes refl h.third;
  guide = found-other (codes "nodes") v (codes "guide") rows _ h.nodes refl h.guide;
  nodes = found-added (codes "nodes") v rows h.nodes refl;
}

pub has_mode : (v : List ℕ) (rows : List Row) (g n : Option (List ℕ)) → HasRows rows (record { texts = []; guide = g; nodes = n })
    → HasRows (added (codes "mode") v rows) (record { texts = v ∷ []; guide = g; nodes = n })
has_mode v rows g n h = record {
  mode = found-added (codes "mode") v rows h.mode refl;
  first = found-other (codes "mode") v (codes "first") rows _ h.mode refl h.first;
  second = found-other (codes "mode") v (codes "second") rows _ h.mode refl h.second;
  third = found-other (codes "mode") v (codes "third") rows _ h.mode refl h.third;
  guide = found-other (codes "mode") v (codes "guide") rows _ h.mode refl h.guide;
  nodes = found-other (codes "mode") v (codes "nodes") rows _ h.mode refl h.nodes;
}

pub has_first : (a v : List ℕ) (rows : List Row) (g n : Option (List ℕ)) → HasRows rows (record { texts = a ∷ []; guide = g; nodes = n })
    → HasRows (added (codes "first") v rows) (record { texts = a ∷ v ∷ []; guide = g; nodes = n })
has_first a v rows g n h = record {
  mode = found-other (codes "first") v (codes "mode") rows _ h.first refl h.mode;
  first = found-added (codes "first") v rows h.first refl;
  second = found-other (codes "first") v (codes "second") rows _ h.first refl h.second;
  third = found-other (codes "first") v (codes "third") rows _ h.first refl h.third;
  guide = found-other (codes "first") v (codes "guide") rows _ h.first refl h.guide;
  nodes = found-other (codes "first") v (codes "nodes") rows _ h.first refl h.nodes;
}

pub has_second : (a b v : List ℕ) (rows : List Row) (g n : Option (List ℕ)) → HasRows rows (record { texts = a ∷ b ∷ []; guide = g; nodes = n })
    → HasRows (added (codes "second") v rows) (record { texts = a ∷ b ∷ v ∷ []; guide = g; nodes = n })
has_second a b v rows g n h = record {
  mode = found-other (codes "second") v (codes "mode") rows _ h.second refl h.mode;
  first = found-other (codes "second") v (codes "first") rows _ h.second refl h.first;
  second = found-added (codes "second") v rows h.second refl;
  third = found-other (codes "second") v (codes "third") rows _ h.second refl h.third;
  guide = found-other (codes "second") v (codes "guide") rows _ h.second refl h.guide;
  nodes = found-other (codes "second") v (codes "nodes") rows _ h.second refl h.nodes;
}

pub has_third : (a b d v : List ℕ) (rows : List Row) (g n : Option (List ℕ)) → HasRows rows (record { texts = a ∷ b ∷ d ∷ []; guide = g; nodes = n })
    → HasRows (added (codes "third") v rows) (record { texts = a ∷ b ∷ d ∷ v ∷ []; guide = g; nodes = n })
has_third a b d v rows g n h = record {
  mode = found-other (codes "third") v (codes "mode") rows _ h.third refl h.mode;
  first = found-other (codes "third") v (codes "first") rows _ h.third refl h.first;
  second = found-other (codes "third") v (codes "second") rows _ h.third refl h.second;
  third = found-added (codes "third") v rows h.third refl;
  guide = found-other (codes "third") v (codes "guide") rows _ h.third refl h.guide;
  nodes = found-other (codes "third") v (codes "nodes") rows _ h.third refl h.nodes;
}

pub no_rows : HasRows [] (record { texts = []; guide = None; nodes = None })
no_rows = record { mode = refl; first = refl; second = refl; third = refl; guide = refl; nodes = refl }
