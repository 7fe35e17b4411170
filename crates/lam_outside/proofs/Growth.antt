-- What callers of several writes need: how counts that rise and texts that grow go together.
use Rattle.std.proofs.Common.{ℕ, ◌+◌, ◌≤◌, List, ◌++◌, length, take, drop, subst, sym, arith, length-append}
use Rattle.std.specs.Prelude.{Option, Result, Ok, Err}
use Rattle.std.specs.Io.KnownBytes.{Appends}
use Rattle.std.proofs.KnownBytes.{Appends-trans, Appends-nil}
use Rattle.std.proofs.lemmas.List.{take-append-le}
use Rattle.std.proofs.Math.Seq.{take-add, take-append-add, take-length}
use Rattle.lam_outside.specs.Counts.{Rose}
use Rattle.lam_outside.specs.Told.{GrowsByPrefix, Delivers}

-- a count that rose before it grew further rose
pub Rose-then : (a b c : ℕ) → Rose a b → b ≤ c → Rose a c
Rose-then a b c first later = omega arith

-- a count that grew before it rose rose
pub Rose-after : (a b c : ℕ) → a ≤ b → Rose b c → Rose a c
Rose-after a b c first later = omega arith

-- the text up to a place, and then n bytes of the rest
pub Appends-more : (a b c : Option (List ℕ)) (text : List ℕ) (done n : ℕ)
    → Appends a b (take done text) → Appends b c (take n (drop done text)) → Appends a c (take (done + n) text)
Appends-more a b c text done n first second =
    subst (Appends a c) (sym (take-add done n text)) (Appends-trans a b c (take done text) (take n (drop done text)) first second)

-- a whole text is a prefix of itself
pub GrowsByPrefix-whole : (a b : Option (List ℕ)) (text : List ℕ) → Appends a b text → GrowsByPrefix a b text
GrowsByPrefix-whole a b text all = (length text, omega arith, subst (Appends a b) (sym (take-length text)) all)

-- a prefix of a text is one of any text that begins with it
pub GrowsByPrefix-longer : (a b : Option (List ℕ)) (xs ys : List ℕ) → GrowsByPrefix a b xs → GrowsByPrefix a b (xs ++ ys)
GrowsByPrefix-longer a b xs ys (n, within, grown) =
    (n, omega (arith, length-append xs ys), subst (Appends a b) (sym (take-append-le n xs ys within)) grown)

-- a prefix after a whole text is a prefix of both
pub GrowsByPrefix-after : (a b c : Option (List ℕ)) (xs ys : List ℕ) → Appends a b xs → GrowsByPrefix b c ys → GrowsByPrefix a c (xs ++ ys)
GrowsByPrefix-after a b c xs ys first (n, within, grown) = (
  length xs + n,
  omega (arith, length-append xs ys),
  subst (Appends a c) (sym (take-append-add xs ys n)) (Appends-trans a b c xs (take n ys) first grown),
)

-- nothing is a prefix of any text
pub GrowsByPrefix-none : (a : Option (List ℕ)) (text : List ℕ) → GrowsByPrefix a a text
GrowsByPrefix-none a text = (0, omega arith, Appends-nil a)

-- what a second write delivers after a whole first text, both deliver
pub Delivers-after : {E : Type 0} (a b c : Option (List ℕ)) (outcome : Result (Unit {0}) E) (xs ys : List ℕ)
    → Appends a b xs → Delivers b c outcome ys → Delivers a c outcome (xs ++ ys)
Delivers-after a b c (Ok u) xs ys first second = Appends-trans a b c xs ys first second
Delivers-after a b c (Err e) xs ys first second = GrowsByPrefix-after a b c xs ys first second
