-- Lists of fields, and the numbers that they stand for.
use Rattle.std.proofs.Common.{◌≡◌, ◌<◌, ◌+◌, ℕ, zero, suc, List, [], ◌∷◌, ◌++◌, length, map, get_or, Option, Some, None, ℤ, refl, ap, ◌∙◌, arith, drop, add_comm, Bool, true, false, nat_le, ◌==◌, if◌then◌else◌}
use Rattle.std.proofs.lemmas.List.{get_or-drop}
use Rattle.std.specs.List.{list_any}
use Rattle.std.proofs.lemmas.Bool.Decides.{nat_tests}
use Rattle.lam_stock.specs.Catalogue.{Fields, column, described, item_of, number_before, numbers_of}
use Rattle.lam_stock.specs.Field.{is_name, kind_of, number_of, without_blanks}
use Rattle.lam_stock.specs.Likeness.{has_name}
use Rattle.lam_stock.specs.declared.item.Item.{Item}

-- a column is the field at its place, with no blank at either end
pub column-field : (fs : Fields) (k : ℕ) → get_or (map without_blanks fs) k [] ≡ without_blanks (get_or fs k [])
column-field [] k = refl
column-field (f ∷ fs) zero = refl
column-field (f ∷ fs) (suc k) = column-field fs k

-- lists of as many fields that agree at each place are the same
pub same_fields : (xs ys : Fields) → length xs ≡ length ys → ((k : ℕ) → k < length xs → get_or xs k [] ≡ get_or ys k []) → xs ≡ ys
same_fields [] [] n h = refl
same_fields [] (y ∷ ys) n h = absurd (omega arith)
same_fields (x ∷ xs) [] n h = absurd (omega arith)
same_fields (x ∷ xs) (y ∷ ys) n h =
    let first : x ≡ y = h 0 (omega arith) in
    let rest = same_fields xs ys (omega arith) (λ k less. h (suc k) (omega arith)) in rw (first, rest) refl

-- one number more
pub numbers-more : (fs : Fields) (f : List ℕ) (ns : List ℤ) (n : ℤ) → numbers_of fs ≡ Some ns → number_of f ≡ Some n
    → numbers_of (fs ++ f ∷ []) ≡ Some (ns ++ n ∷ [])
numbers-more [] f ns n e h = let none : [] ≡ ns = cc in rw (h, ← none) refl
numbers-more (g ∷ fs) f ns n e h = by (number_of g) (numbers_of fs) refl refl e (λ (ms : List ℤ) (b : numbers_of fs ≡ Some ms). numbers-more fs f ms n b h)
  where
    by : (o : Option ℤ) (rest : Option (List ℤ)) → number_of g ≡ o → numbers_of fs ≡ rest → number_before o rest ≡ Some ns
        → ((ms : List ℤ) → numbers_of fs ≡ Some ms → numbers_of (fs ++ f ∷ []) ≡ Some (ms ++ n ∷ []))
        → number_before o (numbers_of (fs ++ f ∷ [])) ≡ Some (ns ++ n ∷ [])
    by None rest a b t more = cc t
    by (Some m) None a b t more = cc t
    by (Some m) (Some ms) a b t more = let whole : m ∷ ms ≡ ns = cc t in rw (more ms b, ← whole) refl

-- a number before what are no numbers
before-none : (o : Option ℤ) → number_before o None ≡ None
before-none None = refl
before-none (Some m) = refl

-- a field that is no number
pub numbers-none : (fs : Fields) (k : ℕ) → k < length fs → number_of (get_or fs k []) ≡ None → numbers_of fs ≡ None
numbers-none [] k less h = absurd (omega arith)
numbers-none (f ∷ fs) zero less h = rw h refl
numbers-none (f ∷ fs) (suc k) less h = rw (numbers-none fs k (omega arith) h) (before-none (number_of f))

-- the third field on, and so on
pub column-drop : (fs : Fields) (k n : ℕ) → get_or (drop n fs) k [] ≡ get_or fs (k + n) []
column-drop fs k n = get_or-drop n fs k [] ∙ ap (λ (j : ℕ). get_or fs j []) (add_comm n k)

-- what the fields of a record read as, where none of the causes of its name holds
pub item-described : (earlier : List Item) (fields : Fields) → length earlier < 64 → length fields ≡ 17
    → is_name (column fields 0) ≡ true → list_any (has_name (column fields 0)) earlier ≡ false
    → item_of earlier fields ≡ described (column fields 0) (kind_of (column fields 1)) (numbers_of (drop 2 fields))
item-described earlier fields few whole named fresh =
    let room : nat_le 64 (length earlier) ≡ false = grind (arith, nat_tests) in
    let columns : (length fields == 17) ≡ true = grind (arith, nat_tests) in
    rw (room, columns, named, fresh) refl

-- a field that reads as a name is one
pub name-read : (f name : List ℕ) → Some name ≡ (if is_name f then Some f else None) → (is_name f ≡ true) × (name ≡ f)
name-read f name e = by (is_name f) refl e
  where
    by : (b : Bool) → is_name f ≡ b → Some name ≡ (if b then Some f else None) → (is_name f ≡ true) × (name ≡ f)
    by true k h = let same : name ≡ f = cc h in (k, same)
    by false k h = cc h
