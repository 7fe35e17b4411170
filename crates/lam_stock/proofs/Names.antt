-- The names of the items of a catalogue: each is valid, and no two are the same.
use Rattle.std.proofs.Common.{◌≡◌, ◌<◌, ◌+◌, ℕ, zero, suc, Bool, true, false, not, nat_le, nat_lt, ◌==◌, List, [], ◌∷◌, ◌++◌, length, get_or, Option, Some, None, Result, Ok, Err, IsTrue, IsFalse, refl, sym, ap, ◌∙◌, arith, rules}
use Rattle.std.specs.Prelude.{if◌then◌else◌, drop, slice_get, ℤ}
use Rattle.std.specs.List.{list_all, list_any, position_from}
use Rattle.std.proofs.lemmas.Iterator.Adapters.{position_from-zero}
use Rattle.std.proofs.lemmas.List.Elements.{All-push}
use Rattle.std.proofs.lemmas.List.Folds.{list_any_at}
use Rattle.std.proofs.lemmas.List.Quantifiers.{all_pairs_push}
use Rattle.std.proofs.lemmas.Option.{get_or_from_slice_get, slice_get_within}
use Rattle.std.proofs.lemmas.Slice.Eq.{bytes_eq-Decides}
use Rattle.std.proofs.lemmas.Bool.Decides.{nat_tests}
use Rattle.lam_direction.specs.Circle.{CirclePoint}
use Rattle.lam_direction.specs.Reading.{direction_of}
use Rattle.lam_direction.specs.declared.direction.DirectionFault.{DirectionFault}
use Rattle.lam_direction.specs.declared.direction.DirectionFault.TheVariants as direction
use Rattle.lam_stock.specs.Catalogue.{Fields, at, column, described, directed, item_of, lamina_of, limited, numbers_of}
use Rattle.lam_stock.specs.Field.{is_name, is_name_byte, kind_of}
use Rattle.lam_stock.specs.Likeness.{has_name, place_of}
use Rattle.lam_stock.specs.Stock.{HaveNames}
use Rattle.lam_stock.specs.Tests.{limits_of}
use Rattle.lam_stock.proofs.Truth.{each-weaker}
use Rattle.lam_stock.specs.declared.fault.StockCause.{StockCause}
use Rattle.lam_stock.specs.declared.fault.StockCause.TheVariants as cause
use Rattle.lam_stock.specs.declared.item.Item.{Item}
use Rattle.lam_stock.specs.declared.item.Kind.{Kind}

-- ---- what a record reads as has the name in its first field

directed-name : (name : List ℕ) (kind : Kind) (ns : List ℤ) (d : Result CirclePoint DirectionFault) (i : Item) → Ok i ≡ directed name kind ns d → i.name ≡ name
directed-name name kind ns (Ok d) i e = cc
directed-name name kind ns (Err direction.Size) i e = cc e
directed-name name kind ns (Err direction.NotUnit) i e = cc e
directed-name name kind ns (Err direction.NotFirstHalf) i e = cc e

limited-name : (name : List ℕ) (kind : Kind) (ns : List ℤ) (l : Result (Unit {0}) StockCause) (i : Item) → Ok i ≡ limited name kind ns l → i.name ≡ name
limited-name name kind ns (Ok kept) i e = directed-name name kind ns (direction_of (at ns 11) (at ns 12) (at ns 13)) i e
limited-name name kind ns (Err why) i e = cc e

described-name : (name : List ℕ) (kind : Option Kind) (ns : Option (List ℤ)) (i : Item) → Ok i ≡ described name kind ns → i.name ≡ name
described-name name None ns i e = cc e
described-name name (Some kind) None i e = cc e
described-name name (Some kind) (Some ns) i e = limited-name name kind ns (limits_of (lamina_of ns) (at ns 14)) i e

-- it is a valid name that no earlier item has
item-name : (earlier : List Item) (fields : Fields) (i : Item) → Ok i ≡ item_of earlier fields
    → (is_name i.name ≡ true) × (list_any (has_name i.name) earlier ≡ false)
item-name earlier fields i e = by (nat_le 64 (length earlier)) (length fields == 17) (is_name name) (list_any (has_name name) earlier) refl refl e
  where
    name : List ℕ
    name = column fields 0

    rest : Result Item StockCause
    rest = described name (kind_of (column fields 1)) (numbers_of (drop 2 fields))

    by : (full whole valid twice : Bool) → is_name name ≡ valid → list_any (has_name name) earlier ≡ twice
        → Ok i ≡ (if full then Err cause.Many else if not whole then Err cause.Fields else if not valid then Err cause.Name else if twice then Err cause.Twice else rest)
        → (is_name i.name ≡ true) × (list_any (has_name i.name) earlier ≡ false)
    by true w v t ev et h = cc h
    by false false v t ev et h = cc h
    by false true false t ev et h = cc h
    by false true true true ev et h = cc h
    by false true true false ev et h =
        let same : i.name ≡ name = described-name name (kind_of (column fields 1)) (numbers_of (drop 2 fields)) i h in rw same (ev, et)

none-at : {X : Type 0} (p : X → Bool) (xs : List X) (k : ℕ) (d : X) → k < length xs → list_any p xs ≡ false → p (get_or xs k d) ≡ false
none-at p xs k d less none = by (p (get_or xs k d)) refl
  where
    by : (b : Bool) → p (get_or xs k d) ≡ b → b ≡ false
    by true e = sym (list_any_at p xs k d less e) ∙ none
    by false e = refl

-- an item more, with a name of its own
pub item-names : (earlier : List Item) (fields : Fields) (i : Item) → HaveNames earlier → Ok i ≡ item_of earlier fields → HaveNames (earlier ++ i ∷ [])
item-names earlier fields i names e =
    let name = item-name earlier fields i e in record {
      valid = All-push (λ j. IsTrue (is_name j.name)) earlier i names.valid (search rules);
      own = all_pairs_push (λ a b. IsFalse (has_name b.name a)) earlier i names.own (λ k d less. let no = none-at (has_name i.name) earlier k d less name.1 in search rules);
    }

-- ---- the item of a name

-- the first that passes a test, where one does and none before it
first-from : {X : Type 0} (test : X → Bool) (xs : List X) (i k : ℕ) (x : X) → slice_get xs k ≡ Some x → test x ≡ true
    → ((j : ℕ) → j < k → test (get_or xs j x) ≡ false) → position_from test i xs ≡ Some (k + i)
first-from test [] i k x here passes none = cc here
first-from test (y ∷ ys) i zero x here passes before = let same : y ≡ x = cc here in let none : i ≡ 0 + i = omega arith in rw (same, passes) (ap Some none)
first-from test (y ∷ ys) i (suc k) x here passes none =
    let no : test y ≡ false = none 0 (omega arith) in
    let next : k + (i + 1) ≡ suc k + i = omega arith in
    rw no (first-from test ys (i + 1) k x here passes (λ j less. none (suc j) (omega arith)) ∙ ap Some next)

-- the item at a place is the one that its name finds
pub place-own : (items : List Item) (k : ℕ) (i : Item) → HaveNames items → slice_get items k ≡ Some i → place_of i.name items ≡ Some k
place-own items k i names there =
    let same : k + 0 ≡ k = omega arith in
    position_from-zero (has_name i.name) items ∙ first-from (has_name i.name) items 0 k i there ((bytes_eq-Decides i.name i.name).1 refl) (λ j less. earlier j less) ∙ ap Some same
  where
    earlier : (j : ℕ) → j < k → has_name i.name (get_or items j i) ≡ false
    earlier j less =
        let here : get_or items k i ≡ i = get_or_from_slice_get items k i i there in
        let apart : IsFalse (has_name (get_or items k i).name (get_or items j i)) = names.own j k i less (slice_get_within items k i there) in
        rw here at apart

pub place-named : (items now : List Item) (k : ℕ) (i : Item) (name : List ℕ) → HaveNames items → items ≡ now → slice_get now k ≡ Some i → name ≡ i.name
    → place_of name now ≡ Some k
place-named items now k i name names same there e =
    let kept : HaveNames now = rw same at names in
    ap (λ n. place_of n now) e ∙ place-own now k i kept there

-- ---- the bytes of a name

-- each byte of a name is above a blank and a line's end
pub name-plain : (name : List ℕ) → IsTrue (is_name name) → list_all (λ b. nat_lt 32 b) name ≡ true
name-plain name valid = each-weaker is_name_byte (λ b. nat_lt 32 b) above name (named name valid)
  where
    named : (w : List ℕ) → IsTrue (is_name w) → list_all is_name_byte w ≡ true
    named w h = search rules

    above : (b : ℕ) → is_name_byte b ≡ true → nat_lt 32 b ≡ true
    above b h = grind (arith, nat_tests)
