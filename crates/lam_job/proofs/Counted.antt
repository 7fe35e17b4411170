-- How many counts a job can have before its first fault: their keys are apart, and each is the name of an item.
use Rattle.std.proofs.Common.{suc, ◌≡◌, refl, ap, sym, subst, ◌∙◌, ℕ, ◌+◌, ◌≤◌, List, [], ◌∷◌, ◌++◌, length, map, Bool, true, false, ◌||◌, cond, bytes_eq, Option, Some, None, option_map, String, Global, string_bytes, nat_cmp, Less, append_assoc, length-append, arith}
use Rattle.std.specs.Cmp.Lexicographic.{slice_cmp}
use Rattle.std.specs.List.{list_any, position_from, AllByRecursion}
use Rattle.std.specs.List.Sorted.{IsStrictlySortedBy}
use Rattle.std.specs.Map.{keys_of}
use Rattle.std.specs.Option.{is_some}
use Rattle.std.specs.Ordering.{eq_by_cmp}
use Rattle.std.specs.String.{string_cmp}
use Rattle.std.proofs.lemmas.Bool.{false≢true}
use Rattle.std.proofs.lemmas.Cmp.{eq_by_cmp_equiv, nat_list_cmp_total}
use Rattle.std.proofs.lemmas.Iterator.Adapters.{position_from-zero}
use Rattle.std.proofs.lemmas.Map.Keys.{IsDistinct-from_sorted}
use Rattle.std.proofs.lemmas.Map.Made.{length-le_from_is_member}
use Rattle.std.proofs.lemmas.Slice.Eq.{bytes_eq-Decides}
use Rattle.toml.specs.declared.value.Value.{Value}
use Rattle.lam_stock.specs.declared.item.Item.{Item}
use Rattle.lam_stock.specs.Likeness.{has_name, place_of}
use Rattle.toml.specs.View.{view, members_view}
use Rattle.lam_stock.specs.declared.item.ItemNo.{ItemNo}
use Rattle.lam_job.specs.declared.fault.JobCause.{JobCause}
use Rattle.lam_job.specs.declared.fault.JobFault.{JobFault}
use Rattle.lam_job.specs.declared.fault.JobKey.TheVariants as key
use Rattle.lam_job.specs.declared.fault.JobTable.TheVariants as at
use Rattle.lam_job.specs.JobOf.{count_cause, count_fault, count_of, counts_from, counts_of, fault_at, item_named, numbered}

abbrev pub Entry : Type 0
Entry = String Global × Value

-- two texts are the same, by their order
abbrev same : List ℕ → List ℕ → Bool
same = eq_by_cmp (slice_cmp nat_cmp)

-- ---- a text names an item where some item has that name

first_is : (b : Bool) (n : ℕ) (r : Option ℕ) (rest : Bool) → is_some r ≡ rest → is_some (cond b (Some n) r) ≡ (b || rest)
first_is true n r rest e = refl
first_is false n r rest e = e

position-some : (p : Item → Bool) (n : ℕ) (items : List Item) → is_some (position_from p n items) ≡ list_any p items
position-some p n [] = refl
position-some p n (i ∷ items) = first_is (p i) n (position_from p (n + 1) items) (list_any p items) (position-some p (n + 1) items)

some-mapped : {A B : Type 0} (f : A → B) (o : Option A) → is_some (option_map f o) ≡ is_some o
some-mapped f None = refl
some-mapped f (Some a) = refl

is_named : (stock : List Item) (k : List ℕ) → is_some (item_named stock k) ≡ list_any (has_name k) stock
is_named stock k = some-mapped _ (place_of k stock) ∙ (ap is_some (position_from-zero (has_name k) stock) ∙ position-some (has_name k) 0 stock)

or_right : (a : Bool) (b : Bool) → b ≡ true → (a || b) ≡ true
or_right true b e = refl
or_right false b e = e

at_item : (b : Bool) (name k q : List ℕ) (more rest : Bool) → b ≡ bytes_eq name k → same q k ≡ true → (b || more) ≡ true → (more ≡ true → rest ≡ true)
    → (same q name || rest) ≡ true
at_item true name k q more rest is e h next =
    let alike : name ≡ k = (bytes_eq-Decides name k).0 (sym is) in
    subst (λ n. (same q n || rest) ≡ true) (sym alike) (rw e refl)
at_item false name k q more rest is e h next = or_right (same q name) rest (next h)

item_has : (stock : List Item) (k q : List ℕ) → same q k ≡ true → list_any (has_name k) stock ≡ true → list_any (same q) (map (λ i. i.name) stock) ≡ true
item_has [] k q e h = h
item_has (i ∷ stock) k q e h =
    at_item (bytes_eq i.name k) i.name k q (list_any (has_name k) stock) (list_any (same q) (map (λ j. j.name) stock)) refl e h (item_has stock k q e)

-- ---- keys that each name an item

abbrev pub AllNamed : List Item → List Entry → Type 0
AllNamed stock [] = Unit {0}
AllNamed stock (e ∷ es) = (is_some (item_named stock (string_bytes e.0)) ≡ true) × AllNamed stock es

named-push : (stock : List Item) (es : List Entry) (e : Entry) → AllNamed stock es → is_some (item_named stock (string_bytes e.0)) ≡ true → AllNamed stock (es ++ e ∷ [])
named-push stock [] e all h = (h, tt)
named-push stock (x ∷ es) e all h = (all.0, named-push stock es e all.1 h)

at_entry : (b : Bool) (stock : List Item) (k q : List ℕ) (rest : Bool) → b ≡ same q k → is_some (item_named stock k) ≡ true → (b || rest) ≡ true
    → (rest ≡ true → list_any (same q) (map (λ i. i.name) stock) ≡ true) → list_any (same q) (map (λ i. i.name) stock) ≡ true
at_entry true stock k q rest is h e next = item_has stock k q (sym is) (sym (is_named stock k) ∙ h)
at_entry false stock k q rest is h e next = next e

among : (stock : List Item) (es : List Entry) (q : List ℕ) → AllNamed stock es → list_any (same q) (map string_bytes (keys_of es)) ≡ true
    → list_any (same q) (map (λ i. i.name) stock) ≡ true
among stock [] q all e = absurd (false≢true e)
among stock (x ∷ es) q all e =
    at_entry (same q (string_bytes x.0)) stock (string_bytes x.0) q (list_any (same q) (map string_bytes (keys_of es))) refl all.0 e (among stock es q all.1)

-- ---- keys in order

below : (k : String Global) (es rest : List Entry) → AllByRecursion (λ y. string_cmp k y ≡ Less) (keys_of (es ++ rest))
    → AllByRecursion (λ y. slice_cmp nat_cmp (string_bytes k) y ≡ Less) (map string_bytes (keys_of es))
below k [] rest h = tt
below k (x ∷ es) rest h = (h.0, below k es rest h.1)

sorted : (es rest : List Entry) → IsStrictlySortedBy string_cmp (keys_of (es ++ rest)) → IsStrictlySortedBy (slice_cmp nat_cmp) (map string_bytes (keys_of es))
unfolding IsStrictlySortedBy
sorted [] rest h = tt
sorted (x ∷ es) rest h = (below x.0 es rest h.0, sorted es rest h.1)

keys-length : (es : List Entry) → length (map string_bytes (keys_of es)) ≡ length es
keys-length [] = refl
keys-length (x ∷ es) = ap suc (keys-length es)

names-length : (stock : List Item) → length (map (λ i. i.name) stock) ≡ length stock
names-length [] = refl
names-length (i ∷ stock) = ap suc (names-length stock)

at_most_stock : (stock : List Item) (es rest : List Entry) → IsStrictlySortedBy string_cmp (keys_of (es ++ rest)) → AllNamed stock es → length es ≤ length stock
at_most_stock stock es rest order all =
    let le : length (map string_bytes (keys_of es)) ≤ length (map (λ i. i.name) stock)
    = length-le_from_is_member (eq_by_cmp_equiv nat_list_cmp_total) (map string_bytes (keys_of es)) (map (λ i. i.name) stock)
    (IsDistinct-from_sorted (slice_cmp nat_cmp) (map string_bytes (keys_of es)) (sorted es rest order)) (λ q e. among stock es q all e) in
    omega (arith, le, keys-length es, names-length stock)

-- ---- on the way through a table

-- of all entries some are left, and those before them, as many as a number, name items
pub record Passed (stock : List Item) (all rest : List Entry) (n : ℕ) : Type 0 where
  pub before : List Entry
  pub split : before ++ rest ≡ all
  pub number : length before ≡ n
  pub named : AllNamed stock before

pub passed-none : (stock : List Item) (all : List Entry) → Passed stock all all 0
passed-none stock all = record { before = []; split = refl; number = refl; named = tt }

pub passed-more : (stock : List Item) (all rest : List Entry) (e : Entry) (n : ℕ) → Passed stock all (e ∷ rest) n → is_some (item_named stock (string_bytes e.0)) ≡ true
    → Passed stock all rest (n + 1)
passed-more stock all rest e n p named = record {
  before = p.before ++ e ∷ [];
  split = append_assoc p.before (e ∷ []) rest ∙ p.split;
  number = length-append p.before (e ∷ []) ∙ ap (λ m. m + 1) p.number;
  named = named-push stock p.before e p.named named;
}

pub passed-few : (stock : List Item) (all rest : List Entry) (n : ℕ) → Passed stock all rest n → IsStrictlySortedBy string_cmp (keys_of all) → n ≤ length stock
passed-few stock all rest n p order =
    let le = at_most_stock stock p.before rest (subst (λ es. IsStrictlySortedBy string_cmp (keys_of es)) (sym p.split) order) p.named in
    omega (arith, le, p.number)

-- ---- a count, and those left behind it

module _ (stock : List Item) (k : String Global) (v : Value) (rest : List Entry) where
  pub counted-kept : (n : ℕ) (all : Option JobFault) → count_cause stock (string_bytes k, view v) ≡ None
      → counts_from stock n (members_view ((k, v) ∷ rest)) ≡ all → counts_from stock (n + 1) (members_view rest) ≡ all
  unfolding count_fault
  counted-kept n all kept inv = rw kept at inv

  pub counted-broken : (n : ℕ) (all : Option JobFault) (why : JobCause) → count_cause stock (string_bytes k, view v) ≡ Some why
      → counts_from stock n (members_view ((k, v) ∷ rest)) ≡ all → all ≡ Some (fault_at (numbered at.Counts n) key.Count why)
  unfolding count_fault
  counted-broken n all why broken inv = sym (rw broken at inv)

  pub counted-given : (y : ItemNo × ℕ) (done all : List (ItemNo × ℕ)) → count_of stock (string_bytes k, view v) ≡ Some y
      → done ++ counts_of stock (members_view ((k, v) ∷ rest)) ≡ all → (done ++ y ∷ []) ++ counts_of stock (members_view rest) ≡ all
  counted-given y done all some inv = append_assoc done (y ∷ []) _ ∙ (rw some at inv)

pub is_named-from : {o : Option ItemNo} {i : ItemNo} → o ≡ Some i → is_some o ≡ true
is_named-from e = rw e refl
