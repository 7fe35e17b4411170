-- The children of a split in order: each item once, and each is due when its turn comes.
use Rattle.std.proofs.Common.{◌≡◌, ◌≢◌, refl, sym, ◌∙◌, ap, subst, ℕ, zero, suc, ◌+◌, ◌<◌, ◌≤◌, ◌==◌, ◌||◌, ◌&&◌, not, List, [], ◌∷◌, ◌++◌, length, map, take, get_or, fold, All, Some, None, Bool, false, if◌then◌else◌, inl, inr, arith}
use Rattle.std.specs.List.{IsDistinct, AllByRecursion}
use Rattle.std.specs.List.Sorted.{IsPermutation}
use Rattle.std.proofs.lemmas.List.{length-map, take-map, get_or-take, length-take-le}
use Rattle.std.proofs.Math.Seq.{take-append_seam}
use Rattle.std.proofs.lemmas.List.Elements.{All-head, All-tail, All-cons, All-nil}
use Rattle.std.proofs.lemmas.Map.Keys.{IsDistinct-IsPermutation}
use Rattle.std.proofs.lemmas.Map.Views.{All-map-IsPermutation}
use Rattle.std.proofs.lemmas.Bool.{eq-eqb, ne_eqb, cases_eq, lt-ltb}
use Rattle.lam_stock.specs.declared.item.ItemNo.{ItemNo}
use Rattle.lam_tree.specs.declared.node.Seat.TheVariants as seat
use Rattle.lam_tree.specs.Reading.{none_had, and_had, due_item}
use Rattle.lam_search.specs.inside.Steps.{had_of}
use Rattle.lam_search.specs.inside.Ordered.{IsEachOnce}

-- what is so of each is so at a number
at_number : {X : Type 0} (P : X → Type 0) (xs : List X) (k : ℕ) (d : X) → AllByRecursion P xs → k < length xs → P (get_or xs k d)
at_number P [] k d all within = absurd (omega (arith, within))
at_number P (x ∷ rest) zero d all within = all.0
at_number P (x ∷ rest) (suc k) d all within = at_number P rest k d all.1 (omega (arith, within))

-- an item that is apart from those before it was not had
not-had : (had : ℕ → Bool) (items : List ItemNo) (k : ℕ) (d : ItemNo) → IsDistinct (λ (a b : ItemNo). b.0 == a.0) items → k < length items
    → fold (λ (h : ℕ → Bool) (item : ItemNo). and_had item h) had (take k items) (get_or items k d).0 ≡ had (get_or items k d).0
unfolding IsDistinct
not-had had [] k d apart within = absurd (omega (arith, within))
not-had had (x ∷ rest) zero d apart within = refl
not-had had (x ∷ rest) (suc k) d apart within =
    let i = get_or rest k d in
    not-had (and_had x had) rest k d apart.1 (omega (arith, within))
    ∙ ap (λ b. b || had i.0) (at_number (λ (y : ItemNo). (y.0 == x.0) ≡ false) rest k d apart.0 (omega (arith, within)))

known-at : (count : ℕ) (items : List ItemNo) (k : ℕ) (d : ItemNo) → All (λ item. item.0 < count) items → k < length items → (get_or items k d).0 < count
known-at count [] k d all within = absurd (omega (arith, within))
known-at count (x ∷ rest) zero d all within = All-head (λ (i : ItemNo). i.0 < count) x rest all
known-at count (x ∷ rest) (suc k) d all within = known-at count rest k d (All-tail (λ (i : ItemNo). i.0 < count) x rest all) (omega (arith, within))

is-due : (count : ℕ) (had : ℕ → Bool) (i : ItemNo) → i.0 < count → had i.0 ≡ false → due_item count had (seat.Item i) ≡ Some i
is-due count had i within new =
    ap (λ b. if b && not (had i.0) then Some i else None) (lt-ltb i.0 count within)
    ∙ ap (λ b. if not b then Some i else None) new

pub due-next : (count : ℕ) (items : List ItemNo) (k : ℕ) (d : ItemNo) → IsEachOnce count items → k < length items
    → due_item count (had_of (take k items)) (seat.Item (get_or items k d)) ≡ Some (get_or items k d)
due-next count items k d once within =
    is-due count (had_of (take k items)) (get_or items k d) (known-at count items k d once.known within)
    (not-had none_had items k d once.apart within)

pub within-next : (count : ℕ) (items : List ItemNo) (k : ℕ) (d : ItemNo) → IsEachOnce count items → k < length items → (get_or items k d).0 < count
within-next count items k d once within = known-at count items k d once.known within

-- ---- the keys of an order

abbrev pub item_of : ℕ × ℕ → ItemNo
item_of key = record { 0 = key.1 }

-- keys behind one have other numbers
others : (own : ℕ) (from : ℕ) (keys : List (ℕ × ℕ)) → own < from → ((k : ℕ) → k < length keys → (get_or keys k (0, 0)).1 ≡ from + k)
    → AllByRecursion (λ (y : ℕ × ℕ). (y.1 == own) ≡ false) keys
others own from [] less numbers = tt
others own from (y ∷ rest) less numbers =
    let first : y.1 ≡ from + 0 = numbers 0 (omega arith) in
    let other : y.1 ≢ own = λ same. omega (arith, first, same, less) in (
      ne_eqb y.1 own other,
      others own (suc from) rest (omega (arith, less)) (λ k within. numbers (suc k) (omega (arith, within)) ∙ (let e : from + suc k ≡ suc from + k = omega arith in e)),
    )

numbers-apart : (from : ℕ) (keys : List (ℕ × ℕ)) → ((k : ℕ) → k < length keys → (get_or keys k (0, 0)).1 ≡ from + k)
    → IsDistinct (λ (a b : ℕ × ℕ). b.1 == a.1) keys
unfolding IsDistinct
numbers-apart from [] numbers = tt
numbers-apart from (x ∷ rest) numbers =
    let first : x.1 ≡ from + 0 = numbers 0 (omega arith) in
    let later : (k : ℕ) → k < length rest → (get_or rest k (0, 0)).1 ≡ suc from + k
    = λ k within. numbers (suc k) (omega (arith, within)) ∙ (let e : from + suc k ≡ suc from + k = omega arith in e) in
    (others x.1 (suc from) rest (omega (arith, first)) later, numbers-apart (suc from) rest later)

numbers-known : (count from : ℕ) (keys : List (ℕ × ℕ)) → from + length keys ≤ count → ((k : ℕ) → k < length keys → (get_or keys k (0, 0)).1 ≡ from + k)
    → All (λ (item : ItemNo). item.0 < count) (map item_of keys)
numbers-known count from [] few numbers = All-nil (λ (item : ItemNo). item.0 < count)
numbers-known count from (x ∷ rest) few numbers =
    let first : x.1 ≡ from + 0 = numbers 0 (omega arith) in
    All-cons (λ (item : ItemNo). item.0 < count) (item_of x) (map item_of rest) (omega (arith, first, few))
    (numbers-known count (suc from) rest (omega (arith, few))
    (λ k within. numbers (suc k) (omega (arith, within)) ∙ (let e : from + suc k ≡ suc from + k = omega arith in e)))

items-apart : (keys : List (ℕ × ℕ)) → IsDistinct (λ (a b : ℕ × ℕ). b.1 == a.1) keys → IsDistinct (λ (a b : ItemNo). b.0 == a.0) (map item_of keys)
unfolding IsDistinct
items-apart [] apart = tt
items-apart (x ∷ rest) apart = (each rest apart.0, items-apart rest apart.1) where
  each : (keys : List (ℕ × ℕ)) → AllByRecursion (λ (y : ℕ × ℕ). (y.1 == x.1) ≡ false) keys
      → AllByRecursion (λ (y : ItemNo). (y.0 == (item_of x).0) ≡ false) (map item_of keys)
  each [] all = tt
  each (y ∷ more) all = (all.0, each more all.1)

flips : (x y : ℕ) → (y == x) ≡ (x == y)
flips x y = elim (cases_eq x y) [
  | inl same ↦ (eq-eqb y x (sym same) ∙ sym (eq-eqb x y same))
  | inr other ↦ (ne_eqb y x (λ same. other (sym same)) ∙ sym (ne_eqb x y other))
]

-- keys whose numbers count up, in another order
pub once-sorted : (count : ℕ) (keys sorted : List (ℕ × ℕ)) → length keys ≡ count → ((k : ℕ) → k < count → (get_or keys k (0, 0)).1 ≡ k)
    → IsPermutation keys sorted → length sorted ≡ length keys → IsEachOnce count (map item_of sorted)
once-sorted count keys sorted many numbers permuted long =
    let up : (k : ℕ) → k < length keys → (get_or keys k (0, 0)).1 ≡ 0 + k = λ k within. numbers k (omega (arith, many, within)) ∙ (let e : k ≡ 0 + k = omega arith in e) in
    record {
      many = length-map sorted item_of ∙ long ∙ many;
      known = All-map-IsPermutation item_of (λ (item : ItemNo). item.0 < count) keys sorted permuted
          (numbers-known count 0 keys (omega (arith, many)) up);
      apart = items-apart sorted (IsDistinct-IsPermutation (λ (a b : ℕ × ℕ). b.1 == a.1) (λ x y. flips x.1 y.1) keys sorted permuted (numbers-apart 0 keys up));
    }

-- some keys whose numbers count up, sorted, with others behind them
pub order-once : (count : ℕ) (keys sorted rest : List (ℕ × ℕ)) (items : List ItemNo) → count ≤ length keys → ((k : ℕ) → k < count → (get_or keys k (0, 0)).1 ≡ k)
    → IsPermutation (take count keys) sorted → length sorted ≡ length (take count keys) → items ≡ map item_of (sorted ++ rest)
    → IsEachOnce count (take count items)
order-once count keys sorted rest items within numbers permuted long is =
    let many : length (take count keys) ≡ count = length-take-le count keys within in
    let once = once-sorted count (take count keys) sorted many (λ k less. ap (λ key. key.1) (get_or-take count keys k (0, 0) less) ∙ numbers k less) permuted long in
    let same : take count items ≡ map item_of sorted
    = ap (take count) is ∙ take-map item_of count (sorted ++ rest)
    ∙ ap (map item_of) (ap (λ n. take n (sorted ++ rest)) (sym (long ∙ many)) ∙ take-append_seam sorted rest) in
    subst (IsEachOnce count) (sym same) once
