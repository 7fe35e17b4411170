-- A job that bytes mean beside a catalogue is one of that catalogue.
use Rattle.std.proofs.Common.{◌≡◌, ℕ, ◌≤◌, ◌<◌, ◌^◌, Bool, true, false, nat_lt, List, [], ◌∷◌, length, map, Option, Some, None, Ok, refl, subst, ◌∙◌, All, arith, bit_or, bit_and}
use Rattle.std.specs.Prelude.{IfSome, filter_map}
use Rattle.std.specs.List.{cons_option}
use Rattle.std.specs.Option.{option_map, option_and_then, unwrap_or}
use Rattle.std.proofs.lemmas.Bool.Decides.{nat_tests}
use Rattle.std.proofs.lemmas.List.Elements.{All-cons, All-head, All-nil, All-tail}
use Rattle.std.proofs.lemmas.List.Quantifiers.{position-Some}
use Rattle.std.proofs.lemmas.Nat.{and_le_l, and_or_apart, pow_apart}
use Rattle.toml.specs.Data.{Data, Members, as_str}
use Rattle.lam_stock.specs.declared.item.Item.{Item}
use Rattle.lam_stock.specs.declared.item.ItemNo.{ItemNo}
use Rattle.lam_stock.specs.Likeness.{has_name, place_of}
use Rattle.lam_job.specs.declared.fault.JobFault.{JobFault}
use Rattle.lam_job.specs.declared.fault.JobKey.{JobKey}
use Rattle.lam_job.specs.declared.fault.JobKey.TheVariants as key
use Rattle.lam_job.specs.declared.fault.JobTable.TheVariants as table
use Rattle.lam_job.specs.JobData.{JobData}
use Rattle.lam_job.specs.JobOf.{as_list, bits_of, count_of, data_of, document_of, entries_of, item_named, item_of, items_if, job_fault, job_of, job_of_document, set_of, settled, table_in, under, value_at}
use Rattle.lam_job.specs.Schedule.{HoldsKnown, IsJobFor}

module _ (stock : List Item) where
  abbrev IsOne : ItemNo → Type 0
  IsOne ply = ply.0 < length stock

  -- ---- an item that is named is one of the catalogue

  placed : (d : Item) (name : List ℕ) (place : Option ℕ) → place_of name stock ≡ place → IfSome place (λ k. k < length stock)
  placed d name None e = tt
  placed d name (Some k) e = (position-Some (has_name name) stock k d e).0

  number_of : (place : Option ℕ) → IfSome place (λ k. k < length stock)
      → IfSome (option_map (λ (k : ℕ). let ply : ItemNo = record { 0 = k } in ply) place) IsOne
  number_of None within = tt
  number_of (Some k) within = within

  named_of : (items : List Item) → items ≡ stock → (name : List ℕ) → IfSome (item_named stock name) IsOne
  named_of [] e name = subst (λ (s : List Item). IfSome (item_named s name) (λ ply. ply.0 < length s)) e tt
  named_of (d ∷ rest) e name = number_of (place_of name stock) (placed d name (place_of name stock) refl)

  pub named_is_one : (name : List ℕ) → IfSome (item_named stock name) IsOne
  named_is_one name = named_of stock refl name

  -- ---- lists of named items

  then_one : {A : Type 0} (f : A → Option ItemNo) → ((a : A) → IfSome (f a) IsOne) → (o : Option A) → IfSome (option_and_then f o) IsOne
  then_one f each None = tt
  then_one f each (Some a) = each a

  item_is_one : (d : Data) → IfSome (item_of stock d) IsOne
  item_is_one d = then_one (item_named stock) named_is_one (as_str d)

  put_one : (o : Option ItemNo) (rest : List ItemNo) → IfSome o IsOne → All IsOne rest → All IsOne (cons_option o rest)
  put_one None rest one all = all
  put_one (Some ply) rest one all = All-cons IsOne ply rest one all

  pub all_ones : {A : Type 0} (f : A → Option ItemNo) → ((a : A) → IfSome (f a) IsOne) → (xs : List A) → All IsOne (filter_map f xs)
  all_ones f each [] = All-nil IsOne
  all_ones f each (x ∷ xs) = put_one (f x) (filter_map f xs) (each x) (all_ones f each xs)

  some_ones : (o : Option (List Data)) → IfSome (option_map (filter_map (item_of stock)) o) (All IsOne)
  some_ones None = tt
  some_ones (Some ds) = all_ones (item_of stock) item_is_one ds

  listed_or_none : (o : Option (List ItemNo)) → IfSome o (All IsOne) → All IsOne (unwrap_or o [])
  listed_or_none None all = All-nil IsOne
  listed_or_none (Some plies) all = all

  -- ---- sets

  no_bit_beyond : (k bits : ℕ) (is : List ItemNo) → length stock ≤ k → All IsOne is
      → bit_and (bits_of bits is) (2 ^ k) ≡ bit_and bits (2 ^ k)
  no_bit_beyond k bits [] beyond all = refl
  no_bit_beyond k bits (i ∷ is) beyond all =
      let here : i.0 < length stock = All-head IsOne i is all in
      no_bit_beyond k (bit_or bits (2 ^ i.0)) is beyond (All-tail IsOne i is all)
      ∙ and_or_apart (2 ^ k) bits (2 ^ i.0) (pow_apart i.0 k (omega (arith, here, beyond)))

  no_bit : (k : ℕ) → bit_and 0 (2 ^ k) ≡ 0
  no_bit k = omega (arith, and_le_l 0 (2 ^ k))

  below_by : (k : ℕ) (test : Bool) → nat_lt k (length stock) ≡ test → (length stock ≤ k → ⊥) → k < length stock
  below_by k true e never = grind (arith, nat_tests)
  below_by k false e never = absurd (never (grind (arith, nat_tests)))

  holds_known : (is : List ItemNo) → All IsOne is → HoldsKnown stock (set_of is)
  holds_known is all k set =
      below_by k (nat_lt k (length stock)) refl (λ beyond. set (no_bit_beyond k 0 is beyond all ∙ no_bit k))

  set_known : (o : Option (List ItemNo)) → IfSome o (All IsOne) → IfSome (option_map set_of o) (HoldsKnown stock)
  set_known None all = tt
  set_known (Some is) all = holds_known is all

  -- ---- counts

  abbrev CountsOne : ItemNo × ℕ → Type 0
  CountsOne count = IsOne count.0

  put_count : (o : Option (ItemNo × ℕ)) (rest : List (ItemNo × ℕ)) → IfSome o CountsOne → All IsOne (map (λ (c : ItemNo × ℕ). c.0) rest)
      → All IsOne (map (λ (c : ItemNo × ℕ). c.0) (cons_option o rest))
  put_count None rest one all = all
  put_count (Some c) rest one all = All-cons IsOne c.0 (map (λ (c : ItemNo × ℕ). c.0) rest) one all

  counted : (n : ℕ) (o : Option ItemNo) → IfSome o IsOne
      → IfSome (option_map (λ (i : ItemNo). let c : ItemNo × ℕ = (i, n) in c) o) CountsOne
  counted n None one = tt
  counted n (Some i) one = one

  count_is_one : (entry : List ℕ × Data) → IfSome (count_of stock entry) CountsOne
  count_is_one entry = counted _ (item_named stock entry.0) (named_is_one entry.0)

  counts_known : (entries : List (List ℕ × Data)) → All IsOne (map (λ (c : ItemNo × ℕ). c.0) (filter_map (count_of stock) entries))
  counts_known [] = All-nil IsOne
  counts_known (e ∷ entries) = put_count (count_of stock e) (filter_map (count_of stock) entries) (count_is_one e) (counts_known entries)

  -- ---- the whole job

  known_items : (at : JobKey) (ms : Members) → IfSome (items_if stock at ms) (All IsOne)
  known_items at ms = some_ones (option_and_then as_list (value_at at ms))

  data_is_for : (ms : Members) → IsJobFor stock (data_of stock ms)
  data_is_for ms =
      let liner = table_in (under table.Liner ms) in
      let rules = table_in (under table.Rules ms) in
      record {
        liner = listed_or_none (items_if stock key.Plies liner) (known_items key.Plies liner);
        inner = set_known (items_if stock key.Inner rules) (known_items key.Inner rules);
        outer = set_known (items_if stock key.Outer rules) (known_items key.Outer rules);
        counts = counts_known (entries_of (table_in (under table.Counts rules)));
      }

  settled_ok : (o : Option JobFault) (held job : JobData) → settled o held ≡ Ok job → held ≡ job
  settled_ok None held job e = cc
  settled_ok (Some f) held job e = cc

  document_is_for : (doc : Option Members) (job : JobData) → job_of_document stock doc ≡ Ok job → IsJobFor stock job
  document_is_for None job e = cc
  document_is_for (Some ms) job e =
      subst (λ (j : JobData). IsJobFor stock j) (settled_ok (job_fault stock ms) (data_of stock ms) job e) (data_is_for ms)

  pub job_is_for : (bytes : List ℕ) (job : JobData) → job_of bytes stock ≡ Ok job → IsJobFor stock job
  unfolding job_of
  job_is_for bytes job e = document_is_for (document_of bytes) job e
