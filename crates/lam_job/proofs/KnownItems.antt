-- The items that a job names are items of its catalogue.
use Rattle.std.proofs.Common.{◌≡◌, refl, ap, ◌∙◌, ℕ, ◌*◌, ◌^◌, ◌<◌, ◌≤◌, List, [], ◌∷◌, length, filter_map, Option, Some, None, option_map, option_and_then, IfSome, All, zero-mul, bit_or, Ok, arith}
use mathlib.Core.Logic.{⊎_elim}
use Rattle.std.specs.Int.{bit_at}
use Rattle.std.specs.List.{cons_option}
use Rattle.std.specs.Option.{unwrap_or}
use Rattle.std.proofs.lemmas.Bool.{cases_lt}
use Rattle.std.proofs.lemmas.List.Elements.{All-cons, All-head, All-map, All-nil, All-tail}
use Rattle.std.proofs.lemmas.List.Quantifiers.{position-Some}
use Rattle.std.proofs.lemmas.Nat.Bits.{and_pow, bit_at-pow_other, bit_at-zero, bit_at_or}
use Rattle.toml.specs.Data.{Data, Members, as_str}
use Rattle.lam_stock.specs.declared.item.Item.{Item}
use Rattle.lam_stock.specs.declared.item.ItemNo.{ItemNo}
use Rattle.lam_stock.specs.Likeness.{has_name, place_of}
use Rattle.lam_stock.specs.Stock.{IsKnown}
use Rattle.lam_job.specs.declared.fault.JobFault.{JobFault}
use Rattle.lam_job.specs.declared.fault.JobKey.{JobKey}
use Rattle.lam_job.specs.declared.fault.JobKey.TheVariants as key
use Rattle.lam_job.specs.declared.fault.JobTable.TheVariants as at
use Rattle.lam_job.specs.JobData.{JobData}
use Rattle.lam_job.specs.JobOf.{as_list, bits_of, count_of, counts_of, data_of, document_of, entries_of, item_named, item_of, items_if, job_fault, job_of, job_of_document, set_of, settled, table_in, under, value_at}
use Rattle.lam_job.specs.Schedule.{HoldsKnown, IsJobFor}

-- ---- what is found

found : {A B : Type 0} (f : A → B) (P : B → Type 0) (o : Option A) → ((a : A) → o ≡ Some a → P (f a)) → IfSome (option_map f o) P
found f P None h = tt
found f P (Some a) h = h a refl

found_then : {A B : Type 0} (f : A → Option B) (P : B → Type 0) (o : Option A) → ((a : A) → IfSome (f a) P) → IfSome (option_and_then f o) P
found_then f P None h = tt
found_then f P (Some a) h = h a

one_more : {B : Type 0} (P : B → Type 0) (o : Option B) (ys : List B) → IfSome o P → All P ys → All P (cons_option o ys)
one_more P None ys h rest = rest
one_more P (Some y) ys h rest = All-cons P y ys h rest

all_found : {A B : Type 0} (f : A → Option B) (P : B → Type 0) → ((a : A) → IfSome (f a) P) → (xs : List A) → All P (filter_map f xs)
all_found f P h [] = All-nil P
all_found f P h (x ∷ xs) = one_more P (f x) (filter_map f xs) (h x) (all_found f P h xs)

within : (items : List Item) (name : List ℕ) (k : ℕ) → place_of name items ≡ Some k → k < length items
within [] name k e = cc
within (i ∷ items) name k e = (position-Some (has_name name) (i ∷ items) k i e).0

module _ (stock : List Item) where
  abbrev IsOf : ItemNo → Type 0
  IsOf i = i.0 < length stock

  is_named : (name : List ℕ) → IfSome (item_named stock name) IsOf
  is_named name = found _ IsOf (place_of name stock) (λ k e. within stock name k e)

  is_item : (d : Data) → IfSome (item_of stock d) IsOf
  is_item d = found_then (item_named stock) IsOf (as_str d) is_named

  are_items : (k : JobKey) (ms : Members) → IfSome (items_if stock k ms) (IsKnown stock)
  are_items k ms =
      found (filter_map (item_of stock)) (IsKnown stock) (option_and_then as_list (value_at k ms)) (λ ds e. all_found (item_of stock) IsOf is_item ds)

  or_none : (o : Option (List ItemNo)) → IfSome o (IsKnown stock) → IsKnown stock (unwrap_or o [])
  or_none None h = All-nil IsOf
  or_none (Some is) h = h

  with_number : (o : Option ItemNo) (n : ℕ) → IfSome o IsOf → IfSome {T = ItemNo × ℕ} (option_map (λ i. (i, n)) o) (λ c. IsOf c.0)
  with_number None n h = tt
  with_number (Some i) n h = h

  is_count : (count : List ℕ × Data) → IfSome {T = ItemNo × ℕ} (count_of stock count) (λ c. IsOf c.0)
  is_count count = with_number (item_named stock count.0) _ (is_named count.0)

  -- ---- a set of items

  no_bit : (k bits : ℕ) (is : List ItemNo) → length stock ≤ k → bit_at bits k ≡ 0 → All IsOf is → bit_at (bits_of bits is) k ≡ 0
  no_bit k bits [] above none known = none
  no_bit k bits (i ∷ is) above none known =
      let own : i.0 < length stock = All-head IsOf i is known in
      let other : bit_at (2 ^ i.0) k ≡ 0 = bit_at-pow_other i.0 k (λ e. absurd (omega (arith, own, above, e))) in
      no_bit k (bit_or bits (2 ^ i.0)) is above (omega (arith, bit_at_or bits (2 ^ i.0) k, other, none)) (All-tail IsOf i is known)

  set_known : (is : List ItemNo) → IsKnown stock is → HoldsKnown stock (set_of is)
  set_known is known k set =
      ⊎_elim (λ less. less) (λ above. absurd (set (and_pow (bits_of 0 is) k ∙ ap (λ b. b * 2 ^ k) (no_bit k 0 is above (bit_at-zero k) known) ∙ zero-mul (2 ^ k)))) (cases_lt k (length stock))

  set_found : (o : Option (List ItemNo)) → IfSome o (IsKnown stock) → IfSome (option_map set_of o) (HoldsKnown stock)
  set_found None h = tt
  set_found (Some is) h = set_known is h

  -- ---- a job

  pub data_known : (ms : Members) → IsJobFor stock (data_of stock ms)
  data_known ms =
      let rules : Members = table_in (under at.Rules ms) in
      record {
        liner = or_none (items_if stock key.Plies (table_in (under at.Liner ms))) (are_items key.Plies (table_in (under at.Liner ms)));
        inner = set_found (items_if stock key.Inner rules) (are_items key.Inner rules);
        outer = set_found (items_if stock key.Outer rules) (are_items key.Outer rules);
        counts = All-map IsOf (λ count. count.0) (counts_of stock (table_in (under at.Counts rules))) (all_found (count_of stock) (λ c. IsOf c.0) is_count (entries_of (table_in (under at.Counts rules))));
      }

  of_settled : (fault : Option JobFault) (meant job : JobData) → IsJobFor stock meant → settled fault meant ≡ Ok job → IsJobFor stock job
  of_settled None meant job known e = let same : meant ≡ job = cc in rw (← same) known
  of_settled (Some fault) meant job known e = cc

  of_document : (document : Option Members) (job : JobData) → job_of_document stock document ≡ Ok job → IsJobFor stock job
  of_document None job e = cc
  of_document (Some ms) job e = of_settled (job_fault stock ms) (data_of stock ms) job (data_known ms) e

  -- a job that the bytes of a file are
  pub job_known : (bytes : List ℕ) (job : JobData) → job_of bytes stock ≡ Ok job → IsJobFor stock job
  unfolding job_of
  job_known bytes job e = of_document (document_of bytes) job e
