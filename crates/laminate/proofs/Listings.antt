-- Names listed one by one are the plies that they name.
use Rattle.std.proofs.Common.{◌≡◌, ℕ, ◌+◌, ◌≤◌, ◌<◌, Bool, true, false, cond, List, [], ◌∷◌, ◌++◌, length, Option, Some, None, Result, Ok, Err, refl, sym, ap, ◌∙◌, arith, append_assoc, length-append, nat_lt, drop, get_or, add-one, drop-cons}
use Rattle.std.specs.Prelude.{filter_map, count_by, is_none, if◌then◌else◌, ◌==◌}
use Rattle.std.specs.List.{cons_option, position_from}
use Rattle.std.proofs.lemmas.Bool.Decides.{nat_tests}
use Rattle.std.proofs.lemmas.List.{append-nil, drop_all}
use Rattle.std.proofs.lemmas.List.Splits.{length-slice_split}
use Rattle.lam_stock.specs.declared.item.Item.{Item}
use Rattle.lam_stock.specs.declared.item.ItemNo.{ItemNo}
use Rattle.lam_job.specs.declared.limits.TheConstants.{MOST_PLIES}
use Rattle.lam_job.specs.JobOf.{item_named}
use Rattle.laminate.specs.declared.fault.ScheduleFault.{ScheduleFault}
use Rattle.laminate.specs.declared.fault.ScheduleFault.TheVariants.{Empty, Many, Name}
use Rattle.laminate.specs.Schedule.{is_unknown, names_of, plies_named, schedule_of, settled}
use Rattle.laminate.specs.inside.Listing.{Lists, list_names, with_item}

-- the items of names from a number on, behind those that are listed
abbrev named_from : List Item → ℕ → List ItemNo → List (List ℕ) → Result (List ItemNo) ScheduleFault
named_from stock number listed names =
    settled (position_from (is_unknown stock) number names) (listed ++ filter_map (item_named stock) names)

-- one more name, by its item
after_name : (stock : List Item) (listed : List ItemNo) (o : Option ItemNo) (names : List (List ℕ))
    → ((i : ItemNo) → list_names stock (listed ++ i ∷ []) names ≡ named_from stock (length (listed ++ i ∷ []) + 1) (listed ++ i ∷ []) names)
    → with_item listed o (λ plies. list_names stock plies names)
    ≡ settled (cond (is_none o) (Some (length listed + 1)) (position_from (is_unknown stock) (length listed + 1 + 1) names))
    (listed ++ cons_option o (filter_map (item_named stock) names))
after_name stock listed None names more = refl
after_name stock listed (Some i) names more =
    let long : length (listed ++ i ∷ []) ≡ length listed + 1 = length-append listed (i ∷ []) in
    more i
    ∙ (ap (λ (n : ℕ). named_from stock (n + 1) (listed ++ i ∷ []) names) long
    ∙ ap (λ (plies : List ItemNo). settled (position_from (is_unknown stock) (length listed + 1 + 1) names) plies)
    (append_assoc listed (i ∷ []) (filter_map (item_named stock) names)))

listed_from : (stock : List Item) (listed : List ItemNo) (names : List (List ℕ))
    → list_names stock listed names ≡ named_from stock (length listed + 1) listed names
listed_from stock listed [] = ap Ok (sym (append-nil listed))
listed_from stock listed (name ∷ names) =
    after_name stock listed (item_named stock name) names (λ i. listed_from stock (listed ++ i ∷ []) names)

pub listed_all : (stock : List Item) (names : List (List ℕ)) → list_names stock [] names ≡ plies_named stock names
listed_all stock names = listed_from stock [] names

-- ---- one name

pub found : (stock : List Item) (name : List ℕ) (listed : List ItemNo) (i : ItemNo) → item_named stock name ≡ Some i
    → (names : List (List ℕ)) → list_names stock listed (name ∷ names) ≡ list_names stock (listed ++ i ∷ []) names
found stock name listed i e names = ap (λ (o : Option ItemNo). with_item listed o (λ plies. list_names stock plies names)) e

pub unknown : (stock : List Item) (name : List ℕ) (listed : List ItemNo) → item_named stock name ≡ None
    → (names : List (List ℕ)) → list_names stock listed (name ∷ names) ≡ Err (Name (length listed + 1))
unknown stock name listed e names = ap (λ (o : Option ItemNo). with_item listed o (λ plies. list_names stock plies names)) e

-- ---- one turn of the loop over the names

cut : (names : List (List ℕ)) (n : ℕ) (d : List ℕ) → n < length names → drop n names ≡ get_or names n d ∷ drop (n + 1) names
cut names n d h = rw (add-one, drop-cons names n d) refl

-- what the names from one on lead to, by that name
at_name : (stock : List Item) (listed : List ItemNo) (names : List (List ℕ)) (n : ℕ) (d name : List ℕ) (all : Result (List ItemNo) ScheduleFault)
    → (n < length names) × (name ≡ get_or names n d) → list_names stock listed (drop n names) ≡ all
    → list_names stock listed (name ∷ drop (n + 1) names) ≡ all
at_name stock listed names n d name all (h, e) left =
    ap (λ (ns : List (List ℕ)). list_names stock listed ns) (ap (λ (x : List ℕ). x ∷ drop (n + 1) names) e ∙ sym (cut names n d h)) ∙ left

pub one_listed : (stock : List Item) (old new : List ItemNo) (names : List (List ℕ)) (n : ℕ) (d name : List ℕ) (all : Result (List ItemNo) ScheduleFault)
    → (n < length names) × (name ≡ get_or names n d) → list_names stock old (drop n names) ≡ all
    → Lists stock name old new (Ok tt) → list_names stock new (drop (n + 1) names) ≡ all
one_listed stock old new names n d name all at left (lists, _) =
    sym (lists (drop (n + 1) names)) ∙ at_name stock old names n d name all at left

pub one_refused : (stock : List Item) (old new : List ItemNo) (names : List (List ℕ)) (n : ℕ) (d name : List ℕ) (all : Result (List ItemNo) ScheduleFault)
    (fault : ScheduleFault) → (n < length names) × (name ≡ get_or names n d) → list_names stock old (drop n names) ≡ all
    → Lists stock name old new (Err fault) → Err fault ≡ all
one_refused stock old new names n d name all fault at left refuses =
    sym (refuses (drop (n + 1) names)) ∙ at_name stock old names n d name all at left

pub all_listed : (stock : List Item) (listed : List ItemNo) (names : List (List ℕ)) (n : ℕ) (all : Result (List ItemNo) ScheduleFault)
    → length names ≤ n → list_names stock listed (drop n names) ≡ all → Ok listed ≡ all
all_listed stock listed names n all past left =
    ap (λ (ns : List (List ℕ)). list_names stock listed ns) (sym (drop_all n names past)) ∙ left

-- ---- the word as a whole

by_number : (stock : List Item) (names : List (List ℕ)) (test wanted : Bool) → test ≡ wanted
    → (if test then Err Many else plies_named stock names) ≡ (if wanted then Err Many else plies_named stock names)
by_number stock names test wanted e = ap (λ (b : Bool). if b then Err Many else plies_named stock names) e

number_of_names : (word : List ℕ) → length (names_of word) ≡ count_by (λ c. c == 44) word + 1
number_of_names word = length-slice_split (λ c. c == 44) word

is_above : (n : ℕ) → MOST_PLIES < n → nat_lt MOST_PLIES n ≡ true
is_above n h = grind (arith, nat_tests)

is_not_above : (n : ℕ) → n ≤ MOST_PLIES → nat_lt MOST_PLIES n ≡ false
is_not_above n h = grind (arith, nat_tests)

pub empty_word : (stock : List Item) (word : List ℕ) → length word ≡ 0 → schedule_of stock word ≡ Err Empty
unfolding schedule_of
empty_word stock [] e = refl
empty_word stock (c ∷ word) e = absurd (omega (arith, e))

pub many_names : (stock : List Item) (word : List ℕ) → 0 < length word → MOST_PLIES ≤ count_by (λ c. c == 44) word
    → schedule_of stock word ≡ Err Many
unfolding schedule_of
many_names stock [] some many = absurd (omega (arith, some))
many_names stock (c ∷ word) some many =
    by_number stock (names_of (c ∷ word)) _ true (is_above (length (names_of (c ∷ word))) (omega (arith, number_of_names (c ∷ word), many)))

pub few_names : (word : List ℕ) → count_by (λ c. c == 44) word < MOST_PLIES → length (names_of word) ≤ MOST_PLIES
few_names word few = omega (arith, number_of_names word, few)

pub named_word : (stock : List Item) (word : List ℕ) → 0 < length word → count_by (λ c. c == 44) word < MOST_PLIES
    → schedule_of stock word ≡ plies_named stock (names_of word)
unfolding schedule_of
named_word stock [] some few = absurd (omega (arith, some))
named_word stock (c ∷ word) some few =
    by_number stock (names_of (c ∷ word)) _ false (is_not_above (length (names_of (c ∷ word))) (few_names (c ∷ word) few))
