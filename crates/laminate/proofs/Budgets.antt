-- The number of nodes that words name is one that a search may be given, and that of a sample one that there is.
use Rattle.std.proofs.Common.{◌≡◌, ℕ, ◌+◌, ◌*◌, ◌≤◌, Bool, true, false, nat_le, ◌&&◌, List, [], ◌∷◌, Option, Some, None, Result, Ok, Err, refl, subst, le_trans, arith}
use Rattle.std.specs.Prelude.{option_and_then, option_map, bytes_eq, codes, IfOk, if◌then◌else◌}
use Rattle.std.specs.Char.{digit_value}
use Rattle.std.specs.Str.{all_ascii_digits}
use Rattle.std.specs.Str.Parse.{digits_value, digits_value_after}
use Rattle.std.proofs.lemmas.Bool.Decides.{nat_tests}
use Rattle.std.proofs.lemmas.Option.{none-some, same_Some}
use Rattle.lam_words.specs.declared.order.GuideName.{GuideName}
use Rattle.lam_words.specs.declared.order.Order.{Order}
use Rattle.lam_words.specs.declared.order.TheConstants.{MOST_NODES, MOST_NUMBER}
use Rattle.lam_words.specs.declared.order.WordsError.{WordsError}
use Rattle.lam_words.specs.Numbers.{at_most, begins_above_zero, number_to}
use Rattle.lam_words.specs.Reading.{OrderWords, design, analyse, check, sample, guide_of, nodes_of, search_of, sample_order, without_options, order_of_texts, order_of_sorted, reading}
use Rattle.lam_words.specs.Sorting.{Sorted, sorted_words}
use Rattle.lam_words.specs.Spelled.{spelled}
use Rattle.laminate.specs.inside.Budgets.{HasBudget, IsBudget, IsNumber, ReadsBudget}

-- ---- a number that is written

-- what is chosen by a test, if something is
chosen : {A : Type 0} (test : Bool) (o : Option A) (x : A) → (if test then o else None) ≡ Some x → (test ≡ true) × (o ≡ Some x)
chosen true o x e = (refl, e)
chosen false o x e = absurd (none-some x e)

both : (a b : Bool) → (a && b) ≡ true → (a ≡ true) × (b ≡ true)
both true b e = (refl, e)
both false b e = cc

-- digits behind a number only make it greater
no_less : (n : ℕ) (digits : List ℕ) → n ≤ digits_value_after 10 n digits
no_less n [] = omega arith
no_less n (c ∷ digits) =
    le_trans (let h : n ≤ n * 10 + digit_value c = omega arith in h) (no_less (n * 10 + digit_value c) digits)

-- the value of a digit from 1 to 9
above_zero : (c : ℕ) → nat_le 49 c ≡ true → nat_le c 57 ≡ true → 1 ≤ digit_value c
above_zero c least most = grind (arith, nat_tests)

value_above_zero : (word : List ℕ) → begins_above_zero word ≡ true → 1 ≤ digits_value 10 word
value_above_zero [] e = cc
value_above_zero (c ∷ digits) e =
    let (least, most) = both (nat_le 49 c) (nat_le c 57) e in
    let first : 1 ≤ digit_value c = above_zero c least most in
    le_trans (let h : 1 ≤ 0 * 10 + digit_value c = omega (arith, first) in h) (no_less (0 * 10 + digit_value c) digits)

written : (word : List ℕ) (n : ℕ) → number_to MOST_NODES word ≡ Some n → IsBudget n
written word n e =
    let (digits, value) = chosen (begins_above_zero word && all_ascii_digits word) (at_most MOST_NODES (digits_value 10 word)) n e in
    let (few, same) = chosen (nat_le (digits_value 10 word) MOST_NODES) (Some (digits_value 10 word)) n value in
    let some : 1 ≤ digits_value 10 word = value_above_zero word (both (begins_above_zero word) (all_ascii_digits word) digits).0 in
    subst IsBudget (same_Some (digits_value 10 word) n same) (record { some = some; most = grind (arith, nat_tests) })

sample_number : (word : List ℕ) (n : ℕ) → number_to MOST_NUMBER word ≡ Some n → IsNumber n
sample_number word n e =
    let (digits, value) = chosen (begins_above_zero word && all_ascii_digits word) (at_most MOST_NUMBER (digits_value 10 word)) n e in
    let (few, same) = chosen (nat_le (digits_value 10 word) MOST_NUMBER) (Some (digits_value 10 word)) n value in
    let some : 1 ≤ digits_value 10 word = value_above_zero word (both (begins_above_zero word) (all_ascii_digits word) digits).0 in
    subst IsNumber (same_Some (digits_value 10 word) n same) (record { some = some; most = grind (arith, nat_tests) })

-- ---- the options of a search

named : (word : Option (List ℕ)) (n : ℕ) → nodes_of word ≡ Some n → IsBudget n
named None n e = subst IsBudget (same_Some MOST_NODES n e) (record { some = omega arith; most = omega arith })
named (Some word) n e = written word n e

-- ---- the orders of texts

abbrev Budgeted : Option OrderWords → Type 0
Budgeted given = (o : OrderWords) → given ≡ Some o → HasBudget o

nothing : Budgeted None
nothing o e = absurd (none-some o e)

either : (test : Bool) (one other : Option OrderWords) → Budgeted one → Budgeted other → Budgeted (if test then one else other)
either true one other first second = first
either false one other first second = second

designing : (job catalogue : List ℕ) (guide : Option GuideName) (nodes : Option ℕ) → ((n : ℕ) → nodes ≡ Some n → IsBudget n)
    → Budgeted (option_map (design job catalogue) (search_of guide nodes))
designing job catalogue None nodes within o e = absurd (none-some o e)
designing job catalogue (Some guide) None within o e = absurd (none-some o e)
designing job catalogue (Some guide) (Some n) within o e =
    subst HasBudget (same_Some (design job catalogue (record { guide = guide; nodes = n })) o e) (within n refl)

sampling : (number : Option ℕ) (guide : Option GuideName) (nodes : Option ℕ) → ((n : ℕ) → nodes ≡ Some n → IsBudget n)
    → ((n : ℕ) → number ≡ Some n → IsNumber n) → Budgeted (sample_order number (search_of guide nodes))
sampling None None nodes within known o e = absurd (none-some o e)
sampling None (Some guide) None within known o e = absurd (none-some o e)
sampling None (Some guide) (Some n) within known o e = absurd (none-some o e)
sampling (Some number) None nodes within known o e = absurd (none-some o e)
sampling (Some number) (Some guide) None within known o e = absurd (none-some o e)
sampling (Some number) (Some guide) (Some n) within known o e =
    subst HasBudget (same_Some (sample number (record { guide = guide; nodes = n })) o e) (within n refl, known number refl)

plain : (guide nodes : Option (List ℕ)) (given : OrderWords) → HasBudget given → Budgeted (without_options guide nodes given)
plain None None given has o e = subst HasBudget (same_Some given o e) has
plain None (Some nodes) given has o e = absurd (none-some o e)
plain (Some guide) nodes given has o e = absurd (none-some o e)

of_texts : (texts : List (List ℕ)) (guide nodes : Option (List ℕ)) → Budgeted (order_of_texts texts guide nodes)
of_texts [] guide nodes = nothing
of_texts (mode ∷ []) guide nodes = nothing
of_texts (mode ∷ number ∷ []) guide nodes =
    either (bytes_eq mode (codes "sample")) _ None
    (sampling (number_to MOST_NUMBER number) (guide_of guide) (nodes_of nodes) (named nodes) (sample_number number)) nothing
of_texts (mode ∷ job ∷ catalogue ∷ []) guide nodes =
    either (bytes_eq mode (codes "design")) _ None
    (designing job catalogue (guide_of guide) (nodes_of nodes) (named nodes)) nothing
of_texts (mode ∷ job ∷ catalogue ∷ third ∷ []) guide nodes =
    either (bytes_eq mode (codes "analyse")) _ _ (plain guide nodes (analyse job catalogue third) tt)
    (either (bytes_eq mode (codes "check")) _ None (plain guide nodes (check job catalogue third) tt) nothing)
of_texts (mode ∷ job ∷ catalogue ∷ third ∷ more ∷ texts) guide nodes = nothing

of_sorted : (sorted : Option Sorted) → Budgeted (option_and_then order_of_sorted sorted)
of_sorted None = nothing
of_sorted (Some s) = of_texts s.texts s.guide s.nodes

-- words that were read
pub reads_budget : (words : List (List ℕ)) (r : Result Order WordsError) → IfOk r (λ order. reading words ≡ Some (spelled order))
    → ReadsBudget r
reads_budget words (Ok order) is = of_sorted (sorted_words words) (spelled order) is
reads_budget words (Err error) is = tt
