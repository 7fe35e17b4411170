-- Where words have a reading, clap refuses nothing, and finds what was sorted.
use Rattle.std.proofs.Common.{ℕ, ◌≡◌, ◌∙◌, ap, refl, sym, subst, List, [], ◌∷◌, Bool, true, false, Option, Some, None, option_map, is_some, codes}
use Rattle.std.specs.Prelude.{if◌then◌else◌, ◌||◌, not, fold, slice_get, option_and_then, ◌⊎◌}
use mathlib.Core.Logic.◌⊎◌.{inl, inr}
use Rattle.clap.specs.Walk.{Row, Rule, Held, Walk, nothing_held, settled, finished, with_default, has_row, first_of, rows_after}
use Rattle.clap.specs.Kinds.{Kinds, or_else, check_kinds, HasKind}
use Rattle.clap.specs.Takes.{is_given}
use Rattle.clap.specs.Values.{kind_of}
use Rattle.clap.specs.Simple.{App, is_simple, matches_of, names_of}
use Rattle.clap.specs.Faults.{built_fault, level_fault, settle_fault, default_fault, defaults_fault, check_fault, walk_fault, fault_of, is_simple_and_free}
use Rattle.clap.specs.declared.error.Error.{Error}
use Rattle.clap.specs.declared.error.kind.ErrorKind.TheVariants as kind
use Rattle.clap.proofs.OnLiterals.{clap_on_literals}
use Rattle.clap.proofs.FaultLemmas.{leaf_fault}
use Rattle.lam_words.specs.declared.option_name.Expects.{Expects}
use Rattle.lam_words.specs.declared.option_name.Expects.TheVariants.{Word, Value, Text}
use Rattle.lam_words.specs.Sorting.{Sorted, Reached, nothing_said, after_words, ended_at, ended, sorted_words}
use Rattle.lam_words.specs.Reading.{reading, order_of_sorted, order_of_texts}
use Rattle.lam_words.specs.inside.Command.{words_app, rows_said, leading}
use Rattle.lam_words.proofs.Built.{rules, shape, place_rule, long_rule, built_is}
use Rattle.lam_words.proofs.FoundRows.{HasRows, found, row_for, no_rows}
use Rattle.lam_words.proofs.Standing.{Settles, StandsAt, rows_from, at_place}
use Rattle.lam_words.proofs.Simulated.{Taken, taken}

-- no argument has a default value
either : (b : Bool) (k : Kinds) → ◌≡◌ {A = Kinds} (if b || true then [] else k) []
either true k = refl
either false k = refl

one_rows : (b : Bool) (rows : List Row) → (if b then rows else rows) ≡ rows
one_rows true rows = refl
one_rows false rows = refl

default_then : (a : Rule) (rest : List Rule) (rows : List Row) → default_fault rows a ≡ [] → with_default rows a ≡ rows → defaults_fault rows rest ≡ [] → defaults_fault rows (a ∷ rest) ≡ []
unfolding defaults_fault
default_then a rest rows p q r = ap (λ k. or_else k (defaults_fault (with_default rows a) rest)) p ∙ (ap (λ x. defaults_fault x rest) q ∙ r)

place_then : (name : List ℕ) (place : ℕ) (required : Bool) (rest : List Rule) (rows : List Row) → defaults_fault rows rest ≡ [] → defaults_fault rows (place_rule name place required ∷ rest) ≡ []
place_then name place required rest rows = default_then (place_rule name place required) rest rows (either (has_row name rows) _) (one_rows (has_row name rows) rows)

long_then : (name : List ℕ) (rest : List Rule) (rows : List Row) → defaults_fault rows rest ≡ [] → defaults_fault rows (long_rule name ∷ rest) ≡ []
long_then name rest rows = default_then (long_rule name) rest rows (either (has_row name rows) _) (one_rows (has_row name rows) rows)

nothing_then : (rows : List Row) → defaults_fault rows [] ≡ []
unfolding defaults_fault
nothing_then rows = refl

defaults_pass : (rows : List Row) → defaults_fault rows rules ≡ []
defaults_pass rows =
    place_then _ _ _ _ rows (place_then _ _ _ _ rows (place_then _ _ _ _ rows (place_then _ _ _ _ rows (long_then _ _ rows (long_then _ _ rows (nothing_then rows))))))

finished_as : (rows : List Row) → fold with_default rows rules ≡ rows
finished_as rows =
    let same : (name : List ℕ) → (if has_row name rows then rows else rows) ≡ rows = λ name. one_rows (has_row name rows) rows in
    let step = λ (name : List ℕ) (rest : List Rule). ap (λ x. fold with_default x rest) (same name) in
    step (codes "mode") (place_rule (codes "first") 2 true ∷ place_rule (codes "second") 3 false ∷ place_rule (codes "third") 4 false ∷ long_rule (codes "guide") ∷ long_rule (codes "nodes") ∷ [])
    ∙ (step (codes "first") (place_rule (codes "second") 3 false ∷ place_rule (codes "third") 4 false ∷ long_rule (codes "guide") ∷ long_rule (codes "nodes") ∷ [])
    ∙ (step (codes "second") (place_rule (codes "third") 4 false ∷ long_rule (codes "guide") ∷ long_rule (codes "nodes") ∷ [])
    ∙ (step (codes "third") (long_rule (codes "guide") ∷ long_rule (codes "nodes") ∷ []) ∙ (step (codes "guide") (long_rule (codes "nodes") ∷ []) ∙ step (codes "nodes") []))))

given : (name v : List ℕ) (rows : List Row) → found name rows ≡ Some (row_for name v) → is_given name rows ≡ true
given name v rows has = rw has refl

check_passes : (rows : List Row) → is_given (codes "mode") rows ≡ true → is_given (codes "first") rows ≡ true → check_fault shape rows false ≡ []
check_passes rows mode first = ap (λ x. check_kinds false false (not x || (not (is_given (codes "first") rows) || false))) mode ∙ ap (λ x. check_kinds false false (not x || false)) first

four_pass : (a b c d : Kinds) → a ≡ [] → b ≡ [] → c ≡ [] → d ≡ [] → or_else a (or_else b (or_else c d)) ≡ []
four_pass a b c d p q r s = λ i. or_else (p i) (or_else (q i) (or_else (r i) (s i)))

first_is : (name : List ℕ) (rows : List Row) (o : Option (List ℕ)) → found name rows ≡ option_map (row_for name) o → first_of name rows ≡ o
first_is name rows o has = ap (λ r. option_and_then (λ x. slice_get x.values 0) r) has ∙ go o
  where
    go : (o : Option (List ℕ)) → option_and_then (λ x. slice_get x.values 0) (option_map (row_for name) o) ≡ o
    go None = refl
    go (Some v) = refl

said_as : (rows : List Row) (t : List (List ℕ)) (g n : Option (List ℕ)) → HasRows rows (record { texts = t; guide = g; nodes = n })
    → leading (slice_get t 0) (slice_get t 1) (slice_get t 2) (slice_get t 3) ≡ t → rows_said rows ≡ record { texts = t; guide = g; nodes = n }
said_as rows t g n h lead =
    let texts : leading (first_of (codes "mode") rows) (first_of (codes "first") rows) (first_of (codes "second") rows) (first_of (codes "third") rows)
    ≡ leading (slice_get t 0) (slice_get t 1) (slice_get t 2) (slice_get t 3) =
    λ i. leading (first_is (codes "mode") rows _ h.mode i) (first_is (codes "first") rows _ h.first i) (first_is (codes "second") rows _ h.second i) (first_is (codes "third") rows _ h.third i) in
    λ i. record { texts = (texts ∙ lead) i; guide = first_is (codes "guide") rows g h.guide i; nodes = first_is (codes "nodes") rows n h.nodes i }

-- a list of two to four texts
pub record IsFew (t : List (List ℕ)) : Type 0 where
  pub first : List ℕ
  pub second : List ℕ
  pub at_first : slice_get t 0 ≡ Some first
  pub at_second : slice_get t 1 ≡ Some second
  pub lead : leading (slice_get t 0) (slice_get t 1) (slice_get t 2) (slice_get t 3) ≡ t

few : (t : List (List ℕ)) (g n : Option (List ℕ)) → is_some (order_of_texts t g n) ≡ true → IsFew t
few [] g n has = cc
few (a ∷ []) g n has = cc
few (a ∷ b ∷ []) g n has = record { first = a; second = b; at_first = refl; at_second = refl; lead = refl }
few (a ∷ b ∷ d ∷ []) g n has = record { first = a; second = b; at_first = refl; at_second = refl; lead = refl }
few (a ∷ b ∷ d ∷ f ∷ []) g n has = record { first = a; second = b; at_first = refl; at_second = refl; lead = refl }
few (a ∷ b ∷ d ∷ f ∷ e ∷ more) g n has = cc

-- what clap makes of words
pub record IsReadByClap (words : List (List ℕ)) : Type 0 where
  pub passes : fault_of words_app words ≡ []
  pub finds : sorted_words words ≡ Some (rows_said (matches_of words_app words))

settles_at : (e : Expects) (h : Held) (s t : Sorted) → StandsAt e h s → ended_at e s ≡ Some t → Settles h t
settles_at Word h s t stands is = let same : s ≡ t = cc in subst (λ x. Settles h x) same stands
settles_at Text h s t stands is = let same : s ≡ t = cc in subst (λ x. Settles h x) same stands
settles_at (Value o) h s t stands is = cc

by_rows : (words : List (List ℕ)) (r : Reached) (s : Sorted) → Taken (at_place nothing_held Word 1) words r → sorted_words words ≡ Some s → ended_at r.expects r.said ≡ Some s
    → IsFew s.texts → IsReadByClap words
by_rows words r s take sorted ends few =
    let settles = settles_at r.expects take.held r.said s take.stands ends in
    let rows = rows_from take.held in
    let done : finished rules take.held ≡ rows = finished_as rows in
    let mode = given (codes "mode") few.first rows (settles.rows.mode ∙ ap (option_map (row_for (codes "mode"))) few.at_first) in
    let first = given (codes "first") few.second rows (settles.rows.first ∙ ap (option_map (row_for (codes "first"))) few.at_second) in
    let levels : level_fault shape [] nothing_held words false [] ≡ [] =
    ap (λ (w : Walk). or_else (walk_fault shape [] (at_place nothing_held Word 1) words) (or_else (settle_fault rules false w.held)
    (or_else (defaults_fault (settled rules w.held).rows rules) (check_fault shape (finished rules w.held) false)))) take.walks
    ∙ four_pass _ _ _ _ take.passes settles.passes (defaults_pass rows) (ap (λ x. check_fault shape x false) done ∙ check_passes rows mode first) in
    let matches : matches_of words_app words ≡ rows =
    ap (λ (a : App). rows_after a.top.rules (names_of a) words) built_is ∙ (ap (λ (w : Walk). finished rules w.held) take.walks ∙ done) in
    record {
      passes = ap (λ a. built_fault a nothing_held words) built_is ∙ (leaf_fault (record { top = shape; subs = [] }) nothing_held words refl ∙ levels);
      finds = sorted ∙ ap (λ x. Some x) (sym (ap rows_said matches ∙ said_as rows s.texts s.guide s.nodes settles.rows few.lead));
    }

pub read_by_clap : (words : List (List ℕ)) → is_some (reading words) ≡ true → IsReadByClap words
read_by_clap words has = go (after_words (Some (record { expects = Word; said = nothing_said })) words) refl
  where
    at_end : (r : Reached) → after_words (Some (record { expects = Word; said = nothing_said })) words ≡ Some r
        → (o : Option Sorted) → ended_at r.expects r.said ≡ o → sorted_words words ≡ o → IsReadByClap words
    at_end r is None ends sorted = let bad : false ≡ true = ap (λ o. is_some (option_and_then order_of_sorted o)) (sym sorted) ∙ has in cc
    at_end r is (Some s) ends sorted =
        let order : is_some (order_of_texts s.texts s.guide s.nodes) ≡ true = ap (λ o. is_some (option_and_then order_of_sorted o)) (sym sorted) ∙ has in
        by_rows words r s (taken words Word nothing_said nothing_held r (record { rows = no_rows; passes = refl }) is) sorted ends (few s.texts s.guide s.nodes order)

    go : (o : Option Reached) → after_words (Some (record { expects = Word; said = nothing_said })) words ≡ o → IsReadByClap words
    go None is = let bad : false ≡ true = ap (λ o. is_some (option_and_then order_of_sorted (ended o))) (sym is) ∙ has in cc
    go (Some r) is = at_end r is (ended_at r.expects r.said) refl (ap ended is)

-- the same of a command that is the one
pub found_by : (a : App) (words : List (List ℕ)) (rows : List Row) (said : Sorted) → a ≡ words_app → is_some (reading words) ≡ true → rows ≡ matches_of a words → said ≡ rows_said rows
    → sorted_words words ≡ Some said
found_by a words rows said is has found reads = (read_by_clap words has).finds
    ∙ sym (ap (λ x. Some x) (reads ∙ (ap rows_said found ∙ ap (λ x. rows_said (matches_of x words)) is)))

pub simple_is : (a : App) → a ≡ words_app → is_simple a ≡ true
unfolding clap_on_literals
simple_is a is = ap is_simple is

pub free_is : (a : App) → a ≡ words_app → is_simple_and_free a ≡ true
unfolding clap_on_literals
free_is a is = ap is_simple_and_free is

-- clap fails for want of memory alone
pub only_memory : (a : App) (words : List (List ℕ)) (e : Error) → a ≡ words_app → is_some (reading words) ≡ true → HasKind (fault_of a words) e → kind_of e ≡ kind.OutOfMemory
only_memory a words e is has fails = go (subst (λ k. HasKind k e) (ap (λ x. fault_of x words) is ∙ (read_by_clap words has).passes) fails)
  where
    go : (kind_of e ≡ kind.OutOfMemory) ⊎ ⊥ → kind_of e ≡ kind.OutOfMemory
    go (inl memory) = memory
    go (inr none) = absurd none
