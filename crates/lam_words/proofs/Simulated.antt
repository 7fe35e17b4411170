-- Clap takes all words that can be sorted, and finds what was sorted.
use Rattle.std.proofs.Common.{ℕ, ◌≡◌, ◌∙◌, ap, refl, sym, subst, List, [], ◌∷◌, Bool, true, false, Option, Some, None, codes}
use Rattle.std.specs.Prelude.{if◌then◌else◌, fold}
use Rattle.std.specs.Str.{bytes_eq}
use Rattle.std.proofs.lemmas.Slice.Eq.{bytes_eq-Decides}
use Rattle.clap.specs.Walk.{Held, Walk, walked}
use Rattle.clap.specs.Kinds.{or_else}
use Rattle.clap.specs.Faults.{walk_fault}
use Rattle.lam_words.specs.declared.option_name.Expects.{Expects}
use Rattle.lam_words.specs.declared.option_name.Expects.TheVariants.{Word, Value, Text}
use Rattle.lam_words.specs.declared.option_name.OptionName.{OptionName}
use Rattle.lam_words.specs.declared.option_name.OptionName.TheVariants.{Guide, Nodes}
use Rattle.lam_words.specs.Sorting.{Sorted, Reached, with_text, with_value, then_word, begins_with_dash, is_dashed, after_prefix, plain_word, nodes_word, attached_word, any_word, word_met, after_words}
use Rattle.lam_words.proofs.Prefixes.{after_prefix-Some}
use Rattle.lam_words.proofs.Built.{rules, shape}
use Rattle.lam_words.proofs.PlainWords.{plain_text, plain_value}
use Rattle.lam_words.proofs.Standing.{Turned, Settles, Waits, StandsAt, at_place, place_of}
use Rattle.lam_words.proofs.Turns.{text_turned, plain_turned, end_turned, guide_turned, nodes_turned, guide_attached, nodes_attached, guide_valued, nodes_valued}

same_bytes : (a b : List ℕ) → bytes_eq a b ≡ true → a ≡ b
same_bytes a b e = (bytes_eq-Decides a b).0 e

-- the result of a word that says `o`, at what the next word may be
then_is : (e : Expects) (o : Option Sorted) (r : Reached) → then_word e o ≡ Some r → (s : Sorted) × (o ≡ Some s) × (record { expects = e; said = s } ≡ r)
then_is e None r is = cc
then_is e (Some s) r is = (s, refl, cc)

abbrev Next : Held → Expects → List (List ℕ) → List ℕ → Reached → Type 0
Next h e t word r = Turned (at_place h e (place_of t)) word r.expects r.said

plain_next : (t : List (List ℕ)) (g n : Option (List ℕ)) (h : Held) (word : List ℕ) (r : Reached) → Settles h (record { texts = t; guide = g; nodes = n })
    → plain_word (record { texts = t; guide = g; nodes = n }) word ≡ Some r → Next h Word t word r
plain_next t g n h word r settles is = go (is_dashed word) refl is
  where
    go : (b : Bool) → is_dashed word ≡ b → (if b then None else then_word Word (with_text word (record { texts = t; guide = g; nodes = n }))) ≡ Some r → Next h Word t word r
    go true dashed is = cc
    go false plain is =
        let more = then_is Word (with_text word (record { texts = t; guide = g; nodes = n })) r is in
        subst (λ x. Next h Word t word x) more.2 (plain_turned t g n h word more.0 (plain_text word plain) settles more.1)

nodes_next : (t : List (List ℕ)) (g n : Option (List ℕ)) (h : Held) (word : List ℕ) (r : Reached) → Settles h (record { texts = t; guide = g; nodes = n })
    → (o : Option (List ℕ)) → after_prefix (codes "--nodes=") word ≡ o
    → nodes_word (record { texts = t; guide = g; nodes = n }) word o ≡ Some r → Next h Word t word r
nodes_next t g n h word r settles None lacks is = plain_next t g n h word r settles is
nodes_next t g (Some m) h word r settles (Some v) found is = cc
nodes_next t g None h word r settles (Some v) found is =
    let more : record { expects = Word; said = record { texts = t; guide = g; nodes = Some v } } ≡ r = cc in
    subst (λ x. Next h Word t word x) more
    (subst (λ w. Next h Word t w (record { expects = Word; said = record { texts = t; guide = g; nodes = Some v } })) (sym (after_prefix-Some (codes "--nodes=") word v found)) (nodes_attached v t g h settles))

attached_next : (t : List (List ℕ)) (g n : Option (List ℕ)) (h : Held) (word : List ℕ) (r : Reached) → Settles h (record { texts = t; guide = g; nodes = n })
    → (o : Option (List ℕ)) → after_prefix (codes "--guide=") word ≡ o
    → attached_word (record { texts = t; guide = g; nodes = n }) word o ≡ Some r → Next h Word t word r
attached_next t g n h word r settles None lacks is = nodes_next t g n h word r settles (after_prefix (codes "--nodes=") word) refl is
attached_next t (Some m) n h word r settles (Some v) found is = cc
attached_next t None n h word r settles (Some v) found is =
    let more : record { expects = Word; said = record { texts = t; guide = Some v; nodes = n } } ≡ r = cc in
    subst (λ x. Next h Word t word x) more
    (subst (λ w. Next h Word t w (record { expects = Word; said = record { texts = t; guide = Some v; nodes = n } })) (sym (after_prefix-Some (codes "--guide=") word v found)) (guide_attached v t n h settles))

-- a word that is one of the three, or another
any_next : (t : List (List ℕ)) (g n : Option (List ℕ)) (h : Held) (word : List ℕ) (r : Reached) → Settles h (record { texts = t; guide = g; nodes = n })
    → any_word (record { texts = t; guide = g; nodes = n }) word ≡ Some r → Next h Word t word r
any_next t g n h word r settles is =
    go (bytes_eq word (codes "--")) (bytes_eq word (codes "--guide")) (bytes_eq word (codes "--nodes")) refl refl refl is
  where
    go : (a b d : Bool) → bytes_eq word (codes "--") ≡ a → bytes_eq word (codes "--guide") ≡ b → bytes_eq word (codes "--nodes") ≡ d
        → (if a then then_word Text (Some (record { texts = t; guide = g; nodes = n }))
        else (if b then then_word (Value Guide) (Some (record { texts = t; guide = g; nodes = n }))
        else (if d then then_word (Value Nodes) (Some (record { texts = t; guide = g; nodes = n }))
        else attached_word (record { texts = t; guide = g; nodes = n }) word (after_prefix (codes "--guide=") word)))) ≡ Some r → Next h Word t word r
    go true b d p q s is =
        let more : record { expects = Text; said = record { texts = t; guide = g; nodes = n } } ≡ r = cc in
        subst (λ x. Next h Word t word x) more
        (subst (λ w. Next h Word t w (record { expects = Text; said = record { texts = t; guide = g; nodes = n } })) (sym (same_bytes word _ p)) (end_turned h (record { texts = t; guide = g; nodes = n }) settles))
    go false true d p q s is =
        let more : record { expects = Value Guide; said = record { texts = t; guide = g; nodes = n } } ≡ r = cc in
        subst (λ x. Next h Word t word x) more
        (subst (λ w. Next h Word t w (record { expects = Value Guide; said = record { texts = t; guide = g; nodes = n } })) (sym (same_bytes word _ q)) (guide_turned h (record { texts = t; guide = g; nodes = n }) settles))
    go false false true p q s is =
        let more : record { expects = Value Nodes; said = record { texts = t; guide = g; nodes = n } } ≡ r = cc in
        subst (λ x. Next h Word t word x) more
        (subst (λ w. Next h Word t w (record { expects = Value Nodes; said = record { texts = t; guide = g; nodes = n } })) (sym (same_bytes word _ s)) (nodes_turned h (record { texts = t; guide = g; nodes = n }) settles))
    go false false false p q s is = attached_next t g n h word r settles (after_prefix (codes "--guide=") word) refl is

value_next : (o : OptionName) (t : List (List ℕ)) (g n : Option (List ℕ)) (h : Held) (word : List ℕ) (r : Reached) → Waits h o (record { texts = t; guide = g; nodes = n })
    → begins_with_dash word ≡ false → then_word Word (with_value o word (record { texts = t; guide = g; nodes = n })) ≡ Some r → Next h (Value o) t word r
value_next Guide t (Some m) n h word r waits plain is = cc
value_next Guide t None n h word r waits plain is =
    let more : record { expects = Word; said = record { texts = t; guide = Some word; nodes = n } } ≡ r = cc in
    subst (λ x. Next h (Value Guide) t word x) more (guide_valued word t n h (plain_value word plain) waits)
value_next Nodes t g (Some m) h word r waits plain is = cc
value_next Nodes t g None h word r waits plain is =
    let more : record { expects = Word; said = record { texts = t; guide = g; nodes = Some word } } ≡ r = cc in
    subst (λ x. Next h (Value Nodes) t word x) more (nodes_valued word t g h (plain_value word plain) waits)

next_word : (e : Expects) (t : List (List ℕ)) (g n : Option (List ℕ)) (h : Held) (word : List ℕ) (r : Reached) → StandsAt e h (record { texts = t; guide = g; nodes = n })
    → word_met e (record { texts = t; guide = g; nodes = n }) word ≡ Some r → Next h e t word r
next_word Word t g n h word r stands is = any_next t g n h word r stands is
next_word Text t g n h word r stands is =
    let more = then_is Text (with_text word (record { texts = t; guide = g; nodes = n })) r is in
    subst (λ x. Next h Text t word x) more.2 (text_turned t g n h word more.0 stands more.1)
next_word (Value o) t g n h word r stands is = go (begins_with_dash word) refl is
  where
    go : (b : Bool) → begins_with_dash word ≡ b → (if b then None else then_word Word (with_value o word (record { texts = t; guide = g; nodes = n }))) ≡ Some r → Next h (Value o) t word r
    go true dashed is = cc
    go false plain is = value_next o t g n h word r stands plain is

-- all words were taken without a fault
pub record Taken (w : Walk) (words : List (List ℕ)) (r : Reached) : Type 0 where
  pub held : Held
  pub walks : fold (walked rules []) w words ≡ at_place held r.expects (place_of r.said.texts)
  pub passes : walk_fault shape [] w words ≡ []
  pub stands : StandsAt r.expects held r.said

pub taken : (words : List (List ℕ)) (e : Expects) (s : Sorted) (h : Held) (r : Reached) → StandsAt e h s
    → after_words (Some (record { expects = e; said = s })) words ≡ Some r → Taken (at_place h e (place_of s.texts)) words r
unfolding walk_fault
taken [] e s h r stands is =
    let same : record { expects = e; said = s } ≡ r = cc in
    subst (λ x. Taken (at_place h e (place_of s.texts)) [] x) same (record { held = h; walks = refl; passes = refl; stands = stands })
taken (word ∷ words) e s h r stands is = go (word_met e s word) refl is (λ n t. taken words n.expects n.said t r)
  where
    go : (o : Option Reached) → word_met e s word ≡ o → after_words o words ≡ Some r
        → ((n : Reached) (held : Held) → StandsAt n.expects held n.said → after_words (Some n) words ≡ Some r → Taken (at_place held n.expects (place_of n.said.texts)) words r)
        → Taken (at_place h e (place_of s.texts)) (word ∷ words) r
    go None met is later = cc
    go (Some n) met is later =
        let turned = next_word e s.texts s.guide s.nodes h word n stands met in
        let rest = later n turned.held turned.stands is in
        record {
          held = rest.held;
          walks = ap (λ w. fold (walked rules []) w words) turned.walks ∙ rest.walks;
          passes = ap (λ k. or_else k (walk_fault shape [] (walked rules [] (at_place h e (place_of s.texts)) word) words)) turned.passes
              ∙ (ap (λ w. walk_fault shape [] w words) turned.walks ∙ rest.passes);
          stands = rest.stands;
        }
