-- Clap takes each word that can be sorted, and without a fault.
use Rattle.std.proofs.Common.{ℕ, ◌+◌, ◌≤◌, ◌≡◌, ◌∙◌, ap, refl, sym, subst, List, [], ◌∷◌, ◌++◌, Bool, true, false, Option, Some, None, length, codes, arith, nat_lt}
use Rattle.std.specs.Prelude.{if◌then◌else◌, ◌&&◌, ◌||◌, min}
use Rattle.std.specs.Str.{bytes_eq}
use Rattle.std.specs.Option.{option_map_or}
use Rattle.clap.specs.Lexer.{usize_max, long_of}
use Rattle.clap.specs.Walk.{Row, Held, Step, Waiting, value, next, trailing, idle, option, walked, word_met, arg_by_id, arg_by_index, settled, used_by_id, after_step, pushed, is_pending, long_or_other, short_or_plain}
use Rattle.clap.specs.Kinds.{Kinds}
use Rattle.clap.specs.Faults.{settle_fault, use_fault, word_fault, turn_fault, positional_fault, stray_fault, flag_word_fault, bundle_fault}
use Rattle.clap.specs.Kinds.{or_else}
use Rattle.clap.proofs.OnLiterals.{clap_on_literals}
use Rattle.clap.proofs.WalkLemmas.{positional_is}
use Rattle.clap.proofs.FaultLemmas.{turn_is}
use Rattle.lam_words.specs.declared.option_name.Expects.{Expects}
use Rattle.lam_words.specs.declared.option_name.Expects.TheVariants.{Word, Value, Text}
use Rattle.lam_words.specs.declared.option_name.OptionName.TheVariants.{Guide, Nodes}
use Rattle.lam_words.specs.Sorting.{Sorted, with_text}
use Rattle.lam_words.proofs.Built.{rules, shape, place_rule, place_passes, long_passes}
use Rattle.lam_words.proofs.FoundRows.{HasRows, found, added, has_guide, has_nodes, has_mode, has_first, has_second, has_third}
use Rattle.lam_words.proofs.PlainWords.{IsPlain}
use Rattle.lam_words.proofs.Standing.{Turned, Settles, Waits, at_place, place_of, rows_from, waiting_for, is_text}

-- a use with one value takes no several
not_several : (b : Bool) (x y : Held) → (if b && false then x else y) ≡ y
not_several true x y = refl
not_several false x y = refl

none_several : (b : Bool) (k : Kinds) → k ≡ [] → ◌≡◌ {A = Kinds} (if b && false then [] else k) []
none_several true k e = e
none_several false k e = e

-- what a word that goes to a positional leaves
abbrev text_held : List ℕ → List ℕ → Held → Held
text_held name word h = record { rows = rows_from h; pending = Some (name, word ∷ []); skip = h.skip }

record Took (h : Held) (e : Expects) (place : ℕ) (word : List ℕ) (s : Sorted) : Type 0 where
  held : Held
  walks : walked rules [] (at_place h e place) word ≡ at_place held e (place_of s.texts)
  passes : turn_fault shape [] (at_place h e place) word ≡ []
  settles : Settles held s

took : (name : List ℕ) (place : ℕ) (required : Bool) (h : Held) (e : Expects) (word : List ℕ) (s : Sorted)
    → Some (place_rule name place required) ≡ arg_by_index rules place → Some (place_rule name place required) ≡ arg_by_id rules name
    → place_of s.texts ≡ min (place + 1) usize_max
    → waiting_for e ≡ idle → is_text e ≡ (is_text e || false)
    → found name (rows_from h) ≡ None → settle_fault rules false h ≡ []
    → word_met rules [] (is_text e) (waiting_for e) place word h ≡ (h, value) → word_fault shape [] (is_text e) (waiting_for e) word h ≡ []
    → HasRows (added name word (rows_from h)) s → Took h e place word s
unfolding clap_on_literals
took name place required h e word s by_index by_id then_place waits trails none settles met passed has = record {
  held = text_held name word h;
  walks = ap (λ (m : Held × Step). after_step rules word (at_place h e place) m.0 m.1) met
      ∙ sym (positional_is rules (at_place h e place) word h (text_held name word h) (place_rule name place required) (waiting_for e) (place_of s.texts) (is_text e) by_index
      (sym (ap (pushed name word) (not_several (is_pending (place_rule name place required) h.pending) h (settled rules h)))) waits then_place trails);
  passes = sym (turn_is shape [] (at_place h e place) word h value (sym met) passed)
      ∙ (ap (λ o. option_map_or (λ a. positional_fault rules false a h) o (stray_fault shape)) (sym by_index)
      ∙ none_several (is_pending (place_rule name place required) h.pending) (settle_fault rules false h) settles);
  settles = record {
    rows = subst (λ rows. HasRows rows s) (ap (λ o. used_by_id o (word ∷ []) (rows_from h)) by_id) has;
    passes = ap (λ o. option_map_or (λ a. use_fault false a (word ∷ []) (rows_from h)) o []) (sym by_id) ∙ place_passes name word place required (rows_from h) none;
  };
}

no_fifth : (k : ℕ) (s t : Sorted) → 4 ≤ k → (if nat_lt k 4 then Some s else None) ≡ Some t → ⊥
no_fifth k s t four e = go (nat_lt k 4) refl e
  where
    go : (b : Bool) → nat_lt k 4 ≡ b → (if b then Some s else None) ≡ Some t → ⊥
    go true less e = grind arith
    go false less e = cc

-- a word that is no option and is one text more
text_took : (t : List (List ℕ)) (g n : Option (List ℕ)) (h : Held) (e : Expects) (word : List ℕ) (s : Sorted) → Settles h (record { texts = t; guide = g; nodes = n })
    → waiting_for e ≡ idle → is_text e ≡ (is_text e || false)
    → word_met rules [] (is_text e) (waiting_for e) (place_of t) word h ≡ (h, value) → word_fault shape [] (is_text e) (waiting_for e) word h ≡ []
    → with_text word (record { texts = t; guide = g; nodes = n }) ≡ Some s → Took h e (place_of t) word s
text_took [] g n h e word s settles waits trails met passed more =
    let same : record { texts = word ∷ []; guide = g; nodes = n } ≡ s = cc in
    subst (λ x. Took h e 1 word x) same (took (codes "mode") 1 true h e word _ refl refl refl waits trails settles.rows.mode settles.passes met passed (has_mode word (rows_from h) g n settles.rows))
text_took (a ∷ []) g n h e word s settles waits trails met passed more =
    let same : record { texts = a ∷ word ∷ []; guide = g; nodes = n } ≡ s = cc in
    subst (λ x. Took h e 2 word x) same (took (codes "first") 2 true h e word _ refl refl refl waits trails settles.rows.first settles.passes met passed (has_first a word (rows_from h) g n settles.rows))
text_took (a ∷ b ∷ []) g n h e word s settles waits trails met passed more =
    let same : record { texts = a ∷ b ∷ word ∷ []; guide = g; nodes = n } ≡ s = cc in
    subst (λ x. Took h e 3 word x) same (took (codes "second") 3 false h e word _ refl refl refl waits trails settles.rows.second settles.passes met passed (has_second a b word (rows_from h) g n settles.rows))
text_took (a ∷ b ∷ d ∷ []) g n h e word s settles waits trails met passed more =
    let same : record { texts = a ∷ b ∷ d ∷ word ∷ []; guide = g; nodes = n } ≡ s = cc in
    subst (λ x. Took h e 4 word x) same (took (codes "third") 4 false h e word _ refl refl refl waits trails settles.rows.third settles.passes met passed (has_third a b d word (rows_from h) g n settles.rows))
text_took (a ∷ b ∷ d ∷ f ∷ more) g n h e word s settles waits trails met passed fifth = absurd (no_fifth (length (a ∷ b ∷ d ∷ f ∷ more)) _ s (omega arith) fifth)

-- after `--` each word is a text
pub text_turned : (t : List (List ℕ)) (g n : Option (List ℕ)) (h : Held) (word : List ℕ) (s : Sorted) → Settles h (record { texts = t; guide = g; nodes = n })
    → with_text word (record { texts = t; guide = g; nodes = n }) ≡ Some s → Turned (at_place h Text (place_of t)) word Text s
text_turned t g n h word s settles more =
    let took = text_took t g n h Text word s settles refl refl refl refl more in
    record { held = took.held; walks = took.walks; passes = took.passes; stands = took.settles }

plain_met : (waiting : Waiting) (place : ℕ) (word : List ℕ) (h : Held) (r : Held × Step) → IsPlain word → short_or_plain rules waiting word None h ≡ r
    → (if bytes_eq word (45 ∷ 45 ∷ []) then (h, trailing place) else long_or_other rules waiting word (long_of word) h) ≡ r
plain_met waiting place word h r plain is =
    ap (λ b. if b then (h, trailing place) else long_or_other rules waiting word (long_of word) h) plain.no_end
    ∙ (ap (λ o. long_or_other rules waiting word o h) plain.no_long ∙ (ap (λ o. short_or_plain rules waiting word o h) plain.no_short ∙ is))

plain_passes : (word : List ℕ) (h : Held) → IsPlain word → ◌≡◌ {A = Kinds} (if bytes_eq word (45 ∷ 45 ∷ []) then [] else flag_word_fault rules false (long_of word) word h) []
plain_passes word h plain = ap (λ b. if b then [] else flag_word_fault rules false (long_of word) word h) plain.no_end
    ∙ (ap (λ o. flag_word_fault rules false o word h) plain.no_long ∙ ap (λ o. option_map_or (λ flags. bundle_fault rules false flags h) o []) plain.no_short)

pub plain_turned : (t : List (List ℕ)) (g n : Option (List ℕ)) (h : Held) (word : List ℕ) (s : Sorted) → IsPlain word → Settles h (record { texts = t; guide = g; nodes = n })
    → with_text word (record { texts = t; guide = g; nodes = n }) ≡ Some s → Turned (at_place h Word (place_of t)) word Word s
plain_turned t g n h word s plain settles more =
    let took = text_took t g n h Word word s settles refl refl (plain_met idle (place_of t) word h (h, value) plain refl) (plain_passes word h plain) more in
    record { held = took.held; walks = took.walks; passes = took.passes; stands = took.settles }

pub end_turned : (h : Held) (s : Sorted) → Settles h s → Turned (at_place h Word (place_of s.texts)) (codes "--") Text s
unfolding clap_on_literals
end_turned h s settles = record { held = h; walks = refl; passes = refl; stands = settles }

pub guide_turned : (h : Held) (s : Sorted) → Settles h s → Turned (at_place h Word (place_of s.texts)) (codes "--guide") (Value Guide) s
unfolding clap_on_literals
guide_turned h s settles = record {
  held = record { rows = rows_from h; pending = Some (codes "guide", []); skip = h.skip };
  walks = refl;
  passes = ap (λ k. or_else k []) settles.passes;
  stands = record { rows = rows_from h; skip = h.skip; is = refl; has = settles.rows };
}

pub nodes_turned : (h : Held) (s : Sorted) → Settles h s → Turned (at_place h Word (place_of s.texts)) (codes "--nodes") (Value Nodes) s
unfolding clap_on_literals
nodes_turned h s settles = record {
  held = record { rows = rows_from h; pending = Some (codes "nodes", []); skip = h.skip };
  walks = refl;
  passes = ap (λ k. or_else k []) settles.passes;
  stands = record { rows = rows_from h; skip = h.skip; is = refl; has = settles.rows };
}

both_pass : (a b : Kinds) → a ≡ [] → b ≡ [] → or_else (or_else a b) [] ≡ []
both_pass a b p q = λ i. or_else (or_else (p i) (q i)) []

pub guide_attached : (v : List ℕ) (t : List (List ℕ)) (n : Option (List ℕ)) (h : Held) → Settles h (record { texts = t; guide = None; nodes = n })
    → Turned (at_place h Word (place_of t)) (codes "--guide=" ++ v) Word (record { texts = t; guide = Some v; nodes = n })
unfolding clap_on_literals
guide_attached v t n h settles = record {
  held = record { rows = added (codes "guide") v (rows_from h); pending = None; skip = h.skip };
  walks = refl;
  passes = both_pass (settle_fault rules false h) _ settles.passes (long_passes (codes "guide") v (rows_from h) settles.rows.guide);
  stands = record { rows = has_guide v (rows_from h) t n settles.rows; passes = refl };
}

pub nodes_attached : (v : List ℕ) (t : List (List ℕ)) (g : Option (List ℕ)) (h : Held) → Settles h (record { texts = t; guide = g; nodes = None })
    → Turned (at_place h Word (place_of t)) (codes "--nodes=" ++ v) Word (record { texts = t; guide = g; nodes = Some v })
unfolding clap_on_literals
nodes_attached v t g h settles = record {
  held = record { rows = added (codes "nodes") v (rows_from h); pending = None; skip = h.skip };
  walks = refl;
  passes = both_pass (settle_fault rules false h) _ settles.passes (long_passes (codes "nodes") v (rows_from h) settles.rows.nodes);
  stands = record { rows = has_nodes v (rows_from h) t g settles.rows; passes = refl };
}

-- the value of an option
abbrev waiting_held : List ℕ → List Row → ℕ → Held
waiting_held name rows skip = record { rows = rows; pending = Some (name, []); skip = skip }

abbrev value_held : List ℕ → List ℕ → List Row → ℕ → Held
value_held name word rows skip = record { rows = rows; pending = Some (name, word ∷ []); skip = skip }

guide_value : (word : List ℕ) (t : List (List ℕ)) (n : Option (List ℕ)) (rows : List Row) (skip : ℕ) → IsPlain word → HasRows rows (record { texts = t; guide = None; nodes = n })
    → Turned (at_place (waiting_held (codes "guide") rows skip) (Value Guide) (place_of t)) word Word (record { texts = t; guide = Some word; nodes = n })
unfolding clap_on_literals
guide_value word t n rows skip plain has =
    let met = plain_met (option (codes "guide")) (place_of t) word (waiting_held (codes "guide") rows skip) (value_held (codes "guide") word rows skip, next idle) plain refl in
    record {
      held = value_held (codes "guide") word rows skip;
      walks = ap (λ (m : Held × Step). after_step rules word (at_place (waiting_held (codes "guide") rows skip) (Value Guide) (place_of t)) m.0 m.1) met;
      passes = sym (turn_is shape [] (at_place (waiting_held (codes "guide") rows skip) (Value Guide) (place_of t)) word (value_held (codes "guide") word rows skip) (next idle) (sym met)
          (plain_passes word (waiting_held (codes "guide") rows skip) plain));
      stands = record { rows = has_guide word rows t n has; passes = long_passes (codes "guide") word rows has.guide };
    }

nodes_value : (word : List ℕ) (t : List (List ℕ)) (g : Option (List ℕ)) (rows : List Row) (skip : ℕ) → IsPlain word → HasRows rows (record { texts = t; guide = g; nodes = None })
    → Turned (at_place (waiting_held (codes "nodes") rows skip) (Value Nodes) (place_of t)) word Word (record { texts = t; guide = g; nodes = Some word })
unfolding clap_on_literals
nodes_value word t g rows skip plain has =
    let met = plain_met (option (codes "nodes")) (place_of t) word (waiting_held (codes "nodes") rows skip) (value_held (codes "nodes") word rows skip, next idle) plain refl in
    record {
      held = value_held (codes "nodes") word rows skip;
      walks = ap (λ (m : Held × Step). after_step rules word (at_place (waiting_held (codes "nodes") rows skip) (Value Nodes) (place_of t)) m.0 m.1) met;
      passes = sym (turn_is shape [] (at_place (waiting_held (codes "nodes") rows skip) (Value Nodes) (place_of t)) word (value_held (codes "nodes") word rows skip) (next idle) (sym met)
          (plain_passes word (waiting_held (codes "nodes") rows skip) plain));
      stands = record { rows = has_nodes word rows t g has; passes = long_passes (codes "nodes") word rows has.nodes };
    }

pub guide_valued : (word : List ℕ) (t : List (List ℕ)) (n : Option (List ℕ)) (h : Held) → IsPlain word → Waits h Guide (record { texts = t; guide = None; nodes = n })
    → Turned (at_place h (Value Guide) (place_of t)) word Word (record { texts = t; guide = Some word; nodes = n })
guide_valued word t n h plain waits = subst (λ x. Turned (at_place x (Value Guide) (place_of t)) word Word (record { texts = t; guide = Some word; nodes = n })) (sym waits.is)
    (guide_value word t n waits.rows waits.skip plain waits.has)

pub nodes_valued : (word : List ℕ) (t : List (List ℕ)) (g : Option (List ℕ)) (h : Held) → IsPlain word → Waits h Nodes (record { texts = t; guide = g; nodes = None })
    → Turned (at_place h (Value Nodes) (place_of t)) word Word (record { texts = t; guide = g; nodes = Some word })
nodes_valued word t g h plain waits = subst (λ x. Turned (at_place x (Value Nodes) (place_of t)) word Word (record { texts = t; guide = g; nodes = Some word })) (sym waits.is)
    (nodes_value word t g waits.rows waits.skip plain waits.has)
