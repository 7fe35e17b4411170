-- How words are sorted: into positional texts, and the values of the options `--guide` and `--nodes`.
use Rattle.std.specs.Prelude.{ℕ, List, [], ◌∷◌, ◌++◌, length, Bool, false, nat_lt, nat_eq, Option, Some, None, is_some, option_map, codes, bytes_eq, if◌then◌else◌}
use Rattle.lam_words.specs.declared.option_name.OptionName.{OptionName}
use Rattle.lam_words.specs.declared.option_name.OptionName.TheVariants.{Guide, Nodes}
use Rattle.lam_words.specs.declared.option_name.Expects.{Expects}
use Rattle.lam_words.specs.declared.option_name.Expects.TheVariants.{Word, Value, Text}

-- the positional texts in order, and the value of each option that stands
pub record Sorted : Type 0 where
  pub texts : List (List ℕ)
  pub guide : Option (List ℕ)
  pub nodes : Option (List ℕ)

abbrev pub nothing_said : Sorted
nothing_said = record { texts = []; guide = None; nodes = None }

-- one more positional text: there are at most four
abbrev pub with_text : List ℕ → Sorted → Option Sorted
with_text word s =
    if nat_lt (length s.texts) 4 then Some (record s { texts = s.texts ++ word ∷ [] }) else None

-- the value of an option: each stands at most once
abbrev pub with_value : OptionName → List ℕ → Sorted → Option Sorted
with_value Guide v s = if is_some s.guide then None else Some (record s { guide = Some v })
with_value Nodes v s = if is_some s.nodes then None else Some (record s { nodes = Some v })

-- the word begins with `-`
abbrev pub begins_with_dash : List ℕ → Bool
begins_with_dash [] = false
begins_with_dash (c ∷ rest) = nat_eq c 45

-- the word begins with `-` and is longer than one character
abbrev pub is_dashed : List ℕ → Bool
is_dashed [] = false
is_dashed (c ∷ []) = false
is_dashed (c ∷ d ∷ rest) = nat_eq c 45

-- what follows a prefix
abbrev pub after_prefix : List ℕ → List ℕ → Option (List ℕ)
after_prefix [] word = Some word
after_prefix (p ∷ prefix) [] = None
after_prefix (p ∷ prefix) (c ∷ word) = if nat_eq p c then after_prefix prefix word else None

-- what was sorted, and what the next word may be
pub record Reached : Type 0 where
  pub expects : Expects
  pub said : Sorted

abbrev pub then_word : Expects → Option Sorted → Option Reached
then_word e = option_map (λ s. record { expects = e; said = s })

-- a word that is no option and not `--`: it is refused where it looks like an option
abbrev pub plain_word : Sorted → List ℕ → Option Reached
plain_word s word = if is_dashed word then None else then_word Word (with_text word s)

-- `--nodes=V`, or a plain word
abbrev pub nodes_word : Sorted → List ℕ → Option (List ℕ) → Option Reached
nodes_word s word (Some v) = then_word Word (with_value Nodes v s)
nodes_word s word None = plain_word s word

-- `--guide=V`, or another word
abbrev pub attached_word : Sorted → List ℕ → Option (List ℕ) → Option Reached
attached_word s word (Some v) = then_word Word (with_value Guide v s)
attached_word s word None = nodes_word s word (after_prefix (codes "--nodes=") word)

-- a word before `--`
abbrev pub any_word : Sorted → List ℕ → Option Reached
any_word s word =
    if bytes_eq word (codes "--") then then_word Text (Some s)
    else (if bytes_eq word (codes "--guide") then then_word (Value Guide) (Some s)
    else (if bytes_eq word (codes "--nodes") then then_word (Value Nodes) (Some s)
    else attached_word s word (after_prefix (codes "--guide=") word)))

-- a word, by what it may be: the value of an option doesn't begin with `-`
abbrev pub word_met : Expects → Sorted → List ℕ → Option Reached
word_met Word s word = any_word s word
word_met (Value o) s word =
    if begins_with_dash word then None else then_word Word (with_value o word s)
word_met Text s word = then_word Text (with_text word s)

-- after one more word
abbrev pub after_word : Reached → List ℕ → Option Reached
after_word r word = word_met r.expects r.said word

-- after all words
abbrev pub after_words : Option Reached → List (List ℕ) → Option Reached
after_words None words = None
after_words (Some r) [] = Some r
after_words (Some r) (word ∷ words) = after_words (after_word r word) words

-- no option is left without its value
abbrev pub ended_at : Expects → Sorted → Option Sorted
ended_at (Value o) s = None
ended_at Word s = Some s
ended_at Text s = Some s

abbrev pub ended : Option Reached → Option Sorted
ended None = None
ended (Some r) = ended_at r.expects r.said

-- the words sorted, where they can be
abbrev pub sorted_words : List (List ℕ) → Option Sorted
sorted_words words = ended (after_words (Some (record { expects = Word; said = nothing_said })) words)
