-- The command as clap builds it, and one use of an argument of it.
use Rattle.std.proofs.Common.{ℕ, ◌≡◌, ◌∙◌, ap, refl, List, [], ◌∷◌, Bool, true, false, Some, None, is_some, codes}
use Rattle.std.specs.Prelude.{if◌then◌else◌, ◌&&◌, not}
use Rattle.clap.specs.Kinds.{Kinds, or_else}
use Rattle.clap.specs.declared.error.kind.ErrorKind.TheVariants as kind
use Rattle.clap.specs.Walk.{Row, Rule, used, has_row}
use Rattle.clap.specs.Simple.{App, Shape, new_rule, new_shape, built}
use Rattle.clap.specs.Faults.{use_fault, is_simple_and_free}
use Rattle.clap.specs.declared.builder.action.ArgAction.TheVariants.{Set}
use Rattle.clap.specs.declared.builder.value_parser.ValueParser.TheVariants as vp
use Rattle.clap.proofs.OnLiterals.{clap_on_literals}
use Rattle.lam_words.specs.inside.Command.{words_app}
use Rattle.lam_words.proofs.FoundRows.{found, added, has_row-found}

-- an argument of one text
abbrev pub text_rule : List ℕ → Rule
text_rule name = record (new_rule name) {
  action = Some Set;
  range = Some (record { start_inclusive = 1; end_inclusive = 1 });
  parser = Some vp.String;
}

abbrev pub place_rule : List ℕ → ℕ → Bool → Rule
place_rule name place required = record (text_rule name) { index = Some place; required = required }

abbrev pub long_rule : List ℕ → Rule
long_rule name = record (text_rule name) { long = Some name }

abbrev pub rules : List Rule
rules = place_rule (codes "mode") 1 true ∷ place_rule (codes "first") 2 true ∷ place_rule (codes "second") 3 false ∷ place_rule (codes "third") 4 false
    ∷ long_rule (codes "guide") ∷ long_rule (codes "nodes") ∷ []

abbrev pub shape : Shape
shape = record (new_shape (codes "laminate")) {
  rules = rules;
  no_binary_name = true;
  disable_help_flag = true;
  disable_help_subcommand = true;
  is_built = true;
}

pub built_is : ◌≡◌ {A = App} (built words_app) (record { top = shape; subs = [] })
unfolding clap_on_literals
built_is = refl

pub simple : is_simple_and_free words_app ≡ true
unfolding clap_on_literals
simple = refl

-- a value of a name that has none passes
no_repeat : (b : Bool) → b ≡ false → ◌≡◌ {A = Kinds} (if b && not false then kind.ArgumentConflict ∷ [] else []) []
no_repeat true e = cc
no_repeat false e = refl

pub place_passes : (name v : List ℕ) (place : ℕ) (required : Bool) (rows : List Row) → found name rows ≡ None → use_fault false (place_rule name place required) (v ∷ []) rows ≡ []
place_passes name v place required rows none = ap (λ k. or_else k []) (no_repeat (has_row name rows) (has_row-found name rows ∙ ap is_some none))

pub long_passes : (name v : List ℕ) (rows : List Row) → found name rows ≡ None → use_fault false (long_rule name) (v ∷ []) rows ≡ []
long_passes name v rows none = ap (λ k. or_else k []) (no_repeat (has_row name rows) (has_row-found name rows ∙ ap is_some none))

pub place_used : (name v : List ℕ) (place : ℕ) (required : Bool) (rows : List Row) → used (place_rule name place required) (v ∷ []) rows ≡ added name v rows
place_used name v place required rows = refl

pub long_used : (name v : List ℕ) (rows : List Row) → used (long_rule name) (v ∷ []) rows ≡ added name v rows
long_used name v rows = refl
