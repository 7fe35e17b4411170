-- The command of clap: what it is to clap's definitions, and what it finds.
use Rattle.std.specs.Prelude.{ℕ, List, [], ◌∷◌, Option, Some, None, Bool, true, false, codes}
use Rattle.clap.specs.Words.{App, Rule, Row, new_app, new_rule, with_rule, first_of}
use Rattle.lam_words.specs.Sorting.{Sorted}

-- a positional text of the name
abbrev pub text_rule : List ℕ → Bool → Rule
text_rule name required = record (new_rule name) { required = required }

-- an option of the name
abbrev pub option_rule : List ℕ → Rule
option_rule name = record (new_rule name) { long = Some name }

abbrev pub bare_app : App
bare_app = record {
  top = record (new_app (codes "laminate")).top { no_binary_name = true; disable_help_flag = true };
  subs = [];
}

-- four positional texts, of which two are required, and two options
abbrev pub words_app : App
words_app = with_rule
    (with_rule
    (with_rule
    (with_rule
    (with_rule (with_rule bare_app (text_rule (codes "mode") true)) (text_rule (codes "first") true))
    (text_rule (codes "second") false))
    (text_rule (codes "third") false))
    (option_rule (codes "guide")))
    (option_rule (codes "nodes"))

-- the texts in order, as far as they go
abbrev pub leading : (a b c d : Option (List ℕ)) → List (List ℕ)
leading None b c d = []
leading (Some a) None c d = a ∷ []
leading (Some a) (Some b) None d = a ∷ b ∷ []
leading (Some a) (Some b) (Some c) None = a ∷ b ∷ c ∷ []
leading (Some a) (Some b) (Some c) (Some d) = a ∷ b ∷ c ∷ d ∷ []

-- the positional texts and the values of the options in what clap found
abbrev pub rows_said : List Row → Sorted
rows_said rows = record {
  texts = leading (first_of (codes "mode") rows) (first_of (codes "first") rows)
      (first_of (codes "second") rows) (first_of (codes "third") rows);
  guide = first_of (codes "guide") rows;
  nodes = first_of (codes "nodes") rows;
}
