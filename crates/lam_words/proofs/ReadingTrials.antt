-- The reading of words, on words.
use Rattle.std.proofs.Common.{ℕ, ◌≡◌, refl, List, [], ◌∷◌, Some, None, codes}
use Rattle.lam_words.specs.declared.order.GuideName.TheVariants.{Cheapest, Thickest, Learner}
use Rattle.lam_words.specs.Reading.{reading, design, analyse, check, sample}

abbrev design_job : List ℕ → List (List ℕ) → List (List ℕ)
design_job job words = codes "design" ∷ job ∷ codes "cat" ∷ words

abbrev NoReading : List (List ℕ) → Type 0
NoReading words = reading words ≡ None

-- options before, between and after the texts, in one word or two
attached_and_apart : reading (design_job (codes "job") (codes "--nodes=5" ∷ codes "--guide" ∷ codes "learner" ∷ []))
    ≡ Some (design (codes "job") (codes "cat") (record { guide = Learner; nodes = 5 }))
attached_and_apart = refl

texts_after_the_end : reading (codes "design" ∷ codes "--nodes" ∷ codes "5" ∷ codes "--" ∷ codes "job" ∷ codes "cat" ∷ [])
    ≡ Some (design (codes "job") (codes "cat") (record { guide = Cheapest; nodes = 5 }))
texts_after_the_end = refl

options_by_default : reading (design_job (codes "job") []) ≡ Some (design (codes "job") (codes "cat") (record { guide = Cheapest; nodes = 200000 }))
options_by_default = refl

options_first : reading (codes "--guide=thickest" ∷ codes "--nodes" ∷ codes "200000" ∷ design_job (codes "job") [])
    ≡ Some (design (codes "job") (codes "cat") (record { guide = Thickest; nodes = 200000 }))
options_first = refl

-- a dash alone and an empty word are texts, and so is what looks like an option after `--`
dash_alone : reading (design_job (codes "-") []) ≡ Some (design (codes "-") (codes "cat") (record { guide = Cheapest; nodes = 200000 }))
dash_alone = refl

empty_word : reading (design_job [] []) ≡ Some (design [] (codes "cat") (record { guide = Cheapest; nodes = 200000 }))
empty_word = refl

option_after_the_end : reading (codes "--" ∷ codes "analyse" ∷ codes "--guide=best" ∷ codes "--" ∷ codes "-x" ∷ [])
    ≡ Some (analyse (codes "--guide=best") (codes "--") (codes "-x"))
option_after_the_end = refl

checked : reading (codes "check" ∷ codes "job" ∷ codes "cat" ∷ codes "report" ∷ []) ≡ Some (check (codes "job") (codes "cat") (codes "report"))
checked = refl

sampled : reading (codes "sample" ∷ codes "1000000" ∷ codes "--guide" ∷ codes "cheapest" ∷ []) ≡ Some (sample 1000000 (record { guide = Cheapest; nodes = 200000 }))
sampled = refl

-- numbers out of their range, or not written as they should be
leading_zero : NoReading (design_job (codes "job") (codes "--nodes" ∷ codes "05" ∷ []))
leading_zero = refl

zero_nodes : NoReading (design_job (codes "job") (codes "--nodes" ∷ codes "0" ∷ []))
zero_nodes = refl

too_many_nodes : NoReading (design_job (codes "job") (codes "--nodes=200001" ∷ []))
too_many_nodes = refl

plus_sign : NoReading (design_job (codes "job") (codes "--nodes" ∷ codes "+5" ∷ []))
plus_sign = refl

zero_sample : NoReading (codes "sample" ∷ codes "0" ∷ [])
zero_sample = refl

great_sample : NoReading (codes "sample" ∷ codes "1000001" ∷ [])
great_sample = refl

wide_sample : NoReading (codes "sample" ∷ codes "18446744073709551616" ∷ [])
wide_sample = refl

-- options that are no options, stand twice, lack their value or stand where none may
unknown_guide : NoReading (design_job (codes "job") (codes "--guide" ∷ codes "best" ∷ []))
unknown_guide = refl

nodes_twice : NoReading (design_job (codes "job") (codes "--nodes" ∷ codes "5" ∷ codes "--nodes" ∷ codes "5" ∷ []))
nodes_twice = refl

guide_twice : NoReading (design_job (codes "job") (codes "--guide=learner" ∷ codes "--guide" ∷ codes "learner" ∷ []))
guide_twice = refl

guide_last : NoReading (design_job (codes "job") (codes "--guide" ∷ []))
guide_last = refl

guide_without_value : NoReading (design_job (codes "job") (codes "--guide=" ∷ []))
guide_without_value = refl

value_with_dash : NoReading (design_job (codes "job") (codes "--guide" ∷ codes "-" ∷ []))
value_with_dash = refl

dashed_text : NoReading (codes "design" ∷ codes "job" ∷ codes "-x" ∷ [])
dashed_text = refl

help : NoReading (codes "--help" ∷ [])
help = refl

nodes_with_analyse : NoReading (codes "analyse" ∷ codes "job" ∷ codes "cat" ∷ codes "mat" ∷ codes "--nodes" ∷ codes "5" ∷ [])
nodes_with_analyse = refl

guide_with_check : NoReading (codes "check" ∷ codes "job" ∷ codes "cat" ∷ codes "report" ∷ codes "--guide=learner" ∷ [])
guide_with_check = refl

-- texts that are too few or too many
no_words : NoReading []
no_words = refl

end_alone : NoReading (codes "--" ∷ [])
end_alone = refl

no_catalogue : NoReading (codes "design" ∷ codes "job" ∷ [])
no_catalogue = refl

no_report : NoReading (codes "check" ∷ codes "job" ∷ codes "cat" ∷ [])
no_report = refl

fourth_of_design : NoReading (design_job (codes "job") (codes "more" ∷ []))
fourth_of_design = refl

fifth_text : NoReading (codes "check" ∷ codes "job" ∷ codes "cat" ∷ codes "report" ∷ codes "more" ∷ [])
fifth_text = refl

texts_of_options : NoReading (design_job (codes "job") (codes "--" ∷ codes "--guide" ∷ codes "learner" ∷ []))
texts_of_options = refl
