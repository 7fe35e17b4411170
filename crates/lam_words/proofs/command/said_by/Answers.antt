use Rattle.std.proofs.Common.{ℕ, List, Option, ◌≡◌, ◌∙◌, codes}
use Rattle.clap.specs.Words.{found_of}
use Rattle.clap.proofs.WalkLemmas.{first_value-rows}
use Rattle.lam_words.specs.Sorting.{Sorted}
use Rattle.lam_words.specs.inside.Command.{leading}
use Rattle.lam_words.proofs.command.said_by.Goals as goal

same_leading : (a b c d w x y z : Option (List ℕ)) → a ≡ w → b ≡ x → c ≡ y → d ≡ z → leading a b c d ≡ leading w x y z
same_leading a b c d w x y z p q r s = λ i. leading (p i) (q i) (r i) (s i)

same_sorted : (t u : List (List ℕ)) (g h n m : Option (List ℕ)) → t ≡ u → g ≡ h → n ≡ m
    → ◌≡◌ {A = Sorted} (record { texts = t; guide = g; nodes = n }) (record { texts = u; guide = h; nodes = m })
same_sorted t u g h n m p q r = λ i. record { texts = p i; guide = q i; nodes = r i }

pub returns : goal.returns
returns c =
    let f = found_of c.args.matches.now in
    let texts = c.texts_of.ensures ∙ same_leading _ _ _ _ _ _ _ _ (c.get_str-mode.ensures ∙ first_value-rows f (codes "mode")) (c.get_str-first.ensures ∙ first_value-rows f (codes "first"))
    (c.get_str-second.ensures ∙ first_value-rows f (codes "second")) (c.get_str-third.ensures ∙ first_value-rows f (codes "third")) in
    same_sorted _ _ _ _ _ _ texts (c.get_str.ensures ∙ first_value-rows f (codes "guide")) (c.get_str-2.ensures ∙ first_value-rows f (codes "nodes"))
