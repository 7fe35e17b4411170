-- What the code holds of words.
use Rattle.std.specs.Prelude.{ℕ, List, [], ◌∷◌, option_map}
use Rattle.lam_words.specs.declared.said.Texts.{Texts}
use Rattle.lam_words.specs.declared.said.Texts.TheVariants as held
use Rattle.lam_words.specs.declared.said.Said.{Said}
use Rattle.lam_words.specs.declared.sorting.Reached as held_reached
use Rattle.lam_words.specs.declared.asked.Asked.{Asked}
use Rattle.lam_words.specs.declared.asked.Asked.TheVariants as asked
use Rattle.lam_words.specs.Sorting.{Sorted, Reached}
use Rattle.lam_words.specs.Reading.{OrderWords, design, analyse, check, sample}

abbrev pub texts_of : Texts → List (List ℕ)
texts_of held.None = []
texts_of (held.One a) = a.now ∷ []
texts_of (held.Two a b) = a.now ∷ b.now ∷ []
texts_of (held.Three a b c) = a.now ∷ b.now ∷ c.now ∷ []
texts_of (held.Four a b c d) = a.now ∷ b.now ∷ c.now ∷ d.now ∷ []

abbrev pub sorted_of : Said → Sorted
sorted_of said = record {
  texts = texts_of said.texts;
  guide = option_map (λ s. s.now) said.guide;
  nodes = option_map (λ s. s.now) said.nodes;
}

abbrev pub reached_of : held_reached.Reached → Reached
reached_of r = record { expects = r.expects; said = sorted_of r.said }

abbrev pub asked_of : Asked → OrderWords
asked_of (asked.Design job catalogue search) = design job.now catalogue.now search
asked_of (asked.Analyse job catalogue schedule) = analyse job.now catalogue.now schedule.now
asked_of (asked.Check job catalogue report) = check job.now catalogue.now report.now
asked_of (asked.Sample number search) = sample number search
