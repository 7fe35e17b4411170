-- The guides that are handed to a run.
use Rattle.std.specs.Prelude.{ℕ}
use Rattle.lam_words.specs.declared.order.GuideName.{GuideName}
use Rattle.lam_words.specs.declared.order.GuideName.TheVariants.{Cheapest, Thickest, Learner}

-- the place of a guide among them, from 0
abbrev pub place_of : GuideName → ℕ
place_of Cheapest = 0
place_of Thickest = 1
place_of Learner = 2
