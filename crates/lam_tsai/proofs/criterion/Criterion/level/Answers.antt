use Rattle.std.proofs.Common.{sym, ◌∙◌, ap, ap₂, subst, w64}
use Rattle.std.proofs.lemmas.Int.{to_z-of_z}
use Rattle.lam_fraction.specs.Fraction.{whole}
use Rattle.lam_tsai.specs.Levels.{IsLevel, side_of, value_at}
use Rattle.lam_tsai.specs.inside.Values as by
use Rattle.lam_tsai.proofs.LevelHeld.{level-held}
use Rattle.lam_tsai.proofs.criterion.Criterion.level.Goals as goal

pub returns-clause-value : goal.returns-clause-value
returns-clause-value g c =
    c.at_factor.ensures ∙ ap₂ (by.at_factor g.N.Enclosure.numbers c.args.self.now) c.stress-stress.ensures.value (to_z-of_z w64 c.args.factor c.ranges.factor)

pub returns-clause-held : goal.returns-clause-held
returns-clause-held g c = λ s i is made e h.
    let a = c.args in
    let n = g.N.Enclosure.numbers in
    subst (λ l. IsLevel n l (value_at i (side_of a.side) e (whole a.factor))) (sym (returns-clause-value g c ∙ ap (λ k. by.level_by n k a.side a.at.now a.factor) made))
    (level-held g.met.N.Enclosure.laws is a.side a.at.now a.factor c.requires.six c.requires.least c.requires.greatest e h)
