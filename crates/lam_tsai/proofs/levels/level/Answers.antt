use Rattle.std.proofs.Common.{sym, ◌∙◌, ap₂, subst, w64}
use Rattle.std.proofs.lemmas.Int.{to_z-of_z}
use Rattle.lam_fraction.specs.Fraction.{whole}
use Rattle.lam_tsai.specs.Levels.{IsLevel, side_of, value_at}
use Rattle.lam_tsai.specs.inside.Values as by
use Rattle.lam_tsai.proofs.LevelHeld.{level-held}
use Rattle.lam_tsai.proofs.levels.level.Goals as goal

pub returns-clause-value : goal.returns-clause-value
returns-clause-value g c =
    let a = c.args in
    c.level.ensures.value ∙ ap₂ (λ k r. by.level_by g.N.Enclosure.numbers k a.side a.at.now r) c.of-criterion.ensures.value (to_z-of_z w64 a.factor c.ranges.factor)

pub returns-clause-held : goal.returns-clause-held
returns-clause-held g c = λ e h.
    let a = c.args in
    subst (λ l. IsLevel g.N.Enclosure.numbers l (value_at a.item.now (side_of a.side) e (whole a.factor))) (sym (returns-clause-value g c))
    (level-held g.met.N.Enclosure.laws c.requires.item a.side a.at.now a.factor c.requires.six c.requires.least c.requires.greatest e h)
