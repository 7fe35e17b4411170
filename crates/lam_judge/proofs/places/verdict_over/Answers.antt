use Rattle.std.proofs.Common.{◌∙◌, ap, w64}
use Rattle.std.proofs.lemmas.Int.{to_z-of_z}
use Rattle.lam_tsai.specs.Levels.{verdict_of}
use Rattle.lam_tsai.specs.inside.Values.{level_by}
use Rattle.lam_judge.proofs.places.verdict_over.Goals as goal

pub returns : goal.returns
returns g c =
    let n = g.N.Enclosure.numbers in
    let a = c.args in
    c.verdict.ensures ∙ ap (verdict_of n) (c.level.ensures.value ∙ ap (level_by n a.criterion.now a.side a.at.now) (to_z-of_z w64 a.factor c.ranges.factor))
