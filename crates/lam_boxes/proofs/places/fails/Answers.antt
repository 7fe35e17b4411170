use Rattle.std.proofs.Common.{rules, ◌≡◌, ◌∙◌, ap}
use Rattle.lam_fraction.proofs.numbers.Machine.{stored-64}
use Rattle.lam_tsai.specs.Levels.{verdict_of}
use Rattle.lam_tsai.specs.inside.Values.{level_by}
use Rattle.lam_boxes.specs.inside.Boxes.{is_failed}
use Rattle.lam_boxes.proofs.places.fails.Goals as goal

pub returns : goal.returns
returns g c =
    let n = g.N.Enclosure.numbers in
    let f : stored-64 c.args.factor ≡ c.args.factor = search rules in
    c.is_failed.ensures ∙ ap is_failed (c.verdict.ensures ∙ ap (verdict_of n) (c.level.ensures.value ∙ ap (λ x. level_by n c.args.criterion.now c.args.side c.args.at.now x) f))
