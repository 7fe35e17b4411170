use Rattle.std.proofs.Common.{rules, ◌≡◌, ◌∙◌, sym, ap, true, false}
use Rattle.lam_fraction.proofs.numbers.Machine.{stored-64}
use Rattle.lam_tsai.specs.declared.place.Side.TheVariants.{Plus, Minus}
use Rattle.lam_boxes.specs.inside.Boxes.{fails}
use Rattle.lam_boxes.proofs.FailingSteps.{side-pair, side-plus, side-ply}
use Rattle.lam_boxes.proofs.places.failing_side.Goals as goal

pub returns-then-fails : goal.returns-then-fails
returns-then-fails g c =
    let n = g.N.Enclosure.numbers in
    let f : stored-64 c.args.factor ≡ c.args.factor = search rules in
    let plus = c.fails.ensures ∙ ap (λ x. fails n c.args.criterion.now c.args.at.now x Plus) f in
    let e : c.fails.result ≡ true = cc in
    side-plus n c.args.criterion.now c.args.at.now c.args.factor (sym plus ∙ e)

pub returns-in-Ply : goal.returns-in-Ply
returns-in-Ply g c =
    let n = g.N.Enclosure.numbers in
    let f : stored-64 c.args.factor ≡ c.args.factor = search rules in
    let plus = c.fails.ensures ∙ ap (λ x. fails n c.args.criterion.now c.args.at.now x Plus) f in
    let e : c.fails.result ≡ false = cc in
    side-ply n c.args.criterion.now c.args.at.now c.args.factor (sym plus ∙ e) c.in-Ply.is

pub returns-in-Pair : goal.returns-in-Pair
returns-in-Pair g c =
    let n = g.N.Enclosure.numbers in
    let f : stored-64 c.args.factor ≡ c.args.factor = search rules in
    let plus = c.fails.ensures ∙ ap (λ x. fails n c.args.criterion.now c.args.at.now x Plus) f in
    let minus = c.fails-in-Pair.ensures ∙ ap (λ x. fails n c.args.criterion.now c.args.at.now x Minus) f in
    let e : c.fails.result ≡ false = cc in
    side-pair n c.args.criterion.now c.args.at.now c.args.factor c.fails-in-Pair.result c.then_some.result (sym plus ∙ e) c.in-Pair.is minus c.then_some.ensures
