use Rattle.std.proofs.Common.{sym, ◌∙◌, ap, subst, ◌*◌, ◌≤◌, pos, unsigned_abs, SFits, w64, rules}
use Rattle.std.proofs.lemmas.Int.{to_z-of_z}
use Rattle.lam_fraction.specs.numbers.Numbers.{unit}
use Rattle.lam_boxes.proofs.residual.eighths.Goals as goal

pub eighth-requires : goal.eighth-requires
eighth-requires g c =
    let f : SFits w64 c.args.centre.now.x = search rules in
    subst (λ z. unsigned_abs z ≤ 4 * unit g.N.Enclosure.numbers) (sym (to_z-of_z w64 c.args.centre.now.x f)) c.requires.x

pub eighth-requires-2 : goal.eighth-requires-2
eighth-requires-2 g c =
    let f : SFits w64 c.args.centre.now.y = search rules in
    subst (λ z. unsigned_abs z ≤ 4 * unit g.N.Enclosure.numbers) (sym (to_z-of_z w64 c.args.centre.now.y f)) c.requires.y

pub eighth-requires-3 : goal.eighth-requires-3
eighth-requires-3 g c =
    let f : SFits w64 c.args.centre.now.s = search rules in
    subst (λ z. unsigned_abs z ≤ 4 * unit g.N.Enclosure.numbers) (sym (to_z-of_z w64 c.args.centre.now.s f)) c.requires.s

pub returns-clause-value : goal.returns-clause-value
returns-clause-value g c =
    let fx : SFits w64 c.args.centre.now.x = search rules in
    let x-is = c.eighth.ensures.value ∙ ap (λ z. g.N.Enclosure.numbers.calc.ratio z (pos (8 * unit g.N.Enclosure.numbers))) (to_z-of_z w64 c.args.centre.now.x fx) in
    let fy : SFits w64 c.args.centre.now.y = search rules in
    let y-is = c.eighth-2.ensures.value ∙ ap (λ z. g.N.Enclosure.numbers.calc.ratio z (pos (8 * unit g.N.Enclosure.numbers))) (to_z-of_z w64 c.args.centre.now.y fy) in
    let fs : SFits w64 c.args.centre.now.s = search rules in
    let s-is = c.eighth-3.ensures.value ∙ ap (λ z. g.N.Enclosure.numbers.calc.ratio z (pos (8 * unit g.N.Enclosure.numbers))) (to_z-of_z w64 c.args.centre.now.s fs) in
    λ i. record { x = x-is i; y = y-is i; s = s-is i }

pub returns-clause-reach : goal.returns-clause-reach
returns-clause-reach g c = record { x = c.eighth.ensures.reach; y = c.eighth-2.ensures.reach; s = c.eighth-3.ensures.reach }
