use Rattle.std.proofs.Common.{◌≡◌, ◌∙◌, sym, subst, ap, pos, ◌+◌, true, w64}
use Rattle.std.proofs.lemmas.Int.{to_z-of_z}
use Rattle.lam_fraction.specs.numbers.Numbers.{MultipleRoom}
use Rattle.lam_fraction.specs.inside.Reaches.{Reaches, sixteenths}
use Rattle.lam_tsai.specs.inside.Values as by
use Rattle.lam_tsai.proofs.Rounding.{within-reach, stretched-room, stretched-reach}
use Rattle.lam_tsai.proofs.loaded.rounded.Goals as goal

pub times_whole-y-requires : goal.times_whole-y-requires
times_whole-y-requires g c =
    let n = g.N.Enclosure.numbers in
    let laws = g.met.N.Enclosure.laws in
    let z = c.args.z.now in
    let limit = to_z-of_z w64 c.nine_eighths.result (record { sfits = c.nine_eighths.type_inv }) ∙ c.nine_eighths.ensures.value in
    let test : by.within n z.value (pos (by.nine_eighths n z.shift)) ≡ true = ap (by.within n z.value) (sym limit) ∙ sym c.is_within.ensures ∙ c.if-is_within.true in
    let power = to_z-of_z w64 c.power.result (record { sfits = c.power.type_inv }) ∙ c.power.ensures.value in
    subst (λ p. MultipleRoom n z.value p) (sym power) (stretched-room laws z.value z.shift c.requires (within-reach laws z.value (by.nine_eighths n z.shift) test))

pub stretched-requires : goal.stretched-requires
stretched-requires g c =
    let n = g.N.Enclosure.numbers in
    let laws = g.met.N.Enclosure.laws in
    let z = c.args.z.now in
    let limit = to_z-of_z w64 c.nine_eighths.result (record { sfits = c.nine_eighths.type_inv }) ∙ c.nine_eighths.ensures.value in
    let test : by.within n z.value (pos (by.nine_eighths n z.shift)) ≡ true = ap (by.within n z.value) (sym limit) ∙ sym c.is_within.ensures ∙ c.if-is_within.true in
    let power = to_z-of_z w64 c.power.result (record { sfits = c.power.type_inv }) ∙ c.power.ensures.value in
    subst (Reaches n (sixteenths 18 + 4)) (sym (c.times_whole-y.ensures ∙ ap (n.calc.multiple z.value) power)) (stretched-reach laws z.value z.shift c.requires (within-reach laws z.value (by.nine_eighths n z.shift) test))
