use Rattle.std.proofs.Common.{refl, sym, ◌∙◌, ap₂, subst, SFits, w64, rules}
use Rattle.lam_fraction.proofs.numbers.Machine.{fits_in_128, is_exact, sized_stored-128, sized_result}
use Rattle.lam_solve.proofs.Machine.{sized_ranged}
use Rattle.lam_solve.proofs.Posed.{forces-sized, force-room, force-order, room-as}
use Rattle.lam_boxes.specs.inside.Parts.{ThreeReach, force_reach}
use Rattle.lam_boxes.proofs.InBox.{force-reaches}
use Rattle.lam_boxes.proofs.residual.forces.Goals as goal

pub overflow_mul-for_forces : goal.overflow_mul-for_forces
overflow_mul-for_forces g c = fits_in_128 (forces-sized c.requires c.wide_product-whole.ensures) refl

pub of_ratio-requires : goal.of_ratio-requires
of_ratio-requires g c =
    let f : SFits w64 c.args.load.now.nx = search rules in
    let room = room-as (is_exact (sized_stored-128 (sized_result c.from-nx.ensures (sized_ranged f))) refl) (is_exact (sized_stored-128 (forces-sized c.requires c.wide_product-whole.ensures)) refl) (force-room c.requires c.requires.range.nx) in
    record { positive = room.positive; den = room.den; num = room.num; room = room.room }

pub of_ratio-requires-2 : goal.of_ratio-requires-2
of_ratio-requires-2 g c =
    let f : SFits w64 c.args.load.now.ny = search rules in
    let room = room-as (is_exact (sized_stored-128 (sized_result c.from-ny.ensures (sized_ranged f))) refl) (is_exact (sized_stored-128 (forces-sized c.requires c.wide_product-whole.ensures)) refl) (force-room c.requires c.requires.range.ny) in
    record { positive = room.positive; den = room.den; num = room.num; room = room.room }

pub of_ratio-requires-3 : goal.of_ratio-requires-3
of_ratio-requires-3 g c =
    let f : SFits w64 c.args.load.now.nxy = search rules in
    let room = room-as (is_exact (sized_stored-128 (sized_result c.from-nxy.ensures (sized_ranged f))) refl) (is_exact (sized_stored-128 (forces-sized c.requires c.wide_product-whole.ensures)) refl) (force-room c.requires c.requires.range.nxy) in
    record { positive = room.positive; den = room.den; num = room.num; room = room.room }

pub returns-clause-value : goal.returns-clause-value
returns-clause-value g c =
    let calc = g.N.Enclosure.numbers.calc in
    let den = is_exact (sized_stored-128 (forces-sized c.requires c.wide_product-whole.ensures)) refl in
    let fits-nx : SFits w64 c.args.load.now.nx = search rules in
    let x-is = c.of_ratio.ensures ∙ ap₂ calc.ratio (is_exact (sized_stored-128 (sized_result c.from-nx.ensures (sized_ranged fits-nx))) refl) den in
    let fits-ny : SFits w64 c.args.load.now.ny = search rules in
    let y-is = c.of_ratio-2.ensures ∙ ap₂ calc.ratio (is_exact (sized_stored-128 (sized_result c.from-ny.ensures (sized_ranged fits-ny))) refl) den in
    let fits-nxy : SFits w64 c.args.load.now.nxy = search rules in
    let s-is = c.of_ratio-3.ensures ∙ ap₂ calc.ratio (is_exact (sized_stored-128 (sized_result c.from-nxy.ensures (sized_ranged fits-nxy))) refl) den in
    λ i. record { x = x-is i; y = y-is i; s = s-is i }

pub returns-clause-reach : goal.returns-clause-reach
returns-clause-reach g c =
    let laws = g.met.N.Enclosure.laws in
    let is = c.requires in
    let load = c.args.load.now in
    subst (ThreeReach g.N.Enclosure.numbers force_reach) (sym (returns-clause-value g c)) (record {
      x = force-reaches laws is load.nx (force-room is is.range.nx) (force-order is load.nx is.range.nx);
      y = force-reaches laws is load.ny (force-room is is.range.ny) (force-order is load.ny is.range.ny);
      s = force-reaches laws is load.nxy (force-room is is.range.nxy) (force-order is load.nxy is.range.nxy);
    })
