use Rattle.std.proofs.Common.{refl, sym, ◌∙◌, ap₂, subst, SFits, w64, rules}
use Rattle.lam_fraction.proofs.numbers.Machine.{fits_in_128, is_exact, sized_stored-128, sized_stored-64, sized_product, sized_number, sized_result}
use Rattle.lam_solve.specs.inside.Parts.{SmallLoads}
use Rattle.lam_solve.proofs.Machine.{sized_ranged}
use Rattle.lam_solve.proofs.Posed.{forces-sized, moments-sized, force-room, moment-room, force-order, moment-order, ratio-small, room-as}
use Rattle.lam_solve.proofs.loads.loads.Goals as goal

pub overflow_mul-for_forces : goal.overflow_mul-for_forces
overflow_mul-for_forces g c = fits_in_128 (forces-sized c.requires c.wide_product-whole.ensures) refl

pub overflow_mul-for_moments : goal.overflow_mul-for_moments
overflow_mul-for_moments g c = fits_in_128 (moments-sized c.requires c.wide_product-whole.ensures c.from.ensures) refl

pub of_ratio-requires : goal.of_ratio-requires
of_ratio-requires g c =
    let f : SFits w64 c.args.load.now.nx = search rules in
    let room = room-as (is_exact (sized_stored-128 (sized_result c.from-nx.ensures (sized_ranged f))) refl) (is_exact (sized_stored-128 (forces-sized c.requires c.wide_product-whole.ensures)) refl) (force-room c.requires c.requires.range.nx) in
    record { positive = room.positive; den = room.den; num = room.num; room = room.room }

pub of_ratio-requires-2 : goal.of_ratio-requires-2
of_ratio-requires-2 g c =
    let f : SFits w64 c.args.load.now.ny = search rules in
    let room = room-as (is_exact (sized_stored-128 (sized_result c.from-ny.ensures (sized_ranged f))) refl) (is_exact (sized_stored-128 (forces-sized c.requires c.wide_product-whole.ensures)) refl) (force-room c.requires c.requires.range.ny) in
    record { positive = room.positive; den = room.den; num = room.num; room = room.room }

pub of_ratio-requires-3 : goal.of_ratio-requires-3
of_ratio-requires-3 g c =
    let f : SFits w64 c.args.load.now.nxy = search rules in
    let room = room-as (is_exact (sized_stored-128 (sized_result c.from-nxy.ensures (sized_ranged f))) refl) (is_exact (sized_stored-128 (forces-sized c.requires c.wide_product-whole.ensures)) refl) (force-room c.requires c.requires.range.nxy) in
    record { positive = room.positive; den = room.den; num = room.num; room = room.room }

pub of_ratio-requires-4 : goal.of_ratio-requires-4
of_ratio-requires-4 g c =
    let f : SFits w64 c.args.load.now.mx = search rules in
    let room = room-as (is_exact (sized_stored-128 (sized_result c.wide_product-mx.ensures (sized_product (sized_stored-64 (sized_number 2000)) (sized_ranged f)))) refl) (is_exact (sized_stored-128 (moments-sized c.requires c.wide_product-whole.ensures c.from.ensures)) refl) (moment-room c.requires c.args.load.now.mx c.requires.range.mx) in
    record { positive = room.positive; den = room.den; num = room.num; room = room.room }

pub of_ratio-requires-5 : goal.of_ratio-requires-5
of_ratio-requires-5 g c =
    let f : SFits w64 c.args.load.now.my = search rules in
    let room = room-as (is_exact (sized_stored-128 (sized_result c.wide_product-my.ensures (sized_product (sized_stored-64 (sized_number 2000)) (sized_ranged f)))) refl) (is_exact (sized_stored-128 (moments-sized c.requires c.wide_product-whole.ensures c.from.ensures)) refl) (moment-room c.requires c.args.load.now.my c.requires.range.my) in
    record { positive = room.positive; den = room.den; num = room.num; room = room.room }

pub of_ratio-requires-6 : goal.of_ratio-requires-6
of_ratio-requires-6 g c =
    let f : SFits w64 c.args.load.now.mxy = search rules in
    let room = room-as (is_exact (sized_stored-128 (sized_result c.wide_product-mxy.ensures (sized_product (sized_stored-64 (sized_number 2000)) (sized_ranged f)))) refl) (is_exact (sized_stored-128 (moments-sized c.requires c.wide_product-whole.ensures c.from.ensures)) refl) (moment-room c.requires c.args.load.now.mxy c.requires.range.mxy) in
    record { positive = room.positive; den = room.den; num = room.num; room = room.room }

pub returns-clause-value : goal.returns-clause-value
returns-clause-value g c =
    let calc = g.N.Enclosure.numbers.calc in
    let for_forces = is_exact (sized_stored-128 (forces-sized c.requires c.wide_product-whole.ensures)) refl in
    let for_moments = is_exact (sized_stored-128 (moments-sized c.requires c.wide_product-whole.ensures c.from.ensures)) refl in
    let fits-nx : SFits w64 c.args.load.now.nx = search rules in
    let ex-is = c.of_ratio.ensures ∙ ap₂ calc.ratio (is_exact (sized_stored-128 (sized_result c.from-nx.ensures (sized_ranged fits-nx))) refl) for_forces in
    let fits-ny : SFits w64 c.args.load.now.ny = search rules in
    let ey-is = c.of_ratio-2.ensures ∙ ap₂ calc.ratio (is_exact (sized_stored-128 (sized_result c.from-ny.ensures (sized_ranged fits-ny))) refl) for_forces in
    let fits-nxy : SFits w64 c.args.load.now.nxy = search rules in
    let g-is = c.of_ratio-3.ensures ∙ ap₂ calc.ratio (is_exact (sized_stored-128 (sized_result c.from-nxy.ensures (sized_ranged fits-nxy))) refl) for_forces in
    let fits-mx : SFits w64 c.args.load.now.mx = search rules in
    let kx-is = c.of_ratio-4.ensures ∙ ap₂ calc.ratio (is_exact (sized_stored-128 (sized_result c.wide_product-mx.ensures (sized_product (sized_stored-64 (sized_number 2000)) (sized_ranged fits-mx)))) refl) for_moments in
    let fits-my : SFits w64 c.args.load.now.my = search rules in
    let ky-is = c.of_ratio-5.ensures ∙ ap₂ calc.ratio (is_exact (sized_stored-128 (sized_result c.wide_product-my.ensures (sized_product (sized_stored-64 (sized_number 2000)) (sized_ranged fits-my)))) refl) for_moments in
    let fits-mxy : SFits w64 c.args.load.now.mxy = search rules in
    let kg-is = c.of_ratio-6.ensures ∙ ap₂ calc.ratio (is_exact (sized_stored-128 (sized_result c.wide_product-mxy.ensures (sized_product (sized_stored-64 (sized_number 2000)) (sized_ranged fits-mxy)))) refl) for_moments in
    λ i. record { ex = ex-is i; ey = ey-is i; g = g-is i; kx = kx-is i; ky = ky-is i; kg = kg-is i }

pub returns-clause-small : goal.returns-clause-small
returns-clause-small g c =
    let laws = g.met.N.Enclosure.laws in
    subst (SmallLoads g.N.Enclosure.numbers) (sym (returns-clause-value g c)) (record {
      ex = ratio-small laws (force-room c.requires c.requires.range.nx) (force-order c.requires c.args.load.now.nx c.requires.range.nx);
      ey = ratio-small laws (force-room c.requires c.requires.range.ny) (force-order c.requires c.args.load.now.ny c.requires.range.ny);
      g = ratio-small laws (force-room c.requires c.requires.range.nxy) (force-order c.requires c.args.load.now.nxy c.requires.range.nxy);
      kx = ratio-small laws (moment-room c.requires c.args.load.now.mx c.requires.range.mx) (moment-order c.requires c.args.load.now.mx c.requires.range.mx);
      ky = ratio-small laws (moment-room c.requires c.args.load.now.my c.requires.range.my) (moment-order c.requires c.args.load.now.my c.requires.range.my);
      kg = ratio-small laws (moment-room c.requires c.args.load.now.mxy c.requires.range.mxy) (moment-order c.requires c.args.load.now.mxy c.requires.range.mxy);
    })
