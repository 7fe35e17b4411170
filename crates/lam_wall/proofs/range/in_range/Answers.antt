use Rattle.std.proofs.Common.{SFits, w64, rules}
use Rattle.lam_wall.proofs.RangeSteps.{both_decide, forces_decided, forces_refuse, moments_decided}
use Rattle.lam_wall.proofs.range.in_range.Goals as goal

pub returns-then-are_within : goal.returns-then-are_within
returns-then-are_within c =
    let load = c.args.load.now in
    let floor = c.args.scale.now.floor in
    let f : SFits w64 floor = search rules in
    let nx : SFits w64 load.nx = search rules in
    let ny : SFits w64 load.ny = search rules in
    let nxy : SFits w64 load.nxy = search rules in
    let mx : SFits w64 load.mx = search rules in
    let my : SFits w64 load.my = search rules in
    let mxy : SFits w64 load.mxy = search rules in
    let forces = forces_decided floor c.args.h load f c.ranges.h _ _ _ _ _ c.wide_product-force.ensures nx ny nxy c.into.ensures c.into-2.ensures c.into-3.ensures c.are_within.ensures in
    both_decide floor c.args.h load _ (forces.0 c.if-are_within.true)
    (moments_decided floor c.args.h load f c.ranges.h _ _ _ _ _ _ _ c.from.ensures c.wide_product.ensures (record { sfits = c.saturating_mul-moment.type_inv }) c.saturating_mul-moment.ensures
    mx my mxy c.wide_product-then-are_within.ensures c.wide_product-then-are_within-2.ensures c.wide_product-then-are_within-3.ensures c.are_within-then-are_within.ensures)

pub returns-else-are_within : goal.returns-else-are_within
returns-else-are_within c =
    let load = c.args.load.now in
    let floor = c.args.scale.now.floor in
    let f : SFits w64 floor = search rules in
    let nx : SFits w64 load.nx = search rules in
    let ny : SFits w64 load.ny = search rules in
    let nxy : SFits w64 load.nxy = search rules in
    forces_refuse floor c.args.h load _ c.if-are_within.false
    (forces_decided floor c.args.h load f c.ranges.h _ _ _ _ _ c.wide_product-force.ensures nx ny nxy c.into.ensures c.into-2.ensures c.into-3.ensures c.are_within.ensures)
