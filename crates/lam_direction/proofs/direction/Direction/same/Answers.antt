use Rattle.std.proofs.Common.{rules, w64}
use mir.Val.{SFits}
use Rattle.std.proofs.lemmas.Int.{to_z-of_z}
use Rattle.lam_direction.proofs.Wide.{both}
use Rattle.lam_direction.proofs.direction.Direction.same.Goals as goal

pub returns-then-same_fraction : goal.returns-then-same_fraction
returns-then-same_fraction c =
    let ap : SFits w64 c.self.inside.p = search rules in
    let aq : SFits w64 c.self.inside.q = search rules in
    let ah : SFits w64 c.self.inside.h = search rules in
    let bp : SFits w64 c.other.inside.p = search rules in
    let bq : SFits w64 c.other.inside.q = search rules in
    let bh : SFits w64 c.other.inside.h = search rules in
    let first = simp to_z-of_z at c.same_fraction.ensures in
    let second = simp to_z-of_z at c.same_fraction-then-same_fraction.ensures in
    rw (← c.self.view_is, ← c.other.view_is) (both _ _ first second c.if-same_fraction.true)
