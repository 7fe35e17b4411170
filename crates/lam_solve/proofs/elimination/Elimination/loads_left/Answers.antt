use Rattle.std.proofs.Common.{◌∙◌, sym, ap, ◌-◌, w64}
use Rattle.std.proofs.lemmas.Int.{to_z-of_z}
use Rattle.lam_solve.specs.inside.Elimination.{left_of, loads_left, pushed}
use Rattle.lam_solve.proofs.elimination.Elimination.loads_left.Goals as goal

pub returns : goal.returns
unfolding loads_left
returns g c =
    let e = c.args.self.now in
    let bits = ap (λ s. s - 4) (c.SCALE-bits.ensures ∙ sym g.met.N.Enclosure.scale_law) in
    let middle-ex = to_z-of_z w64 c.middle.result (record { sfits = c.middle.type_inv }) ∙ c.middle.ensures in
    let middle-ey = to_z-of_z w64 c.middle-2.result (record { sfits = c.middle-2.type_inv }) ∙ c.middle-2.ensures in
    let middle-g = to_z-of_z w64 c.middle-3.result (record { sfits = c.middle-3.type_inv }) ∙ c.middle-3.ensures in
    let middle-kx = to_z-of_z w64 c.middle-4.result (record { sfits = c.middle-4.type_inv }) ∙ c.middle-4.ensures in
    let middle-ky = to_z-of_z w64 c.middle-5.result (record { sfits = c.middle-5.type_inv }) ∙ c.middle-5.ensures in
    let middle-kg = to_z-of_z w64 c.middle-6.result (record { sfits = c.middle-6.type_inv }) ∙ c.middle-6.ensures in
    let found-ex = c.pushed-found.ensures ∙ (λ i. pushed (c.none.ensures i) (middle-ex i)) in
    let left-ey = to_z-of_z w64 c.left_of-ey.result (record { sfits = c.left_of-ey.type_inv }) ∙ c.left_of-ey.ensures ∙ (λ i. left_of (bits i) (middle-ey i) e.ey.shares (found-ex i)) in
    let found-ey = c.pushed-found-2.ensures ∙ (λ i. pushed (found-ex i) (left-ey i)) in
    let left-g = to_z-of_z w64 c.left_of-g.result (record { sfits = c.left_of-g.type_inv }) ∙ c.left_of-g.ensures ∙ (λ i. left_of (bits i) (middle-g i) e.g.shares (found-ey i)) in
    let found-g = c.pushed-found-3.ensures ∙ (λ i. pushed (found-ey i) (left-g i)) in
    let left-kx = to_z-of_z w64 c.left_of-kx.result (record { sfits = c.left_of-kx.type_inv }) ∙ c.left_of-kx.ensures ∙ (λ i. left_of (bits i) (middle-kx i) e.kx.shares (found-g i)) in
    let found-kx = c.pushed-found-4.ensures ∙ (λ i. pushed (found-g i) (left-kx i)) in
    let left-ky = to_z-of_z w64 c.left_of-ky.result (record { sfits = c.left_of-ky.type_inv }) ∙ c.left_of-ky.ensures ∙ (λ i. left_of (bits i) (middle-ky i) e.ky.shares (found-kx i)) in
    let found-ky = c.pushed-found-5.ensures ∙ (λ i. pushed (found-kx i) (left-ky i)) in
    let left-kg = to_z-of_z w64 c.left_of-kg.result (record { sfits = c.left_of-kg.type_inv }) ∙ c.left_of-kg.ensures ∙ (λ i. left_of (bits i) (middle-kg i) e.kg.shares (found-ky i)) in
    c.pushed.ensures ∙ (λ i. pushed (found-ky i) (left-kg i))
