use Rattle.std.proofs.Common.{◌≡◌, rules, ap, ◌*ℤ◌, to_z, of_z, arith}
use Rattle.std.specs.Int.{w128}
use Rattle.std.specs.Prelude.{unsigned_abs}
use Rattle.lam_lamina.proofs.Fourths.{power-size}
use Rattle.lam_lamina.proofs.powers.power.Goals as goal

pub of_ratio-requires-clause-room : goal.of_ratio-requires-clause-room
of_ratio-requires-clause-room g c =
    let num : to_z w128 (of_z w128 c.wide_product.result) ≡ c.args.first *ℤ c.args.second = search rules in
    let den : to_z w128 (of_z w128 c.wide_product-2.result) ≡ c.args.size *ℤ c.args.size = search rules in
    omega (arith, ap unsigned_abs num, ap unsigned_abs den, power-size c.args.first c.args.second c.args.size c.requires.first c.requires.second)
