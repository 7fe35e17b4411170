use Rattle.std.proofs.Common.{rules, to_z, of_z}
use Rattle.std.specs.Int.{w128}
use Rattle.lam_fraction.proofs.FractionPairs.{ranked}
use Rattle.lam_fraction.proofs.Frac.compare.Goals as goal

pub returns-clause-order : goal.returns-clause-order
returns-clause-order c =
    ranked c.args.self.now.num c.args.self.now.den c.args.other.now.num c.args.other.now.den
    (to_z w128 (of_z w128 c.in_ok-left.left)) (to_z w128 (of_z w128 c.in_ok-right.right)) c.cmp.result
    c.args.self.now.positive c.args.other.now.positive c.cmp.ensures (search rules) (search rules)
