use Rattle.std.proofs.Common.{rules}
use Rattle.lam_fraction.proofs.FractionPairs.{times_value}
use Rattle.lam_fraction.proofs.Frac.times_whole.Goals as goal

pub returns-clause-value : goal.returns-clause-value
returns-clause-value c = times_value c.args.self.now.num c.args.self.now.den c.args.k _ _ c.args.self.now.positive (search rules) (search rules)
