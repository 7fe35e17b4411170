use Rattle.std.proofs.Common.{◌≡◌}
use Rattle.lam_solve.specs.inside.Parts.{SmallGuess, SmallResidual}
use Rattle.lam_solve.specs.inside.Residual.{residual}
use Rattle.lam_solve.specs.inside.Solution.{refined}
use Rattle.lam_solve.proofs.solution.refined.Given as goal

-- the turns that are left lead from the centre to where all of them lead from the guess
abbrev pub invariant-loop-left : goal.invariant-loop-left
invariant-loop-left g l = record {
  leads : refined g.N.Enclosure.numbers 64 l.wall l.loads l.left l.centre.strains ≡ refined g.N.Enclosure.numbers 64 l.wall l.loads 64 l.fn.guess;
  rest : l.centre.residual ≡ residual g.N.Enclosure.numbers l.wall l.loads l.centre.strains;
  guess : SmallGuess l.centre.strains;
  small : SmallResidual l.centre.residual;
}

abbrev pub decreases-loop-left : goal.decreases-loop-left
decreases-loop-left g l = l.left
