use Rattle.std.proofs.Common.{◌≡◌, ◌*◌}
use Rattle.lam_solve.specs.inside.Parts.{SmallGuess, SmallResidual}
use Rattle.lam_solve.specs.inside.Residual.{residual}
use Rattle.lam_solve.specs.inside.Solution.{start}
use Rattle.lam_solve.specs.inside.Turns.{height}
use Rattle.lam_solve.proofs.turns.Loop.{Leads}
use Rattle.lam_solve.proofs.solution.settled.Given as goal

-- the centre leads to where the start does
abbrev pub invariant-loop-centre : goal.invariant-loop-centre
invariant-loop-centre g l = record {
  leads : Leads g.N.Enclosure.numbers l.wall l.loads (start g.N.Enclosure.numbers l.wall l.loads l.fn.guess) l.centre.strains;
  rest : l.centre.residual ≡ residual g.N.Enclosure.numbers l.wall l.loads l.centre.strains;
  guess : SmallGuess l.centre.strains;
  small : SmallResidual l.centre.residual;
  most : l.most ≡ 4096 * g.N.Enclosure.numbers.slop;
}

-- how far the potential energy can fall
abbrev pub decreases-loop-centre : goal.decreases-loop-centre
decreases-loop-centre g l = height g.N.Enclosure.numbers l.wall l.loads l.centre.strains
