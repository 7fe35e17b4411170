use Rattle.lam_support.proofs.SlopeFacts.{slope_reaches}
use Rattle.lam_support.proofs.slopes.slopes_of.Goals as goal

pub returns-clause-reach : goal.returns-clause-reach
returns-clause-reach g c =
    let laws = g.met.N.Enclosure.laws in
    record {
      along = slope_reaches laws c.requires.some c.requires.small c.requires.within.along c.slope.ensures;
      across = slope_reaches laws c.requires.some c.requires.small c.requires.within.across c.slope-2.ensures;
      shear = slope_reaches laws c.requires.some c.requires.small c.requires.within.shear c.slope-3.ensures;
    }
