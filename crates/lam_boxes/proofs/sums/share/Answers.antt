use Rattle.std.proofs.Common.{rules, ◌≡◌, sym, subst}
use Rattle.lam_fraction.specs.inside.Reaches.{Reaches}
use Rattle.lam_boxes.specs.inside.Parts.{share_reach}
use Rattle.lam_boxes.proofs.HeldExtension.{share-short}
use Rattle.lam_boxes.proofs.sums.share.Goals as goal

pub returns-clause-reach : goal.returns-clause-reach
returns-clause-reach g c =
    let value : c.of_ratio.result ≡ g.N.Enclosure.numbers.calc.ratio c.args.part c.args.h = search rules in
    subst (Reaches g.N.Enclosure.numbers share_reach) (sym value) (share-short g.met.N.Enclosure.laws c.args.part c.args.h c.requires.thickness c.requires.least c.requires.within)
