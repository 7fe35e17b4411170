use Rattle.std.proofs.Common.{◌≡◌, sym, subst, rules}
use Rattle.lam_fraction.specs.inside.Reaches.{Reaches}
use Rattle.lam_plate.specs.inside.Formulas as by
use Rattle.lam_plate.proofs.Shares.{share-reach}
use Rattle.lam_plate.proofs.wave.share.Goals as goal

pub returns-clause-room : goal.returns-clause-room
returns-clause-room g c =
    let n = g.N.Enclosure.numbers in
    let value : c.of_ratio.result ≡ by.share n.calc c.args.part c.args.rest = search rules in
    subst (λ z. Reaches n 268435460 z) (sym value)
    (share-reach g.met.N.Enclosure.laws c.args.part c.args.rest c.requires.some_part c.requires.few_part c.requires.some_rest c.requires.few_rest)
