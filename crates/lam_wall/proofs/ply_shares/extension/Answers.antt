use Rattle.std.proofs.Common.{rules, ◌≡◌, sym, subst}
use Rattle.lam_wall.specs.inside.Formulas as by
use Rattle.lam_wall.specs.inside.Parts.{IsShort, placed_at}
use Rattle.lam_wall.proofs.SharesKnown.{extension-share, short-share}
use Rattle.lam_wall.proofs.ply_shares.extension.Goals as goal

pub returns-clause-short : goal.returns-clause-short
returns-clause-short g c =
    let value : c.of_ratio.result ≡ by.extension g.N.Enclosure.numbers.calc c.args.h (placed_at c.args.item.now c.args.inner c.args.outer) = search rules in
    subst (IsShort g.N.Enclosure.numbers) (sym value) (short-share g.met.N.Enclosure.laws (extension-share c.requires))
