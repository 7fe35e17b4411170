use Rattle.std.proofs.Common.{lit<}
use Rattle.lam_number.proofs.Sizes.{square_room}
use Rattle.lam_number.proofs.arithmetic.squared.Goals as goal

pub multiple-requires : goal.multiple-requires
multiple-requires g c = (lit< tt, (c.requires.scale, square_room _ _ c.requires.room))

pub returns : goal.returns
returns g c = c.multiple.ensures
