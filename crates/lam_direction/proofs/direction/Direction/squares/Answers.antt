use Rattle.std.proofs.Common.{rules}
use Rattle.lam_direction.proofs.SquareBounds.{squares-within}
use Rattle.lam_direction.proofs.direction.Direction.squares.Goals as goal

pub returns-clause-within : goal.returns-clause-within
returns-clause-within c = squares-within c.h-h.ensures.direction (search rules)
