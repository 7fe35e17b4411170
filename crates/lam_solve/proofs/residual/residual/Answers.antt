use Rattle.std.proofs.Common.{sym, subst}
use Rattle.lam_solve.specs.inside.Parts.{SmallRow}
use Rattle.lam_solve.proofs.Rows.{small-x, small-y, small-s}
use Rattle.lam_solve.proofs.residual.residual.Goals as goal

pub row_residual-requires-clause-row : goal.row_residual-requires-clause-row
row_residual-requires-clause-row g c = subst (SmallRow g.N.Enclosure.numbers) (sym c.row_x.ensures) (small-x g.met.N.Enclosure.laws c.requires.wall.a c.requires.wall.b)

pub row_residual-requires-2-clause-row : goal.row_residual-requires-2-clause-row
row_residual-requires-2-clause-row g c = subst (SmallRow g.N.Enclosure.numbers) (sym c.row_y.ensures) (small-y g.met.N.Enclosure.laws c.requires.wall.a c.requires.wall.b)

pub row_residual-requires-3-clause-row : goal.row_residual-requires-3-clause-row
row_residual-requires-3-clause-row g c = subst (SmallRow g.N.Enclosure.numbers) (sym c.row_s.ensures) (small-s g.met.N.Enclosure.laws c.requires.wall.a c.requires.wall.b)

pub row_residual-requires-4-clause-row : goal.row_residual-requires-4-clause-row
row_residual-requires-4-clause-row g c = subst (SmallRow g.N.Enclosure.numbers) (sym c.row_x-2.ensures) (small-x g.met.N.Enclosure.laws c.requires.wall.b c.requires.wall.d)

pub row_residual-requires-5-clause-row : goal.row_residual-requires-5-clause-row
row_residual-requires-5-clause-row g c = subst (SmallRow g.N.Enclosure.numbers) (sym c.row_y-2.ensures) (small-y g.met.N.Enclosure.laws c.requires.wall.b c.requires.wall.d)

pub row_residual-requires-6-clause-row : goal.row_residual-requires-6-clause-row
row_residual-requires-6-clause-row g c = subst (SmallRow g.N.Enclosure.numbers) (sym c.row_s-2.ensures) (small-s g.met.N.Enclosure.laws c.requires.wall.b c.requires.wall.d)
