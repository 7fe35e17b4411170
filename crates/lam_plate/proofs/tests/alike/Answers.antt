use Rattle.std.proofs.Common.{replicate, subst}
use Rattle.lam_stock.specs.Scale.{scale_of}
use Rattle.lam_stock.specs.declared.item.ItemNo.{ItemNo}
use Rattle.lam_wall.specs.Assembled.{StandsFor}
use Rattle.lam_plate.proofs.AlikeWalls.{plain_job, alike-fit}
use Rattle.lam_plate.proofs.tests.alike.Goals as goal

pub returns-clause-fit : goal.returns-clause-fit
returns-clause-fit g c = (
  c.args.stock.now,
  plain_job,
  replicate {A = ItemNo} c.loop.counter (record { 0 = 0 }),
  record {
    fit = alike-fit c.args.stock.now c.loop.counter c.requires.straight;
    stands = subst (λ numbers. StandsFor g.N.Enclosure.numbers c.assemble.result (scale_of c.args.stock.now) c.args.stock.now numbers) c.loop.invariant c.assemble.ensures.stands;
  },
)

pub returns-clause-narrow : goal.returns-clause-narrow
returns-clause-narrow g c = c.assemble.ensures.narrow.d
