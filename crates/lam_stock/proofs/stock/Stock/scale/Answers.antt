use Rattle.lam_stock.proofs.ScaleFacts.{scale-kept, scale-within}
use Rattle.lam_stock.proofs.stock.Stock.scale.Goals as goal

pub returns-clause-scale : goal.returns-clause-scale
returns-clause-scale c = (scale-kept c.self.inside.items.items c.args.self.now c.self.inside.scale c.self.invariant c.self.view_is).0

pub returns-clause-power : goal.returns-clause-power
returns-clause-power c = (scale-kept c.self.inside.items.items c.args.self.now c.self.inside.scale c.self.invariant c.self.view_is).1

pub returns-clause-least : goal.returns-clause-least
returns-clause-least c = (scale-within c.self.inside.items.items c.args.self.now c.self.inside.scale c.self.invariant c.self.view_is).0

pub returns-clause-greatest : goal.returns-clause-greatest
returns-clause-greatest c = (scale-within c.self.inside.items.items c.args.self.now c.self.inside.scale c.self.invariant c.self.view_is).1

pub returns-clause-ceiling : goal.returns-clause-ceiling
returns-clause-ceiling c = (scale-within c.self.inside.items.items c.args.self.now c.self.inside.scale c.self.invariant c.self.view_is).2
