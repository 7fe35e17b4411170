use Rattle.lam_bounds.proofs.ReadyTables.{ready-carriers}
use Rattle.lam_bounds.proofs.ready.net_cost_by.Goals as goal

pub cost_by-requires-clause-carriers : goal.cost_by-requires-clause-carriers
cost_by-requires-clause-carriers c = ready-carriers c.requires.bounds c.in-Some.k c.args.w.now c.in-Some.ensures _
