use Rattle.lam_bounds.proofs.ReadyTables.{ready-carriers}
use Rattle.lam_bounds.proofs.ready.net_short_by.Goals as goal

pub short_by-requires-clause-carriers : goal.short_by-requires-clause-carriers
short_by-requires-clause-carriers c = ready-carriers c.requires.bounds c.in-Some.k c.args.w.now c.in-Some.ensures _
