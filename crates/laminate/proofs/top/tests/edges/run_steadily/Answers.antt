use Rattle.std.proofs.Common.{ℕ, List, ap, get_or}
use Rattle.laminate.proofs.top.tests.edges.run_steadily.Goals as goal

pub returns-clause-room : goal.returns-clause-room
returns-clause-room g c = ap (λ (terms : List ℕ). get_or terms 0 0) c.run-status.ensures.steady.sink.terms
