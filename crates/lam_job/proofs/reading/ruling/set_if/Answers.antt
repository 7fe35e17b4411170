use Rattle.std.proofs.Common.{lt_of_lt_of_le}
use Rattle.lam_job.proofs.Sets.{some-bits}
use Rattle.lam_job.proofs.reading.ruling.set_if.Goals as goal

pub set_of-requires : goal.set_of-requires
set_of-requires c = rw c.items-in-Some.ensures.items (λ k d h. lt_of_lt_of_le ((rw c.in-Some.is at c.in_ok-items.ensures.known) k d h) c.has_few_items.ensures)

pub returns-in-Some-clause-some : goal.returns-in-Some-clause-some
returns-in-Some-clause-some c =
    rw (c.set_of.ensures, c.items-in-Some.ensures.items) (some-bits c.in-Some.items (rw c.in-Some.is at c.in_ok-items.ensures.least))
