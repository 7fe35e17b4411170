use Rattle.std.proofs.Common.{◌≡◌, ◌-◌, length}
use Rattle.lam_job.specs.Partial.{half}
use Rattle.lam_search.specs.inside.Here.{basis_of}
use Rattle.lam_search.specs.inside.Sights.{AreSeen, had_by}
use Rattle.lam_search.proofs.seeking.+seek.Given as goal

abbrev pub decreases-seek : goal.decreases-seek
decreases-seek l = half l.design.now.job.now l.partial.now.n - length l.partial.now.prefix

abbrev pub invariant-loop-k : goal.invariant-loop-k
invariant-loop-k l =
    let job = l.design.job.now in
    let p = l.partial in
    record {
      long : length l.had ≡ 64;
      seen : AreSeen (basis_of l.design.stock.now job) l.best l.nodes (half job p.n - length p.prefix - 1) p l.from l.at l._k (had_by l.had);
    }
