use Rattle.std.proofs.Common.{subst, ◌≤◌, arith}
use Rattle.std.proofs.lemmas.Option.{slice_get_within}
use Rattle.lam_bounds.proofs.bounds.Tried.of.Goals as goal

pub returns : goal.returns
returns c =
    let d = c.demands-demands.ensures in
    let g = c.greatest.ensures in
    record {
      carriers = c.of.ensures;
      demands = d.each;
      greatest = λ k case e. subst (λ n. n ≤ c.greatest.result) (d.each k case e) (g.greatest k (omega (arith, slice_get_within c.args.job.now.cases k case e, d.few)));
      small = g.small;
    }
