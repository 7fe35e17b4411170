use Rattle.std.proofs.Common.{◌≡◌, ◌+◌, ◌≤◌, length}
use Rattle.lam_search.specs.inside.Here.{basis_of}
use Rattle.lam_search.specs.inside.Held.{IsKept}
use Rattle.lam_search.specs.inside.Steps.{Spanned}
use Rattle.lam_search.proofs.lengths.walk_lengths.Given as goal

abbrev pub invariant-loop-n : goal.invariant-loop-n
invariant-loop-n g l =
    let m = basis_of l.design.stock.now l.design.job.now in
    record {
      kept : IsKept m l.state;
      few : length l.state.tree ≤ l.budget;
      spanned : Spanned m l.n l.fn.state l.state;
      heard : g.G.Guide.heard_count l.guide ≡ g.G.Guide.heard_count l.fn.guide + length l.state.tree;
    }
