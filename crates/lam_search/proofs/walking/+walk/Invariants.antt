use Rattle.std.proofs.Common.{◌≡◌, ◌+◌, ◌-◌, ◌≤◌, length, take}
use Rattle.lam_job.specs.Partial.{half}
use Rattle.lam_search.specs.inside.Here.{basis}
use Rattle.lam_search.specs.inside.Held.{IsKept}
use Rattle.lam_search.specs.inside.Steps.{Explored, places}
use Rattle.lam_search.proofs.walking.+walk.Given as goal

abbrev pub decreases-walk : goal.decreases-walk
decreases-walk g l = half l.place.now.job l.place.now.partial.n - length l.place.now.partial.prefix

abbrev pub invariant-loop-item : goal.invariant-loop-item
invariant-loop-item g l =
    let m = basis l.fn.place in
    let p = l.fn.place.partial in
    record {
      place : l.place ≡ l.fn.place;
      kept : IsKept m l.state;
      few : length l.state.tree ≤ l.budget;
      explored : Explored m (places m p - 1) p (take l.item-index l.items) l.initial.state l.state;
      heard : g.G.Guide.heard_count l.guide + length l.fn.state.tree ≡ g.G.Guide.heard_count l.fn.guide + length l.state.tree;
    }
