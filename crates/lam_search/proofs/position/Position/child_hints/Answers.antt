use Rattle.std.proofs.Common.{subst}
use Rattle.lam_job.specs.Partial.{Partial}
use Rattle.lam_search.specs.inside.Here.{Here, basis, basis_of}
use Rattle.lam_search.specs.inside.Hints.{AreChildHints}
use Rattle.lam_search.proofs.position.Position.child_hints.Goals as goal

pub returns : goal.returns
returns c =
    let i = c.self.inside in
    subst (λ (h : Here). AreChildHints (basis h) h.partial c.child_hints.result) c.self.view_is
    (subst (λ (p : Partial). AreChildHints (basis_of i.design.stock.now i.design.job.now) p c.child_hints.result) c.partial.ensures.value c.child_hints.ensures)
