use Rattle.std.proofs.Common.{sym, subst}
use Rattle.lam_rules.specs.Growing.{Grown}
use Rattle.lam_rules.proofs.Growth.{Grows, grows}
use Rattle.lam_rules.proofs.growing.Growing.push.Goals as goal

pub invariant_of-self : goal.invariant_of-self
invariant_of-self c =
    let i = c.self.inside in
    let g : Grown = record { stock = i.stock.now; job = i.job.now; partial = i.partial } in
    let ready : Grows g c.args.ply c.grown-step.result
    = subst (λ (g : Grown). Grows g c.args.ply c.grown-step.result) (sym c.self.view_is) (record { known = c.requires.known; room = c.requires.open; numbers = c.grown-step.ensures }) in
    grows g i.steps i.times i.most c.args.ply c.grown-step.result c.next_places-places.result c.settled-settled.result c.push.new.self
    c.self.invariant ready c.next_places-places.ensures.value c.settled-settled.ensures.value c.push.ensures
