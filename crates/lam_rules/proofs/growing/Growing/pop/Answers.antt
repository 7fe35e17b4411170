use Rattle.std.proofs.Common.{subst, arith}
use Rattle.lam_job.specs.Partial.{Partial}
use Rattle.lam_rules.specs.inside.Steps.{AreRunning}
use Rattle.lam_rules.proofs.Growth.{last_known, running_less}
use Rattle.lam_rules.proofs.growing.Growing.pop.Goals as goal

pub bounds-self-inside-ply : goal.bounds-self-inside-ply
bounds-self-inside-ply c =
    let i = c.self.inside in
    let r = c.self.invariant in
    let few = r.few in
    let known = last_known i.stock.now c.pop.new.self.prefix c.in_ok-ply.ply
    (subst (λ (p : Partial). AreRunning i.stock.now i.job.now p i.steps i.times i.most) c.in_ok-ply.ensures.last r).partial.known in
    omega (arith, few, known)

pub invariant_of-self-2 : goal.invariant_of-self-2
invariant_of-self-2 c =
    let i = c.self.inside in
    running_less i.stock.now i.job.now c.pop.new.self i.steps i.times i.most c.in_ok-ply.ply c.next_places-places.result
    (subst (λ (p : Partial). AreRunning i.stock.now i.job.now p i.steps i.times i.most) c.in_ok-ply.ensures.last c.self.invariant)
    c.next_places-places.ensures.value
