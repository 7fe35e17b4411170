use Rattle.std.proofs.Common.{◌≡◌, refl, sym, ◌∙◌, subst, ◌*◌, true, false}
use Rattle.lam_solve.specs.inside.Residual.{residual}
use Rattle.lam_solve.specs.inside.Settled.{Settled}
use Rattle.lam_solve.specs.inside.Solution.{IsFirst, start}
use Rattle.lam_solve.proofs.turns.Loop.{Leads, each-turn, each-end, leads-first, leads-end, tested, next-leads, next-smaller, settled-middles, first-settles}
use Rattle.lam_solve.proofs.solution.settled.Goals as goal

pub loop-centre-init : goal.loop-centre-init
loop-centre-init g c =
    let n = g.N.Enclosure.numbers in
    let w = c.args.wall.now in
    let loads = c.args.loads.now in
    record {
      leads = subst (λ t. Leads n w loads (start n w loads c.args.guess) t) (sym c.start-centre.ensures.strains) (leads-first (start n w loads c.args.guess));
      rest = c.start-centre.ensures.residual;
      guess = c.start-centre.ensures.guess;
      small = c.start-centre.ensures.small;
      most = c.slops-most.ensures;
    }

pub loop-centre-smaller : goal.loop-centre-smaller
loop-centre-smaller g c =
    let n = g.N.Enclosure.numbers in
    let w = c.args.wall.now in
    let loads = c.args.loads.now in
    let l = c.loop-centre in
    let at = l.centre.strains in
    let more = tested n w loads at l.centre.residual l.invariant.rest false c.slops-most.result l.invariant.most (sym c.is_settled.ensures ∙ c.loop-centre-test.true) in
    next-smaller n w loads at l.centre.residual l.invariant.rest (start n w loads c.args.guess) c.turned-centre.result.strains c.turned-centre.ensures.strains
    (each-turn g.met.N.Enclosure.laws c.requires.narrow c.args.guess c.requires.on at l.invariant.leads more)

pub loop-centre-preserved : goal.loop-centre-preserved
loop-centre-preserved g c =
    let n = g.N.Enclosure.numbers in
    let w = c.args.wall.now in
    let loads = c.args.loads.now in
    let l = c.loop-centre in
    let at = l.centre.strains in
    let more = tested n w loads at l.centre.residual l.invariant.rest false c.slops-most.result l.invariant.most (sym c.is_settled.ensures ∙ c.loop-centre-test.true) in
    record {
      leads = next-leads n w loads at l.centre.residual l.invariant.rest (start n w loads c.args.guess) c.turned-centre.result.strains c.turned-centre.ensures.strains
          (each-turn g.met.N.Enclosure.laws c.requires.narrow c.args.guess c.requires.on at l.invariant.leads more);
      rest = c.turned-centre.ensures.residual;
      guess = c.turned-centre.ensures.guess;
      small = c.turned-centre.ensures.small;
      most = l.invariant.most;
    }

pub returns-clause-strains : goal.returns-clause-strains
returns-clause-strains g c =
    let n = g.N.Enclosure.numbers in
    let w = c.args.wall.now in
    let loads = c.args.loads.now in
    let l = c.loop-centre in
    let at = l.centre.strains in
    let done : c.is_settled.result ≡ true = cc in
    leads-end (start n w loads c.args.guess) at (residual n w loads at) l.invariant.leads refl
    (tested n w loads at l.centre.residual l.invariant.rest true c.slops-most.result l.invariant.most (sym c.is_settled.ensures ∙ done))

pub returns-clause-settled : goal.returns-clause-settled
returns-clause-settled g c =
    let n = g.N.Enclosure.numbers in
    let w = c.args.wall.now in
    let loads = c.args.loads.now in
    let l = c.loop-centre in
    let at = l.centre.strains in
    let done : c.is_settled.result ≡ true = cc in
    subst (Settled n at) (sym l.invariant.rest)
    (each-end g.met.N.Enclosure.laws c.requires.narrow c.args.guess c.requires.on at l.invariant.leads
    (settled-middles n (residual n w loads at) (tested n w loads at l.centre.residual l.invariant.rest true c.slops-most.result l.invariant.most (sym c.is_settled.ensures ∙ done))))

pub returns-clause-first : goal.returns-clause-first
returns-clause-first g c =
    let n = g.N.Enclosure.numbers in
    let w = c.args.wall.now in
    let loads = c.args.loads.now in
    let l = c.loop-centre in
    let at = l.centre.strains in
    let done : c.is_settled.result ≡ true = cc in
    let is = leads-end (start n w loads c.args.guess) at (residual n w loads at) l.invariant.leads refl
    (tested n w loads at l.centre.residual l.invariant.rest true c.slops-most.result l.invariant.most (sym c.is_settled.ensures ∙ done)) in
    subst (IsFirst n (4096 * n.slop) w loads (start n w loads c.args.guess)) (sym is) (first-settles g.met.N.Enclosure.laws c.requires.on c.requires.narrow c.args.guess)
