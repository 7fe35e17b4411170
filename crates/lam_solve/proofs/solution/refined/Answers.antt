use Rattle.std.proofs.Common.{◌≡◌, sym, ◌∙◌, ap, ◌-◌, true, false, arith}
use Rattle.lam_solve.specs.inside.Solution.{refined}
use Rattle.lam_solve.proofs.Refined.{refined-ends, refined-none, refined-step}
use Rattle.lam_solve.proofs.solution.refined.Goals as goal

pub returns-then-is_settled-clause-strains : goal.returns-then-is_settled-clause-strains
returns-then-is_settled-clause-strains g c =
    let l = c.loop-left in
    let ends : c.is_settled.result ≡ true = cc in
    sym (refined-ends g.N.Enclosure.numbers 64 c.args.wall.now c.args.loads.now l.left l.centre.strains l.centre.residual l.invariant.rest (sym c.is_settled.ensures ∙ ends)) ∙ l.invariant.leads

pub loop-left-preserved : goal.loop-left-preserved
loop-left-preserved g c =
    let n = g.N.Enclosure.numbers in
    let w = c.args.wall.now in
    let loads = c.args.loads.now in
    let l = c.loop-left in
    let goes_on : c.is_settled.result ≡ false = cc in
    let step = refined-step n 64 w loads l.left l.centre.strains l.centre.residual (omega arith) l.invariant.rest (sym c.is_settled.ensures ∙ goes_on) in
    record {
      leads = ap (refined n 64 w loads (l.left - 1)) c.turned-centre.ensures.strains ∙ sym step ∙ l.invariant.leads;
      rest = c.turned-centre.ensures.residual;
      guess = c.turned-centre.ensures.guess;
      small = c.turned-centre.ensures.small;
    }

pub returns-clause-strains : goal.returns-clause-strains
returns-clause-strains g c =
    let n = g.N.Enclosure.numbers in
    let w = c.args.wall.now in
    let loads = c.args.loads.now in
    let l = c.loop-left in
    let none_left : l.left ≡ 0 = omega arith in
    sym (ap (λ k. refined n 64 w loads k l.centre.strains) none_left ∙ refined-none n 64 w loads l.centre.strains) ∙ l.invariant.leads
