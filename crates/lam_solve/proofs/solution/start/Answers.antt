use Rattle.std.proofs.Common.{◌≡◌, sym, ◌∙◌, true, false}
use Rattle.lam_solve.proofs.Refined.{starts-close, starts-far}
use Rattle.lam_solve.proofs.solution.start.Goals as goal

pub returns-then-is_settled-clause-strains : goal.returns-then-is_settled-clause-strains
returns-then-is_settled-clause-strains g c =
    let close : c.is_settled.result ≡ true = cc in
    sym (starts-close g.N.Enclosure.numbers c.args.wall.now c.args.loads.now c.args.guess c.residual-rest.result c.one_wide-most.result c.residual-rest.ensures.value c.one_wide-most.ensures.value (sym c.is_settled.ensures ∙ close))

pub returns-clause-strains : goal.returns-clause-strains
returns-clause-strains g c =
    let far : c.is_settled.result ≡ false = cc in
    sym (starts-far g.N.Enclosure.numbers c.args.wall.now c.args.loads.now c.args.guess c.residual-rest.result c.one_wide-most.result c.residual-rest.ensures.value c.one_wide-most.ensures.value (sym c.is_settled.ensures ∙ far))
