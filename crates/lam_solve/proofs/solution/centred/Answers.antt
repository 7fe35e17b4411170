use Rattle.std.proofs.Common.{◌≡◌, sym, ◌∙◌, true, false}
use Rattle.lam_solve.proofs.Refined.{centre-narrow, centre-wide}
use Rattle.lam_solve.proofs.solution.centred.Goals as goal

pub returns-then-is_narrow-clause-strains : goal.returns-then-is_narrow-clause-strains
returns-then-is_narrow-clause-strains g c =
    let narrow : c.is_narrow.result ≡ true = cc in
    c.settled.ensures.strains ∙ sym (centre-narrow g.N.Enclosure.numbers c.args.wall.now c.args.loads.now c.args.guess (sym c.is_narrow.ensures ∙ narrow))

pub returns-else-is_narrow-clause-strains : goal.returns-else-is_narrow-clause-strains
returns-else-is_narrow-clause-strains g c =
    let wide : c.is_narrow.result ≡ false = cc in
    c.refined.ensures.strains ∙ sym (centre-wide g.N.Enclosure.numbers c.args.wall.now c.args.loads.now c.args.guess (sym c.is_narrow.ensures ∙ wide))
