use Rattle.std.proofs.Common.{arith}
use Rattle.lam_solve.proofs.Radius.{end-small}
use Rattle.lam_solve.proofs.enclosed.greatest_size.Goals as goal

pub returns-clause-small : goal.returns-clause-small
returns-clause-small c =
    let r = c.requires in
    omega (arith, end-small r.ex, end-small r.ey, end-small r.g, end-small r.kx, end-small r.ky, end-small r.kg)
