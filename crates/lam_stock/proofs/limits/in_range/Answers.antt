use Rattle.std.proofs.Common.{sym, ◌∙◌}
use Rattle.lam_stock.proofs.TestFacts.{moduli-tells, rest-tells, strengths-tells}
use Rattle.lam_stock.proofs.limits.in_range.Goals as goal

pub returns-clause-range : goal.returns-clause-range
returns-clause-range c h =
    let l = c.args.lamina.now in
    record {
      moduli = (moduli-tells l).0 (sym c.moduli_in_range.ensures ∙ c.if-not-moduli_in_range.false);
      strengths = (strengths-tells l).0 (sym c.strengths_in_range.ensures ∙ c.if-not-strengths_in_range.false);
      rest = (rest-tells l c.args.cost.now).0 (sym c.rest_in_range.ensures ∙ h);
    }
