use Rattle.laminate.proofs.DesignSteps.{found_design}
use Rattle.laminate.proofs.modes.design.design_of.Goals as goal

pub returns-clause-so : goal.returns-clause-so
returns-clause-so g c =
    let found = c.in_ok-answer.ensures in
    found_design c.args.input.stock c.args.input.job c.args.nodes c.in_ok-answer.field-0 c.in_ok-ratios.field-0.ratios c.in_ok-ratios.field-0.panels
    found.accepted found.promise found.grammar found.enough c.in_ok-ratios.ensures
