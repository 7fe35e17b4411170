use Rattle.std.proofs.Common.{refl, sym, ◌∙◌, ap, subst, ◌+◌, ◌*◌, length, None}
use Rattle.lam_tree.specs.Checks.{PanelChecks}
use Rattle.lam_tree.specs.Promise.{HasRatios, HasPanels}
use Rattle.lam_answers.specs.inside.Computed.{computed}
use Rattle.lam_check.specs.inside.Printing.{IsAsPrinted}
use Rattle.lam_check.proofs.LineSteps.{on_ok}
use Rattle.lam_check.proofs.Printings.{have-ratios, have-panels}
use Rattle.lam_check.proofs.blocks.check_best_block.Goals as goal

pub returns-clause-so : goal.returns-clause-so
returns-clause-so c =
    let stock = c.args.stock.now in
    let job = c.args.job.now in
    let b = c.args.best.now in
    let room = c.ratios_by.new.room in
    let is = c.ratios_by.ensures.value in
    let are = c.ratios_by.ensures.so in
    let block = c.requires.block in
    let wall = c.wall_size-plies.ensures.value stock c.requires.job_for.liner block.1.known in
    on_ok c.check_panels.result
    (PanelChecks stock job (computed stock job) b.plies (6 + length c.items-3.result.now) 0 c.items-2.result.now None)
    (IsAsPrinted stock job c.args.ratios.now c.args.panels.now b)
    (λ panels. record {
      admissible = c.is_judged.ensures.so c.if-not-is_judged.false refl;
      has_ratios = subst (HasRatios stock job b.plies) c.items.ensures
          (have-ratios stock job b.plies room is c.wall_size-plies.result c.items.result.now are wall
          (ap length c.items.ensures ∙ block.2.many ∙ ap (λ n. length job.cases * n) (sym are.plies) ∙ sym are.number)
          (c.in_default.ensures.none stock job b.plies is));
      has_panels = subst (HasPanels stock job b.plies) c.items-2.ensures
          (have-panels stock job b.plies room is (6 + length c.items-3.result.now) c.items-2.result.now are
          (ap length c.items-2.ensures ∙ block.3.many) panels);
    })
    (c.check_panels.ensures.none stock job b.plies is)
