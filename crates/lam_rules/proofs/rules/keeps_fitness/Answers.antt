use Rattle.std.proofs.Common.{◌≡◌, sym, ◌∙◌, ap, length, List, true, false, arith}
use Rattle.lam_job.specs.JobData.{JobData, PanelData}
use Rattle.lam_rules.proofs.SlantedPlies.{fit_if_straight}
use Rattle.lam_rules.proofs.rules.keeps_fitness.Goals as goal

pub returns : goal.returns
returns c =
    let job = c.args.job.now in
    let panels : length c.items.result.now ≡ length job.panels
    = ap (λ (panels : List PanelData). length panels) (c.items.ensures ∙ ap (λ (j : JobData). j.panels) c.job.view_is) in
    let some = c.if-items-eq0.false in
    fit_if_straight c.args.stock.now job c.args.plies.now (omega (arith, panels, some))
    (λ carries. let e : false ≡ true = sym c.if-liner_carries.false ∙ c.liner_carries.ensures.1 carries in cc)
    (c.is_palindrome.ensures.0 c.if-not-is_palindrome.false) c.has_slanted.result c.has_slanted.ensures
