use Rattle.std.proofs.Common.{sym, ◌∙◌}
use Rattle.lam_stock.specs.Tests as test
use Rattle.lam_stock.proofs.Truth.{last-decides}
use Rattle.lam_stock.proofs.limits.keeps_slack.Goals as goal

pub returns : goal.returns
returns c =
    let slack = test.has_slack c.args.lamina.now in
    let l = c.args.lamina.now in
    last-decides (slack l.xt) (slack l.xc) (slack l.yt) (slack l.yc) (slack l.s)
    (sym c.has_slack.ensures ∙ c.if-not-has_slack.false) (sym c.has_slack-2.ensures ∙ c.if-not-has_slack-2.false)
    (sym c.has_slack-3.ensures ∙ c.if-not-has_slack-3.false) (sym c.has_slack-4.ensures ∙ c.if-not-has_slack-4.false)
    c.has_slack-5.ensures
