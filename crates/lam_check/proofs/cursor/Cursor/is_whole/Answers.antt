use Rattle.std.proofs.Common.{sym, ◌∙◌, ap, ◌==◌, if◌then◌else◌}
use Rattle.lam_tree.specs.Reading.{ends, Whole, Cut}
use Rattle.lam_check.proofs.Options.{one_is, none_is}
use Rattle.lam_check.proofs.Seats.{whole-in_split, whole-between}
use Rattle.lam_check.proofs.cursor.Cursor.is_whole.Goals as goal

pub returns-then-is_some : goal.returns-then-is_some
returns-then-is_some g c =
    let top = one_is c.top.result c.is_some.result c.is_some.ensures c.if-is_some.true in
    whole-in_split (g.P.Problem.basis c.args.problem.now) c.args.self.now c.requires top.0 (sym c.top.ensures ∙ top.1)

pub returns : goal.returns
returns g c =
    let none = none_is c.top.result c.is_some.result c.is_some.ensures c.if-is_some.false in
    whole-between (g.P.Problem.basis c.args.problem.now) c.args.self.now c.requires c.limit.result c.limit.ensures.value (sym c.top.ensures ∙ none)
    ∙ ap (λ n. ends (if n == c.limit.result then Whole else Cut)) (sym c.length_of.ensures)
