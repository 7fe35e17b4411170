use Rattle.std.proofs.Common.{◌∙◌, ◌+◌, ◌*◌, ◌≤◌, min, max, arith}
use Rattle.lam_tree.specs.ForceBalance.{greatest_cost, rounded_up}
use Rattle.lam_bounds.proofs.Rounding.{rounded-is}
use Rattle.lam_bounds.proofs.running.net_floor.Goals as goal

pub returns : goal.returns
returns c =
    let x = c.saturating_sub-lacking.result * c.from.result in
    let y = 4000 * c.from-2.result in
    let some : 1 ≤ 4000 * c.from-2.result = omega (arith, c.from-2.ensures, c.requires.some) in
    let best = c.div_ceil-best.ensures ∙ rounded-is x y some ∙ (λ i. rounded_up (c.saturating_sub-lacking.ensures i * c.from.ensures i) (4000 * c.from-2.ensures i)) in
    c.greater_cost.ensures ∙ (λ i. min greatest_cost (max c.args.floor (c.from-3.ensures i + best i)))
