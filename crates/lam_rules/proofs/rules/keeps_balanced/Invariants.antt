use Rattle.std.proofs.Common.{take, All, slice_get, IsSomeAnd}
use Rattle.lam_stock.specs.declared.item.ItemNo.{ItemNo}
use Rattle.lam_job.specs.Rules.{IsSlanted, IsBalanced}
use Rattle.lam_rules.proofs.rules.keeps_balanced.Given as goal

abbrev pub invariant-loop-ply : goal.invariant-loop-ply
invariant-loop-ply l =
    All (λ (ply : ItemNo). IsSomeAnd (slice_get l.stock ply.0) IsSlanted → IsBalanced l.stock l.plies ply) (take l.ply-index l.plies)
