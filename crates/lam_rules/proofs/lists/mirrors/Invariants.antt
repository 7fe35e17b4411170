use Rattle.std.proofs.Common.{◌≡◌, take, count_by}
use Rattle.lam_stock.specs.declared.item.ItemNo.{ItemNo}
use Rattle.lam_stock.specs.Likeness.{are_mirrors}
use Rattle.lam_rules.proofs.lists.mirrors.Given as goal

abbrev pub invariant-loop-other : goal.invariant-loop-other
invariant-loop-other l = l.n ≡ count_by (λ (other : ItemNo). are_mirrors l.stock other.0 l.ply.0) (take l.other-index l.plies)
