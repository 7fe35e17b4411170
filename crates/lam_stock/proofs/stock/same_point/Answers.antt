use Rattle.std.proofs.lemmas.Bool.Decides.{Decides-and, Decides-int_eq, same_from_decides}
use Rattle.lam_stock.proofs.stock.same_point.Goals as goal

pub returns : goal.returns
returns c = same_from_decides _ _ c.same.ensures (Decides-and _ _ (Decides-int_eq _ _) (Decides-int_eq _ _))
