use Rattle.std.proofs.lemmas.Bool.Decides.{Decides-like, same_from_decides}
use Rattle.lam_stock.proofs.Quotients.{cross-tested}
use Rattle.lam_stock.proofs.TestFacts.{cross-tells}
use Rattle.lam_stock.proofs.limits.keeps_cross.Goals as goal

pub returns : goal.returns
returns c =
    let t = c.square-term in
    let a = c.product-along in
    let b = c.product-across in
    let tested = cross-tested t.result 750000000000000000000000000000000000 a.result b.result _ _ _ t.ensures.value a.ensures.value b.ensures.value a.ensures.positive b.ensures.positive in
    same_from_decides _ _ (Decides-like _ (λ h. record { kept = h }) (λ k. k.kept) tested) (cross-tells c.args.lamina.now)
