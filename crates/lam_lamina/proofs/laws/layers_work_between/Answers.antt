use Rattle.std.proofs.Common.{subst}
use Rattle.std.specs.Prelude.{All}
use Rattle.lam_stock.specs.Energy.{LayerEnergyBetween}
use Rattle.lam_lamina.proofs.Catalogue.{catalogue-works}
use Rattle.lam_lamina.proofs.laws.layers_work_between.Goals as goal

pub returns : goal.returns
returns c =
    let items = c.args.stock.now in
    subst (λ scale. All (LayerEnergyBetween scale.floor scale.q0) items) c.scale-scale.ensures.value
    (catalogue-works items c.scale-scale.result c.items-items.ensures.limits c.scale-scale.ensures.scale)
