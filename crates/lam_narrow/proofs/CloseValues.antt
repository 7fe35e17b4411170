-- The values of an item at two near strains.
use Rattle.lam_stock.specs.PlyLaw.{side_stress}
use Rattle.lam_stock.specs.TsaiWu.{times_factor}
use Rattle.lam_stock.proofs.StrengthBounds.{strengths_kept}
use Rattle.lam_narrow.specs.Close.{ValuesAreClose}
use Rattle.lam_narrow.proofs.ItemTerms.{criterion_close}
use Rattle.lam_narrow.proofs.Shifts.{stresses_apart, part_least}

pub values_are_close : ValuesAreClose
values_are_close i side e f factor far part excess slope is least near moves some steep value =
    criterion_close (strengths_kept is.limits) part (times_factor factor (side_stress i.lamina i.dir side e)) (times_factor factor (side_stress i.lamina i.dir side f)) excess slope
    (part_least is.limits is.direction side factor far part least moves e f near)
    (stresses_apart is.limits is.direction side factor far part least moves e f near) some steep value
