use Rattle.std.proofs.Common.{ap₂, ◌∙◌, ◌*ℤ◌}
use Rattle.std.specs.Prelude.{int_lt}
use Rattle.std.proofs.lemmas.Int.{to_z-of_z}
use Rattle.lam_number.proofs.Casts.{read_narrow, read_wide}
use mir.Syntax.{w64}
use Rattle.lam_plate.proofs.ShiftedUnits.{next-stored}
use Rattle.lam_plate.proofs.verdict.meets.Goals as goal

pub returns : goal.returns
returns g c =
    ap₂ int_lt
    (read_wide _ _ (record { sfits = c.wide_product.type_inv }) (c.wide_product.ensures ∙ ap₂ ◌*ℤ◌
    (next-stored c.args.load c.requires.least c.requires.most c.ranges.load)
    (read_narrow _ _ (record { sfits = c.high.type_inv }) c.high.ensures)))
    (read_wide _ _ (record { sfits = c.wide_product-2.type_inv }) (c.wide_product-2.ensures ∙ ap₂ ◌*ℤ◌
    (read_narrow _ _ (record { sfits = c.low.type_inv }) c.low.ensures)
    (to_z-of_z w64 c.args.stiffness c.ranges.stiffness)))
