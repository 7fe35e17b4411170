use Rattle.lam_direction.proofs.Wide.{same_bits, product_of}
use Rattle.lam_direction.proofs.direction.same_fraction.Goals as goal

pub returns : goal.returns
returns c =
    same_bits _ _ _ _ (record { sfits = c.product-left.type_inv }) (record { sfits = c.product-right.type_inv })
    (product_of _ _ _ c.ranges.a c.ranges.d c.product-left.ensures)
    (product_of _ _ _ c.ranges.c c.ranges.b c.product-right.ensures)
