use Rattle.std.proofs.Common.{arith, ap, ◌^◌, unsigned_abs}
use Rattle.lam_number.proofs.Casts.{read_wide, product_low_read, product_high_read, order_as}
use Rattle.lam_number.proofs.Sizes.{product_room}
use Rattle.lam_number.proofs.Rounded.{product_ordered}
use Rattle.lam_number.proofs.FixFacts.{fix_is}
use Rattle.lam_number.proofs.arithmetic.multiple.Goals as goal

pub low_within-requires-clause-room : goal.low_within-requires-clause-room
low_within-requires-clause-room g c =
    let x = c.args.x in
    let y = c.args.y in
    let e = read_wide _ _ (record { sfits = c.centre_of_product-centre.type_inv }) c.centre_of_product-centre.ensures in
    omega (arith, ap unsigned_abs e, c.spread_of_product-spread.ensures, product_room x.low x.high y.low y.high (2 ^ g.row.S) x.ordered y.ordered c.requires.room)

pub high_within-requires-clause-room : goal.high_within-requires-clause-room
high_within-requires-clause-room g c =
    let x = c.args.x in
    let y = c.args.y in
    let e = read_wide _ _ (record { sfits = c.centre_of_product-centre.type_inv }) c.centre_of_product-centre.ensures in
    omega (arith, ap unsigned_abs e, c.spread_of_product-spread.ensures, product_room x.low x.high y.low y.high (2 ^ g.row.S) x.ordered y.ordered c.requires.room)

pub returns : goal.returns
returns g c =
    fix_is g.row.S _ _ _
    (product_low_read _ _ _ _ _ _ _ _ (record { sfits = c.centre_of_product-centre.type_inv }) (record { sfits = c.low_within.type_inv })
    c.centre_of_product-centre.ensures c.spread_of_product-spread.ensures c.low_within.ensures)
    (product_high_read _ _ _ _ _ _ _ _ (record { sfits = c.centre_of_product-centre.type_inv }) (record { sfits = c.high_within.type_inv })
    c.centre_of_product-centre.ensures c.spread_of_product-spread.ensures c.high_within.ensures)

pub invariant_of-result : goal.invariant_of-result
invariant_of-result g c =
    record {
      ordered = order_as _ _ _ _
          (product_low_read g.row.S _ _ _ _ _ _ _ (record { sfits = c.centre_of_product-centre.type_inv }) (record { sfits = c.low_within.type_inv })
          c.centre_of_product-centre.ensures c.spread_of_product-spread.ensures c.low_within.ensures)
          (product_high_read g.row.S _ _ _ _ _ _ _ (record { sfits = c.centre_of_product-centre.type_inv }) (record { sfits = c.high_within.type_inv })
          c.centre_of_product-centre.ensures c.spread_of_product-spread.ensures c.high_within.ensures)
          (product_ordered g.row.S _ _ _ _);
    }
