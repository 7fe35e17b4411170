use Rattle.std.proofs.Common.{refl, sym, ◌∙◌, ap₂, subst, pos, ◌*ℤ◌}
use Rattle.lam_fraction.specs.numbers.Numbers.{RatioRoom}
use Rattle.lam_fraction.proofs.numbers.Machine.{sizes, stored-128, fits_in_128, is_exact}
use Rattle.lam_wall.specs.inside.Parts.{IsShort}
use Rattle.lam_wall.proofs.SharesKnown.{coupling-share, share-room-at, short-share, thick-size, inner-size, outer-size, wall-size}
use Rattle.lam_wall.proofs.ply_shares.coupling.Goals as goal

pub overflow_mul-wide_product : goal.overflow_mul-wide_product
overflow_mul-wide_product g c = fits_in_128 (search (sizes, wall-size c.requires, c) depth 30 fits 9000) refl

pub of_ratio-requires : goal.of_ratio-requires
of_ratio-requires g c =
    let room : RatioRoom (stored-128 c.wide_product.result) (stored-128 (pos 2 *ℤ stored-128 c.wide_product-2.result)) =
    share-room-at (coupling-share c.requires) (is_exact (search (sizes, thick-size c.requires, inner-size c.requires, outer-size c.requires, c) depth 30 fits 9000) refl) (is_exact (search (sizes, wall-size c.requires, c) depth 30 fits 9000) refl) in
    record { positive = room.positive; den = room.den; num = room.num; room = room.room }

pub returns-clause-value : goal.returns-clause-value
returns-clause-value g c =
    c.of_ratio.ensures ∙ ap₂ g.N.Enclosure.numbers.calc.ratio (is_exact (search (sizes, thick-size c.requires, inner-size c.requires, outer-size c.requires, c) depth 30 fits 9000) refl) (is_exact (search (sizes, wall-size c.requires, c) depth 30 fits 9000) refl)

pub returns-clause-short : goal.returns-clause-short
returns-clause-short g c = subst (IsShort g.N.Enclosure.numbers) (sym (returns-clause-value g c)) (short-share g.met.N.Enclosure.laws (coupling-share c.requires))
