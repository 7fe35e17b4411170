use Rattle.std.proofs.Common.{◌≡◌, ◌∙◌, ap, ◌*◌, unsigned_abs}
use Rattle.std.specs.Int.{w64}
use Rattle.std.proofs.lemmas.Int.{to_z-of_z}
use Rattle.lam_fraction.specs.numbers.Rounding.{root_floor}
use Rattle.lam_number.proofs.Sizes.{root_bound}
use Rattle.lam_number.proofs.Rounded.{root_only}
use Rattle.lam_number.proofs.wide.scaled_root.Goals as goal

pub returns-clause-bound : goal.returns-clause-bound
returns-clause-bound c = root_bound _ _ _ _ c.unsigned_abs.ensures.bound c.two_to.ensures c.requires c.isqrt.ensures.square_le

pub returns-clause-value : goal.returns-clause-value
returns-clause-value c =
    let end : c.unsigned_abs.result ≡ unsigned_abs c.args.end = c.unsigned_abs.ensures.value ∙ ap unsigned_abs (to_z-of_z w64 c.args.end c.ranges.end) in
    root_only _ _ c.isqrt.ensures.square_le c.isqrt.ensures.next_square_gt
    ∙ ap (λ n. root_floor (n * c.two_to.result)) end ∙ ap (λ n. root_floor (unsigned_abs c.args.end * n)) c.two_to.ensures
