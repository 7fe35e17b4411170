use Rattle.std.proofs.Common.{◌≡◌, sym, ◌∙◌, ap, ap₂, Bool, false, pos, ◌+ℤ◌}
use Rattle.std.specs.Prelude.{int_le, unsigned_abs, if◌then◌else◌}
use Rattle.std.specs.Int.{int_min, int_max}
use Rattle.lam_fraction.specs.numbers.Rounding.{floor_over}
use Rattle.lam_fraction.proofs.numbers.Machine.{stored-64}
use Rattle.lam_number.proofs.Casts.{read_narrow}
use Rattle.lam_plate.proofs.ShiftedUnits.{next-small}
use Rattle.lam_plate.proofs.waves.most_times.Goals as goal

pub returns-clause-value : goal.returns-clause-value
returns-clause-value g c =
    let n = g.N.Enclosure.numbers in
    let d = c.args.d.now in
    let low : stored-64 c.low-along.result ≡ n.low d.xx = read_narrow _ _ (record { sfits = c.low-along.type_inv }) c.low-along.ensures in
    let high : stored-64 c.high.result ≡ n.high d.yy = read_narrow _ _ (record { sfits = c.high.type_inv }) c.high.ensures in
    let quotient : stored-64 c.floor_quotient.result ≡ floor_over (n.high d.yy) (unsigned_abs (n.low d.xx)) =
    read_narrow _ _ (record { sfits = c.floor_quotient.type_inv }) (c.floor_quotient.ensures ∙ ap₂ (λ x y. floor_over x (unsigned_abs y)) high low) in
    let most : stored-64 c.max.result ≡ int_max (floor_over (n.high d.yy) (unsigned_abs (n.low d.xx))) (pos 0) =
    read_narrow _ _ (record { sfits = c.max.type_inv }) (c.max.ensures.value ∙ ap (λ x. int_max x (pos 0)) quotient) in
    let times = int_min (int_max (floor_over (n.high d.yy) (unsigned_abs (n.low d.xx))) (pos 0)) (pos 511) in
    let least : c.min.result ≡ times = c.min.ensures.value ∙ ap (λ x. int_min x (pos 511)) most in
    let above : int_le (n.low d.xx) (pos 0) ≡ false = sym (ap (λ x. int_le x (pos 0)) low) ∙ c.if-along-le0.false in
    next-small c.min.result (int_max (floor_over (n.high d.yy) (unsigned_abs (n.low d.xx))) (pos 0)) least (record { sfits = c.min.type_inv })
    ∙ sym (ap (λ (t : Bool). if t then pos 512 else (times +ℤ pos 1)) above)
