use Rattle.std.proofs.Common.{◌≡◌, sym, ap, ap₂, ◌∙◌, ◌-◌, pos, ◌^◌, ◌*ℤ◌, ◌≤ℤ◌, ◌<ℤ◌, w64, arith}
use Rattle.std.proofs.lemmas.Int.{ints, to_z-of_z}
use Rattle.lam_fraction.proofs.numbers.Machine.{stored-64}
use Rattle.lam_tsai.specs.inside.Values.{first_shift, shift_of}
use Rattle.lam_tsai.proofs.Shifts.{shift-more, shift-here, shift-last}
use Rattle.lam_tsai.proofs.loaded.shift.Goals as goal

pub loop-shift-preserved : goal.loop-shift-preserved
loop-shift-preserved c =
    let k = c.loop-shift.shift in
    let more : (stored-64 c.args.bound *ℤ pos (2 ^ k)) <ℤ stored-64 c.args.load = omega (arith, ints, c.bearing.ensures.value, c.if-bearing-load.true) in
    (omega (arith, c.loop-shift-test.true), sym (shift-more k (stored-64 c.args.load) (stored-64 c.args.bound) c.loop-shift-test.true more) ∙ c.loop-shift.invariant.1)

pub returns-else-bearing-load-clause-value : goal.returns-else-bearing-load-clause-value
returns-else-bearing-load-clause-value c =
    let k = c.loop-shift.shift in
    let enough : stored-64 c.args.load ≤ℤ (stored-64 c.args.bound *ℤ pos (2 ^ k)) = omega (arith, ints, c.bearing.ensures.value, c.if-bearing-load.false) in
    sym (shift-here k (stored-64 c.args.load) (stored-64 c.args.bound) c.loop-shift-test.true enough) ∙ c.loop-shift.invariant.1
    ∙ ap₂ shift_of (to_z-of_z w64 c.args.load c.ranges.load) (to_z-of_z w64 c.args.bound c.ranges.bound)

pub returns-after-loop-shift-clause-value : goal.returns-after-loop-shift-clause-value
returns-after-loop-shift-clause-value c =
    let k = c.loop-shift.shift in
    let last : k ≡ 24 = omega (arith, c.loop-shift-test.false, c.loop-shift.invariant.0) in
    last ∙ sym (shift-last (stored-64 c.args.load) (stored-64 c.args.bound)) ∙ sym (ap (λ m. first_shift (24 - m) m (stored-64 c.args.load) (stored-64 c.args.bound)) last)
    ∙ c.loop-shift.invariant.1 ∙ ap₂ shift_of (to_z-of_z w64 c.args.load c.ranges.load) (to_z-of_z w64 c.args.bound c.ranges.bound)
