use Rattle.std.proofs.Common.{◌≡◌, refl, sym, ◌∙◌, ap, ℕ, ◌-◌, true, false, arith, w64}
use Rattle.std.proofs.lemmas.Int.{to_z-of_z}
use Rattle.lam_fraction.proofs.numbers.Machine.{stored-64}
use Rattle.lam_plate.specs.inside.Formulas.{first_from, rises_from, waves_for}
use Rattle.lam_plate.proofs.FirstFrom.{first-none, first-last, first-next}
use Rattle.lam_plate.proofs.waves.waves_for.Goals as goal

pub returns-then-rises_from-clause-value : goal.returns-then-rises_from-clause-value
returns-then-rises_from-clause-value c =
    let t : stored-64 c.args.times ≡ c.args.times = to_z-of_z w64 c.args.times c.ranges.times in
    let a : stored-64 c.args.length_square ≡ c.args.length_square = to_z-of_z w64 c.args.length_square c.ranges.length_square in
    let b : stored-64 c.args.width_square ≡ c.args.width_square = to_z-of_z w64 c.args.width_square c.ranges.width_square in
    let same : waves_for (stored-64 c.args.times) (stored-64 c.args.length_square) (stored-64 c.args.width_square) ≡ waves_for c.args.times c.args.length_square c.args.width_square = rw (t, a, b) refl in
    let passes : rises_from (stored-64 c.args.times) (stored-64 c.args.length_square) (stored-64 c.args.width_square) c.loop-m.m ≡ true = sym c.rises_from.ensures ∙ c.if-rises_from.true in
    sym (sym same ∙ c.loop-m.invariant ∙ first-last (rises_from (stored-64 c.args.times) (stored-64 c.args.length_square) (stored-64 c.args.width_square)) c.loop-m.m 1903 c.loop-m-test.true passes)

pub loop-m-preserved : goal.loop-m-preserved
loop-m-preserved c =
    let fails : rises_from (stored-64 c.args.times) (stored-64 c.args.length_square) (stored-64 c.args.width_square) c.loop-m.m ≡ false = sym c.rises_from.ensures ∙ c.if-rises_from.false in
    c.loop-m.invariant ∙ first-next (rises_from (stored-64 c.args.times) (stored-64 c.args.length_square) (stored-64 c.args.width_square)) c.loop-m.m 1903 c.loop-m-test.true fails

pub returns-clause-value : goal.returns-clause-value
returns-clause-value c =
    let t : stored-64 c.args.times ≡ c.args.times = to_z-of_z w64 c.args.times c.ranges.times in
    let a : stored-64 c.args.length_square ≡ c.args.length_square = to_z-of_z w64 c.args.length_square c.ranges.length_square in
    let b : stored-64 c.args.width_square ≡ c.args.width_square = to_z-of_z w64 c.args.width_square c.ranges.width_square in
    let same : waves_for (stored-64 c.args.times) (stored-64 c.args.length_square) (stored-64 c.args.width_square) ≡ waves_for c.args.times c.args.length_square c.args.width_square = rw (t, a, b) refl in
    let all : c.loop-m.m ≡ 1903 = omega arith in
    sym (sym same ∙ c.loop-m.invariant ∙ ap (λ (k : ℕ). first_from (rises_from (stored-64 c.args.times) (stored-64 c.args.length_square) (stored-64 c.args.width_square)) (1903 - k) k) all
    ∙ first-none (rises_from (stored-64 c.args.times) (stored-64 c.args.length_square) (stored-64 c.args.width_square)) 1903)
