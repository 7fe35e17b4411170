use Rattle.std.proofs.Common.{◌≡◌, sym, ◌∙◌, ap, subst, true, false, ℤ, w64, arith}
use Rattle.std.proofs.lemmas.Int.{to_z-of_z}
use Rattle.lam_fraction.proofs.numbers.Machine.{stored-64}
use Rattle.lam_job.specs.LoadRange.{LoadInRange}
use Rattle.lam_job.specs.declared.load.Load.{Load}
use Rattle.lam_judge.specs.inside.Kept.{first_out_from}
use Rattle.lam_judge.proofs.FirstOut.{first-is-out, none-is-out, one-more-in}
use Rattle.lam_judge.proofs.range.first_out.Goals as goal

pub returns-then-not-in_range : goal.returns-then-not-in_range
returns-then-not-in_range c =
    let a = c.args in
    let h = stored-64 a.h in
    let floor = a.scale.now.floor in
    let d = c.index-cases-number in
    first-is-out floor h a.cases.now c.loop-number.number d.result d.is (omega arith) c.loop-number.invariant (λ r.
    let yes : c.in_range.result ≡ true = c.in_range.ensures.1 (subst (λ (l : Load). LoadInRange floor h l) (sym c.resultants-load.ensures.value) r) in
    let not : c.in_range.result ≡ false = c.if-not-in_range.true in
    let n : false ≡ true = sym not ∙ yes in cc)
    ∙ ap (λ (x : ℤ). first_out_from floor x 0 a.cases.now) (to_z-of_z w64 a.h c.ranges.h)

pub loop-number-preserved : goal.loop-number-preserved
loop-number-preserved c =
    let a = c.args in
    let h = stored-64 a.h in
    let floor = a.scale.now.floor in
    let d = c.index-cases-number in
    one-more-in floor h a.cases.now c.loop-number.number d.result d.is (omega arith) c.loop-number.invariant
    (subst (λ (l : Load). LoadInRange floor h l) c.resultants-load.ensures.value (c.in_range.ensures.0 c.if-not-in_range.false))

pub returns : goal.returns
returns c =
    let a = c.args in
    none-is-out a.scale.now.floor (stored-64 a.h) a.cases.now c.loop-number.number (omega arith) c.loop-number.invariant
    ∙ ap (λ (x : ℤ). first_out_from a.scale.now.floor x 0 a.cases.now) (to_z-of_z w64 a.h c.ranges.h)
