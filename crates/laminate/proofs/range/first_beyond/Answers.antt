use Rattle.std.proofs.Common.{◌≡◌, sym, ◌∙◌, subst, true, false, ℤ, w64, All, arith}
use Rattle.std.proofs.lemmas.Int.{to_z-of_z}
use Rattle.lam_fraction.proofs.numbers.Machine.{stored-64}
use Rattle.lam_job.specs.LoadRange.{LoadInRange}
use Rattle.lam_job.specs.declared.load.Load.{Load}
use Rattle.laminate.specs.inside.Ranges.{IsFirstBeyond, IsWithin}
use Rattle.laminate.proofs.RangeFacts.{all_hold, fails_here, none_fails_below, one_more}
use Rattle.laminate.proofs.range.first_beyond.Goals as goal

pub loop-number-preserved : goal.loop-number-preserved
loop-number-preserved c =
    let a = c.args in
    let d = c.index-cases-number in
    one_more (IsWithin a.scale.now.floor (stored-64 a.h)) a.cases.now c.loop-number.number d.result d.is (omega arith) c.loop-number.invariant
    (subst (λ (l : Load). LoadInRange a.scale.now.floor (stored-64 a.h) l) c.resultants-load.ensures.value (c.in_range.ensures.0 c.if-not-in_range.false))

pub returns-then-not-in_range-clause-first : goal.returns-then-not-in_range-clause-first
returns-then-not-in_range-clause-first c =
    let a = c.args in
    let d = c.index-cases-number in
    let within = IsWithin a.scale.now.floor (stored-64 a.h) in
    let first : IsFirstBeyond a.scale.now.floor (stored-64 a.h) a.cases.now c.loop-number.number = record {
      out = fails_here within a.cases.now c.loop-number.number d.result d.is (omega arith) (λ r.
          let yes : c.in_range.result ≡ true = c.in_range.ensures.1 (subst (λ (l : Load). LoadInRange a.scale.now.floor (stored-64 a.h) l) (sym c.resultants-load.ensures.value) r) in
          let not : c.in_range.result ≡ false = c.if-not-in_range.true in
          let n : false ≡ true = sym not ∙ yes in cc);
      first = none_fails_below within a.cases.now c.loop-number.number c.loop-number.invariant;
    } in
    subst (λ (h : ℤ). IsFirstBeyond a.scale.now.floor h a.cases.now c.loop-number.number) (to_z-of_z w64 a.h c.ranges.h) first

pub returns-clause-none : goal.returns-clause-none
returns-clause-none c =
    let a = c.args in
    subst (λ (h : ℤ). All (IsWithin a.scale.now.floor h) a.cases.now) (to_z-of_z w64 a.h c.ranges.h)
    (all_hold (IsWithin a.scale.now.floor (stored-64 a.h)) a.cases.now c.loop-number.number (omega arith) c.loop-number.invariant)
