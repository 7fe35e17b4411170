use Rattle.std.proofs.Common.{◌≡◌, length, drop}
use Rattle.lam_number.specs.inside.FixNumbers.{fix_numbers}
use Rattle.lam_stock.specs.declared.item.Item.{Item}
use Rattle.lam_stock.specs.Scale.{scale_of}
use Rattle.lam_job.specs.Schedule.{items_of}
use Rattle.lam_tsai.specs.inside.Values.{criterion}
use Rattle.lam_boxes.specs.inside.Boxes.{failing_side, first_failing}
use Rattle.lam_boxes.proofs.FailingSteps.{DoNotFail}
use Rattle.lam_boxes.proofs.places.first_failing.Given as goal

abbrev pub invariant-loop-k : goal.invariant-loop-k
invariant-loop-k l = record {
  same : first_failing l.case (λ (i : Item). failing_side (fix_numbers 60) (criterion (fix_numbers 60) (scale_of l.stock) i) l.at l.factor) l.k (drop l.k (items_of l.stock l.prefix))
      ≡ first_failing l.case (λ (i : Item). failing_side (fix_numbers 60) (criterion (fix_numbers 60) (scale_of l.stock) i) l.at l.factor) 0 (items_of l.stock l.prefix);
  long : length l.passed ≡ 64;
  clear : DoNotFail l.stock (λ (i : Item). failing_side (fix_numbers 60) (criterion (fix_numbers 60) (scale_of l.stock) i) l.at l.factor) l.passed;
}
