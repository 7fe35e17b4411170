use Rattle.std.proofs.Common.{◌≡◌, ◌^◌, ◌<◌, take}
use Rattle.lam_stock.specs.Field as spec
use Rattle.lam_stock.proofs.field.value.Given as goal

abbrev pub invariant-loop-digit : goal.invariant-loop-digit
invariant-loop-digit l = record {
  so_far : l.value ≡ spec.digits_value (take l.digit-index l.digits);
  small : l.value < 10 ^ l.digit-index;
}
