-- The two scales of fixed point.
use Rattle.lam_fraction.specs.numbers.Numbers.{Numbers}
use Rattle.lam_number.specs.declared.fix.Fix.{Fix}
use Rattle.lam_number.specs.inside.FixNumbers.{fix_numbers}

abbrev pub coarse : Numbers (Fix 28)
coarse = fix_numbers 28

abbrev pub fine : Numbers (Fix 60)
fine = fix_numbers 60
