-- The laws of narrow strains, over the second scale.
use Rattle.std.proofs.Common.{refl, arith}
use Rattle.lam_narrow.specs.Straddling.{IsFinest, NotMetIsNearlyOne, StraddlesNearOne}
use Rattle.lam_narrow.proofs.Verdicts.{not_met_is_nearly_one, straddles_near_one}
use Rattle.lam_judge.specs.inside.Scales.{fine}
use Rattle.lam_judge.proofs.WallsLaid.{fine-laws}

pub finest : IsFinest fine
finest = record { scale = refl; slop = omega arith }

pub near-one : StraddlesNearOne fine
near-one = straddles_near_one fine-laws

pub not-met : NotMetIsNearlyOne fine
not-met = not_met_is_nearly_one fine-laws
