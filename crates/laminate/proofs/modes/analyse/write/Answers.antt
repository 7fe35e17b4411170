use Rattle.std.proofs.Common.{inl, inr, refl}
use Rattle.laminate.proofs.AnalysisSteps.{one_failed}
use Rattle.laminate.proofs.modes.analyse.write.Goals as goal

pub returns-in-Ok-clause-writes : goal.returns-in-Ok-clause-writes
returns-in-Ok-clause-writes g c = let (text, is, all) = c.in-Ok.ensures.written in (text, is, inl (refl, all))

pub returns-in-Err-clause-writes : goal.returns-in-Err-clause-writes
returns-in-Err-clause-writes g c =
    let (text, is, prefix) = c.in-Err.ensures.written in
    (text, is, inr (refl, prefix, one_failed c.in-Err.field-0 c.in-Err.ensures.failed c.in-Err.ensures.took_none))
