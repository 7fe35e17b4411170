use Rattle.std.proofs.Common.{Ok, Err, ◌∙◌, ◌≡◌, true, rules}
use Rattle.std.specs.declared.num.ParseIntError.{ParseIntError}
use Rattle.lam_words.specs.Numbers.{begins_above_zero}
use Rattle.lam_words.proofs.Numerals.{number_parsed}
use Rattle.lam_words.proofs.number.number_to.Goals as goal

pub returns-in-Ok : goal.returns-in-Ok
returns-in-Ok c =
    let begins : begins_above_zero c.args.word.now ≡ true = search rules in
    c.at_most.ensures ∙ number_parsed {E = ParseIntError} c.args.most c.args.word.now (Ok c.in-Ok.number) c.in-Ok.ensures.value.0 c.ranges.most.fits begins

pub returns-in-Err : goal.returns-in-Err
returns-in-Err c =
    let begins : begins_above_zero c.args.word.now ≡ true = search rules in
    number_parsed {E = ParseIntError} c.args.most c.args.word.now (Err c.in-Err.field-0) c.in-Err.ensures.value.0 c.ranges.most.fits begins
