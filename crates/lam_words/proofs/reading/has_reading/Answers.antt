use Rattle.std.proofs.Common.{ap, sym, map, string_bytes, is_some, Some, None}
use Rattle.std.specs.Prelude.{option_and_then}
use Rattle.lam_words.specs.Reading.{order_of_sorted}
use Rattle.lam_words.proofs.Orders.{order_is}
use Rattle.lam_words.proofs.reading.has_reading.Goals as goal

pub returns-in-None : goal.returns-in-None
returns-in-None c = ap (λ o. is_some (option_and_then order_of_sorted o)) c.in-None.ensures

pub returns-in-Some-asked_by : goal.returns-in-Some-asked_by
returns-in-Some-asked_by c =
    sym (ap is_some (order_is (map string_bytes c.args.words.now) c.in-Some.said (Some c.in-Some-asked_by.field-0) (sym c.in-Some.ensures) c.in-Some-asked_by.ensures))

pub returns-in-None-asked_by : goal.returns-in-None-asked_by
returns-in-None-asked_by c =
    sym (ap is_some (order_is (map string_bytes c.args.words.now) c.in-Some.said None (sym c.in-Some.ensures) c.in-None-asked_by.ensures))
