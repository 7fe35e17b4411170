use Rattle.std.proofs.Common.{rules, ap, sym, ◌≡◌, ◌∙◌, map, string_bytes, is_some, true, false, Some, None, Ok, Err}
use Rattle.lam_words.specs.declared.order.WordsError.TheVariants.{Memory}
use Rattle.lam_words.specs.Reading.{reading}
use Rattle.lam_words.proofs.Orders.{order_is, refused, not_refused}
use Rattle.lam_words.proofs.reading.read_words.Goals as goal

pub returns-then-not-has_reading : goal.returns-then-not-has_reading
returns-then-not-has_reading c =
    let none : is_some (reading (map string_bytes c.args.words.now)) ≡ false = search rules in
    record { order = tt; usage = refused (map string_bytes c.args.words.now) none }

pub returns-in-Err : goal.returns-in-Err
returns-in-Err c =
    let some : is_some (reading (map string_bytes c.args.words.now)) ≡ true = search rules in
    record { order = tt; usage = not_refused (map string_bytes c.args.words.now) (Err Memory) (λ e. cc) some }

pub returns-in-Err-to_order : goal.returns-in-Err-to_order
returns-in-Err-to_order c =
    let some : is_some (reading (map string_bytes c.args.words.now)) ≡ true = search rules in
    record { order = tt; usage = not_refused (map string_bytes c.args.words.now) (Err Memory) (λ e. cc) some }

pub returns-in-Ok-to_order : goal.returns-in-Ok-to_order
returns-in-Ok-to_order c =
    let some : is_some (reading (map string_bytes c.args.words.now)) ≡ true = search rules in
    record {
      order = order_is (map string_bytes c.args.words.now) c.in-Ok.said (Some c.in-Some.asked) c.in-Ok.ensures c.in-Some.ensures ∙ ap (λ x. Some x) (sym c.in-Ok-to_order.ensures);
      usage = not_refused (map string_bytes c.args.words.now) (Ok c.in-Ok-to_order.order) (λ e. cc) some;
    }

pub unreachable-requires : goal.unreachable-requires
unreachable-requires c =
    let some : is_some (reading (map string_bytes c.args.words.now)) ≡ true = search rules in
    let bad : false ≡ true = sym (ap is_some (order_is (map string_bytes c.args.words.now) c.in-Ok.said None c.in-Ok.ensures c.in-None.ensures)) ∙ some in
    cc
