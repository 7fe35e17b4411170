-- An order, by the bytes of its texts.
use Rattle.std.specs.Prelude.{string_bytes}
use Rattle.lam_words.specs.declared.order.Order.{Order}
use Rattle.lam_words.specs.declared.order.Order.TheVariants as order
use Rattle.lam_words.specs.Reading.{OrderWords, design, analyse, check, sample}

abbrev pub spelled : Order → OrderWords
spelled (order.Design job catalogue guide nodes) =
    design (string_bytes job) (string_bytes catalogue) (record { guide = guide; nodes = nodes })
spelled (order.Analyse job catalogue schedule) =
    analyse (string_bytes job) (string_bytes catalogue) (string_bytes schedule)
spelled (order.Check job catalogue report) =
    check (string_bytes job) (string_bytes catalogue) (string_bytes report)
spelled (order.Sample number guide nodes) = sample number (record { guide = guide; nodes = nodes })
