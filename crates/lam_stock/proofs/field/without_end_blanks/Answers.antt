use Rattle.std.proofs.Common.{◌≡◌, ◌-◌, length, get_or, sym, ◌∙◌, arith, rules, true, false}
use Rattle.lam_stock.specs.Field.{is_blank}
use Rattle.lam_stock.proofs.Blanks.{last-blank, last-plain}
use Rattle.lam_stock.proofs.field.without_end_blanks.Goals as goal

pub returns-then-not-is_blank : goal.returns-then-not-is_blank
returns-then-not-is_blank c =
    let xs = c.loop-left.left.now in
    let last : is_blank (get_or xs (length xs - 1) 0) ≡ false = search rules in
    sym (last-plain xs (omega arith) last) ∙ c.loop-left.invariant

pub loop-left-preserved : goal.loop-left-preserved
loop-left-preserved c =
    let xs = c.loop-left.left.now in
    let last : is_blank (get_or xs (length xs - 1) 0) ≡ true = search rules in
    last-blank xs (omega arith) last ∙ c.loop-left.invariant
