use Rattle.std.proofs.Common.{◌≡◌, ◌<◌, ◌==◌, ℕ, true, false, length, sym, ap, ◌∙◌, arith}
use Rattle.std.specs.Prelude.{count_by}
use Rattle.std.proofs.lemmas.Bool.Decides.{nat_tests}
use Rattle.laminate.proofs.Listings.{empty_word, few_names, many_names, named_word}
use Rattle.laminate.proofs.schedule.listed_by.Goals as goal

no_length : (n : ℕ) → (n == 0) ≡ true → n ≡ 0
no_length n e = grind (arith, nat_tests)

some_length : (n : ℕ) → (n == 0) ≡ false → 0 < n
some_length n e = grind (arith, nat_tests)

pub returns-then-is_empty : goal.returns-then-is_empty
returns-then-is_empty c =
    sym (empty_word c.args.stock.now c.args.word.now (no_length (length c.args.word.now) (sym c.is_empty.ensures ∙ c.if-is_empty.true)))

pub returns-then-commas-from : goal.returns-then-commas-from
returns-then-commas-from c =
    sym (many_names c.args.stock.now c.args.word.now (some_length (length c.args.word.now) (sym c.is_empty.ensures ∙ c.if-is_empty.false))
    (omega (arith, c.if-commas-from.true, c.commas.ensures, c.from.ensures, ap (count_by (λ x. x == 44)) c.as_bytes.ensures.value)))

pub plies_of-requires : goal.plies_of-requires
plies_of-requires c =
    few_names c.args.word.now
    (omega (arith, c.if-commas-from.false, c.commas.ensures, c.from.ensures, ap (count_by (λ x. x == 44)) c.as_bytes.ensures.value))

pub returns : goal.returns
returns c =
    c.plies_of.ensures
    ∙ sym (named_word c.args.stock.now c.args.word.now (some_length (length c.args.word.now) (sym c.is_empty.ensures ∙ c.if-is_empty.false))
    (omega (arith, c.if-commas-from.false, c.commas.ensures, c.from.ensures, ap (count_by (λ x. x == 44)) c.as_bytes.ensures.value)))
