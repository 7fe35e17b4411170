-- The order of words, by what they say.
use Rattle.std.proofs.Common.{ℕ, ◌≡◌, ◌∙◌, ap, refl, sym, true, false, List, Option, Some, None, option_map, is_some, Result, Err}
use Rattle.std.specs.Prelude.{option_and_then, ◌↔◌}
use Rattle.lam_words.specs.declared.order.Order.{Order}
use Rattle.lam_words.specs.declared.order.WordsError.{WordsError}
use Rattle.lam_words.specs.declared.order.WordsError.TheVariants.{Usage}
use Rattle.lam_words.specs.declared.said.Said.{Said}
use Rattle.lam_words.specs.declared.asked.Asked.{Asked}
use Rattle.lam_words.specs.Sorting.{sorted_words}
use Rattle.lam_words.specs.Reading.{OrderWords, order_of_sorted, reading}
use Rattle.lam_words.specs.inside.Spelled.{sorted_of, asked_of}

pub order_is : (words : List (List ℕ)) (said : Said) (asked : Option Asked) → sorted_words words ≡ Some (sorted_of said) → option_map asked_of asked ≡ order_of_sorted (sorted_of said)
    → reading words ≡ option_map asked_of asked
order_is words said asked sorted orders = ap (option_and_then order_of_sorted) sorted ∙ sym orders

none_from : (o : Option OrderWords) → is_some o ≡ false → o ≡ None
none_from None e = refl
none_from (Some x) e = cc

-- refused, and there is no reading
pub refused : (words : List (List ℕ)) → is_some (reading words) ≡ false → (◌≡◌ {A = Result Order WordsError} (Err Usage) (Err Usage)) ↔ (reading words ≡ None)
refused words none = (λ e. none_from (reading words) none, λ e. refl)

-- not refused, and there is a reading
pub not_refused : (words : List (List ℕ)) (r : Result Order WordsError) → (r ≡ Err Usage → ⊥) → is_some (reading words) ≡ true → (r ≡ Err Usage) ↔ (reading words ≡ None)
not_refused words r other some = (λ e. absurd (other e), λ e. let bad : false ≡ true = ap is_some (sym e) ∙ some in cc)
