-- Words that clap takes for no option.
use Rattle.std.proofs.Common.{ℕ, ◌≡◌, refl, sym, subst, List, [], ◌∷◌, Bool, true, false, nat_eq, None}
use Rattle.std.specs.Str.{bytes_eq}
use Rattle.std.proofs.lemmas.Bool.{eqb-true}
use Rattle.clap.specs.Lexer.{long_of, short_of}
use Rattle.lam_words.specs.Sorting.{begins_with_dash, is_dashed}

pub record IsPlain (word : List ℕ) : Type 0 where
  pub no_end : bytes_eq word (45 ∷ 45 ∷ []) ≡ false
  pub no_long : long_of word ≡ None
  pub no_short : short_of word ≡ None

cons_plain : (c : ℕ) (rest : List ℕ) → nat_eq c 45 ≡ false → IsPlain (c ∷ rest)
cons_plain c rest e = record { no_end = rw e refl; no_long = rw e refl; no_short = rw e refl }

pub plain_value : (word : List ℕ) → begins_with_dash word ≡ false → IsPlain word
plain_value [] e = record { no_end = refl; no_long = refl; no_short = refl }
plain_value (c ∷ rest) e = cons_plain c rest e

pub plain_text : (word : List ℕ) → is_dashed word ≡ false → IsPlain word
plain_text [] e = record { no_end = refl; no_long = refl; no_short = refl }
plain_text (c ∷ d ∷ rest) e = cons_plain c (d ∷ rest) e
plain_text (c ∷ []) e = go (nat_eq c 45) refl
  where
    go : (b : Bool) → nat_eq c 45 ≡ b → IsPlain (c ∷ [])
    go false same = cons_plain c [] same
    go true same = subst (λ x. IsPlain (x ∷ [])) (sym (eqb-true c 45 same)) (record { no_end = refl; no_long = refl; no_short = refl })
