-- What dropping blanks does to the last byte of a field.
use Rattle.std.proofs.Common.{◌≡◌, ℕ, ◌+◌, ◌-◌, ◌<◌, List, [], ◌∷◌, ◌++◌, length, take, get_or, true, false, refl, sym, ap, ◌∙◌, arith}
use Rattle.std.proofs.lemmas.List.{take_more}
use Rattle.std.proofs.Math.Seq.{take-length}
use Rattle.lam_stock.specs.Field.{is_blank, joined, without_end_blanks}

-- a blank at the end is dropped
end-blank : (xs : List ℕ) (b : ℕ) → is_blank b ≡ true → without_end_blanks (xs ++ b ∷ []) ≡ without_end_blanks xs
end-blank [] b e = rw e refl
end-blank (x ∷ xs) b e = ap (joined x) (end-blank xs b e)

-- any other byte at the end stays, and all before it
joined-more : (x b : ℕ) (xs : List ℕ) → joined x (xs ++ b ∷ []) ≡ x ∷ (xs ++ b ∷ [])
joined-more x b [] = refl
joined-more x b (y ∷ ys) = refl

end-plain : (xs : List ℕ) (b : ℕ) → is_blank b ≡ false → without_end_blanks (xs ++ b ∷ []) ≡ xs ++ b ∷ []
end-plain [] b e = rw e refl
end-plain (x ∷ xs) b e = ap (joined x) (end-plain xs b e) ∙ joined-more x b xs

-- a field is all but its last byte, and that byte
split-last : (xs : List ℕ) → 0 < length xs → take (length xs - 1) xs ++ get_or xs (length xs - 1) 0 ∷ [] ≡ xs
split-last xs some =
    let n : length xs - 1 + 1 ≡ length xs = omega arith in
    sym (take_more xs (length xs - 1) 0 (omega arith)) ∙ ap (λ (k : ℕ). take k xs) n ∙ take-length xs

-- the same of a field whose last byte is known
pub last-blank : (xs : List ℕ) → 0 < length xs → is_blank (get_or xs (length xs - 1) 0) ≡ true
    → without_end_blanks (take (length xs - 1) xs) ≡ without_end_blanks xs
last-blank xs some e = sym (end-blank (take (length xs - 1) xs) _ e) ∙ ap without_end_blanks (split-last xs some)

pub last-plain : (xs : List ℕ) → 0 < length xs → is_blank (get_or xs (length xs - 1) 0) ≡ false → without_end_blanks xs ≡ xs
last-plain xs some e =
    ap without_end_blanks (sym (split-last xs some)) ∙ end-plain (take (length xs - 1) xs) _ e ∙ split-last xs some
