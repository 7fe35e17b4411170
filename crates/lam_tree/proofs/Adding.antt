-- Lines that grow by words.
use Rattle.std.proofs.Common.{◌≡◌, refl, sym, ◌∙◌, ap, ℕ, ◌+◌, ◌≤◌, suc, ◌<◌, ℤ, pos, negsuc, unsigned_abs, List, [], ◌∷◌, ◌++◌, length, decimal, arith}
use Rattle.std.specs.Fmt.{signed_decimal}
use Rattle.std.proofs.lemmas.Fmt.{length-decimal-le}
use Rattle.std.proofs.lemmas.List.{append_assoc, append-nil, length-append}
use Rattle.lam_tree.specs.Lines.{spaced}
use Rattle.lam_tree.specs.inside.Added.{IsAdded}

pub spaced-append : (ws vs : List (List ℕ)) → spaced (ws ++ vs) ≡ spaced ws ++ spaced vs
spaced-append [] vs = refl
spaced-append (w ∷ ws) vs =
    ap (λ l. 32 ∷ (w ++ l)) (spaced-append ws vs) ∙ ap (λ l. 32 ∷ l) (sym (append_assoc w (spaced ws) (spaced vs)))

-- words, and then more
pub added-then : {old mid new : List ℕ} {ws vs : List (List ℕ)} {m k : ℕ} → IsAdded old mid ws m → IsAdded mid new vs k → IsAdded old new (ws ++ vs) (m + k)
added-then {old} {mid} {new} {ws} {vs} a b =
    let first = a.long in
    let second = b.long in
    record {
      text = b.text ∙ ap (λ l. l ++ spaced vs) a.text ∙ append_assoc old (spaced ws) (spaced vs) ∙ ap (λ l. old ++ l) (sym (spaced-append ws vs));
      long = omega (arith, first, second);
    }

-- one word, of a known size
pub added-one : {old new : List ℕ} (w v : List ℕ) (n m : ℕ) → w ≡ v → n ≤ m → IsAdded old new (w ∷ []) n → IsAdded old new (v ∷ []) m
added-one {old} {new} w v n m same most a =
    let long = a.long in
    record { text = a.text ∙ ap (λ x. old ++ spaced (x ∷ [])) same; long = omega (arith, long, most) }

-- words behind a blank
pub added-blank : (old mid new word : List ℕ) → mid ≡ old ++ 32 ∷ [] → new ≡ mid ++ word → IsAdded old new (word ∷ []) (length word + 1)
added-blank old mid new word first second =
    let text : new ≡ old ++ (32 ∷ (word ++ [])) = second ∙ ap (λ l. l ++ word) first ∙ append_assoc old (32 ∷ []) word ∙ ap (λ l. old ++ (32 ∷ l)) (sym (append-nil word)) in
    let long = length-append old (32 ∷ (word ++ [])) in
    let own = length-append word [] in
    let e = ap length text in
    record { text = text; long = omega (arith, long, own, e) }

-- more room
pub added-most : {old new : List ℕ} {ws : List (List ℕ)} {m k : ℕ} → m ≤ k → IsAdded old new ws m → IsAdded old new ws k
added-most most a = let long = a.long in record { text = a.text; long = omega (arith, long, most) }

pub short_number : (n : ℕ) → n < 100 → length (decimal n) ≤ 2
short_number n small = length-decimal-le 2 n (omega arith) (omega (arith, small)) (omega (arith, small))

pub short_signed : (z : ℤ) → unsigned_abs z < 1000 → length (signed_decimal z) ≤ 4
short_signed (pos n) small = let h = length-decimal-le 3 n (omega arith) (omega (arith, small)) (omega (arith, small)) in omega (arith, h)
short_signed (negsuc n) small = let h = length-decimal-le 3 (suc n) (omega arith) (omega (arith, small)) (omega (arith, small)) in omega (arith, h)
