-- What follows a prefix, as the library strips it.
use Rattle.std.proofs.Common.{ℕ, ◌≡◌, ◌∙◌, ap, refl, sym, List, [], ◌∷◌, ◌++◌, Bool, true, false, nat_eq, Option, Some, None, option_map, Bor}
use Rattle.std.specs.Prelude.{if◌then◌else◌, MatchOption}
use Rattle.std.specs.Str.Pattern.{LacksTextAt, FindsTextPrefix, StripsPrefix}
use Rattle.std.proofs.lemmas.Bool.{eq-eqb, eqb-true}
use Rattle.lam_words.specs.Sorting.{after_prefix}

pub after_prefix-append : (p w : List ℕ) → after_prefix p (p ++ w) ≡ Some w
after_prefix-append [] w = refl
after_prefix-append (c ∷ p) w = rw (eq-eqb c c refl) (after_prefix-append p w)

pub after_prefix-Some : (p s w : List ℕ) → after_prefix p s ≡ Some w → s ≡ p ++ w
after_prefix-Some [] s w e = cc
after_prefix-Some (c ∷ p) [] w e = cc
after_prefix-Some (c ∷ p) (d ∷ s) w e = go (after_prefix-Some p s w) (nat_eq c d) refl e
  where
    go : (after_prefix p s ≡ Some w → s ≡ p ++ w)
        → (b : Bool) → nat_eq c d ≡ b → (if b then after_prefix p s else None) ≡ Some w → d ∷ s ≡ (c ∷ p) ++ w
    go later false same none = cc
    go later true same rest =
        let heads : c ≡ d = eqb-true c d same in
        let tails : s ≡ p ++ w = later rest in
        cc

-- the library's answer is what follows the prefix
pub stripped : (p s : List ℕ) (r : Option (Bor (List ℕ))) → MatchOption r (LacksTextAt p s 0) (λ x. StripsPrefix (FindsTextPrefix p) s x.now)
    → option_map (λ x. x.now) r ≡ after_prefix p s
stripped p s None lacks = go (after_prefix p s) refl
  where
    go : (found : Option (List ℕ)) → after_prefix p s ≡ found → ◌≡◌ {A = Option (List ℕ)} None (after_prefix p s)
    go None e = sym e
    go (Some w) e = absurd (lacks w (after_prefix-Some p s w e))
stripped p s (Some x) h =
    let whole : s ≡ p ++ x.now = h.1.1 ∙ ap (λ w. p ++ w) (sym h.2) in
    sym (after_prefix-append p x.now) ∙ ap (after_prefix p) (sym whole)
