-- Tests that hold together.
use Rattle.std.proofs.Common.{◌≡◌, ℕ, Bool, true, false, ◌&&◌, List, [], ◌∷◌, refl}
use Rattle.std.specs.List.{list_all}

pub both-true : (a b : Bool) → (a && b) ≡ true → (a ≡ true) × (b ≡ true)
both-true true b h = (refl, h)
both-true false b h = cc h

-- where the first four of five tests hold, the last decides
pub last-decides : (a b c d e : Bool) {r : Bool} → a ≡ true → b ≡ true → c ≡ true → d ≡ true → r ≡ e → r ≡ (a && b && c && d && e)
last-decides a b c d e ha hb hc hd h = rw (ha, hb, hc, hd) h

pub each-weaker : (p q : ℕ → Bool) → ((b : ℕ) → p b ≡ true → q b ≡ true) → (w : List ℕ) → list_all p w ≡ true → list_all q w ≡ true
each-weaker p q weaker [] h = refl
each-weaker p q weaker (b ∷ bs) h =
    let both = both-true (p b) (list_all p bs) h in rw (weaker b both.0, each-weaker p q weaker bs both.1) refl
