-- Sums over the fixed plies of a partial schedule.
use Rattle.std.proofs.Common.{◌≡◌, refl, ◌∙◌, ap, ℕ, ◌+◌, ◌-◌, ◌*◌, ◌/◌, ◌<◌, ◌≤◌, List, [], ◌∷◌, ◌++◌, length, reverse, take, sum_by, All, Bool, true, false, ◌&&◌, leb, cond, arith}
use Rattle.std.proofs.lemmas.Bool.{leb-true, leb-false}
use Rattle.std.proofs.lemmas.List.{length-append, reverse-append, length-reverse, length-take, take_all, take_at}
use Rattle.std.proofs.lemmas.List.Elements.{All-append, All-head, All-push, All-same, All-tail, All-take}
use Rattle.std.proofs.lemmas.List.Sums.{sum_by-append, sum_by_push, sum_by-cons}

-- the fixed plies: a prefix, and where schedules are symmetric the mirror images of its places
abbrev pub laid : {X : Type 0} → Bool → ℕ → List X → List X
laid symmetric n prefix = cond symmetric (prefix ++ reverse (take (n - length prefix) prefix)) prefix

-- at how many places the next ply lies
abbrev pub places : Bool → ℕ → ℕ → ℕ
places symmetric n settled = cond (symmetric && leb (2 * (settled + 1)) n) 2 1

module _ {X : Type 0} (v : X → ℕ) where
  pub sum-reverse : (xs : List X) → sum_by v (reverse xs) ≡ sum_by v xs
  sum-reverse [] = refl
  sum-reverse (x ∷ xs) =
      ap (sum_by v) (reverse-append (x ∷ []) xs) ∙ sum_by_push v (reverse xs) x
      ∙ (let h = sum-reverse xs in let c = sum_by-cons v x xs in omega (arith, h, c))

  pub laid_sum : (symmetric : Bool) (n : ℕ) (prefix : List X)
      → sum_by v (laid symmetric n prefix) ≡ sum_by v prefix + cond symmetric (sum_by v (take (n - length prefix) prefix)) 0
  laid_sum true n prefix =
      sum_by-append v prefix (reverse (take (n - length prefix) prefix)) ∙ ap (λ s. sum_by v prefix + s) (sum-reverse (take (n - length prefix) prefix))
  laid_sum false n prefix = omega arith

  pub laid-more : (symmetric : Bool) (n : ℕ) (prefix : List X) (x : X) → length prefix < cond symmetric ((n + 1) / 2) n
      → sum_by v (laid symmetric n (prefix ++ x ∷ [])) ≡ sum_by v (laid symmetric n prefix) + places symmetric n (length prefix) * v x
  laid-more false n prefix x more = let h = sum_by_push v prefix x in omega (arith, h)
  laid-more true n prefix x more =
      let k = length prefix in
      let whole = laid_sum true n (prefix ++ x ∷ []) in
      let old = laid_sum true n prefix in
      let pushed = sum_by_push v prefix x in
      let bound : 2 * k + 1 ≤ n = omega (arith, more) in
      let all : sum_by v (take (n - k) prefix) ≡ sum_by v prefix = ap (sum_by v) (take_all (n - k) prefix (omega arith)) in
      let h = images n prefix x bound in
      omega (arith, whole, old, pushed, all, h)
    where
      images : (n : ℕ) (prefix : List X) (x : X) → 2 * length prefix + 1 ≤ n
          → sum_by v (take (n - length (prefix ++ x ∷ [])) (prefix ++ x ∷ [])) + v x ≡ sum_by v prefix + places true n (length prefix) * v x
      images n prefix x bound =
          let k = length prefix in
          let long : length (prefix ++ x ∷ []) ≡ k + 1 = length-append prefix (x ∷ []) in
          let pushed = sum_by_push v prefix x in
          by (leb (2 * (k + 1)) n) refl
        where
          by : (b : Bool) → leb (2 * (length prefix + 1)) n ≡ b
              → sum_by v (take (n - length (prefix ++ x ∷ [])) (prefix ++ x ∷ [])) + v x ≡ sum_by v prefix + cond b 2 1 * v x
          by true e =
              let long : length (prefix ++ x ∷ []) ≡ length prefix + 1 = length-append prefix (x ∷ []) in
              let far = leb-true (2 * (length prefix + 1)) n e in
              let pushed = sum_by_push v prefix x in
              let all : sum_by v (take (n - length (prefix ++ x ∷ [])) (prefix ++ x ∷ [])) ≡ sum_by v (prefix ++ x ∷ []) =
              ap (sum_by v) (take_all (n - length (prefix ++ x ∷ [])) (prefix ++ x ∷ []) (omega (arith, long, far))) in
              omega (arith, pushed, all)
          by false e =
              let long : length (prefix ++ x ∷ []) ≡ length prefix + 1 = length-append prefix (x ∷ []) in
              let near = leb-false (2 * (length prefix + 1)) n e in
              let middle : n - length (prefix ++ x ∷ []) ≡ length prefix = omega (arith, long, near, bound) in
              let all : sum_by v (take (n - length (prefix ++ x ∷ [])) (prefix ++ x ∷ [])) ≡ sum_by v prefix =
              ap (sum_by v) (ap (λ m. take m (prefix ++ x ∷ [])) middle ∙ take_at prefix (x ∷ []) (length prefix) refl) in
              omega (arith, all)

-- how many plies are fixed
pub laid-length : {X : Type 0} (symmetric : Bool) (n : ℕ) (prefix : List X) → length prefix ≤ cond symmetric ((n + 1) / 2) n
    → n - length (laid symmetric n prefix) ≡ n - cond symmetric (2 * length prefix) (length prefix)
laid-length false n prefix within = refl
laid-length true n prefix within =
    let k = length prefix in
    let images = take (n - k) prefix in
    let all = length-append prefix (reverse images) in
    let turned = length-reverse images in
    let some = length-take (n - k) prefix in
    omega (arith, all, turned, some, within)

-- they are no more than the plies of a schedule
pub laid-few : {X : Type 0} (symmetric : Bool) (n : ℕ) (prefix : List X) → length prefix ≤ cond symmetric ((n + 1) / 2) n → length (laid symmetric n prefix) ≤ n
laid-few false n prefix within = within
laid-few true n prefix within =
    let k = length prefix in
    let images = take (n - k) prefix in
    let all = length-append prefix (reverse images) in
    let turned = length-reverse images in
    let some = length-take (n - k) prefix in
    omega (arith, all, turned, some, within)

-- how many places a ply more leaves open
pub open-more : (symmetric : Bool) (n k : ℕ) → k < cond symmetric ((n + 1) / 2) n
    → (n - cond symmetric (2 * (k + 1)) (k + 1)) + places symmetric n k ≡ n - cond symmetric (2 * k) k
open-more false n k more = omega (arith, more)
open-more true n k more = by (leb (2 * (k + 1)) n) refl
  where
    by : (b : Bool) → leb (2 * (k + 1)) n ≡ b → (n - 2 * (k + 1)) + cond b 2 1 ≡ n - 2 * k
    by true e = let far = leb-true (2 * (k + 1)) n e in omega (arith, far)
    by false e = let near = leb-false (2 * (k + 1)) n e in omega (arith, near, more)

-- what holds of all of a prefix holds of all fixed plies
All-reverse : {X : Type 0} (P : X → Type 0) (xs : List X) → All P xs → All P (reverse xs)
All-reverse P [] all = all
All-reverse P (x ∷ xs) all =
    All-same P (reverse (x ∷ xs)) (reverse xs ++ x ∷ []) (reverse-append (x ∷ []) xs)
    (All-push P (reverse xs) x (All-reverse P xs (All-tail P x xs all)) (All-head P x xs all))

pub laid-all : {X : Type 0} (P : X → Type 0) (symmetric : Bool) (n : ℕ) (prefix : List X) → All P prefix → All P (laid symmetric n prefix)
laid-all P false n prefix all = all
laid-all P true n prefix all =
    All-append P prefix (reverse (take (n - length prefix) prefix)) all (All-reverse P (take (n - length prefix) prefix) (All-take P (n - length prefix) prefix all))
