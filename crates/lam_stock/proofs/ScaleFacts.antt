-- What the scale of some items is: the least power of two that covers them, and the least stiffness floor.
use Rattle.std.proofs.Common.{◌≡◌, ◌<◌, ◌≤◌, ◌+◌, ◌*◌, ◌^◌, ℕ, zero, suc, Bool, true, false, nat_le, List, [], ◌∷◌, length, ℤ, pos, negsuc, ◌≤ℤ◌, unsigned_abs, refl, ap, ◌∙◌, arith}
use mathlib.Core.Logic.{◌⊎◌, inl, inr, ⊎_elim}
use Rattle.std.specs.Int.{int_max, int_min}
use Rattle.std.specs.List.{All, Any, fold}
use Rattle.std.proofs.lemmas.Bool.{cases_lt}
use Rattle.std.proofs.lemmas.Bool.Decides.{nat_tests}
use Rattle.std.proofs.lemmas.Int.{clamps, ints}
use Rattle.std.proofs.lemmas.List.Elements.{All-cons, All-head, All-nil, All-tail, All-weaker}
use Rattle.std.proofs.Math.Nat.{pow-suc, pow-le-pow_right}
use Rattle.lam_fraction.proofs.Laws.{transitive}
use Rattle.lam_stock.specs.Moduli.{stiffness_floor, stiffness_cap}
use Rattle.lam_stock.specs.Scale.{IsScaleOf, first_power, power_above, scale_of, least_floor, greatest_cap}
use Rattle.lam_stock.specs.Stock.{IsStock, WithinLimits}
use Rattle.lam_stock.specs.declared.item.Item.{Item}
use Rattle.lam_stock.specs.declared.scale.Scale.{Scale}

module _ {X : Type 0} (h : X → ℤ) where
  -- the greatest of a number and of what some items have is above each
  greatest-above : (a : ℤ) (xs : List X) (r : ℤ) → r ≡ fold (λ (m : ℤ) (x : X). int_max m (h x)) a xs → (a ≤ℤ r) × All (λ x. h x ≤ℤ r) xs
  greatest-above a [] r e = (omega (arith, ints), All-nil (λ x. h x ≤ℤ r))
  greatest-above a (x ∷ xs) r e =
      let rest = greatest-above (int_max a (h x)) xs r e in
      let top = rest.0 in
      (omega (arith, ints, clamps), All-cons (λ y. h y ≤ℤ r) x xs (omega (arith, ints, clamps)) rest.1)

  -- and no greater than what is above each
  greatest-least : (a b : ℤ) (xs : List X) (r : ℤ) → r ≡ fold (λ (m : ℤ) (x : X). int_max m (h x)) a xs → a ≤ℤ b → All (λ x. h x ≤ℤ b) xs → r ≤ℤ b
  greatest-least a b [] r e low all = omega (arith, ints)
  greatest-least a b (x ∷ xs) r e low all =
      let first : h x ≤ℤ b = All-head (λ y. h y ≤ℤ b) x xs all in
      greatest-least (int_max a (h x)) b xs r e (omega (arith, ints, clamps)) (All-tail (λ y. h y ≤ℤ b) x xs all)

  -- the least of a number and of what some items have is below each
  least-below : (a : ℤ) (xs : List X) (r : ℤ) → r ≡ fold (λ (m : ℤ) (x : X). int_min m (h x)) a xs → (r ≤ℤ a) × All (λ x. r ≤ℤ h x) xs
  least-below a [] r e = (omega (arith, ints), All-nil (λ x. r ≤ℤ h x))
  least-below a (x ∷ xs) r e =
      let rest = least-below (int_min a (h x)) xs r e in
      let low = rest.0 in
      (omega (arith, ints, clamps), All-cons (λ y. r ≤ℤ h y) x xs (omega (arith, ints, clamps)) rest.1)

  one_of : (a b : ℤ) → (int_min a b ≡ a) ⊎ (int_min a b ≡ b)
  one_of a b = grind (arith, ints, clamps)

  -- and it is that number or what one of them has
  least-reached : (a : ℤ) (xs : List X) (r : ℤ) → r ≡ fold (λ (m : ℤ) (x : X). int_min m (h x)) a xs → (r ≡ a) ⊎ Any (λ x. r ≡ h x) xs
  least-reached a [] r e = inl e
  least-reached a (x ∷ xs) r e = ⊎_elim
      (λ p. ⊎_elim (λ q. inl (p ∙ q)) (λ q. inr (0, x, omega arith, refl, p ∙ q)) (one_of a (h x)))
      (λ some. inr (suc some.0, some.1, omega (arith, some.2), some.3, some.4))
      (least-reached (int_min a (h x)) xs r e)

-- a power of two that reaches a number has a greater exponent than one that does not
next-power : (i k n : ℕ) → 2 ^ i < n → n ≤ 2 ^ k → suc i ≤ k
next-power i k n small enough = ⊎_elim
    (λ (more : i < k). omega (arith, more))
    (λ (less : k ≤ i). let below : 2 ^ k ≤ 2 ^ i = pow-le-pow_right {n = 2} (omega arith) {i = k} {j = i} less in absurd (omega (arith, below)))
    (cases_lt i k)

-- the search from a power of two on finds one, if some of so many reaches n, and it is the least that does
abbrev Found : ℕ → ℕ → ℕ → Type 0
Found i n power = (j : ℕ) × (power ≡ 2 ^ j) × (n ≤ 2 ^ j) × ((k : ℕ) → i ≤ k → n ≤ 2 ^ k → j ≤ k)

power-step : (more i n : ℕ) → n ≤ 2 ^ (i + suc more) → (n ≤ 2 ^ (suc i + more) → Found (suc i) n (first_power more (2 ^ suc i) n))
    → (t : Bool) → nat_le n (2 ^ i) ≡ t → Found i n (first_power (suc more) (2 ^ i) n)
unfolding first_power
power-step more i n h then true e = let enough : n ≤ 2 ^ i = grind (arith, nat_tests) in (i, rw e refl, enough, λ k low up. low)
power-step more i n h then false e =
    let small : 2 ^ i < n = grind (arith, nat_tests) in
    let next : i + suc more ≡ suc i + more = omega arith in
    let reach : n ≤ 2 ^ (suc i + more) = rw next at h in
    let power : 2 ^ suc i ≡ 2 ^ i * 2 = pow-suc 2 i in
    let twice : 2 * 2 ^ i ≡ 2 ^ suc i = omega (arith, power) in
    let rest = then reach in
    (rest.0, rw (e, twice) rest.1, rest.2, λ k low up. rest.3 k (next-power i k n small up) up)

power-facts : (more i n : ℕ) → n ≤ 2 ^ (i + more) → Found i n (first_power more (2 ^ i) n)
unfolding first_power
power-facts zero i n h =
    let none : i + 0 ≡ i = omega arith in
    let enough : n ≤ 2 ^ i = rw none at h in
    (i, refl, enough, λ k low up. low)
power-facts (suc more) i n h = power-step more i n h (power-facts more (suc i) n) (nat_le n (2 ^ i)) refl

size-of : (x : ℤ) → pos 0 ≤ℤ x → pos (unsigned_abs x) ≡ x
size-of (pos n) h = refl
size-of (negsuc n) h = absurd (omega (arith, ints))

stiffness_cap-greatest : (i : Item) → WithinLimits i → stiffness_cap i.lamina ≤ℤ pos 1600000
stiffness_cap-greatest i w = let m = w.limits.range.moduli in omega (arith, ints, clamps, m.greatest_e1, m.greatest_e2, m.greatest_g12)

stiffness_cap-least : (i : Item) → WithinLimits i → pos 4000 ≤ℤ stiffness_cap i.lamina
stiffness_cap-least i w = let m = w.limits.range.moduli in omega (arith, ints, clamps, m.least_e1, m.least_e2)

power_within : (q : ℤ) (power : ℕ) → q ≡ pos power → power ≤ 2097152 → q ≤ℤ pos 2097152
power_within q power is few = omega (arith, ints)

stiffness_floor-greatest : (i : Item) → WithinLimits i → stiffness_floor i.lamina ≤ℤ pos 400000
stiffness_floor-greatest i w = let m = w.limits.range.moduli in omega (arith, ints, clamps, m.greatest_g12)

covered : (x top : ℤ) (size power whole : ℕ) → x ≤ℤ top → pos size ≡ top → power ≡ whole → size ≤ whole → x ≤ℤ pos power
covered x top size power whole le is_size is_whole enough = omega (arith, ints, le, is_size)

no_less : (j k : ℕ) (top : ℤ) (size power : ℕ) → pos size ≡ top → power ≡ 2 ^ j → ((i : ℕ) → 0 ≤ i → size ≤ 2 ^ i → j ≤ i) → top ≤ℤ pos (2 ^ k) → pos power ≤ℤ pos (2 ^ k)
no_less j k top size power is_size is_power least enough =
    let within : size ≤ 2 ^ k = omega (arith, ints, is_size, enough) in
    let exponents : j ≤ k = least k (omega arith) within in
    let powers : 2 ^ j ≤ 2 ^ k = pow-le-pow_right {n = 2} (omega arith) {i = j} {j = k} exponents in
    omega (arith, ints, powers, is_power)

same_by_order : (low x top : ℤ) → low ≡ top → low ≤ℤ x → x ≤ℤ top → low ≡ x
same_by_order low x top e below above = grind (arith, ints)

-- where no stiffness floor is below the number that the search begins with, that of the first item reaches it
first_reached : (items : List Item) → 1 ≤ length items → All WithinLimits items → least_floor items ≡ pos 400000
    → All (λ (i : Item). least_floor items ≤ℤ stiffness_floor i.lamina) items → Any (λ (i : Item). least_floor items ≡ stiffness_floor i.lamina) items
first_reached [] some limits e below = absurd (omega arith)
first_reached (i ∷ items) some limits e below =
    let low = All-head (λ (j : Item). least_floor (i ∷ items) ≤ℤ stiffness_floor j.lamina) i items below in
    let high = stiffness_floor-greatest i (All-head WithinLimits i items limits) in
    (0, i, omega arith, refl, same_by_order (least_floor (i ∷ items)) (stiffness_floor i.lamina) (pos 400000) e low high)

-- the scale that is found is that of the items
pub scale-is : (items : List Item) → 1 ≤ length items → All WithinLimits items
    → IsScaleOf items (scale_of items) × ((k : ℕ) × (k ≤ 21) × ((scale_of items).q0 ≡ pos (2 ^ k)))
scale-is items some limits =
    let cap : Item → ℤ = λ i. stiffness_cap i.lamina in
    let floor : Item → ℤ = λ i. stiffness_floor i.lamina in
    let top = greatest_cap items in
    let size = unsigned_abs top in
    let above = greatest-above cap (pos 0) items top refl in
    let below = least-below floor (pos 400000) items (least_floor items) refl in
    let is_size : pos size ≡ top = size-of top above.0 in
    let each : All (λ (i : Item). cap i ≤ℤ pos 1600000) items = All-weaker WithinLimits (λ (i : Item). cap i ≤ℤ pos 1600000) stiffness_cap-greatest items limits in
    let few : top ≤ℤ pos 1600000 = greatest-least cap (pos 0) (pos 1600000) items top refl (omega (arith, ints)) each in
    let small : size ≤ 1600000 = omega (arith, ints, is_size, few) in
    let found = power-facts 64 0 size (omega (arith, small)) in
    let covers : All (λ (i : Item). cap i ≤ℤ pos (power_above size)) items = All-weaker (λ (i : Item). cap i ≤ℤ top) (λ (i : Item). cap i ≤ℤ pos (power_above size))
    (λ i le. covered (cap i) top size (power_above size) (2 ^ found.0) le is_size found.1 found.2) items above.1 in (
      record {
        power = (found.0, ap pos found.1);
        covers = covers;
        least_power = λ k all. no_less found.0 k top size (power_above size) is_size found.1 found.3 (greatest-least cap (pos 0) (pos (2 ^ k)) items top refl (omega (arith, ints)) all);
        below = below.1;
        reached = ⊎_elim (λ e. first_reached items some limits e below.1) (λ h. h) (least-reached floor (pos 400000) items (least_floor items) refl);
      },
      (found.0, found.3 21 (omega arith) (omega (arith, small)), ap pos found.1),
    )

-- what is kept beside some items is their scale
pub scale-kept : (items now : List Item) (scale : Scale) → IsStock items scale → items ≡ now
    → IsScaleOf now scale × ((k : ℕ) × (k ≤ 21) × (scale.q0 ≡ pos (2 ^ k)))
scale-kept items now scale stock same = rw (← same, stock.scale_is) (scale-is items stock.some stock.limits)

-- no item is stiffer than the limits let it be, and the first is as cap as they ask
pub scale-within : (items now : List Item) (scale : Scale) → IsStock items scale → items ≡ now
    → (pos 4000 ≤ℤ scale.q0) × (scale.q0 ≤ℤ pos 2097152) × (scale.floor ≤ℤ pos 400000)
scale-within [] now scale stock same = absurd (omega (arith, stock.some))
scale-within (i ∷ items) now scale stock same =
    let facts = scale-kept (i ∷ items) (i ∷ items) scale stock refl in
    let limits = All-head WithinLimits i items stock.limits in
    let covered = All-head (λ (j : Item). stiffness_cap j.lamina ≤ℤ scale.q0) i items facts.0.covers in
    let below = All-head (λ (j : Item). scale.floor ≤ℤ stiffness_floor j.lamina) i items facts.0.below in
    let cap = stiffness_cap-least i limits in
    let floor = stiffness_floor-greatest i limits in
    let powers : 2 ^ facts.1.0 ≤ 2 ^ 21 = pow-le-pow_right {n = 2} (omega arith) {i = facts.1.0} {j = 21} facts.1.1 in (
      transitive (pos 4000) (stiffness_cap i.lamina) scale.q0 cap covered,
      power_within scale.q0 (2 ^ facts.1.0) facts.1.2 powers,
      transitive scale.floor (stiffness_floor i.lamina) (pos 400000) below floor,
    )
