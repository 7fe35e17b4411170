-- What a middle and a root tell: where a middle lies, and how far a root reaches.
use Rattle.std.proofs.Common.{ℕ, ◌+◌, ◌*◌, ◌≤◌, ◌<◌, inl, inr, arith, ℤ, pos, negsuc, neg_ℤ, ◌+ℤ◌, ◌-ℤ◌, ◌*ℤ◌, ◌≤ℤ◌, ◌<ℤ◌}
use Rattle.std.proofs.lemmas.Bool.{cases_lt}
use Rattle.std.proofs.lemmas.Int.{ints}
use Rattle.std.proofs.lemmas.Nat.{mul-le}
use Rattle.lam_fraction.specs.numbers.Ends as ends
use Rattle.lam_fraction.specs.numbers.Numbers.{Numbers, Lawful, RootRoom, reach, unit}
use Rattle.lam_fraction.specs.numbers.Rounding.{floor_over}
use Rattle.lam_fraction.proofs.numbers.Rounded.{floor-at_most, floor-near}

-- ---- half a sum of ends, rounded down
pub half_at_most : (z : ℤ) → (pos 2 *ℤ floor_over z 2) ≤ℤ z
half_at_most z = let two : 0 < 2 = omega arith in omega (arith, ints, floor-at_most z 2 two)

pub half_near : (z : ℤ) → z <ℤ (pos 2 *ℤ floor_over z 2 +ℤ pos 2)
half_near z = let two : 0 < 2 = omega arith in omega (arith, ints, floor-near z 2 two)

-- the middle lies from the low end to the high one
pub middle_within : (low high : ℤ) → low ≤ℤ high → (low ≤ℤ floor_over (low +ℤ high) 2) × (floor_over (low +ℤ high) 2 ≤ℤ high)
middle_within low high h = (omega (arith, ints, h, half_near (low +ℤ high)), omega (arith, ints, h, half_at_most (low +ℤ high)))

-- ---- the reach of a root: b and a slop, where b is at least the root of the high end
root_most : (d m : ℤ) (b : ℕ) → (d *ℤ d) <ℤ m → m ≤ℤ pos (b * b) → d ≤ℤ pos b
root_most (pos k) m b h room = elim (cases_lt b k) [
  | inl more ↦ (let less : b ≤ k = omega (arith, more) in absurd (omega (arith, ints, h, room, mul-le b b k k less less)))
  | inr most ↦ omega (arith, ints, most)
]
root_most (negsuc k) m b h room = omega (arith, ints)

ends_within : (low high : ℤ) (n : ℕ) → neg_ℤ (pos n) ≤ℤ low → low ≤ℤ high → high ≤ℤ pos n → ends.reach low high ≤ n
unfolding ends.reach
ends_within low high n h k l = omega (arith, ints)

pub root_reach : {A : Type 0} {n : Numbers A} → Lawful n → (z : A) (b : ℕ) → RootRoom n z → (n.high z *ℤ pos (unit n)) ≤ℤ pos (b * b) → reach n (n.root z) ≤ b + n.slop
root_reach {n = n} laws z b room most =
    let r = laws.root z room in
    let order = laws.ordered (n.root z) in
    let low : neg_ℤ (pos (b + n.slop)) ≤ℤ n.low (n.root z) = omega (arith, ints, r.least) in
    let high : n.high (n.root z) ≤ℤ pos (b + n.slop) = elim r.high [
      | inl small ↦ omega (arith, ints, small)
      | inr near ↦ omega (arith, ints, root_most (n.high (n.root z) -ℤ pos n.slop) _ b near most)
    ] in
    ends_within (n.low (n.root z)) (n.high (n.root z)) (b + n.slop) low order high
