-- Quotients that are rounded down or up, and whole roots.
use Rattle.std.proofs.Common.{Bool, true, false, cond, not, T, nat_le, ◌≡◌, ℕ, zero, suc, ◌+◌, ◌*◌, ◌<◌, ◌≤◌, arith, ℤ, pos, negsuc, neg_ℤ, ◌+ℤ◌, ◌*ℤ◌, ◌≤ℤ◌, ◌<ℤ◌, unsigned_abs, mod-lt, div-add-mod', subst, sym, refl}
use Rattle.std.proofs.lemmas.Int.{ints, unsigned_abs-mul}
use lib.Dec.{leb→le, nleb→lt}
use Rattle.lam_fraction.proofs.Laws.{integers, ordered_integers}
use Rattle.lam_fraction.proofs.Expression.{◌⊖◌, ◌⊗◌, minus}
use Rattle.lam_fraction.proofs.Order as Order
use Rattle.lam_fraction.proofs.Solver as Solver
use Rattle.lam_fraction.proofs.Solver.{◌≐◌}
use Rattle.lam_fraction.specs.numbers.Rounding.{floor_over, ceil_over, root_floor}

-- ---- what rounding loses
pub floor-at_most : (z : ℤ) (n : ℕ) → 0 < n → (floor_over z n *ℤ pos n) ≤ℤ z
unfolding floor_over
floor-at_most (pos a) n p = omega (arith, ints, div-add-mod' a n, mod-lt a p)
floor-at_most (negsuc a) n p = omega (arith, ints, div-add-mod' a n, mod-lt a p)

pub floor-near : (z : ℤ) (n : ℕ) → 0 < n → z <ℤ (floor_over z n *ℤ pos n +ℤ pos n)
unfolding floor_over
floor-near (pos a) n p = omega (arith, ints, div-add-mod' a n, mod-lt a p)
floor-near (negsuc a) n p = omega (arith, ints, div-add-mod' a n, mod-lt a p)

neg-product : (x y : ℤ) → neg_ℤ x *ℤ y ≡ neg_ℤ (x *ℤ y)
neg-product = Solver.solve integers 2 (λ x y. minus x ⊗ y ≐ minus (x ⊗ y)) refl

pub ceil-at_least : (z : ℤ) (n : ℕ) → 0 < n → z ≤ℤ (ceil_over z n *ℤ pos n)
unfolding ceil_over
ceil-at_least z n p = omega (arith, ints, floor-at_most (neg_ℤ z) n p, neg-product (floor_over (neg_ℤ z) n) (pos n))

pub ceil-near : (z : ℤ) (n : ℕ) → 0 < n → (ceil_over z n *ℤ pos n) <ℤ (z +ℤ pos n)
unfolding ceil_over
ceil-near z n p = omega (arith, ints, floor-near (neg_ℤ z) n p, neg-product (floor_over (neg_ℤ z) n) (pos n))

without_factor : (a b : ℤ) (n : ℕ) → 0 < n → (a *ℤ pos n) ≤ℤ (b *ℤ pos n) → a ≤ℤ b
without_factor a b n p h =
    let positive : pos 0 <ℤ pos n = omega (arith, ints, p) in
    Order.at_most_over ordered_integers positive (Order.above ordered_integers h) (Solver.solve integers 3 (λ a b n. n ⊗ (b ⊖ a) ≐ b ⊗ n ⊖ a ⊗ n) refl a b (pos n))

-- rounded down is at most rounded up
pub floor-ceil : (y z : ℤ) (n : ℕ) → 0 < n → y ≤ℤ z → floor_over y n ≤ℤ ceil_over z n
floor-ceil y z n p h = without_factor _ _ n p (omega (arith, ints, floor-at_most y n p, ceil-at_least z n p, h))

-- rounding adds one to a size at most
pub floor-size : (z : ℤ) (n : ℕ) → 0 < n → unsigned_abs (floor_over z n) * n ≤ unsigned_abs z + n
floor-size z n p = omega (arith, ints, unsigned_abs-mul (floor_over z n) (pos n), floor-at_most z n p, floor-near z n p)

pub ceil-size : (z : ℤ) (n : ℕ) → 0 < n → unsigned_abs (ceil_over z n) * n ≤ unsigned_abs z + n
ceil-size z n p = omega (arith, ints, unsigned_abs-mul (ceil_over z n) (pos n), ceil-at_least z n p, ceil-near z n p)

-- ---- whole roots
pub record IsWholeRoot (r n : ℕ) : Type 0 where
  pub square : r * r ≤ n
  pub next : n < (r + 1) * (r + 1)

root_step : (r n : ℕ) → IsWholeRoot r n → IsWholeRoot (cond (nat_le ((r + 1) * (r + 1)) (suc n)) (r + 1) r) (suc n)
root_step r n p = by_test (nat_le ((r + 1) * (r + 1)) (suc n)) refl
  where
    by_test : (b : Bool) → nat_le ((r + 1) * (r + 1)) (suc n) ≡ b → IsWholeRoot (cond b (r + 1) r) (suc n)
    by_test true e = record { square = leb→le _ _ (subst T (sym e) tt); next = omega (arith, p.next) }
    by_test false e = record { square = omega (arith, p.square); next = nleb→lt _ _ (subst (λ t. T (not t)) (sym e) tt) }

pub root_floor-is : (n : ℕ) → IsWholeRoot (root_floor n) n
unfolding root_floor
root_floor-is zero = record { square = omega arith; next = omega arith }
root_floor-is (suc n) = root_step (root_floor n) n (root_floor-is n)
