-- Sums of thicknesses fit a machine's numbers.
use Rattle.std.proofs.Common.{◌≡◌, sym, ap, ◌∙◌, subst, ℕ, ◌+◌, ◌*◌, ◌<◌, ℤ, pos, negsuc, ◌+ℤ◌, ◌≤ℤ◌, to_z, of_z, w64, SFits, arith}
use Rattle.std.proofs.lemmas.Int.{ints, to_z-of_z}

pub small_fits : (z : ℤ) → negsuc 9999999 ≤ℤ z → z ≤ℤ pos 10000000 → SFits w64 z
small_fits (pos n) low high = record { sfits = omega (arith, ints, high) }
small_fits (negsuc n) low high = record { sfits = omega (arith, ints, low) }

-- ---- one ply more

pub record Step (next : ℤ) (k : ℕ) (v : ℤ) : Type 0 where
  pub value : v ≡ next
  pub least : pos (50 * k) ≤ℤ v
  pub greatest : v ≤ℤ pos (20000 * k)

pub thickness-step : (sum t next : ℤ) (k : ℕ) → pos (50 * k) ≤ℤ sum → sum ≤ℤ pos (20000 * k) → k < 64 → pos 50 ≤ℤ t → t ≤ℤ pos 20000 → next ≡ sum +ℤ t
    → Step next (k + 1) (to_z w64 (of_z w64 (sum +ℤ to_z w64 (of_z w64 t))))
thickness-step sum t next k a b few c d e =
    let ply : to_z w64 (of_z w64 t) ≡ t = to_z-of_z w64 t (small_fits t (omega (arith, ints)) (omega (arith, ints))) in
    let all : to_z w64 (of_z w64 (sum +ℤ t)) ≡ sum +ℤ t = to_z-of_z w64 (sum +ℤ t) (small_fits (sum +ℤ t) (omega (arith, ints)) (omega (arith, ints))) in
    subst (Step next (k + 1)) (sym (ap (λ (x : ℤ). to_z w64 (of_z w64 (sum +ℤ x))) ply ∙ all))
    (record { value = sym e; least = omega (arith, ints); greatest = omega (arith, ints) })
