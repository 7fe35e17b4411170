-- The range of a load, as it is computed.
use Rattle.std.proofs.Common.{◌≡◌, ◌↔◌, ap, ap₂, ◌∙◌, subst, ◌^◌, ◌<◌, ◌≤◌, Bool, false, IsTrue, unsigned_abs, ℤ, pos, negsuc, ◌*ℤ◌, w64, SFits, arith}
use Rattle.std.specs.Int.{saturate_signed, w128}
use Rattle.std.proofs.lemmas.Int.{fits_signed_mul, ints, to_z-of_z}
use Rattle.lam_fraction.proofs.numbers.Machine.{stored-64, stored-128}
use Rattle.lam_job.specs.declared.load.Load.{Load}
use Rattle.lam_job.specs.LoadRange.{SizeWithin, LoadInRange}

-- ---- what fits

size : (z : ℤ) → SFits w64 z → unsigned_abs z ≤ 2 ^ 63
size z f = let h = f.sfits in omega (arith, ints)

wider : (z : ℤ) → SFits w64 z → SFits w128 z
wider z f = let h = f.sfits in record { sfits = omega arith }

product_fits : (a b : ℤ) → SFits w64 a → SFits w64 b → SFits w128 (a *ℤ b)
product_fits a b f g = fits_signed_mul w128 a b (2 ^ 63) (2 ^ 63) (size a f) (size b g) (omega arith)

thousands_small : (z : ℤ) → SFits w64 z → unsigned_abs (pos 8000 *ℤ z) < 2 ^ 127
thousands_small z f = let h = f.sfits in omega (arith, ints)

thousands_fit : (z : ℤ) → SFits w64 z → SFits w128 (pos 8000 *ℤ z)
thousands_fit z f = let h = thousands_small z f in omega (arith, ints)

-- ---- what is passed

product_is : (a b v : ℤ) → SFits w64 a → SFits w64 b → v ≡ stored-64 a *ℤ stored-64 b → stored-128 v ≡ a *ℤ b
product_is a b v f g e = ap stored-128 (e ∙ ap₂ ◌*ℤ◌ (to_z-of_z w64 a f) (to_z-of_z w64 b g)) ∙ to_z-of_z w128 (a *ℤ b) (product_fits a b f g)

force_is : (z v : ℤ) → SFits w64 z → v ≡ stored-64 z → stored-128 v ≡ z
force_is z v f e = ap stored-128 (e ∙ to_z-of_z w64 z f) ∙ to_z-of_z w128 z (wider z f)

moment_is : (z v : ℤ) → SFits w64 z → v ≡ pos 8000 *ℤ stored-64 z → stored-128 v ≡ pos 8000 *ℤ z
moment_is z v f e = ap stored-128 (e ∙ ap (λ x. pos 8000 *ℤ x) (to_z-of_z w64 z f)) ∙ to_z-of_z w128 (pos 8000 *ℤ z) (thousands_fit z f)

-- a bound that is too great for a number is above each moment
saturated : (b z : ℤ) → unsigned_abs z < 2 ^ 127 → SizeWithin (saturate_signed w128 b) z ↔ SizeWithin b z
saturated (pos n) z small = (λ h. omega (arith, ints), λ h. omega (arith, ints))
saturated (negsuc n) z small = (λ h. absurd (omega (arith, ints)), λ h. absurd (omega (arith, ints)))

-- ---- the tests

abbrev pub AreWithin : ℤ → ℤ → ℤ → ℤ → Type 0
AreWithin bound x y xy = SizeWithin bound x × SizeWithin bound y × SizeWithin bound xy

module _ (floor h : ℤ) (load : Load) where
  -- where the forces are in range, the moments decide; where they are not, the load is not
  pub both_decide : (r : Bool) → AreWithin (floor *ℤ h) load.nx load.ny load.nxy
      → IsTrue r ↔ AreWithin (floor *ℤ (h *ℤ h)) (pos 8000 *ℤ load.mx) (pos 8000 *ℤ load.my) (pos 8000 *ℤ load.mxy)
      → IsTrue r ↔ LoadInRange floor h load
  both_decide r n moments = (
    (λ t. let m = moments.0 t in record { nx = n.0; ny = n.1; nxy = n.2; mx = m.0; my = m.1; mxy = m.2 }),
    (λ i. moments.1 (i.mx, i.my, i.mxy)),
  )

  pub forces_refuse : (r : Bool) → r ≡ false → IsTrue r ↔ AreWithin (floor *ℤ h) load.nx load.ny load.nxy → IsTrue r ↔ LoadInRange floor h load
  forces_refuse r e forces = ((λ t. absurd (cc)), (λ i. forces.1 (i.nx, i.ny, i.nxy)))

module _ (floor h : ℤ) (load : Load) (floor_fits : SFits w64 floor) (h_fits : SFits w64 h) where
  pub forces_decided : (r : Bool) (bound x y xy : ℤ) → bound ≡ stored-64 floor *ℤ stored-64 h
      → SFits w64 load.nx → SFits w64 load.ny → SFits w64 load.nxy → x ≡ stored-64 load.nx → y ≡ stored-64 load.ny → xy ≡ stored-64 load.nxy
      → IsTrue r ↔ AreWithin (stored-128 bound) (stored-128 x) (stored-128 y) (stored-128 xy)
      → IsTrue r ↔ AreWithin (floor *ℤ h) load.nx load.ny load.nxy
  forces_decided r bound x y xy bound_is fx fy fxy x_is y_is xy_is test =
      subst (λ A. IsTrue r ↔ A)
      (λ i. AreWithin (product_is floor h bound floor_fits h_fits bound_is i) (force_is load.nx x fx x_is i) (force_is load.ny y fy y_is i) (force_is load.nxy xy fxy xy_is i))
      test

  pub moments_decided : (r : Bool) (first square bound x y xy : ℤ) → first ≡ stored-64 floor → square ≡ stored-64 h *ℤ stored-64 h
      → SFits w128 bound → bound ≡ saturate_signed w128 (stored-128 first *ℤ stored-128 square)
      → SFits w64 load.mx → SFits w64 load.my → SFits w64 load.mxy
      → x ≡ pos 8000 *ℤ stored-64 load.mx → y ≡ pos 8000 *ℤ stored-64 load.my → xy ≡ pos 8000 *ℤ stored-64 load.mxy
      → IsTrue r ↔ AreWithin (stored-128 bound) (stored-128 x) (stored-128 y) (stored-128 xy)
      → IsTrue r ↔ AreWithin (floor *ℤ (h *ℤ h)) (pos 8000 *ℤ load.mx) (pos 8000 *ℤ load.my) (pos 8000 *ℤ load.mxy)
  moments_decided r first square bound x y xy first_is square_is fits bound_is fx fy fxy x_is y_is xy_is test =
      let b : stored-128 bound ≡ saturate_signed w128 (floor *ℤ (h *ℤ h)) = to_z-of_z w128 bound fits ∙ bound_is
      ∙ ap₂ (λ s t. saturate_signed w128 (s *ℤ t)) (force_is floor first floor_fits first_is) (product_is h h square h_fits h_fits square_is) in
      let decided : IsTrue r ↔ AreWithin (saturate_signed w128 (floor *ℤ (h *ℤ h))) (pos 8000 *ℤ load.mx) (pos 8000 *ℤ load.my) (pos 8000 *ℤ load.mxy)
      = subst (λ A. IsTrue r ↔ A) (λ i. AreWithin (b i) (moment_is load.mx x fx x_is i) (moment_is load.my y fy y_is i) (moment_is load.mxy xy fxy xy_is i)) test in
      let mx = saturated (floor *ℤ (h *ℤ h)) (pos 8000 *ℤ load.mx) (thousands_small load.mx fx) in
      let my = saturated (floor *ℤ (h *ℤ h)) (pos 8000 *ℤ load.my) (thousands_small load.my fy) in
      let mxy = saturated (floor *ℤ (h *ℤ h)) (pos 8000 *ℤ load.mxy) (thousands_small load.mxy fxy) in (
        (λ t. let w = decided.0 t in (mx.0 w.0, my.0 w.1, mxy.0 w.2)),
        (λ w. decided.1 (mx.1 w.0, my.1 w.1, mxy.1 w.2)),
      )
