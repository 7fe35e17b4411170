-- Over a narrow wall the answer is narrow.
use Rattle.std.proofs.Common.{◌≡◌, ap₂, ℕ, ◌≤◌, Bool, true, ◌&&◌, nat_eq, nat_le, arith}
use Rattle.std.proofs.lemmas.Bool.Decides.{nat_tests}
use Rattle.lam_fraction.specs.numbers.Numbers.{Numbers}
use Rattle.lam_lamina.specs.declared.stiffness.Sym3.{Sym3}
use Rattle.lam_lamina.specs.Held.{NarrowMatrix}
use Rattle.lam_wall.specs.declared.wall.Wall.{Wall}
use Rattle.lam_wall.specs.Assembled.{NarrowWall}
use Rattle.lam_solve.specs.inside.Narrow.{is_narrow, is_narrow_matrix}

passes : (m k : ℕ) → m ≤ k → nat_le m k ≡ true
passes m k h = grind (arith, nat_tests)

is_same : (m k : ℕ) → m ≡ k → nat_eq m k ≡ true
is_same m k h = grind (arith, nat_tests)

both : {a b : Bool} → a ≡ true → b ≡ true → (a && b) ≡ true
both p q = ap₂ ◌&&◌ p q

module _ {A : Type 0} (n : Numbers A) where
  narrow-matrix : (m : Sym3 A) → NarrowMatrix 512 n m → is_narrow_matrix n m ≡ true
  unfolding is_narrow_matrix
  narrow-matrix m h =
      both (both (both (both (both (passes _ _ h.xx) (passes _ _ h.xy)) (passes _ _ h.yy)) (passes _ _ h.xs)) (passes _ _ h.ys)) (passes _ _ h.ss)

  pub is-narrow : (w : Wall A) → n.scale ≡ 60 → NarrowWall 512 n w → is_narrow n w ≡ true
  unfolding is_narrow
  is-narrow w scale h = both (both (both (is_same n.scale 60 scale) (narrow-matrix w.a h.a)) (narrow-matrix w.b h.b)) (narrow-matrix w.d h.d)
