-- What sets of enclosures hold, and how narrow they are.
use Rattle.std.specs.Prelude.{ℕ, ◌*◌, ◌≤◌}
use Rattle.lam_fraction.specs.Fraction.{ℚ}
use Rattle.lam_fraction.specs.numbers.Numbers.{Numbers, Holds, width}
use Rattle.lam_lamina.specs.declared.stiffness.Reduced.{Reduced}
use Rattle.lam_lamina.specs.declared.stiffness.Sym3.{Sym3}

-- each of the four holds its number
pub record HoldsModuli {A : Type 0} (n : Numbers A) (r : Reduced A) (m : Reduced ℚ) : Type 0 where
  pub q11 : Holds n r.q11 m.q11
  pub q12 : Holds n r.q12 m.q12
  pub q22 : Holds n r.q22 m.q22
  pub q66 : Holds n r.q66 m.q66

-- each of the six holds its number
pub record HoldsMatrix {A : Type 0} (n : Numbers A) (r : Sym3 A) (m : Sym3 ℚ) : Type 0 where
  pub xx : Holds n r.xx m.xx
  pub xy : Holds n r.xy m.xy
  pub yy : Holds n r.yy m.yy
  pub xs : Holds n r.xs m.xs
  pub ys : Holds n r.ys m.ys
  pub ss : Holds n r.ss m.ss

-- an enclosure is at most so many slops wide
abbrev pub IsNarrow : {A : Type 0} → ℕ → Numbers A → A → Type 0
IsNarrow slops n z = width n z ≤ slops * n.slop

-- each of the four is
pub record NarrowModuli {A : Type 0} (slops : ℕ) (n : Numbers A) (r : Reduced A) : Type 0 where
  pub q11 : IsNarrow slops n r.q11
  pub q12 : IsNarrow slops n r.q12
  pub q22 : IsNarrow slops n r.q22
  pub q66 : IsNarrow slops n r.q66

-- each of the six is
pub record NarrowMatrix {A : Type 0} (slops : ℕ) (n : Numbers A) (r : Sym3 A) : Type 0 where
  pub xx : IsNarrow slops n r.xx
  pub xy : IsNarrow slops n r.xy
  pub yy : IsNarrow slops n r.yy
  pub xs : IsNarrow slops n r.xs
  pub ys : IsNarrow slops n r.ys
  pub ss : IsNarrow slops n r.ss
