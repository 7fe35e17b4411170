-- What is known of the enclosures inside the formulas: in quarters of one, and four quarters of a slop.
use Rattle.std.specs.Prelude.{ℕ, ◌+◌, ◌*◌}
use Rattle.lam_fraction.specs.Fraction.{ℚ}
use Rattle.lam_fraction.specs.inside.Known.{Bounds, Known}
use Rattle.lam_fraction.specs.numbers.Numbers.{Numbers}
use Rattle.lam_fraction.specs.inside.Reaches.{Reaches, sixteenths}
use Rattle.lam_lamina.specs.declared.powers.Powers.{Powers}
use Rattle.lam_lamina.specs.declared.stiffness.Reduced.{Reduced}
use Rattle.lam_lamina.specs.declared.stiffness.Sym3.{Sym3}

-- so many quarters in size, and so many slops wide
abbrev pub quarters : ℕ → ℕ → Bounds
quarters size slops = record { size = size; wide = 4 * slops }

-- the four moduli of a lamina over its scale
pub record KnownModuli {A : Type 0} (n : Numbers A) (r : Reduced A) (m : Reduced ℚ) : Type 0 where
  pub q11 : Known n 4 (quarters 4 1) r.q11 m.q11
  pub q12 : Known n 4 (quarters 2 1) r.q12 m.q12
  pub q22 : Known n 4 (quarters 4 1) r.q22 m.q22
  pub q66 : Known n 4 (quarters 2 1) r.q66 m.q66

-- the powers of a cosine and a sine
pub record KnownPowers {A : Type 0} (n : Numbers A) (p : Powers A) (q : Powers ℚ) : Type 0 where
  pub cosine_fourth : Known n 4 (quarters 4 1) p.cosine_fourth q.cosine_fourth
  pub sine_fourth : Known n 4 (quarters 4 1) p.sine_fourth q.sine_fourth
  pub squares : Known n 4 (quarters 1 1) p.squares q.squares
  pub cosine_third : Known n 4 (quarters 2 1) p.cosine_third q.cosine_third
  pub sine_third : Known n 4 (quarters 2 1) p.sine_third q.sine_third

-- the six entries of a stiffness
pub record KnownMatrix {A : Type 0} (n : Numbers A) (b : Bounds) (r : Sym3 A) (m : Sym3 ℚ) : Type 0 where
  pub xx : Known n 4 b r.xx m.xx
  pub xy : Known n 4 b r.xy m.xy
  pub yy : Known n 4 b r.yy m.yy
  pub xs : Known n 4 b r.xs m.xs
  pub ys : Known n 4 b r.ys m.ys
  pub ss : Known n 4 b r.ss m.ss

-- how far the moduli and the powers reach, which is all that a call needs: a slop past their sizes
pub record ReachModuli {A : Type 0} (n : Numbers A) (r : Reduced A) : Type 0 where
  pub q11 : Reaches n (sixteenths 16 + 4) r.q11
  pub q12 : Reaches n (sixteenths 8 + 4) r.q12
  pub q22 : Reaches n (sixteenths 16 + 4) r.q22
  pub q66 : Reaches n (sixteenths 8 + 4) r.q66

pub record ReachPowers {A : Type 0} (n : Numbers A) (p : Powers A) : Type 0 where
  pub cosine_fourth : Reaches n (sixteenths 16 + 4) p.cosine_fourth
  pub sine_fourth : Reaches n (sixteenths 16 + 4) p.sine_fourth
  pub squares : Reaches n (sixteenths 4 + 4) p.squares
  pub cosine_third : Reaches n (sixteenths 8 + 4) p.cosine_third
  pub sine_third : Reaches n (sixteenths 8 + 4) p.sine_third
