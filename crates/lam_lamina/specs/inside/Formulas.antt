-- The usual formulas of the reduced and of the transformed stiffness (Jones), by which the code computes it: over any
-- arithmetic, so that the same line gives the value of a call and the fraction that it holds.
use Rattle.std.specs.Prelude.{ℤ, pos, ◌*ℤ◌}
use Rattle.lam_fraction.specs.numbers.Arithmetic.{Arithmetic}
use Rattle.lam_direction.specs.Circle.{CirclePoint}
use Rattle.lam_stock.specs.declared.item.Lamina.{Lamina}
use Rattle.lam_stock.specs.declared.item.Kind.{Kind}
use Rattle.lam_stock.specs.declared.item.Kind.TheVariants.{Ply, Pair}
use Rattle.lam_stock.specs.PlyLaw.{poisson_rest}
use Rattle.lam_direction.specs.Squares.{squares_of}
use Rattle.lam_lamina.specs.declared.powers.Powers.{Powers}
use Rattle.lam_direction.specs.declared.squares.DirectionSquares.{DirectionSquares}
use Rattle.lam_lamina.specs.declared.stiffness.Reduced.{Reduced}
use Rattle.lam_lamina.specs.declared.stiffness.Sym3.{Sym3}

module _ {A : Type 0} (v : Arithmetic A) where
  -- of a lamina, over q0
  abbrev pub reduced : ℤ → Lamina → Reduced A
  reduced q0 l = record {
    q11 = v.ratio (pos 1000000 *ℤ (l.e1 *ℤ l.e1)) (poisson_rest l *ℤ q0);
    q12 = v.ratio (pos 1000 *ℤ (l.n12 *ℤ (l.e1 *ℤ l.e2))) (poisson_rest l *ℤ q0);
    q22 = v.ratio (pos 1000000 *ℤ (l.e1 *ℤ l.e2)) (poisson_rest l *ℤ q0);
    q66 = v.ratio l.g12 q0;
  }

  abbrev pub powers : DirectionSquares → Powers A
  powers t = record {
    cosine_fourth = v.ratio (t.cosine_square *ℤ t.cosine_square) (t.size *ℤ t.size);
    sine_fourth = v.ratio (t.sine_square *ℤ t.sine_square) (t.size *ℤ t.size);
    squares = v.ratio (t.sine_square *ℤ t.cosine_square) (t.size *ℤ t.size);
    cosine_third = v.ratio (t.product *ℤ t.cosine_square) (t.size *ℤ t.size);
    sine_third = v.ratio (t.product *ℤ t.sine_square) (t.size *ℤ t.size);
  }

  -- Q12 + 2 Q66
  abbrev pub coupling : Reduced A → A
  coupling r = v.sum r.q12 (v.multiple r.q66 (pos 2))

  -- 2 (Q12 + 2 Q66) times s²c²
  abbrev pub between : Reduced A → A → A
  between r x = v.product (v.multiple (coupling r) (pos 2)) x

  -- of xx and yy
  abbrev pub normal : Reduced A → A → A → A → A
  normal r between x y = v.sum (v.sum (v.product r.q11 x) between) (v.product r.q22 y)

  -- of xy
  abbrev pub normal_difference : Reduced A → A
  normal_difference r = v.difference (v.sum r.q11 r.q22) (v.multiple r.q66 (pos 4))

  -- of ss
  abbrev pub shear_difference : Reduced A → A
  shear_difference r = v.difference (v.sum r.q11 r.q22) (v.multiple (v.sum r.q12 r.q66) (pos 2))

  -- of xy and ss: a difference times s²c², and a modulus times s⁴ + c⁴
  abbrev pub mixed : A → A → Powers A → A
  mixed difference modulus p = v.sum (v.product difference p.squares) (v.product modulus (v.sum p.sine_fourth p.cosine_fourth))

  -- of xs and ys
  abbrev pub skew : Reduced A → A → A → A
  skew r x y = v.sum (v.product (v.difference r.q11 (coupling r)) x) (v.product (v.difference (coupling r) r.q22) y)

  -- all six
  abbrev pub by_powers : Reduced A → Powers A → Sym3 A
  by_powers r p = record {
    xx = normal r (between r p.squares) p.cosine_fourth p.sine_fourth;
    xy = mixed (normal_difference r) r.q12 p;
    yy = normal r (between r p.squares) p.sine_fourth p.cosine_fourth;
    xs = skew r p.cosine_third p.sine_third;
    ys = skew r p.sine_third p.cosine_third;
    ss = mixed (shear_difference r) r.q66 p;
  }

  abbrev pub transformed : Reduced A → CirclePoint → Sym3 A
  transformed r d = by_powers r (powers (squares_of d))

  -- without the coupling of shear with the normal components
  abbrev pub uncoupled : Sym3 A → Sym3 A
  uncoupled m = record m { xs = v.ratio (pos 0) (pos 1); ys = v.ratio (pos 0) (pos 1) }

  -- the matrix of zeros
  abbrev pub zeros : Sym3 A
  zeros = let zero = v.ratio (pos 0) (pos 1) in record { xx = zero; xy = zero; yy = zero; xs = zero; ys = zero; ss = zero }

  -- of an item, over q0
  abbrev pub item : ℤ → Kind → Lamina → CirclePoint → Sym3 A
  item q0 Ply l d = transformed (reduced q0 l) d
  item q0 Pair l d = uncoupled (transformed (reduced q0 l) d)
