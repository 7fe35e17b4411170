-- The formulas by which the code computes a capacity: those of enclosures over any arithmetic, so that the same line gives
-- the value of a call and the fraction that it holds.
use Rattle.std.specs.Prelude.{ℕ, ◌+◌, ◌*◌, ◌/◌, ◌%◌, min, max, ℤ, pos, neg_ℤ, ◌+ℤ◌, ◌-ℤ◌, ◌*ℤ◌, unsigned_abs}
use Rattle.std.specs.Int.{int_min, int_max}
use Rattle.lam_fraction.specs.numbers.Arithmetic.{Arithmetic}
use Rattle.lam_fraction.specs.numbers.Numbers.{Numbers}
use Rattle.lam_direction.specs.Circle.{CirclePoint}
use Rattle.lam_direction.specs.Squares.{squares_of}
use Rattle.lam_direction.specs.declared.squares.DirectionSquares.{DirectionSquares}
use Rattle.lam_stock.specs.declared.item.Kind.{Kind}
use Rattle.lam_stock.specs.declared.item.Kind.TheVariants.{Ply, Pair}
use Rattle.lam_stock.specs.declared.item.Lamina.{Lamina}
use Rattle.lam_support.specs.declared.slopes.PlyWeight.{PlyWeight}
use Rattle.lam_support.specs.declared.slopes.Slopes.{Slopes}
use Rattle.lam_support.specs.declared.surface.Surface.{Surface}
use Rattle.lam_support.specs.declared.weight.Weight.{Weight}

-- ---- in whole numbers

abbrev pub normal : ℤ → ℤ → ℤ → Weight → ℤ
normal a b c w = ((a *ℤ w.x) +ℤ (b *ℤ w.y)) +ℤ (c *ℤ w.s)

abbrev pub shear : ℤ → ℤ → ℤ → Weight → ℤ
shear a b c w = ((pos 2 *ℤ c) *ℤ (w.y -ℤ w.x)) +ℤ ((a -ℤ b) *ℤ w.s)

-- a weight in the axes of a ply, times the size of its direction
abbrev pub ply_weight : DirectionSquares → Weight → PlyWeight
ply_weight t w = record {
  along = normal t.cosine_square t.sine_square t.product w;
  across = normal t.sine_square t.cosine_square (neg_ℤ t.product) w;
  shear = shear t.cosine_square t.sine_square t.product w;
}

-- the squares of a pair's other side, and of a ply's only one
abbrev pub other_side : Kind → DirectionSquares → DirectionSquares
other_side Ply t = t
other_side Pair t = record t { product = neg_ℤ t.product }

-- for stresses that are counted in the lesser strengths of their axes
abbrev pub at_strengths : Lamina → PlyWeight → PlyWeight
at_strengths l v = record { along = v.along *ℤ int_min l.xt l.xc; across = v.across *ℤ int_min l.yt l.yc; shear = v.shear *ℤ l.s }

abbrev pub greatest : PlyWeight → ℕ
greatest v = max (max (unsigned_abs v.along) (unsigned_abs v.across)) (unsigned_abs v.shear)

-- m over k, rounded up
abbrev pub up : ℕ → ℕ → ℕ
up m k = m / k + min 1 (m % k)

module _ {A : Type 0} (v : Arithmetic A) where
  -- ---- the surface of a lamina

  abbrev pub ratio : ℤ → ℤ → A
  ratio tension compression = v.ratio (int_max tension compression) (pos 64 *ℤ int_min tension compression)

  abbrev pub shift : ℤ → ℤ → A
  shift tension compression = v.ratio (compression -ℤ tension) (int_max tension compression)

  abbrev pub coupling : Lamina → A
  coupling l = v.ratio (l.f12 *ℤ (int_max l.xt l.xc *ℤ int_max l.yt l.yc)) (pos 64000000000000000000)

  abbrev pub lesser_coupling : Lamina → A
  lesser_coupling l = v.ratio (l.f12 *ℤ (int_min l.xt l.xc *ℤ int_min l.yt l.yc)) (pos 1000000000000000000)

  abbrev pub rest : A → A → A
  rest lesser greater = v.difference (v.ratio (pos 1) (pos 16)) (v.multiple (v.product lesser greater) (pos 4))

  abbrev pub surface : Lamina → Surface A
  surface l = record {
    along = ratio l.xt l.xc;
    across = ratio l.yt l.yc;
    coupling = coupling l;
    rest = rest (lesser_coupling l) (coupling l);
    shift_along = shift l.xt l.xc;
    shift_across = shift l.yt l.yc;
  }

  abbrev pub slopes : PlyWeight → ℤ → Slopes A
  slopes w m = record { along = v.ratio w.along m; across = v.ratio w.across m; shear = v.ratio w.shear m }

  -- ---- the form that is inverse to the surface's, times g, over 64

  abbrev pub form : Surface A → A → A → A → A → A
  form s a b x y =
      v.sum (v.difference (v.product s.along (v.product a x)) (v.product s.coupling (v.sum (v.product a y) (v.product b x)))) (v.product s.across (v.product b y))

  -- of the slopes and the shifts: -2 g times the value in the middle
  abbrev pub lean : Surface A → Slopes A → A
  lean s n = form s n.along n.across s.shift_along s.shift_across

  -- of the shifts, and 4 g
  abbrev pub extent : Surface A → A
  extent s = v.sum s.rest (form s s.shift_along s.shift_across s.shift_along s.shift_across)

  -- of the slopes, with g times the square of the shear slope
  abbrev pub spread : Surface A → Slopes A → A
  spread s n = v.sum (form s n.along n.across n.along n.across) (v.quotient (v.product s.rest (v.square n.shear)) (pos 4))

  -- the square of 2 g times the distance from the middle that the surface reaches
  abbrev pub square : Surface A → Slopes A → A
  square s n = v.product (extent s) (spread s n)

-- ---- of enclosures, in units

module _ {A : Type 0} (n : Numbers A) where
  abbrev pub reach : Surface A → Slopes A → ℤ
  reach s a = n.high (n.root (square n.calc s a)) -ℤ n.low (lean n.calc s a)

  abbrev pub side : Lamina → DirectionSquares → Weight → ℕ
  side l t w =
      let weight = at_strengths l (ply_weight t w) in
      let m = greatest weight in
      m * up (unsigned_abs (reach (surface n.calc l) (slopes n.calc weight (pos m)))) 1024

  abbrev pub divisor : Lamina → DirectionSquares → ℕ
  divisor l t = 1000 * unsigned_abs t.size * (unsigned_abs (n.low (surface n.calc l).rest) / 1024)

  -- of an item, in N/m
  abbrev pub capacity : Kind → Lamina → CirclePoint → Weight → ℕ
  capacity k l d w =
      let t = squares_of d in
      up (unsigned_abs l.t * (side l t w + side l (other_side k t) w)) (divisor l t)
