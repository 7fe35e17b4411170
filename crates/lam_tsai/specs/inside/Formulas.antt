-- The formulas by which the code computes the criterion: over any arithmetic, so that the same line gives the value of a
-- call and the fraction that it holds. With y a stress times the factor over the greater strength of its axis, the
-- variables are y/16 and the value is (f - 1)/4096, so that every term is of moderate size.
use Rattle.std.specs.Prelude.{ℤ, pos, neg_ℤ, ◌-ℤ◌, ◌*ℤ◌}
use Rattle.std.specs.Int.{int_min, int_max}
use Rattle.lam_fraction.specs.numbers.Arithmetic.{Arithmetic}
use Rattle.lam_direction.specs.declared.squares.DirectionSquares.{DirectionSquares}
use Rattle.lam_number.specs.declared.strength.FaceStrain.{FaceStrain}
use Rattle.lam_stock.specs.declared.item.Lamina.{Lamina}
use Rattle.lam_lamina.specs.declared.stiffness.Reduced.{Reduced}
use Rattle.lam_tsai.specs.declared.angle.Angle.{Angle}
use Rattle.lam_tsai.specs.declared.coefficients.Coefficients.{Coefficients}
use Rattle.lam_tsai.specs.declared.components.Components.{Components}
use Rattle.lam_tsai.specs.declared.place.Side.{Side}
use Rattle.lam_tsai.specs.declared.place.Side.TheVariants.{Plus, Minus}

-- a sine times a cosine, on a side
abbrev pub signed : Side → ℤ → ℤ
signed Plus z = z
signed Minus z = neg_ℤ z

-- the numerator of the coefficient of the product of both normal stresses
abbrev pub interaction : Lamina → ℤ
interaction l = l.f12 *ℤ (int_max l.xt l.xc *ℤ int_max l.yt l.yc)

module _ {A : Type 0} (v : Arithmetic A) where
  -- ---- of an item

  -- the squares of a side's cosine and sine, their product, and the difference of the squares
  abbrev pub angle : Side → DirectionSquares → Angle A
  angle side t = record {
    cosine_square = v.ratio t.cosine_square t.size;
    sine_square = v.ratio t.sine_square t.size;
    product = v.ratio (signed side t.product) t.size;
    difference = v.ratio (t.cosine_square -ℤ t.sine_square) t.size;
  }

  -- of y/16 along an axis: (C - T)/(256 m), with m the lesser of the strengths T and C
  abbrev pub linear : ℤ → ℤ → A
  linear tension compression = v.ratio (compression -ℤ tension) (pos 256 *ℤ int_min tension compression)

  -- of its square: M/(16 m), with M the greater of the strengths
  abbrev pub quadratic : ℤ → ℤ → A
  quadratic tension compression = v.ratio (int_max tension compression) (pos 16 *ℤ int_min tension compression)

  -- of the product of both variables: F12 X Y/(8·10¹⁸), with X and Y the greater strengths
  abbrev pub mixed : Lamina → A
  mixed l = v.ratio (interaction l) (pos 8000000000000000000)

  abbrev pub coefficients : Lamina → Coefficients A
  coefficients l = record {
    along = linear l.xt l.xc;
    across = linear l.yt l.yc;
    along_square = quadratic l.xt l.xc;
    across_square = quadratic l.yt l.yc;
    mixed = mixed l;
    one = v.ratio (pos 1) (pos 4096);
  }

  -- ---- of a face and a side

  -- the strain of the wall, transformed to ply axes
  abbrev pub along_strain : Angle A → A → A → A → A
  along_strain a x y g = v.sum (v.sum (v.product a.cosine_square x) (v.product a.sine_square y)) (v.product a.product g)

  abbrev pub across_strain : Angle A → A → A → A → A
  across_strain a x y g = v.difference (v.sum (v.product a.sine_square x) (v.product a.cosine_square y)) (v.product a.product g)

  abbrev pub shear_strain : Angle A → A → A → A → A
  shear_strain a x y g = v.sum (v.product (v.multiple a.product (pos 2)) (v.difference y x)) (v.product a.difference g)

  -- an eighth of it
  abbrev pub strain : Angle A → FaceStrain A → Components A
  strain a at =
      let x = v.quotient at.ex (pos 8) in
      let y = v.quotient at.ey (pos 8) in
      let g = v.quotient at.g (pos 8) in
      record { along = along_strain a x y g; across = across_strain a x y g; shear = shear_strain a x y g }

  -- a stress of two strains
  abbrev pub normal : A → A → A → A → A
  normal a x b y = v.sum (v.product a x) (v.product b y)

  -- the stress that it gives, over q0
  abbrev pub stress : Reduced A → Components A → Components A
  stress r e = record {
    along = normal r.q11 e.along r.q12 e.across;
    across = normal r.q12 e.along r.q22 e.across;
    shear = v.product r.q66 e.shear;
  }

  -- ---- at a factor

  -- y/16 over a power of two, of a load q0 r
  abbrev pub loaded : A → ℤ → ℤ → A
  loaded t load bound = v.product t (v.ratio load bound)

  -- the terms of an axis
  abbrev pub axis : A → A → A → A
  axis first second y = v.sum (v.product first y) (v.product second (v.square y))

  -- the value at a point
  abbrev pub centre : Coefficients A → Components A → A
  centre c m =
      v.difference
      (v.sum
      (v.sum (axis c.along c.along_square m.along) (axis c.across c.across_square m.across))
      (v.sum (v.product c.mixed (v.product m.along m.across)) (v.quotient (v.square m.shear) (pos 16))))
      c.one

  -- the slope there along an axis
  abbrev pub slope : A → A → A → A → A → A
  slope first second mixed y other = v.sum (v.sum first (v.multiple (v.product second y) (pos 2))) (v.product mixed other)

  -- the slopes times the distances from the point
  abbrev pub tilt : Coefficients A → Components A → Components A → A
  tilt c m d =
      v.sum
      (v.sum
      (v.product (slope c.along c.along_square c.mixed m.along m.across) d.along)
      (v.product (slope c.across c.across_square c.mixed m.across m.along) d.across))
      (v.product (v.quotient m.shear (pos 8)) d.shear)

  -- the squares of the distances
  abbrev pub bend : Coefficients A → Components A → A
  bend c d =
      v.sum
      (v.sum (v.product c.along_square (v.square d.along)) (v.product c.across_square (v.square d.across)))
      (v.sum (v.product c.mixed (v.product d.along d.across)) (v.quotient (v.square d.shear) (pos 16)))

  -- the value at a distance from the point
  abbrev pub round_point : Coefficients A → Components A → Components A → A
  round_point c m d = v.sum (v.sum (centre c m) (tilt c m d)) (bend c d)
