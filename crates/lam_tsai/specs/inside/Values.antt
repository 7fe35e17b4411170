-- The values of the calls, step by step.
use Rattle.std.specs.Prelude.{ℕ, zero, suc, ◌+◌, ◌-◌, ◌^◌, ℤ, pos, neg_ℤ, ◌-ℤ◌, ◌+ℤ◌, ◌*ℤ◌, int_le, int_lt, ◌||◌, ◌&&◌, Bool, if◌then◌else◌, Some, None}
use Rattle.std.specs.Int.{int_max}
use Rattle.std.specs.declared.option.Option.{Option}
use Rattle.lam_fraction.specs.numbers.Numbers.{Numbers, unit}
use Rattle.lam_fraction.specs.numbers.Rounding.{floor_over}
use Rattle.lam_direction.specs.Squares.{squares_of}
use Rattle.lam_number.specs.declared.strength.FaceStrain.{FaceStrain}
use Rattle.lam_stock.specs.declared.item.Item.{Item}
use Rattle.lam_stock.specs.declared.scale.Scale.{Scale}
use Rattle.lam_lamina.specs.inside.Formulas as lamina
use Rattle.lam_tsai.specs.declared.angle.Angle.{Angle}
use Rattle.lam_tsai.specs.declared.coefficients.Coefficients.{Coefficients}
use Rattle.lam_tsai.specs.declared.components.Components.{Components}
use Rattle.lam_tsai.specs.declared.criterion.Criterion.{Criterion}
use Rattle.lam_tsai.specs.declared.loaded.Loaded.{Loaded}
use Rattle.lam_tsai.specs.declared.loaded.Round.{Round}
use Rattle.lam_tsai.specs.declared.place.Side.{Side}
use Rattle.lam_tsai.specs.declared.place.Side.TheVariants.{Plus, Minus}
use Rattle.lam_tsai.specs.declared.place.Level.{Level}
use Rattle.lam_tsai.specs.declared.place.Level.TheVariants.{Near, Far}
use Rattle.lam_tsai.specs.inside.Formulas as by

-- the first k from a number on, of so many, of which a bound times two to the power of k is at least the load
unfoldable pub first_shift : ℕ → ℕ → ℤ → ℤ → ℕ
first_shift zero k load bound = k
first_shift (suc more) k load bound = if int_lt (bound *ℤ pos (2 ^ k)) load then first_shift more (k + 1) load bound else k

abbrev pub shift_of : ℤ → ℤ → ℕ
shift_of load bound = first_shift 24 0 load bound

module _ {A : Type 0} (n : Numbers A) where
  -- ---- made once

  abbrev pub criterion : Scale → Item → Criterion A
  criterion scale i = record {
    reduced = lamina.reduced n.calc scale.q0 i.lamina;
    plus = by.angle n.calc Plus (squares_of i.dir);
    minus = by.angle n.calc Minus (squares_of i.dir);
    coefficients = by.coefficients n.calc i.lamina;
    along = int_max i.lamina.xt i.lamina.xc;
    across = int_max i.lamina.yt i.lamina.yc;
    shear = i.lamina.s;
    q0 = scale.q0;
    kind = i.kind;
  }

  -- ---- once for a face and a side

  abbrev pub angle_of : Criterion A → Side → Angle A
  angle_of c Plus = c.plus
  angle_of c Minus = c.minus

  abbrev pub stress : Criterion A → Side → FaceStrain A → Components A
  stress c side at = by.stress n.calc c.reduced (by.strain n.calc (angle_of c side) at)

  -- ---- at a factor

  -- a stress times a factor, over 16 times a strength
  abbrev pub loaded : A → ℤ → ℤ → Loaded A
  loaded t load strength =
      let bound = pos 2 *ℤ strength in
      let k = shift_of load bound in
      record { value = by.loaded n.calc t load (bound *ℤ pos (2 ^ k)); shift = k }

  -- all that is held is above a size, on one side of 0
  abbrev pub outside : A → ℤ → Bool
  outside z limit = int_lt limit (n.low z) || int_lt (n.high z) (neg_ℤ limit)

  -- nothing that is held is above a size
  abbrev pub within : A → ℤ → Bool
  within z limit = int_le (neg_ℤ limit) (n.low z) && int_le (n.high z) limit

  -- the stress times the factor is above 16 times the strength in size
  abbrev pub beyond : Loaded A → Bool
  beyond z = outside z.value (pos (2 ^ (n.scale - z.shift)))

  -- all to both sides of 0, as far as a size
  abbrev pub spread : ℤ → A
  spread half = n.hull (n.calc.ratio half (pos (unit n))) (n.calc.ratio (neg_ℤ half) (pos (unit n)))

  abbrev pub round : ℤ → ℤ → Round A
  round middle half = record { middle = n.calc.ratio middle (pos (unit n)); spread = spread half }

  -- where half the width is at most a sixteenth
  abbrev pub narrow : ℤ → ℤ → Option (Round A)
  narrow middle half = if int_lt (pos (2 ^ (n.scale - 4))) half then None else Some (round middle half)

  abbrev pub stretched : A → Option (Round A)
  stretched y = let middle = floor_over (n.low y +ℤ n.high y) 2 in narrow middle (n.high y -ℤ middle)

  -- nine eighths of U, over two to the power of a shift
  abbrev pub nine_eighths : ℕ → ℕ
  nine_eighths k = 2 ^ (n.scale - k) + 2 ^ (n.scale - (3 + k))

  -- where it is at most nine eighths in size
  abbrev pub rounded : Loaded A → Option (Round A)
  rounded z = if within z.value (pos (nine_eighths z.shift)) then stretched (n.calc.multiple z.value (pos (2 ^ z.shift))) else None

  -- every value of the criterion
  abbrev pub unknown : Level A
  unknown = Near (n.hull (n.calc.ratio (neg_ℤ (pos 58)) (pos 4096)) (n.calc.ratio (pos 1) (pos 4096)))

  abbrev pub settled : A → Level A
  settled v =
      let two = pos (2 ^ (n.scale - 12)) in
      if int_lt two (n.low v) then Far else if int_lt two (n.high v) then Near (n.hull v (n.calc.ratio (pos 1) (pos 4096))) else Near v

  abbrev pub middles : Round A → Round A → Round A → Components A
  middles x y s = record { along = x.middle; across = y.middle; shear = s.middle }

  abbrev pub spreads : Round A → Round A → Round A → Components A
  spreads x y s = record { along = x.spread; across = y.spread; shear = s.spread }

  abbrev pub near : Coefficients A → Option (Round A) → Option (Round A) → Option (Round A) → Level A
  near c (Some x) (Some y) (Some s) = settled (by.round_point n.calc c (middles x y s) (spreads x y s))
  near c (Some x) (Some y) None = unknown
  near c (Some x) None s = unknown
  near c None y s = unknown

  abbrev pub level_between : Coefficients A → Loaded A → Loaded A → Loaded A → Level A
  level_between c x y s = if beyond x || (beyond y || beyond s) then Far else near c (rounded x) (rounded y) (rounded s)

  abbrev pub at_factor : Criterion A → Components A → ℤ → Level A
  at_factor c t factor =
      let load = c.q0 *ℤ factor in
      level_between c.coefficients (loaded t.along load c.along) (loaded t.across load c.across) (loaded t.shear load c.shear)

  -- ---- the public call

  abbrev pub level_by : Criterion A → Side → FaceStrain A → ℤ → Level A
  level_by c side at factor = at_factor c (stress c side at) factor

  abbrev pub level : Item → Side → Scale → FaceStrain A → ℤ → Level A
  level i side scale at factor = level_by (criterion scale i) side at factor
