-- What a level says of the Tsai-Wu value f at a face, and what a verdict says.
use Rattle.std.specs.Prelude.{ℤ, pos, ◌/◌, ◌^◌, if◌then◌else◌}
use Rattle.lam_fraction.specs.Fraction.{ℚ, whole, ◌-ℚ◌, ◌/ℚ◌, is_at_most, ◌<ℚ◌}
use Rattle.lam_fraction.specs.numbers.Numbers.{Numbers, Holds, unit}
use Rattle.lam_number.specs.Signs.{sign_of}
use Rattle.lam_number.specs.declared.enclosure.Sign.{Sign}
use Rattle.lam_number.specs.declared.enclosure.Sign.TheVariants.{Below, Above, Mixed}
use Rattle.lam_number.specs.declared.strength.Verdict.{Verdict}
use Rattle.lam_number.specs.declared.strength.Verdict.TheVariants.{Meets, Fails, Straddles}
use Rattle.lam_stock.specs.declared.item.Item.{Item}
use Rattle.lam_stock.specs.PlyLaw as law
use Rattle.lam_stock.specs.TsaiWu.{tsai_wu}
use Rattle.lam_tsai.specs.declared.place.Side.{Side}
use Rattle.lam_tsai.specs.declared.place.Side.TheVariants.{Plus, Minus}
use Rattle.lam_tsai.specs.declared.place.Level.{Level}
use Rattle.lam_tsai.specs.declared.place.Level.TheVariants.{Near, Far}

-- the side of the ply law
abbrev pub side_of : Side → law.Side
side_of Plus = law.Plus
side_of Minus = law.Minus

-- the Tsai-Wu value of an item on a side, at a strain of the wall and a factor in thousandths
abbrev pub value_at : Item → law.Side → law.OffAxis → ℚ → ℚ
value_at i side e factor = tsai_wu i.lamina (law.side_stress i.lamina i.dir side e) factor

-- the lesser of a value and 2, less 1, over 4096
unfoldable pub level_value : ℚ → ℚ
level_value f = ((if is_at_most f (whole (pos 2)) then f else whole (pos 2)) -ℚ whole (pos 1)) /ℚ whole (pos 4096)

-- a level near 1 holds that of f; a level far from it says that f is above 2
abbrev pub IsLevel : {A : Type 0} → Numbers A → Level A → ℚ → Type 0
IsLevel n (Near v) f = Holds n v (level_value f)
IsLevel n Far f = whole (pos 2) <ℚ f

-- the margin of a verdict: U without its last 36 places
abbrev pub margin_of : {A : Type 0} → Numbers A → ℤ
margin_of n = pos (unit n / 2 ^ 36)

abbrev pub by_sign : Sign → Verdict
by_sign Below = Meets
by_sign Above = Fails
by_sign Mixed = Straddles

abbrev pub verdict_of : {A : Type 0} → Numbers A → Level A → Verdict
verdict_of n (Near v) = by_sign (sign_of (n.low v) (n.high v) (margin_of n))
verdict_of n Far = Fails
