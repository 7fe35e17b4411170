-- How the code computes the verdict of a panel: formulas over any arithmetic, so that the same line gives the value of a
-- call and the fraction that it holds, and comparisons of whole numbers.
use Rattle.std.specs.Prelude.{ℕ, zero, suc, ◌+◌, ◌-◌, ◌/◌, ◌^◌, Bool, ℤ, pos, ◌+ℤ◌, ◌*ℤ◌, unsigned_abs, int_lt, int_le, nat_le, if◌then◌else◌}
use Rattle.std.specs.Int.{int_min, int_max, leading_zeros, w128}
use Rattle.lam_fraction.specs.numbers.Arithmetic.{Arithmetic}
use Rattle.lam_fraction.specs.numbers.Numbers.{Numbers}
use Rattle.lam_fraction.specs.numbers.Rounding.{floor_over}
use Rattle.lam_number.specs.declared.strength.Verdict.{Verdict}
use Rattle.lam_number.specs.declared.strength.Verdict.TheVariants.{Meets, Fails, Straddles}
use Rattle.lam_lamina.specs.declared.stiffness.Sym3.{Sym3}
use Rattle.lam_job.specs.JobData.{PanelData}
use Rattle.lam_wall.specs.declared.wall.Wall.{Wall}
use Rattle.lam_plate.specs.declared.wave.Bending.{Bending}
use Rattle.lam_plate.specs.declared.wave.Wave.{Wave}
use Rattle.lam_plate.specs.declared.plate.Plate.{Plate}

-- ---- one number of half waves

module _ {A : Type 0} (v : Arithmetic A) where
  -- a quarter of D11, of 2 (D12 + 2 D66) and of D22
  abbrev pub bending : Sym3 A → Bending A
  bending d = record {
    along = v.quotient d.xx (pos 4);
    mixed = v.sum (v.quotient d.xy (pos 2)) d.ss;
    across = v.quotient d.yy (pos 4);
  }

  -- a part of a sum
  abbrev pub share : ℤ → ℤ → A
  share part rest = v.ratio part (part +ℤ rest)

  -- at shares s and t and their product
  abbrev pub form : Bending A → A → A → A → A
  form b s t shares = v.sum (v.sum (v.product b.along (v.square s)) (v.product b.mixed shares)) (v.product b.across (v.square t))

  abbrev pub wave : Bending A → ℤ → ℤ → Wave A
  wave b x y =
      let s = share x y in
      let t = share y x in
      let shares = v.product s t in
      record { form = form b s t shares; shares = shares }

  -- x is m² b² and y is a²
  abbrev pub in_waves : Plate A → ℕ → Wave A
  in_waves p m = wave p.bending ((pos m *ℤ pos m) *ℤ p.width_square) p.length_square

-- ---- how many half waves decide

-- whether n a⁴ is at most (m (m + 1) b²)², of squares of a and b
abbrev pub rises_from : ℤ → ℤ → ℤ → ℕ → Bool
rises_from times aa bb m =
    let product = (pos m *ℤ (pos m +ℤ pos 1)) *ℤ bb in
    int_le (times *ℤ (aa *ℤ aa)) (product *ℤ product)

-- the first number from m on that passes a test, of so many and one more
unfoldable pub first_from : (ℕ → Bool) → ℕ → ℕ → ℕ
first_from test zero m = m
first_from test (suc more) m = if test m then m else first_from test more (suc m)

abbrev pub waves_for : ℤ → ℤ → ℤ → ℕ
waves_for times aa bb = first_from (rises_from times aa bb) 1902 1

-- ---- whole numbers

abbrev pub load_units : PanelData → ℤ
load_units p = (p.load *ℤ (p.width *ℤ p.width)) *ℤ pos 11236000

abbrev pub stiffness_units : ℤ → ℤ → ℤ
stiffness_units q0 h = pos 110889 *ℤ ((h *ℤ h) *ℤ (h *ℤ q0))

abbrev pub shift_for : ℤ → ℤ → ℕ
shift_for load stiffness = 66 - leading_zeros w128 (unsigned_abs (int_max load stiffness))

abbrev pub shifted : ℤ → ℕ → ℤ
shifted z shift = floor_over z (2 ^ shift)

abbrev pub load_at : {A : Type 0} → Plate A → ℤ → ℤ
load_at p factor = shifted (factor *ℤ p.load) p.shift

-- ---- a panel of a wall

module _ {A : Type 0} (n : Numbers A) where
  -- how many times D11 is D22 at most
  abbrev pub most_times : Sym3 A → ℤ
  most_times d =
      if int_le (n.low d.xx) (pos 0) then pos 512
      else (int_min (int_max (floor_over (n.high d.yy) (unsigned_abs (n.low d.xx))) (pos 0)) (pos 511) +ℤ pos 1)

  abbrev pub plate : ℤ → Wall A → PanelData → Plate A
  plate q0 w p =
      let aa = p.length *ℤ p.length in
      let bb = p.width *ℤ p.width in
      let load = load_units p in
      let stiffness = stiffness_units q0 w.h in
      let shift = shift_for (pos 20000 *ℤ load) stiffness in
      record {
        bending = bending n.calc w.d;
        length_square = aa;
        width_square = bb;
        waves = waves_for (most_times w.d) aa bb;
        load = load;
        stiffness = shifted stiffness shift;
        shift = shift;
      }

  -- ---- comparisons by cross products

  abbrev pub meets : Wave A → ℤ → ℤ → Bool
  meets w load stiffness = int_lt ((load +ℤ pos 1) *ℤ n.high w.shares) (n.low w.form *ℤ stiffness)

  abbrev pub fails : Wave A → ℤ → ℤ → Bool
  fails w load stiffness = int_lt (n.high w.form *ℤ (stiffness +ℤ pos 1)) (load *ℤ n.low w.shares)

  abbrev pub wave_verdict : Wave A → ℤ → ℤ → Verdict
  wave_verdict w load stiffness =
      if meets w load stiffness then Meets else (if fails w load stiffness then Fails else Straddles)

-- what is sure of two together
abbrev pub joined : Verdict → Verdict → Verdict
joined Fails w = Fails
joined Meets w = w
joined Straddles Fails = Fails
joined Straddles Meets = Straddles
joined Straddles Straddles = Straddles

module _ {A : Type 0} (n : Numbers A) where
  -- of the first so many half waves
  unfoldable pub verdict_up_to : Plate A → ℤ → ℕ → Verdict
  verdict_up_to p load zero = Meets
  verdict_up_to p load (suc m) = joined (verdict_up_to p load m) (wave_verdict n (in_waves n.calc p (suc m)) load p.stiffness)

  abbrev pub panel_verdict : ℤ → Wall A → PanelData → ℤ → Verdict
  panel_verdict q0 w p factor = let at = plate n q0 w p in verdict_up_to at (load_at at factor) at.waves

  -- ---- the printed ratio

  abbrev pub meets_at : Plate A → Wave A → ℕ → Bool
  meets_at p w factor = meets n w (load_at p (pos factor)) p.stiffness

-- the range between two numbers is halved so many times at most, and the lower one is taken
unfoldable pub halved : (ℕ → Bool) → ℕ → ℕ → ℕ → ℕ
halved test zero met beyond = met
halved test (suc turns) met beyond =
    let middle = (met + beyond) / 2 in
    if nat_le beyond (met + 1) then met
    else (if test middle then halved test turns middle beyond else halved test turns met middle)

-- a number that passes the test, or one below it
abbrev pub lowered : (ℕ → Bool) → ℕ → ℕ
lowered test most = if test most then most else halved test 15 0 most

module _ {A : Type 0} (n : Numbers A) where
  unfoldable pub lowest_up_to : Plate A → ℕ → ℕ
  lowest_up_to p zero = 20000
  lowest_up_to p (suc m) = lowered (meets_at n p (in_waves n.calc p (suc m))) (lowest_up_to p m)

  abbrev pub printed_panel : ℤ → Wall A → PanelData → ℕ
  printed_panel q0 w p = let at = plate n q0 w p in lowest_up_to at at.waves
