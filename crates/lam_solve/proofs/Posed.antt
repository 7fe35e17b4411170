-- A wall of a catalogue, and a load in range: the sizes of the scale and of the thickness, and the room of the load's ratios.
use Rattle.std.proofs.Common.{◌≡◌, refl, sym, subst, subst₂, ℕ, ◌+◌, ◌*◌, ◌≤◌, List, ℤ, pos, ◌*ℤ◌, ◌≤ℤ◌, ◌<ℤ◌, unsigned_abs, arith}
use Rattle.std.proofs.Math.Nat.{mul-le-mul, mul-le-mul_right, le_of_mul-le-mul_right}
use Rattle.std.proofs.lemmas.Int.{ints, unsigned_abs-mul}
use Rattle.lam_fraction.specs.inside.WholeNumbers.{product_positive}
use Rattle.lam_fraction.specs.numbers.Numbers.{Numbers, Lawful, RatioRoom, reach, unit}
use Rattle.lam_fraction.proofs.numbers.Machine.{Sized, stored-64, stored-128, sized_stored-64, sized_stored-128, sized_result, sized_product, sized_between, sized_number}
use Rattle.lam_stock.specs.declared.item.Item.{Item}
use Rattle.lam_stock.specs.declared.item.ItemNo.{ItemNo}
use Rattle.lam_stock.specs.declared.scale.Scale.{Scale}
use Rattle.lam_stock.proofs.ScaleFacts.{scale-within}
use Rattle.lam_job.specs.declared.load.Load.{Load}
use Rattle.lam_job.specs.LoadRange.{LoadInRange, SizeWithin}
use Rattle.lam_wall.specs.declared.wall.Wall.{Wall}
use Rattle.lam_wall.specs.Assembled.{ArePlies, StandsFor}
use Rattle.lam_wall.proofs.CatalogueWalls.{wall-thick, wall-thin}
use Rattle.lam_solve.proofs.energy.ScaleOrder.{scale-order}
use Rattle.lam_solve.specs.inside.Parts.{IsPosed, IsScaled, SmallEntry}
use Rattle.lam_solve.proofs.Rows.{small-entry}
use Rattle.lam_solve.proofs.Units.{unit_least}

pub scaled : {scale : Scale} {stock : List Item} {numbers : List ItemNo} → ArePlies scale stock numbers → IsScaled scale
scaled {scale} {stock} plies =
    let within = scale-within stock stock scale plies.catalogue refl in
    let above : pos 1 ≤ℤ scale.q0 = omega (arith, ints, within.0) in
    record { above = above; most = within.1; floor = plies.catalogue.floor; order = scale-order plies }

pub posed : {A : Type 0} {n : Numbers A} {w : Wall A} {scale : Scale} {stock : List Item} {numbers : List ItemNo} {load : Load} → StandsFor n w scale stock numbers → LoadInRange scale.floor w.h load → IsPosed scale w.h load
posed stands range =
    let thick = wall-thick stands in
    record { scaled = scaled stands.plies; thick = omega (arith, ints, thick); thin = wall-thin stands; range = range }

-- ---- the room of a ratio

-- sizes of a product of numbers that are not negative
product_size : (a b : ℤ) (z : ℤ) → pos (unsigned_abs z) ≤ℤ (a *ℤ b) → unsigned_abs z ≤ unsigned_abs a * unsigned_abs b
product_size a b z h = subst (λ t. unsigned_abs z ≤ t) (unsigned_abs-mul a b) (omega (arith, ints, h))

module _ {scale : Scale} {h : ℤ} {load : Load} (is : IsPosed scale h load) where
  thick_1 : unsigned_abs h ≤ 1280000
  thick_1 = omega (arith, ints, is.thick, is.thin)

  thick_0 : 1 ≤ unsigned_abs h
  thick_0 = omega (arith, ints, is.thick)

  scale_1 : unsigned_abs scale.q0 ≤ 2097152
  scale_1 = omega (arith, ints, is.scaled.above, is.scaled.most)

  scale_0 : 1 ≤ unsigned_abs scale.q0
  scale_0 = omega (arith, ints, is.scaled.above)

  floor_1 : unsigned_abs scale.floor ≤ unsigned_abs scale.q0
  floor_1 = omega (arith, ints, is.scaled.floor, is.scaled.order)

  whole_size : unsigned_abs (h *ℤ scale.q0) ≡ unsigned_abs h * unsigned_abs scale.q0
  whole_size = unsigned_abs-mul h scale.q0

  whole_above : pos 0 <ℤ (h *ℤ scale.q0)
  whole_above = product_positive h scale.q0 (omega (arith, ints, is.thick)) (omega (arith, ints, is.scaled.above))

  whole_most : unsigned_abs (h *ℤ scale.q0) ≤ 1280000 * 2097152
  whole_most = let m : unsigned_abs h * unsigned_abs scale.q0 ≤ 1280000 * 2097152 = mul-le-mul thick_1 scale_1 in omega (arith, whole_size, m)

  pub force-order : (z : ℤ) → SizeWithin (scale.floor *ℤ h) z → unsigned_abs z ≤ unsigned_abs (pos 4 *ℤ (h *ℤ scale.q0))
  force-order z within =
      let size = product_size scale.floor h z within in
      let floor : unsigned_abs scale.floor * unsigned_abs h ≤ unsigned_abs scale.q0 * unsigned_abs h = mul-le-mul_right (unsigned_abs h) floor_1 in
      let den = unsigned_abs-mul (pos 4) (h *ℤ scale.q0) in
      omega (arith, size, floor, whole_size, den)

  pub force-room : {z : ℤ} → SizeWithin (scale.floor *ℤ h) z → RatioRoom z (pos 4 *ℤ (h *ℤ scale.q0))
  force-room {z} within =
      let den = unsigned_abs-mul (pos 4) (h *ℤ scale.q0) in
      let order = force-order z within in
      record {
        positive = omega (arith, ints, whole_above);
        den = omega (arith, den, whole_most);
        num = omega (arith, order, den, whole_most);
        room = omega (arith, order);
      }

  pub moment-order : (z : ℤ) → SizeWithin (scale.floor *ℤ (h *ℤ h)) (pos 8000 *ℤ z) → unsigned_abs (pos 2000 *ℤ z) ≤ unsigned_abs (h *ℤ (h *ℤ scale.q0))
  moment-order z within =
      let size = product_size scale.floor (h *ℤ h) (pos 8000 *ℤ z) within in
      let floor : unsigned_abs scale.floor * unsigned_abs (h *ℤ h) ≤ unsigned_abs scale.q0 * unsigned_abs (h *ℤ h) = mul-le-mul_right (unsigned_abs (h *ℤ h)) floor_1 in
      let order = moment_sizes (unsigned_abs z) (unsigned_abs h) (unsigned_abs scale.q0) (unsigned_abs scale.floor) (unsigned_abs (h *ℤ h)) (unsigned_abs (h *ℤ scale.q0)) (unsigned_abs (pos 8000 *ℤ z)) size floor
      (unsigned_abs-mul h h) (unsigned_abs-mul (pos 8000) z) whole_size in
      omega (arith, unsigned_abs-mul (pos 2000) z, unsigned_abs-mul h (h *ℤ scale.q0), order)
    where
      moment_sizes : (z h q f hh hq zz : ℕ) → zz ≤ f * hh → f * hh ≤ q * hh → hh ≡ h * h → zz ≡ 8000 * z → hq ≡ h * q → 2000 * z ≤ h * hq
      moment_sizes z h q f hh hq zz a b c d e =
          let p : q * hh ≡ h * hq = rw (c, e) (omega arith) in
          omega (arith, a, b, d, p)

  pub moment-room : (z : ℤ) → SizeWithin (scale.floor *ℤ (h *ℤ h)) (pos 8000 *ℤ z) → RatioRoom (pos 2000 *ℤ z) (h *ℤ (h *ℤ scale.q0))
  moment-room z within =
      let den = unsigned_abs-mul h (h *ℤ scale.q0) in
      let most : unsigned_abs h * unsigned_abs (h *ℤ scale.q0) ≤ 1280000 * (1280000 * 2097152) = mul-le-mul thick_1 whole_most in
      let order = moment-order z within in
      record {
        positive = product_positive h (h *ℤ scale.q0) (omega (arith, ints, is.thick)) whole_above;
        den = omega (arith, den, most);
        num = omega (arith, order, den, most);
        room = omega (arith, order);
      }

-- ---- as they are computed

-- a ratio of at most one is small
pub ratio-small : {A : Type 0} {n : Numbers A} (laws : Lawful n) {k d : ℤ} → RatioRoom k d → unsigned_abs k ≤ unsigned_abs d → SmallEntry n (n.calc.ratio k d)
ratio-small {n = n} laws {k} {d} room order =
    let far = (laws.ratio k d room).far in
    let one : 1 ≤ unsigned_abs d = omega (arith, ints, room.positive) in
    let times : unsigned_abs k * unit n ≤ unsigned_abs d * unit n = mul-le-mul_right (unit n) order in
    let reached : reach n (n.calc.ratio k d) ≤ unit n + n.slop = le_of_mul-le-mul_right {k = unsigned_abs d} (omega (arith, far, times)) (omega (arith, one)) in
    small-entry laws (omega (arith, reached, laws.narrow, unit_least laws))

pub room-as : {k d k' d' : ℤ} → k' ≡ k → d' ≡ d → RatioRoom k d → RatioRoom k' d'
room-as e f room = subst₂ RatioRoom (sym e) (sym f) room

module _ {scale : Scale} {h : ℤ} {load : Load} (is : IsPosed scale h load) where
  -- the product of the thickness and q0
  abbrev pub whole-sized : {p : ℤ} → p ≡ stored-64 h *ℤ stored-64 scale.q0 → Sized (stored-128 p)
  whole-sized e = sized_stored-128 (sized_result e (sized_product (sized_stored-64 (sized_between is.thick is.thin)) (sized_stored-64 (sized_between is.scaled.above is.scaled.most))))

  abbrev pub forces-sized : {p : ℤ} → p ≡ stored-64 h *ℤ stored-64 scale.q0 → Sized (pos 4 *ℤ stored-128 p)
  forces-sized e = sized_product (sized_number 4) (whole-sized e)

  abbrev pub moments-sized : {p t : ℤ} → p ≡ stored-64 h *ℤ stored-64 scale.q0 → t ≡ stored-64 h → Sized (stored-128 t *ℤ stored-128 p)
  moments-sized e f = sized_product (sized_stored-128 (sized_result f (sized_stored-64 (sized_between is.thick is.thin)))) (whole-sized e)
