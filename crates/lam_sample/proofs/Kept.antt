-- What every item of a sample keeps, and what their scale is.
use Rattle.std.proofs.Common.{◌≤◌, ◌+◌, ◌*◌, ◌/◌, ◌^◌, ℕ, zero, suc, ℤ, pos, ◌≤ℤ◌, ◌*ℤ◌, subst, arith}
use Rattle.std.specs.Prelude.{All}
use Rattle.std.proofs.Math.Nat.{le-div_iff_mul-le, mul-le-mul}
use Rattle.std.proofs.lemmas.Int.{clamps, ints}
use Rattle.std.proofs.lemmas.List.Elements.{All-cons, All-nil, All-weaker}
use Rattle.lam_stock.proofs.ScaleFacts.{scale-is}
use Rattle.lam_stock.specs.Moduli.{stiffness_cap, stiffness_floor}
use Rattle.lam_stock.specs.Scale.{scale_of}
use Rattle.lam_stock.specs.Stock.{WithinLimits}
use Rattle.lam_stock.specs.declared.item.Item.{Item}
use Rattle.lam_sample.proofs.StockRead.{drawn_within, keeps_limits}
use Rattle.lam_sample.specs.Draws.{steps}
use Rattle.lam_sample.specs.SampleStock.{drawn_after, items_after, sample_item, sample_stock}
use Rattle.lam_sample.specs.declared.items.Drawn.{Drawn}
use Rattle.lam_sample.specs.inside.Bounds.{IsDrawn}

-- an item within its limits, neither too stiff nor too soft, and thick enough
pub record Keeps (i : Item) : Type 0 where
  pub limits : WithinLimits i
  pub cap : stiffness_cap i.lamina ≤ℤ pos (2 ^ 17)
  pub floor : pos 2500 ≤ℤ stiffness_floor i.lamina
  pub thick : pos 500 ≤ℤ i.lamina.t

-- half of the harmonic mean of two numbers of at least 5000 is at least 2500
half_mean : (a b : ℕ) → 5000 ≤ a → 5000 ≤ b → 2500 ≤ a * b / (a + b)
half_mean a b ha hb =
    let first : 5000 * b ≤ a * b = mul-le-mul ha (omega arith) in
    let second : a * 5000 ≤ a * b = mul-le-mul (omega arith) hb in
    let both : 2500 * (a + b) ≤ a * b = omega (arith, first, second) in
    (le-div_iff_mul-le {k = a + b} {x = 2500} {y = a * b} (omega arith)).1 both

keeps : (k : ℕ) (d : Drawn) → IsDrawn d → Keeps (sample_item k d)
keeps k d w =
    let half : 2500 ≤ d.e1 * d.e2 / (d.e1 + d.e2) = half_mean d.e1 d.e2 w.least_e1 w.least_e2 in
    record {
      limits = record { limits = keeps_limits k d w; direction = w.is_direction };
      cap = omega (arith, ints, clamps, w.greatest_e1, w.greatest_e2, w.greatest_g12);
      floor = omega (arith, ints, clamps, half, w.least_g12);
      thick = omega (arith, ints, w.least_t);
    }

all_keep : (more k x : ℕ) → All Keeps (items_after more k x)
all_keep zero k x = All-nil Keeps
all_keep (suc more) k x =
    All-cons Keeps (sample_item k (drawn_after x)) (items_after more (k + 1) (steps 11 x)) (keeps k (drawn_after x) (drawn_within x)) (all_keep more (k + 1) (steps 11 x))

pub sample_keeps : (x : ℕ) → All Keeps (sample_stock x)
sample_keeps x = all_keep 6 1 x

pub sample_limits : (x : ℕ) → All WithinLimits (sample_stock x)
sample_limits x = All-weaker Keeps WithinLimits (λ i k. k.limits) (sample_stock x) (sample_keeps x)

pub scale_cap : (x : ℕ) → (scale_of (sample_stock x)).q0 ≤ℤ pos (2 ^ 17)
scale_cap x =
    let caps : All (λ i. stiffness_cap i.lamina ≤ℤ pos (2 ^ 17)) (sample_stock x) =
    All-weaker Keeps (λ i. stiffness_cap i.lamina ≤ℤ pos (2 ^ 17)) (λ i k. k.cap) (sample_stock x) (sample_keeps x) in
    (scale-is (sample_stock x) (omega arith) (sample_limits x)).0.least_power 17 caps

pub scale_floor : (x : ℕ) → pos 2500 ≤ℤ (scale_of (sample_stock x)).floor
scale_floor x =
    let reached = (scale-is (sample_stock x) (omega arith) (sample_limits x)).0.reached in
    let there : Keeps reached.1 = subst Keeps reached.3 (sample_keeps x reached.0 reached.1 reached.2) in
    rw reached.4 there.floor

pub scale_spread : (x : ℕ) → (scale_of (sample_stock x)).q0 ≤ℤ (pos 512 *ℤ (scale_of (sample_stock x)).floor)
scale_spread x = within _ _ (scale_cap x) (scale_floor x)
  where
    within : (q floor : ℤ) → q ≤ℤ pos (2 ^ 17) → pos 2500 ≤ℤ floor → q ≤ℤ (pos 512 *ℤ floor)
    within q floor cap least = omega (arith, ints, cap, least)
