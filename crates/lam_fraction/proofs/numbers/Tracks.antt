-- A formula that is read with what is known of each number: its value, the fraction that it holds, bounds of both, whether
-- every call has room, and the proof that follows where each has. The reading of a formula is the theorem of it:
-- `(f (tracked r) (given h) ..).known refl`.
use Rattle.std.proofs.Common.{◌≡◌, ℕ, ◌+◌, ◌*◌, ◌^◌, ◌≤◌, Bool, true, ◌&&◌, leb, pos, unsigned_abs, int_le}
use Rattle.lam_fraction.specs.Fraction.{ℚ}
use Rattle.lam_fraction.specs.numbers.Arithmetic.{Arithmetic, exact}
use Rattle.lam_fraction.specs.inside.Known.{Bounds, Known}
use Rattle.lam_fraction.specs.numbers.Numbers.{Numbers, Lawful}
use Rattle.lam_fraction.proofs.numbers.Steps.{coarse, ratio_bounds, sum_bounds, product_bounds, multiple_bounds, quotient_bounds, square_bounds, known_ratio, known_sum, known_difference, known_product, known_multiple, known_quotient, known_square, known_more}
use Rattle.lam_fraction.proofs.numbers.Tests.{both-left, both-right, tested, at_least_one, ratio_fits, ratio_room}

-- the laws, and the parts of one in which sizes are counted
pub record Ruled {A : Type 0} (n : Numbers A) : Type 0 where
  pub laws : Lawful n
  pub d : ℕ
  pub some : 1 ≤ d

pub record Tracked {A : Type 0} {n : Numbers A} (r : Ruled n) : Type 0 where
  pub value : A
  pub fraction : ℚ
  pub bounds : Bounds
  pub fits : Bool
  pub known : fits ≡ true → Known n r.d bounds value fraction

-- a number of which something is known
abbrev pub given : {A : Type 0} {n : Numbers A} {r : Ruled n} {b : Bounds} {z : A} {x : ℚ} → Known n r.d b z x → Tracked r
given {b = b} {z} {x} h = record { value = z; fraction = x; bounds = b; fits = true; known = λ e. h }

abbrev pub tracked : {A : Type 0} {n : Numbers A} (r : Ruled n) → Arithmetic (Tracked r)
tracked {A} {n} r = record {
  ratio = λ k m. record {
    value = n.calc.ratio k m;
    fraction = exact.ratio k m;
    bounds = ratio_bounds r.d k m;
    fits = ratio_fits k m;
    known = λ h. known_ratio r.laws r.d r.some k m (ratio_room k m h);
  };
  sum = λ t u. record {
    value = n.calc.sum t.value u.value;
    fraction = exact.sum t.fraction u.fraction;
    bounds = sum_bounds r.d t.bounds u.bounds;
    fits = (t.fits && u.fits) && leb (coarse t.bounds + coarse u.bounds) (6 * (r.d * 2 ^ 28));
    known = λ h. known_sum r.laws r.d r.some (t.known (both-left _ _ (both-left _ _ h))) (u.known (both-right _ _ (both-left _ _ h))) (tested _ _ (both-right _ _ h));
  };
  difference = λ t u. record {
    value = n.calc.difference t.value u.value;
    fraction = exact.difference t.fraction u.fraction;
    bounds = sum_bounds r.d t.bounds u.bounds;
    fits = (t.fits && u.fits) && leb (coarse t.bounds + coarse u.bounds) (6 * (r.d * 2 ^ 28));
    known = λ h. known_difference r.laws r.d r.some (t.known (both-left _ _ (both-left _ _ h))) (u.known (both-right _ _ (both-left _ _ h))) (tested _ _ (both-right _ _ h));
  };
  product = λ t u. record {
    value = n.calc.product t.value u.value;
    fraction = exact.product t.fraction u.fraction;
    bounds = product_bounds r.d t.bounds u.bounds;
    fits = (t.fits && u.fits) && leb (coarse t.bounds * coarse u.bounds) (6 * ((r.d * 2 ^ 28) * (r.d * 2 ^ 28)));
    known = λ h. known_product r.laws r.d r.some (t.known (both-left _ _ (both-left _ _ h))) (u.known (both-right _ _ (both-left _ _ h))) (tested _ _ (both-right _ _ h));
  };
  multiple = λ t k. record {
    value = n.calc.multiple t.value k;
    fraction = exact.multiple t.fraction k;
    bounds = multiple_bounds r.d t.bounds k;
    fits = t.fits && leb (coarse t.bounds * unsigned_abs k) (6 * (r.d * 2 ^ 28));
    known = λ h. known_multiple r.laws r.d r.some k (t.known (both-left _ _ h)) (tested _ _ (both-right _ _ h));
  };
  quotient = λ t k. record {
    value = n.calc.quotient t.value k;
    fraction = exact.quotient t.fraction k;
    bounds = quotient_bounds r.d t.bounds k;
    fits = t.fits && int_le (pos 1) k;
    known = λ h. known_quotient r.laws r.d r.some k (t.known (both-left _ _ h)) (at_least_one k (both-right _ _ h));
  };
  square = λ t. record {
    value = n.calc.square t.value;
    fraction = exact.square t.fraction;
    bounds = square_bounds r.d t.bounds;
    fits = t.fits && leb (coarse t.bounds) (2 * (r.d * 2 ^ 28));
    known = λ h. known_square r.laws r.d r.some (t.known (both-left _ _ h)) (tested _ _ (both-right _ _ h));
  };
}

-- what is known of a formula, in bounds that its own come to at most
pub bounded : {A : Type 0} {n : Numbers A} (r : Ruled n) (t : Tracked r) (c : Bounds)
    → (t.fits && (leb t.bounds.size c.size && leb t.bounds.wide c.wide)) ≡ true → Known n r.d c t.value t.fraction
bounded r t c h = known_more r.laws r.d r.some (t.known (both-left _ _ h)) (tested _ _ (both-left _ _ (both-right _ _ h))) (tested _ _ (both-right _ _ (both-right _ _ h)))
