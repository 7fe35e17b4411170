-- A formula that is read with what is held, however wide each number is: `(f (held laws) (holding r h) ..).holds refl`.
use Rattle.std.proofs.Common.{◌≡◌, ℕ, true}
use Rattle.lam_fraction.specs.Fraction.{ℚ}
use Rattle.lam_fraction.specs.numbers.Arithmetic.{Arithmetic, exact}
use Rattle.lam_fraction.specs.numbers.Numbers.{Numbers, Lawful, Holds}
use Rattle.lam_fraction.specs.inside.Reaches.{Reaches}
use Rattle.lam_fraction.proofs.numbers.Rooms.{Ranged, ranges, reaching, sum_within, product_within, multiple_within, square_within}
use Rattle.lam_fraction.proofs.numbers.Tests.{both-left, both-right, tested, at_least_one, ratio_room}

pub record Held {A : Type 0} {n : Numbers A} (laws : Lawful n) : Type 0 where
  pub at : Ranged laws
  pub fraction : ℚ
  pub holds : at.fits ≡ true → Holds n at.value fraction

-- a number whose reach is given, and what it holds
abbrev pub holding : {A : Type 0} {n : Numbers A} {laws : Lawful n} {e : ℕ} {z : A} {x : ℚ} → Reaches n e z → Holds n z x → Held laws
holding {x = x} r h = record { at = reaching r; fraction = x; holds = λ t. h }

abbrev pub held : {A : Type 0} {n : Numbers A} (laws : Lawful n) → Arithmetic (Held laws)
held {A} {n} laws = record {
  ratio = λ k m. record {
    at = (ranges laws).ratio k m;
    fraction = exact.ratio k m;
    holds = λ h. (laws.ratio k m (ratio_room k m h)).held;
  };
  sum = λ t u. record {
    at = (ranges laws).sum t.at u.at;
    fraction = exact.sum t.fraction u.fraction;
    holds = λ h. let l = both-left _ _ (both-left _ _ h) in let r = both-right _ _ (both-left _ _ h) in
        (laws.sum t.at.value u.at.value (sum_within laws (t.at.reaches l) (u.at.reaches r) (tested _ _ (both-right _ _ h)))).held t.fraction u.fraction (t.holds l) (u.holds r);
  };
  difference = λ t u. record {
    at = (ranges laws).difference t.at u.at;
    fraction = exact.difference t.fraction u.fraction;
    holds = λ h. let l = both-left _ _ (both-left _ _ h) in let r = both-right _ _ (both-left _ _ h) in
        (laws.difference t.at.value u.at.value (sum_within laws (t.at.reaches l) (u.at.reaches r) (tested _ _ (both-right _ _ h)))).held t.fraction u.fraction (t.holds l) (u.holds r);
  };
  product = λ t u. record {
    at = (ranges laws).product t.at u.at;
    fraction = exact.product t.fraction u.fraction;
    holds = λ h. let l = both-left _ _ (both-left _ _ h) in let r = both-right _ _ (both-left _ _ h) in
        (laws.product t.at.value u.at.value (product_within laws (t.at.reaches l) (u.at.reaches r) (tested _ _ (both-right _ _ h)))).held t.fraction u.fraction (t.holds l) (u.holds r);
  };
  multiple = λ t k. record {
    at = (ranges laws).multiple t.at k;
    fraction = exact.multiple t.fraction k;
    holds = λ h. let l = both-left _ _ h in
        (laws.multiple t.at.value k (multiple_within laws k (t.at.reaches l) (tested _ _ (both-right _ _ h)))).held t.fraction (t.holds l);
  };
  quotient = λ t k. record {
    at = (ranges laws).quotient t.at k;
    fraction = exact.quotient t.fraction k;
    holds = λ h. (laws.quotient t.at.value k (at_least_one k (both-right _ _ h))).held t.fraction (t.holds (both-left _ _ h));
  };
  square = λ t. record {
    at = (ranges laws).square t.at;
    fraction = exact.square t.fraction;
    holds = λ h. let l = both-left _ _ h in
        (laws.square t.at.value (square_within laws (t.at.reaches l) (tested _ _ (both-right _ _ h)))).held t.fraction (t.holds l);
  };
}
