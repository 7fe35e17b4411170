-- Fixed point keeps the laws of enclosures.
use Rattle.std.specs.Prelude.{ℕ, ℤ, pos, ◌≤ℤ◌}
use lib.Dec.{lit≤}
use lib.Signed.{≤ℤ_refl}
use Rattle.lam_fraction.specs.Fraction.{ℚ}
use Rattle.lam_fraction.specs.numbers.Encloses.{Encloses}
use Rattle.lam_fraction.specs.inside.FixedEnds.{IsScale}
use Rattle.lam_fraction.specs.numbers.Numbers.{Holds, RatioRoom, RootRoom, IsRatio, IsSum, IsDifference, IsProduct, IsMultiple, IsQuotient, IsSquare, IsRoot, IsHull, Lawful}
use Rattle.lam_fraction.proofs.numbers.Far as far
use Rattle.lam_fraction.proofs.numbers.Holding as held
use Rattle.lam_fraction.proofs.numbers.Widths as wide
use Rattle.lam_number.specs.declared.fix.Fix.{Fix}
use Rattle.lam_number.specs.inside.FixNumbers.{fix_of, fix_numbers}

holds : {s : ℕ} {low high : ℤ} {x : ℚ} → Encloses s low high x → Holds (fix_numbers s) (fix_of s low high) x
unfolding fix_of
holds p = record { encloses = held.raised_held p }

is_ratio : (s : ℕ) (k d : ℤ) → RatioRoom k d → IsRatio (fix_numbers s) k d ((fix_numbers s).calc.ratio k d)
unfolding fix_of
is_ratio s k d h = record {
  held = holds (held.ratio_held s k d h.positive);
  narrow = wide.raised_width _ _ _ (wide.ratio_width s k d h.positive);
  far = far.raised_scaled_reach _ _ _ _ (far.ratio_far s k d h.positive);
}

is_sum : (s : ℕ) (z w : Fix s) → IsSum (fix_numbers s) z w ((fix_numbers s).calc.sum z w)
unfolding fix_of
is_sum s z w = record {
  held = λ x y p q. holds (held.sum_held s _ _ _ _ x y p.encloses q.encloses);
  narrow = wide.raised_width _ _ _ (wide.sum_width z.low z.high w.low w.high z.ordered w.ordered);
  far = far.raised_reach _ _ _ (far.sum_far z.low z.high w.low w.high);
}

is_difference : (s : ℕ) (z w : Fix s) → IsDifference (fix_numbers s) z w ((fix_numbers s).calc.difference z w)
unfolding fix_of
is_difference s z w = record {
  held = λ x y p q. holds (held.difference_held s _ _ _ _ x y p.encloses q.encloses);
  narrow = wide.raised_width _ _ _ (wide.difference_width z.low z.high w.low w.high z.ordered w.ordered);
  far = far.raised_reach _ _ _ (far.difference_far z.low z.high w.low w.high);
}

is_product : (s : ℕ) (z w : Fix s) → IsProduct (fix_numbers s) z w ((fix_numbers s).calc.product z w)
unfolding fix_of
is_product s z w = record {
  held = λ x y p q. holds (held.product_held s _ _ _ _ x y z.ordered w.ordered p.encloses q.encloses);
  narrow = wide.raised_scaled_width _ _ _ _ (wide.product_width s z.low z.high w.low w.high z.ordered w.ordered);
  far = far.raised_scaled_reach _ _ _ _ (far.product_far s z.low z.high w.low w.high z.ordered w.ordered);
}

is_multiple : (s : ℕ) (z : Fix s) (k : ℤ) → IsMultiple (fix_numbers s) z k ((fix_numbers s).calc.multiple z k)
unfolding fix_of
is_multiple s z k = record {
  held = λ x p. holds (held.times_held s z.low z.high k x p.encloses);
  narrow = wide.raised_width _ _ _ (wide.times_width z.low z.high k);
  far = far.raised_reach _ _ _ (far.times_far z.low z.high k);
}

is_quotient : (s : ℕ) (z : Fix s) (k : ℤ) → pos 1 ≤ℤ k → IsQuotient (fix_numbers s) z k ((fix_numbers s).calc.quotient z k)
unfolding fix_of
is_quotient s z k h = record {
  held = λ x p. holds (held.quotient_held s z.low z.high k x h p.encloses);
  narrow = wide.raised_scaled_width _ _ _ _ (wide.quotient_width z.low z.high k z.ordered h);
  far = far.raised_scaled_reach _ _ _ _ (far.quotient_far z.low z.high k h);
}

is_square : (s : ℕ) (z : Fix s) → IsSquare (fix_numbers s) z ((fix_numbers s).calc.square z)
unfolding fix_of
is_square s z = record {
  held = λ x p. holds (held.product_held s _ _ _ _ x x z.ordered z.ordered p.encloses p.encloses);
  narrow = wide.raised_scaled_width _ _ _ _ (wide.square_width s z.low z.high z.ordered);
  far = far.raised_scaled_reach _ _ _ _ (far.product_far s z.low z.high z.low z.high z.ordered z.ordered);
}

is_root : (s : ℕ) (z : Fix s) → RootRoom (fix_numbers s) z → IsRoot (fix_numbers s) z ((fix_numbers s).root z)
unfolding fix_of
is_root s z h = record {
  held = λ x sign p. holds (held.root_held s z.low z.high x h.sign sign p.encloses);
  least = wide.root_least;
  low = ≤ℤ_refl (pos 0);
  high = wide.root_bounds s z.high h.sign;
}

is_hull : (s : ℕ) (z w : Fix s) → IsHull (fix_numbers s) z w ((fix_numbers s).hull z w)
unfolding fix_of
is_hull s z w = record {
  first = λ x p. holds (held.hull_first s z.low z.high w.low w.high x p.encloses);
  second = λ x p. holds (held.hull_second s z.low z.high w.low w.high x p.encloses);
  narrow = wide.raised_width _ _ _ (wide.hull_width z.low z.high w.low w.high);
  far = far.raised_reach _ _ _ (far.hull_far z.low z.high w.low w.high);
}

pub fix_lawful : (s : ℕ) → IsScale s → Lawful (fix_numbers s)
fix_lawful s h = record {
  fine = h.0;
  fits = h.1;
  wide = lit≤ tt;
  narrow = lit≤ tt;
  ordered = λ z. z.ordered;
  ratio = λ k d room. is_ratio s k d room;
  sum = λ z w room. is_sum s z w;
  difference = λ z w room. is_difference s z w;
  product = λ z w room. is_product s z w;
  multiple = λ z k room. is_multiple s z k;
  quotient = λ z k room. is_quotient s z k room;
  square = λ z room. is_square s z;
  root = λ z room. is_root s z room;
  hull = λ z w room. is_hull s z w;
}
