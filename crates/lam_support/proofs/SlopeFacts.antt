-- Weights in the axes of a ply: their sizes, that not all are 0, and the ratios of them that enclosures hold.
use Rattle.std.proofs.Common.{◌≡◌, refl, sym, ◌∙◌, ap, subst, [], ◌∷◌, inl, inr, ℕ, ◌+◌, ◌*◌, ◌^◌, ◌≤◌, ℤ, pos, ◌+ℤ◌, ◌-ℤ◌, ◌*ℤ◌, ◌<ℤ◌, neg_ℤ, unsigned_abs, arith}
use Rattle.std.proofs.lemmas.Bool.{cases_lt}
use Rattle.std.proofs.lemmas.Int.{ints, clamps}
use Rattle.std.specs.Int.{int_min}
use Rattle.lam_fraction.specs.inside.Reaches.{Reaches, sixteenths}
use Rattle.lam_fraction.specs.inside.Size.{AtMost}
use Rattle.lam_fraction.specs.numbers.Numbers.{Numbers, Lawful, RatioRoom}
use Rattle.lam_fraction.proofs.numbers.Rooms.{reaches_ratio_at}
use Rattle.lam_fraction.proofs.Expression.{◌⊗◌}
use Rattle.lam_fraction.proofs.Integers as Z
use Rattle.lam_fraction.proofs.Solver.{◌≐◌}
use Rattle.lam_fraction.proofs.numbers.Machine.{sum_small, difference_small, product_small, opposite_small, number_small, stored-64, is_exact, sized_stored-64, sized_difference, sized_number, sized_at_most, sized_given, sized_between}
use Rattle.lam_direction.specs.Squares.{AreWithinSize}
use Rattle.lam_direction.specs.declared.squares.DirectionSquares.{DirectionSquares}
use Rattle.lam_stock.specs.declared.item.Lamina.{Lamina}
use Rattle.lam_stock.specs.Limits.{IsStrength, KeepsStrengths}
use Rattle.lam_support.specs.declared.slopes.PlyWeight.{PlyWeight}
use Rattle.lam_support.specs.declared.weight.Weight.{Weight}
use Rattle.lam_support.specs.inside.Formulas as by
use Rattle.lam_support.specs.inside.Known.{AreSmall, OnCircle}

-- ---- sizes

pub record WithinMillion (t : DirectionSquares) : Type 0 where
  pub cosine_square : unsigned_abs t.cosine_square ≤ 1000000
  pub sine_square : unsigned_abs t.sine_square ≤ 1000000
  pub product : unsigned_abs t.product ≤ 1000000

pub within_million : {t : DirectionSquares} → AreWithinSize t → WithinMillion t
within_million h = record {
  cosine_square = omega (arith, ints, h.greatest, h.least, h.cosine_square);
  sine_square = omega (arith, ints, h.greatest, h.least, h.sine_square);
  product = omega (arith, ints, h.greatest, h.least, h.product);
}

-- ---- numbers of a struct, read back from their bits

pub stored_small : {x : ℤ} → AtMost 600000000 x → stored-64 x ≡ x
stored_small h = is_exact (sized_stored-64 (sized_at_most h)) refl

pub stored_million : {x : ℤ} → unsigned_abs x ≤ 1000000 → stored-64 x ≡ x
stored_million h = is_exact (sized_stored-64 (sized_given h)) refl

pub stored_strength : {x : ℤ} → IsStrength x → stored-64 x ≡ x
stored_strength h = is_exact (sized_stored-64 (sized_between h.least h.greatest)) refl

zero-minus : (x : ℤ) → pos 0 -ℤ x ≡ neg_ℤ x
zero-minus x = omega (arith, ints)

pub stored_opposite : (x : ℤ) → unsigned_abs x ≤ 1000000 → stored-64 (pos 0 -ℤ stored-64 x) ≡ neg_ℤ x
stored_opposite x h = is_exact (sized_stored-64 (sized_difference (sized_number 0) (sized_stored-64 {z = x} (sized_given h)))) refl ∙ zero-minus x

pub normal_as : {a b c a' b' c' : ℤ} (w : Weight) → a ≡ a' → b ≡ b' → c ≡ c' → by.normal a b c w ≡ by.normal a' b' c' w
normal_as w e f g = λ i. by.normal (e i) (f i) (g i) w

pub shear_as : {a b c a' b' c' : ℤ} (w : Weight) → a ≡ a' → b ≡ b' → c ≡ c' → by.shear a b c w ≡ by.shear a' b' c' w
shear_as w e f g = λ i. by.shear (e i) (f i) (g i) w

-- ---- slopes

stored-within : {m : ℕ} {w : ℤ} → m ≤ 2 ^ 62 → AtMost m w → stored-64 w ≡ w
stored-within {m} {w} few h = is_exact (sized_stored-64 (sized_given {n = 2 ^ 62} (omega (arith, few, h.size)))) refl

pub slope_room : {m : ℕ} {w : ℤ} → 1 ≤ m → m ≤ 2 ^ 62 → AtMost m w → RatioRoom w (pos m)
slope_room {m} {w} some few within = record {
  positive = omega (arith, ints, some);
  den = omega (arith, ints, few);
  num = omega (arith, ints, few, within.size);
  room = omega (arith, ints, within.size);
}

pub exact_slope : {A : Type 0} {n : Numbers A} (laws : Lawful n) {m : ℕ} {w : ℤ} → 1 ≤ m → m ≤ 2 ^ 62 → AtMost m w → Reaches n (sixteenths 16 + 4) (n.calc.ratio w (pos m))
exact_slope laws {m} {w} some few within = reaches_ratio_at laws (sixteenths 16) w (pos m) (slope_room some few within) (omega (arith, ints, within.size))

pub slope_reaches : {A : Type 0} {n : Numbers A} (laws : Lawful n) {m : ℕ} {w : ℤ} {r : A} → 1 ≤ m → m ≤ 2 ^ 62 → AtMost m w → r ≡ n.calc.ratio (stored-64 w) (pos m)
    → Reaches n (sixteenths 16 + 4) r
slope_reaches {n = n} laws {m} {w} some few within e =
    subst (Reaches n (sixteenths 16 + 4)) (sym (e ∙ ap (λ z. n.calc.ratio z (pos m)) (stored-within few within)))
    (exact_slope laws some few within)

-- ---- the three weights of a ply are not all 0

-- the sum of their squares, twice those of the normal weights, is the same in laminate axes
squares-kept : (a b c n x y z : ℤ) → a +ℤ b ≡ n → c *ℤ c ≡ a *ℤ b
    → let u = ((a *ℤ x) +ℤ (b *ℤ y)) +ℤ (c *ℤ z) in let v = ((b *ℤ x) +ℤ (a *ℤ y)) +ℤ (neg_ℤ c *ℤ z) in let w = ((pos 2 *ℤ c) *ℤ (y -ℤ x)) +ℤ ((a -ℤ b) *ℤ z) in
    (n *ℤ n) *ℤ ((pos 2 *ℤ (x *ℤ x) +ℤ pos 2 *ℤ (y *ℤ y)) +ℤ z *ℤ z) ≡ (pos 2 *ℤ (u *ℤ u) +ℤ pos 2 *ℤ (v *ℤ v)) +ℤ w *ℤ w
squares-kept a b c n x y z e f =
    let s = (pos 2 *ℤ (x *ℤ x) +ℤ pos 2 *ℤ (y *ℤ y)) +ℤ z *ℤ z in
    Z.from₂ (neg_ℤ ((n +ℤ (a +ℤ b)) *ℤ s)) e (pos 8 *ℤ (x *ℤ y) -ℤ pos 4 *ℤ (x *ℤ x) -ℤ pos 4 *ℤ (y *ℤ y) -ℤ pos 4 *ℤ (z *ℤ z)) f
    (Z.by_ring (a ∷ b ∷ c ∷ n ∷ x ∷ y ∷ z ∷ []) (search Z.quotes depth 40 fits 9000) refl)

-- a product with a positive strength that is 0
no_weight : (w s : ℤ) → pos 0 <ℤ s → unsigned_abs (w *ℤ s) ≡ 0 → w ≡ pos 0
no_weight w s positive none =
    let zero : s *ℤ w ≡ pos 0 = Z.solve 2 (λ w s. s ⊗ w ≐ w ⊗ s) refl w s ∙ size-zero (w *ℤ s) none in Z.zero_factor s positive zero
  where
    size-zero : (z : ℤ) → unsigned_abs z ≡ 0 → z ≡ pos 0
    size-zero z e = omega (arith, ints, e)

some_square : (x y z : ℤ) → 1 ≤ unsigned_abs x + unsigned_abs y + unsigned_abs z → (pos 2 *ℤ (x *ℤ x) +ℤ pos 2 *ℤ (y *ℤ y)) +ℤ z *ℤ z ≡ pos 0 → 1 ≤ 0
some_square x y z some none =
    let twice = Z.zero_sum_first (Z.◌+ₙ◌ (Z.◌*ₙ◌ (Z.number 2) (Z.square x)) (Z.◌*ₙ◌ (Z.number 2) (Z.square y))) (Z.square z) none in
    let first = Z.zero_square x (Z.zero_factor (pos 2) (Z.positive_number 1) (Z.zero_sum_first (Z.◌*ₙ◌ (Z.number 2) (Z.square x)) (Z.◌*ₙ◌ (Z.number 2) (Z.square y)) twice)) in
    let second = Z.zero_square y (Z.zero_factor (pos 2) (Z.positive_number 1) (Z.zero_sum_second (Z.◌*ₙ◌ (Z.number 2) (Z.square x)) (Z.◌*ₙ◌ (Z.number 2) (Z.square y)) twice)) in
    let third = Z.zero_square z (Z.zero_sum_second (Z.◌+ₙ◌ (Z.◌*ₙ◌ (Z.number 2) (Z.square x)) (Z.◌*ₙ◌ (Z.number 2) (Z.square y))) (Z.square z) none) in
    omega (arith, ints, some, ap unsigned_abs first, ap unsigned_abs second, ap unsigned_abs third)

module _ {l : Lamina} (h : KeepsStrengths l) (t : DirectionSquares) (w : Weight) where
  abbrev weights : PlyWeight
  weights = by.ply_weight t w

  abbrev steep : PlyWeight
  steep = by.at_strengths l weights

  strength-positive : {x y : ℤ} → IsStrength x → IsStrength y → pos 0 <ℤ int_min x y
  strength-positive p q = omega (arith, ints, clamps, p.least, q.least)

  alone-positive : {x : ℤ} → IsStrength x → pos 0 <ℤ x
  alone-positive p = omega (arith, ints, p.least)

  pub greatest_some : AreWithinSize t → OnCircle t → 1 ≤ by.greatest steep
  greatest_some size circle = elim (cases_lt 0 (by.greatest steep)) [
    | inl more ↦ omega (arith, more)
    | inr none ↦ absurd (contradiction none)
  ]
    where
      contradiction : by.greatest steep ≤ 0 → ⊥
      contradiction none =
          let a = no_weight weights.along (int_min l.xt l.xc) (strength-positive h.range.xt h.range.xc) (omega (arith, none)) in
          let b = no_weight weights.across (int_min l.yt l.yc) (strength-positive h.range.yt h.range.yc) (omega (arith, none)) in
          let c = no_weight weights.shear l.s (alone-positive h.range.s) (omega (arith, none)) in
          let positive : pos 0 <ℤ t.size = omega (arith, ints, size.least) in
          let s = (pos 2 *ℤ (w.x *ℤ w.x) +ℤ pos 2 *ℤ (w.y *ℤ w.y)) +ℤ w.s *ℤ w.s in
          let zero : (t.size *ℤ t.size) *ℤ s ≡ pos 0 =
          squares-kept t.cosine_square t.sine_square t.product t.size w.x w.y w.s circle.sum circle.product ∙ (λ i. (pos 2 *ℤ (a i *ℤ a i) +ℤ pos 2 *ℤ (b i *ℤ b i)) +ℤ c i *ℤ c i) in
          let impossible : 1 ≤ 0 = some_square w.x w.y w.s w.some (Z.zero_factor (t.size *ℤ t.size) (Z.◌*ₚ◌ positive positive) zero) in
          absurd (omega (arith, impossible))

  -- ---- and not large

  weight-small : (n a b c x y z : ℤ) → unsigned_abs a ≤ unsigned_abs n → unsigned_abs b ≤ unsigned_abs n → unsigned_abs c ≤ unsigned_abs n → unsigned_abs x ≤ 100 → unsigned_abs y ≤ 100 → unsigned_abs z ≤ 100
      → unsigned_abs (((a *ℤ x) +ℤ (b *ℤ y)) +ℤ (c *ℤ z)) ≤ unsigned_abs n * 100 + unsigned_abs n * 100 + unsigned_abs n * 100
  weight-small n a b c x y z i j k p q r =
      sum_small _ _ ((a *ℤ x) +ℤ (b *ℤ y)) (c *ℤ z) (sum_small _ _ (a *ℤ x) (b *ℤ y) (product_small _ _ a x i p) (product_small _ _ b y j q)) (product_small _ _ c z k r)

  along-small : AreWithinSize t → unsigned_abs weights.along ≤ 600 * unsigned_abs t.size
  along-small size =
      let s = weight-small t.size t.cosine_square t.sine_square t.product w.x w.y w.s size.cosine_square size.sine_square size.product w.x_range w.y_range w.s_range in omega (arith, s)

  across-small : AreWithinSize t → unsigned_abs weights.across ≤ 600 * unsigned_abs t.size
  across-small size =
      let s = weight-small t.size t.sine_square t.cosine_square (neg_ℤ t.product) w.x w.y w.s size.sine_square size.cosine_square (opposite_small _ t.product size.product) w.x_range w.y_range w.s_range in omega (arith, s)

  shear-small : AreWithinSize t → unsigned_abs weights.shear ≤ 600 * unsigned_abs t.size
  shear-small size =
      let twice : unsigned_abs (pos 2 *ℤ t.product) ≤ 2 * unsigned_abs t.size = product_small 2 _ (pos 2) t.product (number_small 2) size.product in
      let first : unsigned_abs ((pos 2 *ℤ t.product) *ℤ (w.y -ℤ w.x)) ≤ (2 * unsigned_abs t.size) * (100 + 100) = product_small _ _ (pos 2 *ℤ t.product) (w.y -ℤ w.x) twice (difference_small 100 100 w.y w.x w.y_range w.x_range) in
      let second : unsigned_abs ((t.cosine_square -ℤ t.sine_square) *ℤ w.s) ≤ (unsigned_abs t.size + unsigned_abs t.size) * 100 = product_small _ _ (t.cosine_square -ℤ t.sine_square) w.s (difference_small _ _ t.cosine_square t.sine_square size.cosine_square size.sine_square) w.s_range in
      let both = sum_small _ _ ((pos 2 *ℤ t.product) *ℤ (w.y -ℤ w.x)) ((t.cosine_square -ℤ t.sine_square) *ℤ w.s) first second in
      omega (arith, both)

  pub greatest_small : AreWithinSize t → by.greatest steep ≤ (600 * unsigned_abs t.size) * 5000000
  greatest_small size =
      let a = product_small _ 5000000 weights.along (int_min l.xt l.xc) (along-small size) (least-small h.range.xt h.range.xc) in
      let b = product_small _ 5000000 weights.across (int_min l.yt l.yc) (across-small size) (least-small h.range.yt h.range.yc) in
      let c = product_small _ 5000000 weights.shear l.s (shear-small size) (alone-small h.range.s) in
      omega (arith, a, b, c)
    where
      least-small : {x y : ℤ} → IsStrength x → IsStrength y → unsigned_abs (int_min x y) ≤ 5000000
      least-small p q = omega (arith, ints, clamps, p.least, q.least, p.greatest, q.greatest)

      alone-small : {x : ℤ} → IsStrength x → unsigned_abs x ≤ 5000000
      alone-small p = omega (arith, ints, p.least, p.greatest)

  pub within_greatest : AreSmall (by.greatest steep) steep
  within_greatest = record { along = record { size = omega arith }; across = record { size = omega arith }; shear = record { size = omega arith } }

  pub greatest_few : AreWithinSize t → by.greatest steep ≤ 2 ^ 62
  greatest_few size = let s = greatest_small size in omega (arith, ints, s, size.least, size.greatest)

  pub greatest_narrow : AreWithinSize t → by.greatest steep ≤ 2 ^ 52
  greatest_narrow size = let s = greatest_small size in omega (arith, ints, s, size.least, size.greatest)
