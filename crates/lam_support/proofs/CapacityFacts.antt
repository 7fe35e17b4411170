-- The capacity of an item, as it is computed: at least every weighted force inside the surface, and near the greatest.
use Rattle.std.proofs.Common.{◌≡◌, refl, sym, ◌∙◌, ap, ap₂, subst, subst₂, w64, SFits, [], ◌∷◌, ℕ, ◌+◌, ◌*◌, ◌/◌, ◌^◌, ◌≤◌, ℤ, pos, neg_ℤ, ◌+ℤ◌, ◌*ℤ◌, ◌≤ℤ◌, ◌<ℤ◌, unsigned_abs, arith}
use Rattle.std.proofs.lemmas.Grind.{div_ceil_times}
use Rattle.std.proofs.lemmas.Int.{ints, to_z-of_z}
use Rattle.lam_fraction.specs.Fraction.{ℚ, whole, fraction, ◌+ℚ◌, ◌-ℚ◌, ◌*ℚ◌, ◌≤ℚ◌, ◌<ℚ◌}
use Rattle.lam_fraction.specs.inside.Known.{Known}
use Rattle.lam_fraction.specs.numbers.Arithmetic.{exact}
use Rattle.lam_fraction.specs.numbers.Numbers.{width}
use Rattle.lam_fraction.proofs.Expression.{int, ◌⊕◌, ◌⊖◌, ◌⊗◌}
use Rattle.lam_fraction.proofs.FractionPairs.{whole-le, whole-lt}
use Rattle.lam_fraction.proofs.FractionRing.{whole-sum, whole-product}
use Rattle.lam_fraction.proofs.Integers as Z
use Rattle.lam_fraction.proofs.Rationals.{solve, by_ring, from₁, with_factor, above, at_most, below_over, weaken, number, positive_number, transitive, below_then_at_most, ◌*ₙ◌, ◌*ₚ◌}
use Rattle.lam_fraction.proofs.Solver.{quotes, ◌≐◌}
use Rattle.lam_fraction.proofs.numbers.Machine.{stored-64, is_exact, sized_stored-64, sized_between}
use Rattle.lam_fraction.proofs.numbers.Steps.{width-is}
use Rattle.lam_direction.specs.Circle.{CirclePoint, IsDirection}
use Rattle.lam_direction.specs.Squares.{squares_of, AreWithinSize}
use Rattle.lam_direction.specs.declared.squares.DirectionSquares.{DirectionSquares}
use Rattle.lam_stock.specs.declared.item.Kind.{Kind}
use Rattle.lam_stock.specs.declared.item.Kind.TheVariants.{Ply, Pair}
use Rattle.lam_stock.specs.declared.item.Lamina.{Lamina}
use Rattle.lam_stock.specs.Limits.{KeepsStrengths}
use Rattle.lam_stock.specs.PlyLaw.{OnAxis, Plus, Minus, side_point, mean}
use Rattle.lam_stock.proofs.Angles.{two_halves}
use Rattle.lam_support.specs.declared.slopes.PlyWeight.{PlyWeight}
use Rattle.lam_support.specs.declared.weight.Weight.{Weight}
use Rattle.lam_support.specs.Carried.{CarriesAtMost, wall_stress, mean_stress, weighted}
use Rattle.lam_support.specs.inside.Formulas as by
use Rattle.lam_support.specs.inside.Known.{OnCircle}
use Rattle.lam_support.proofs.Both as both
use Rattle.lam_support.proofs.Both.{Rounded, Part}
use Rattle.lam_support.proofs.SlopeFacts.{greatest_some, greatest_few, within_greatest}
use Rattle.lam_support.proofs.SurfaceLaw.{rest_least, rest_link}
use Rattle.lam_support.proofs.Sides.{Side, side, fixed, lawful, units, rest_units, rest_positive}
use Rattle.lam_support.proofs.Weighted.{value, value_is, on_axis, size}
use Rattle.lam_support.proofs.Widths.{coarsely, known_rest}

-- ---- the two sides of an item

pub circle_of : (d : CirclePoint) → IsDirection d → OnCircle (squares_of d)
circle_of d h = record { sum = h.on_circle; product = Z.by_ring (d.p ∷ d.q ∷ []) (search Z.quotes depth 20) refl }

pub other_circle : (k : Kind) (t : DirectionSquares) → OnCircle t → OnCircle (by.other_side k t)
other_circle Ply t h = h
other_circle Pair t h = record { sum = h.sum; product = Z.by_ring (t.product ∷ []) (search Z.quotes depth 20) refl ∙ h.product }

pub other_within : (k : Kind) (t : DirectionSquares) → AreWithinSize t → AreWithinSize (by.other_side k t)
other_within Ply t h = h
other_within Pair t h = record { least = h.least; greatest = h.greatest; cosine_square = h.cosine_square; sine_square = h.sine_square; product = turned t.product t.size h.product }
  where
    turned : (p n : ℤ) → unsigned_abs p ≤ unsigned_abs n → unsigned_abs (neg_ℤ p) ≤ unsigned_abs n
    turned p n h = omega (arith, ints, h)

pub other_size : (k : Kind) (t : DirectionSquares) → (by.other_side k t).size ≡ t.size
other_size Ply t = refl
other_size Pair t = refl

-- the squares of a pair's other side are those of the mirror image
mirrored : (d : CirclePoint) → squares_of (side_point Minus d) ≡ by.other_side Pair (squares_of d)
mirrored d =
    let q : neg_ℤ d.q *ℤ neg_ℤ d.q ≡ d.q *ℤ d.q = Z.by_ring (d.q ∷ []) (search Z.quotes depth 20) refl in
    let p : neg_ℤ d.q *ℤ d.p ≡ neg_ℤ (d.q *ℤ d.p) = Z.by_ring (d.p ∷ d.q ∷ []) (search Z.quotes depth 20) refl in
    λ i. record { cosine_square = d.p *ℤ d.p; sine_square = q i; product = p i; size = d.h *ℤ d.h }

-- ---- g/16, in 2^10 units

pub part : Lamina → ℕ
part l = unsigned_abs (fixed.low (by.surface fixed.calc l).rest) / 1024

-- the reach of a side, in 2^10 units
up-1024 : (e : ℕ) → (e ≤ by.up e 1024 * 1024) × (by.up e 1024 * 1024 ≤ e + 1024)
up-1024 e = let d = div_ceil_times e 1024 (omega arith) in (d.0, omega (arith, d.1))

module _ {l : Lamina} (h : KeepsStrengths l) where
  known : Known fixed 16 coarsely (by.surface fixed.calc l).rest (by.surface exact l).rest
  known = known_rest lawful h

  abbrev low : ℤ
  low = fixed.low (by.surface fixed.calc l).rest

  abbrev high : ℤ
  high = fixed.high (by.surface fixed.calc l).rest

  width-of : (w : ℕ) → w * 16 ≤ 16000 * 2 → w ≤ 2000
  width-of w h = omega (arith, h)

  high-near : high ≤ℤ (low +ℤ pos 2000)
  high-near =
      let wide = width-of (width fixed (by.surface fixed.calc l).rest) known.narrow in
      let ends = width-is low high (lawful.ordered (by.surface fixed.calc l).rest) in
      near (width fixed (by.surface fixed.calc l).rest) high low ends wide
    where
      near : (w : ℕ) (z y : ℤ) → z ≡ y +ℤ pos w → w ≤ 2000 → z ≤ℤ (y +ℤ pos 2000)
      near w z y e p = omega (arith, ints, e, p)

  rest-units-least : units ≤ℚ whole (pos 64) *ℚ rest_units l
  unfolding ◌-ℚ◌
  rest-units-least =
      let r = (by.surface exact l).rest in
      let quarter : whole (pos 1) ≤ℚ whole (pos 64) *ℚ r =
      subst (λ x. whole (pos 1) ≤ℚ x) (ap (λ x. whole (pos 4) *ℚ x) (sym (rest_link h)) ∙ solve 1 (λ r. int (pos 4) ⊗ (int (pos 16) ⊗ r) ≐ int (pos 64) ⊗ r) refl r) (rest_least h) in
      at_most (above quarter *ₙ number (2 ^ 60)) (solve 2 (λ r u. int (pos 64) ⊗ (r ⊗ u) ⊖ u ≐ (int (pos 64) ⊗ r ⊖ int (pos 1)) ⊗ u) refl r units)

  low-least : pos (2 ^ 54) ≤ℤ (low +ℤ pos 2000)
  low-least =
      let most : units ≤ℚ whole (pos 64) *ℚ whole (low +ℤ pos 2000) =
      transitive rest-units-least (with_factor (whole (pos 64)) (number 64) (transitive known.held.encloses.to ((whole-le _ _).1 high-near))) in
      let ends : pos (2 ^ 60) ≤ℤ (pos 64 *ℤ (low +ℤ pos 2000)) = (whole-le _ _).0 (subst (λ x. units ≤ℚ x) (sym (whole-product (pos 64) (low +ℤ pos 2000))) most) in
      sixtyfourth low ends
    where
      sixtyfourth : (z : ℤ) → pos (2 ^ 60) ≤ℤ (pos 64 *ℤ (z +ℤ pos 2000)) → pos (2 ^ 54) ≤ℤ (z +ℤ pos 2000)
      sixtyfourth z h = omega (arith, ints, h)

  part-large : (z : ℤ) → pos (2 ^ 54) ≤ℤ (z +ℤ pos 2000) → 2 ^ 43 ≤ unsigned_abs z / 1024
  part-large z h = omega (arith, ints, h)

  part-below : (z : ℤ) → pos (2 ^ 54) ≤ℤ (z +ℤ pos 2000) → (pos 1024 *ℤ pos (unsigned_abs z / 1024)) ≤ℤ z
  part-below z h = omega (arith, ints, h)

  part-close : (z y : ℤ) → pos (2 ^ 54) ≤ℤ (z +ℤ pos 2000) → y ≤ℤ (z +ℤ pos 2000) → y ≤ℤ ((pos 1024 *ℤ pos (unsigned_abs z / 1024)) +ℤ pos 4096)
  part-close z y h k = omega (arith, ints, h, k)

  pub part_large : 2 ^ 43 ≤ part l
  unfolding part
  part_large = part-large low low-least

  pub below-rest : whole (pos 1024) *ℚ whole (pos (part l)) ≤ℚ rest_units l
  unfolding part
  below-rest =
      transitive (subst (λ x. x ≤ℚ whole low) (whole-product (pos 1024) (pos (part l))) ((whole-le _ _).1 (part-below low low-least))) known.held.encloses.from

  pub close-rest : rest_units l ≤ℚ whole (pos 1024) *ℚ whole (pos (part l)) +ℚ whole (pos 4096)
  unfolding part
  close-rest =
      transitive known.held.encloses.to
      (subst (λ x. whole high ≤ℚ x) (whole-sum (pos 1024 *ℤ pos (part l)) (pos 4096) ∙ ap (λ x. x +ℚ whole (pos 4096)) (whole-product (pos 1024) (pos (part l)))) ((whole-le _ _).1 (part-close low high low-least high-near)))

  -- ---- a side

  module _ (t : DirectionSquares) (w : Weight) (within : AreWithinSize t) (circle : OnCircle t) where
    abbrev weights : PlyWeight
    weights = by.ply_weight t w

    pub steepest : ℕ
    steepest = by.greatest (by.at_strengths l weights)

    pub reached : ℤ
    unfolding steepest
    reached = by.reach fixed (by.surface fixed.calc l) (by.slopes fixed.calc (by.at_strengths l weights) (pos steepest))

    pub one-side : Side l weights steepest reached
    unfolding steepest reached
    one-side = side h weights steepest (greatest_some h t w within circle) (greatest_few h t w within) (within_greatest h t w) refl

    pub some : 1 ≤ steepest
    unfolding steepest
    some = greatest_some h t w within circle

    reached-positive : pos 0 <ℤ reached
    unfolding ◌-ℚ◌
    reached-positive =
        let s = one-side in
        let m = whole (pos steepest) in
        let m-positive : whole (pos 0) <ℚ m = (whole-lt (pos 0) (pos steepest)).1 (positive some) in
        let at = s.most s.tip.at s.tip.inside in
        let chain : rest_units l *ℚ m ≤ℚ whole (pos 2) *ℚ (m *ℚ whole reached) = transitive (with_factor (rest_units l) (weaken (rest_positive h)) s.tip.far) at in
        (whole-lt (pos 0) reached).0 (below_over {k = whole (pos 2) *ℚ m} (positive_number 1 *ₚ m-positive) (below_then_at_most (rest_positive h *ₚ m-positive) chain)
        (solve 2 (λ m e. int (pos 2) ⊗ m ⊗ (e ⊖ int (pos 0)) ≐ int (pos 2) ⊗ (m ⊗ e)) refl m (whole reached)))
      where
        positive : {m : ℕ} → 1 ≤ m → pos 0 <ℤ pos m
        positive p = omega (arith, ints, p)

    pub rounded : ℕ
    rounded = by.up (unsigned_abs reached) 1024

    -- as the code multiplies them
    pub side-is : by.side fixed l t w ≡ steepest * rounded
    unfolding steepest reached rounded
    side-is = refl

    rounded-up : (z : ℤ) → pos 0 <ℤ z → (z ≤ℤ (pos 1024 *ℤ pos (by.up (unsigned_abs z) 1024))) × ((pos 1024 *ℤ pos (by.up (unsigned_abs z) 1024)) ≤ℤ (z +ℤ pos 1024))
    rounded-up z p = let u = up-1024 (unsigned_abs z) in (omega (arith, ints, p, u.0), omega (arith, ints, p, u.1))

    pub reach-below : whole reached ≤ℚ whole (pos 1024) *ℚ whole (pos rounded)
    unfolding rounded
    reach-below = subst (λ x. whole reached ≤ℚ x) (whole-product (pos 1024) (pos rounded)) ((whole-le _ _).1 (rounded-up reached reached-positive).0)

    pub reach-above : whole (pos 1024) *ℚ whole (pos rounded) ≤ℚ whole reached +ℚ whole (pos 1024)
    unfolding rounded
    reach-above = subst₂ (λ x y. x ≤ℚ y) (whole-product (pos 1024) (pos rounded)) (whole-sum reached (pos 1024)) ((whole-le _ _).1 (rounded-up reached reached-positive).1)

module _ {l : Lamina} (h : KeepsStrengths l) where
  pub part_of : Part l (part l)
  part_of = record { positive = rest_positive h; large = part_large h; below = below-rest h; close = close-rest h }

  pub rounded_side : (t : DirectionSquares) (w : Weight) (within : AreWithinSize t) (circle : OnCircle t) → Rounded l (by.ply_weight t w) (steepest h t w within circle) (rounded h t w within circle)
  rounded_side t w within circle = record {
    reach = reached h t w within circle;
    side = one-side h t w within circle;
    some = some h t w within circle;
    below = reach-below h t w within circle;
    above = reach-above h t w within circle;
  }

-- ---- the item

module _ {l : Lamina} (h : KeepsStrengths l) (least : pos 50 ≤ℤ l.t) (w : Weight) {d : CirclePoint} (dir : IsDirection d) (within : AreWithinSize (squares_of d)) where
  size-positive : pos 0 <ℤ d.h
  size-positive = omega (arith, ints, dir.least_size)

  thick-is : whole l.t ≡ whole (pos (unsigned_abs l.t))
  thick-is = ap whole (as-size l.t least)
    where
      as-size : (z : ℤ) → pos 50 ≤ℤ z → z ≡ pos (unsigned_abs z)
      as-size z h = omega (arith, ints, h)

  sized-is : size d ≡ whole (pos (unsigned_abs (d.h *ℤ d.h)))
  sized-is = ap whole (as-size (d.h *ℤ d.h) within.least)
    where
      as-size : (z : ℤ) → pos 1 ≤ℤ z → z ≡ pos (unsigned_abs z)
      as-size z h = omega (arith, ints, h)

  -- of a ply
  ply-force : (t : OnAxis) → whole (pos 2) *ℚ (whole (pos (unsigned_abs (d.h *ℤ d.h))) *ℚ (whole l.t *ℚ weighted w (wall_stress d Plus t)))
      ≡ whole (pos (unsigned_abs l.t)) *ℚ (on_axis (by.ply_weight (squares_of d) w) t +ℚ on_axis (by.ply_weight (squares_of d) w) t)
  unfolding ◌-ℚ◌
  ply-force t =
      ap (λ s. whole (pos 2) *ℚ (s *ℚ (whole l.t *ℚ value d w t))) (sym sized-is)
      ∙ solve 3 (λ s t v. int (pos 2) ⊗ (s ⊗ (t ⊗ v)) ≐ t ⊗ (s ⊗ v ⊕ s ⊗ v)) refl (size d) (whole l.t) (value d w t)
      ∙ ap₂ (λ t v. t *ℚ (v +ℚ v)) thick-is (value_is d w t size-positive)

  mean-weighted : (x y z x' y' z' : ℚ) → whole w.x *ℚ mean x x' +ℚ whole w.y *ℚ mean y y' +ℚ whole w.s *ℚ mean z z'
      ≡ ((whole w.x *ℚ x +ℚ whole w.y *ℚ y +ℚ whole w.s *ℚ z) +ℚ (whole w.x *ℚ x' +ℚ whole w.y *ℚ y' +ℚ whole w.s *ℚ z')) *ℚ fraction (pos 1) (pos 2)
  mean-weighted x y z x' y' z' =
      solve 10 (λ a b c x y z p q r h. a ⊗ ((x ⊕ p) ⊗ h) ⊕ b ⊗ ((y ⊕ q) ⊗ h) ⊕ c ⊗ ((z ⊕ r) ⊗ h) ≐ ((a ⊗ x ⊕ b ⊗ y ⊕ c ⊗ z) ⊕ (a ⊗ p ⊕ b ⊗ q ⊕ c ⊗ r)) ⊗ h) refl
      (whole w.x) (whole w.y) (whole w.s) x y z x' y' z' (fraction (pos 1) (pos 2))

  -- of a pair
  pair-force : (t u : OnAxis) → whole (pos 2) *ℚ (whole (pos (unsigned_abs (d.h *ℤ d.h))) *ℚ (whole l.t *ℚ weighted w (mean_stress (wall_stress d Plus t) (wall_stress d Minus u))))
      ≡ whole (pos (unsigned_abs l.t)) *ℚ (on_axis (by.ply_weight (squares_of d) w) t +ℚ on_axis (by.ply_weight (by.other_side Pair (squares_of d)) w) u)
  unfolding ◌-ℚ◌
  pair-force t u =
      let a = wall_stress d Plus t in
      let b = wall_stress d Minus u in
      (λ i. whole (pos 2) *ℚ (sym sized-is i *ℚ (whole l.t *ℚ mean-weighted a.x a.y a.s b.x b.y b.s i)))
      ∙ halves (size d) (whole l.t) (value d w t) (value (side_point Minus d) w u) (fraction (pos 1) (pos 2)) two_halves
      ∙ (λ i. thick-is i *ℚ (value_is d w t size-positive i +ℚ second i))
    where
      halves : (s t v u f : ℚ) → f *ℚ whole (pos 2) ≡ whole (pos 1) → whole (pos 2) *ℚ (s *ℚ (t *ℚ ((v +ℚ u) *ℚ f))) ≡ t *ℚ (s *ℚ v +ℚ s *ℚ u)
      halves s t v u f e = from₁ (s *ℚ (t *ℚ (v +ℚ u))) e (by_ring (s ∷ t ∷ v ∷ u ∷ f ∷ []) (search quotes depth 30) refl)

      second : size d *ℚ value (side_point Minus d) w u ≡ on_axis (by.ply_weight (by.other_side Pair (squares_of d)) w) u
      second = value_is (side_point Minus d) w u size-positive ∙ ap (λ t. on_axis (by.ply_weight t w) u) (mirrored d)

  circle : OnCircle (squares_of d)
  circle = circle_of d dir

  thick-some : 1 ≤ unsigned_abs l.t
  thick-some = omega (arith, ints, least)

  sized-some : 1 ≤ unsigned_abs (d.h *ℤ d.h)
  sized-some = as-natural (d.h *ℤ d.h) within.least
    where
      as-natural : (z : ℤ) → pos 1 ≤ℤ z → 1 ≤ unsigned_abs z
      as-natural z h = omega (arith, ints, h)

  -- the side of the direction, and the other side of a pair
  plus : Rounded l (by.ply_weight (squares_of d) w) (steepest h (squares_of d) w within circle) (rounded h (squares_of d) w within circle)
  plus = rounded_side h (squares_of d) w within circle

  mirror : DirectionSquares
  mirror = by.other_side Pair (squares_of d)

  mirror-within : AreWithinSize mirror
  unfolding mirror
  mirror-within = other_within Pair (squares_of d) within

  mirror-circle : OnCircle mirror
  unfolding mirror
  mirror-circle = other_circle Pair (squares_of d) circle

  minus-side : Rounded l (by.ply_weight mirror w) (steepest h mirror w mirror-within mirror-circle) (rounded h mirror w mirror-within mirror-circle)
  minus-side = rounded_side h mirror w mirror-within mirror-circle

  ply-capacity : by.capacity fixed Ply l d w
      ≡ by.up (unsigned_abs l.t * (steepest h (squares_of d) w within circle * rounded h (squares_of d) w within circle + steepest h (squares_of d) w within circle * rounded h (squares_of d) w within circle)) ((1000 * unsigned_abs (d.h *ℤ d.h)) * part l)
  unfolding part
  ply-capacity = ap (λ s. by.up (unsigned_abs l.t * (s + s)) (by.divisor fixed l (squares_of d))) (side-is h (squares_of d) w within circle)

  pair-capacity : by.capacity fixed Pair l d w
      ≡ by.up (unsigned_abs l.t * (steepest h (squares_of d) w within circle * rounded h (squares_of d) w within circle + steepest h mirror w mirror-within mirror-circle * rounded h mirror w mirror-within mirror-circle)) ((1000 * unsigned_abs (d.h *ℤ d.h)) * part l)
  unfolding part mirror
  pair-capacity = ap₂ (λ s t. by.up (unsigned_abs l.t * (s + t)) (by.divisor fixed l (squares_of d))) (side-is h (squares_of d) w within circle) (side-is h mirror w mirror-within mirror-circle)

  pair-mirror : (t u : OnAxis) → whole (pos 2) *ℚ (whole (pos (unsigned_abs (d.h *ℤ d.h))) *ℚ (whole l.t *ℚ weighted w (mean_stress (wall_stress d Plus t) (wall_stress d Minus u))))
      ≡ whole (pos (unsigned_abs l.t)) *ℚ (on_axis (by.ply_weight (squares_of d) w) t +ℚ on_axis (by.ply_weight mirror w) u)
  unfolding mirror
  pair-mirror t u = pair-force t u

  pub bound : (k : Kind) → CarriesAtMost k l d w (whole (pos (by.capacity fixed k l d w)))
  bound Ply = λ t inside. subst (λ n. whole l.t *ℚ weighted w (wall_stress d Plus t) ≤ℚ whole (pos n)) (sym ply-capacity)
      (both.force_at_most (unsigned_abs l.t) (unsigned_abs (d.h *ℤ d.h)) (part l) (part_of h) thick-some sized-some _ _ _ _ plus plus _ t t inside inside (ply-force t))
  bound Pair = λ t u inside other. subst (λ n. whole l.t *ℚ weighted w (mean_stress (wall_stress d Plus t) (wall_stress d Minus u)) ≤ℚ whole (pos n)) (sym pair-capacity)
      (both.force_at_most (unsigned_abs l.t) (unsigned_abs (d.h *ℤ d.h)) (part l) (part_of h) thick-some sized-some _ _ _ _ plus minus-side _ t u inside other (pair-mirror t u))

  pub near : (k : Kind) (v : ℚ) → CarriesAtMost k l d w v → whole (pos (by.capacity fixed k l d w)) ≤ℚ fraction (pos 1001) (pos 1000) *ℚ v +ℚ whole (pos 2)
  near Ply v most =
      let s = plus.side in
      subst (λ n. whole (pos n) ≤ℚ fraction (pos 1001) (pos 1000) *ℚ v +ℚ whole (pos 2)) (sym ply-capacity)
      (both.force_near (unsigned_abs l.t) (unsigned_abs (d.h *ℤ d.h)) (part l) (part_of h) thick-some sized-some _ _ _ _ plus plus v _ _ (ply-force s.at) (most s.at s.inside) (ply-force s.tip.at) (most s.tip.at s.tip.inside))
  near Pair v most =
      let s = plus.side in
      let o = minus-side.side in
      subst (λ n. whole (pos n) ≤ℚ fraction (pos 1001) (pos 1000) *ℚ v +ℚ whole (pos 2)) (sym pair-capacity)
      (both.force_near (unsigned_abs l.t) (unsigned_abs (d.h *ℤ d.h)) (part l) (part_of h) thick-some sized-some _ _ _ _ plus minus-side v _ _ (pair-mirror s.at o.at) (most s.at o.at s.inside o.inside)
      (pair-mirror s.tip.at o.tip.at) (most s.tip.at o.tip.at s.tip.inside o.tip.inside))

  pub at_least_one : (k : Kind) → 1 ≤ by.capacity fixed k l d w
  at_least_one Ply = subst (λ n. 1 ≤ n) (sym ply-capacity)
      (both.force_some (unsigned_abs l.t) (unsigned_abs (d.h *ℤ d.h)) (part l) (part_of h) thick-some sized-some _ _ _ _ plus plus _ (ply-force plus.side.tip.at))
  at_least_one Pair = subst (λ n. 1 ≤ n) (sym pair-capacity)
      (both.force_some (unsigned_abs l.t) (unsigned_abs (d.h *ℤ d.h)) (part l) (part_of h) thick-some sized-some _ _ _ _ plus minus-side _ (pair-mirror plus.side.tip.at minus-side.side.tip.at))

  pub divisor_positive : 1 ≤ by.divisor fixed l (squares_of d)
  unfolding part
  divisor_positive = both.denominator_positive (unsigned_abs l.t) (unsigned_abs (d.h *ℤ d.h)) (part l) (part_of h) thick-some sized-some _ _ _ _ plus plus

  pub carried_fits : (s t : ℕ) → unsigned_abs l.t ≤ 20000 → s ≤ ((600 * unsigned_abs (d.h *ℤ d.h)) * 5000000) * 2 ^ 52 → t ≤ ((600 * unsigned_abs (d.h *ℤ d.h)) * 5000000) * 2 ^ 52
      → unsigned_abs l.t * (s + t) ≤ 2 ^ 60 * by.divisor fixed l (squares_of d)
  unfolding part
  carried_fits s t thin p q = both.quotient_fits (unsigned_abs l.t) (unsigned_abs (d.h *ℤ d.h)) (part l) s t thin p q (part_large h)

-- ---- numbers read back from their bits

pub stored_result : {z : ℤ} → SFits w64 z → stored-64 z ≡ z
stored_result {z} f = to_z-of_z w64 z f

pub stored_size : {t : DirectionSquares} → AreWithinSize t → stored-64 t.size ≡ t.size
stored_size h = is_exact (sized_stored-64 (sized_between h.least h.greatest)) refl

pub stored_thickness : {t : ℤ} → pos 50 ≤ℤ t → t ≤ℤ pos 20000 → stored-64 t ≡ t
stored_thickness p q = is_exact (sized_stored-64 (sized_between p q)) refl

pub thin : {t : ℤ} → pos 50 ≤ℤ t → t ≤ℤ pos 20000 → unsigned_abs t ≤ 20000
thin p q = omega (arith, ints, p, q)
