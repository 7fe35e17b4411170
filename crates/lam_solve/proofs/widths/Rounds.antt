-- How wide the strains round a centre are.
use Rattle.std.proofs.Common.{◌≡◌, subst, subst₂, ℕ, ◌+◌, ◌*◌, ◌/◌, ◌≤◌, ℤ, pos, ◌+ℤ◌, ◌-ℤ◌, ◌*ℤ◌, ◌≤ℤ◌, ◌<ℤ◌, unsigned_abs, arith}
use Rattle.std.specs.Int.{int_min, int_max}
use Rattle.std.proofs.Math.Nat.{mul-le-mul_right}
use Rattle.std.proofs.lemmas.Int.{ints, clamps}
use Rattle.lam_fraction.specs.Fraction.{whole, ◌≤ℚ◌}
use Rattle.lam_fraction.specs.numbers.Ends as ends
use Rattle.lam_fraction.specs.numbers.Numbers.{Numbers, Lawful, IsRatio, unit, width}
use Rattle.lam_fraction.proofs.FractionBounds.{fraction-times}
use Rattle.lam_fraction.proofs.FractionPairs.{whole-le}
use Rattle.lam_fraction.proofs.WholeFractions.{pos-product}
use Rattle.lam_fraction.proofs.numbers.Steps.{one_unit, over_up-most}
use Rattle.lam_stock.specs.declared.scale.Scale.{Scale}
use Rattle.lam_solve.specs.declared.six.Six.{Six}
use Rattle.lam_solve.specs.declared.six.Ends.{Ends}
use Rattle.lam_solve.specs.declared.strains.Guess.{Guess}
use Rattle.lam_solve.specs.Widths.{AreNarrowBy}
use Rattle.lam_solve.specs.inside.Enclosed.{around, enclosed, greatest_size, radius}
use Rattle.lam_solve.specs.inside.Parts.{IsScaled}
use Rattle.lam_solve.specs.inside.Steps.{cut, over_up}
use Rattle.lam_solve.proofs.Around.{around-room, end_room}

-- ---- ends round a number, and their hull

-- z lies between two ends, and each is at most d from it
record Round (d : ℕ) (low high z : ℤ) : Type 0 where
  pub below : low ≤ℤ z
  pub above : z ≤ℤ high
  pub least : z ≤ℤ (low +ℤ pos d)
  pub most : high ≤ℤ (z +ℤ pos d)

ends-round : (d : ℕ) (low high z : ℤ) → low ≤ℤ z → z ≤ℤ high → ends.width low high ≤ d → Round d low high z
unfolding ends.width
ends-round d low high z h k w = record { below = h; above = k; least = omega (arith, ints, h, k, w); most = omega (arith, ints, h, k, w) }

cut-order : (most z : ℤ) (r : ℕ) → cut most (z -ℤ pos r) ≤ℤ cut most (z +ℤ pos r)
cut-order most z r = omega (arith, ints, clamps)

cut-near : (most z : ℤ) (r : ℕ) → cut most (z +ℤ pos r) ≤ℤ (cut most (z -ℤ pos r) +ℤ pos (2 * r))
cut-near most z r = omega (arith, ints, clamps)

hull-near : (d r : ℕ) (low high low' high' y z : ℤ) → Round d low high y → Round d low' high' z → y ≤ℤ z → z ≤ℤ (y +ℤ pos r)
    → ends.width (int_min low low') (int_max high high') ≤ r + 2 * d
unfolding ends.width
hull-near d r low high low' high' y z h k order near = omega (arith, ints, clamps, h.below, h.above, h.least, h.most, k.below, k.above, k.least, k.most, order, near)

module _ {A : Type 0} {n : Numbers A} (laws : Lawful n) where
  ratio-round : {z : ℤ} {r : A} → IsRatio n z (pos (unit n)) r → Round n.slop (n.low r) (n.high r) z
  ratio-round {z} {r} is =
      let one : pos 0 <ℤ pos (unit n) = omega (arith, ints, one_unit laws) in
      let same = fraction-times z (pos (unit n)) one in
      ends-round n.slop (n.low r) (n.high r) z
      ((whole-le (n.low r) z).0 (subst (λ x. whole (n.low r) ≤ℚ x) same is.held.encloses.from))
      ((whole-le z (n.high r)).0 (subst (λ x. x ≤ℚ whole (n.high r)) same is.held.encloses.to)) is.narrow

  around-narrow : (c : ℤ) (r : ℕ) → width n (around n c r) ≤ 2 * r + 3 * n.slop
  around-narrow c r =
      let most = pos (5 * unit n / 2) in
      let low = ratio-round (laws.ratio (cut most (c -ℤ pos r)) (pos (unit n)) (end_room laws (c -ℤ pos r))) in
      let high = ratio-round (laws.ratio (cut most (c +ℤ pos r)) (pos (unit n)) (end_room laws (c +ℤ pos r))) in
      let hull = (laws.hull _ _ (around-room laws c r)).narrow in
      let near = hull-near n.slop (2 * r) _ _ _ _ _ _ low high (cut-order most c r) (cut-near most c r) in
      omega (arith, hull, near)

  -- ---- by the radius of a residual

  -- where the ends of a residual are at most m units in size, and m times q0 at most r times the floor, its radius is at most r
  radius-most : {scale : Scale} (rest : Six Ends) (m r : ℕ) → IsScaled scale → greatest_size rest ≤ m * unit n → (pos m *ℤ scale.q0) ≤ℤ (pos r *ℤ scale.floor) → radius n scale rest ≤ r
  radius-most {scale} rest m r is small room =
      let left : over_up (greatest_size rest) (unit n) ≤ m = over_up-most (greatest_size rest) (unit n) m (one_unit laws) small in
      let times : over_up (greatest_size rest) (unit n) * unsigned_abs scale.q0 ≤ m * unsigned_abs scale.q0 = mul-le-mul_right (unsigned_abs scale.q0) left in
      let room' = whole_sizes m r (unsigned_abs scale.q0) (unsigned_abs scale.floor) scale.q0 scale.floor (omega (arith, ints, is.above)) (omega (arith, ints, is.floor)) room in
      over_up-most (over_up (greatest_size rest) (unit n) * unsigned_abs scale.q0) (unsigned_abs scale.floor) r (omega (arith, ints, is.floor)) (omega (arith, times, room'))
    where
      whole_sizes : (m r a b : ℕ) (q f : ℤ) → q ≡ pos a → f ≡ pos b → (pos m *ℤ q) ≤ℤ (pos r *ℤ f) → m * a ≤ r * b
      whole_sizes m r a b q f d e h =
          let order : (pos m *ℤ pos a) ≤ℤ (pos r *ℤ pos b) = subst₂ (λ s t. (pos m *ℤ s) ≤ℤ (pos r *ℤ t)) d e h in
          omega (arith, ints, order, pos-product m a, pos-product r b)

  pub enclosed-narrow : {scale : Scale} (c : Guess) (rest : Six Ends) (m r : ℕ) → IsScaled scale → greatest_size rest ≤ m * unit n → (pos m *ℤ scale.q0) ≤ℤ (pos r *ℤ scale.floor)
      → AreNarrowBy r n (enclosed n scale c rest)
  enclosed-narrow {scale} c rest m r is small room =
      let least = radius-most rest m r is small room in
      let half : over_up (5 * radius n scale rest) 2 * 2 ≤ 5 * radius n scale rest + 1 = omega arith in
      let ex = around-narrow c.ex (over_up (5 * radius n scale rest) 2) in
      let ey = around-narrow c.ey (over_up (5 * radius n scale rest) 2) in
      let g = around-narrow c.g (4 * radius n scale rest) in
      let kx = around-narrow c.kx (5 * radius n scale rest) in
      let ky = around-narrow c.ky (5 * radius n scale rest) in
      let kg = around-narrow c.kg (8 * radius n scale rest) in
      record {
        ex = omega (arith, ex, half, least);
        ey = omega (arith, ey, half, least);
        g = omega (arith, g, least);
        kx = omega (arith, kx, least);
        ky = omega (arith, ky, least);
        kg = omega (arith, kg, least);
      }
