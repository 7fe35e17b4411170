-- The criterion at a point: how wide its value and its slopes are, and what they hold.
use Rattle.std.proofs.Common.{refl, ℕ, ◌+◌, ◌*◌, ◌≤◌, lit≤, ℤ, pos, unsigned_abs, arith}
use Rattle.std.proofs.Math.Nat.{mul-le-mul_right}
use Rattle.std.proofs.lemmas.Int.{ints, clamps}
use Rattle.lam_fraction.specs.Fraction.{ℚ, fraction}
use Rattle.lam_fraction.specs.inside.Known.{Bounds, Known}
use Rattle.lam_fraction.specs.inside.Reaches.{Reaches, sixteenths}
use Rattle.lam_fraction.specs.numbers.Arithmetic.{exact}
use Rattle.lam_fraction.specs.numbers.Numbers.{Numbers, Lawful, Holds, reach, unit, width}
use Rattle.lam_fraction.proofs.numbers.Consequences.{known_narrow}
use Rattle.lam_fraction.proofs.numbers.Rooms.{known_reaches, ranges, reaching, reaches_more}
use Rattle.lam_fraction.proofs.numbers.Steps.{known_ratio_at}
use Rattle.lam_fraction.proofs.numbers.Tracks.{Ruled, Tracked, tracked, given, bounded}
use Rattle.lam_stock.specs.declared.item.Lamina.{Lamina}
use Rattle.lam_stock.specs.Limits.{KeepsStrengths}
use Rattle.lam_stock.proofs.StrengthBounds.{interaction_small}
use Rattle.lam_tsai.specs.declared.coefficients.Coefficients.{Coefficients}
use Rattle.lam_tsai.specs.declared.components.Components.{Components}
use Rattle.lam_tsai.specs.inside.Formulas as by
use Rattle.lam_tsai.proofs.Computed.{linear_room, quadratic_room, mixed_room}
use Rattle.lam_tsai.proofs.Reaching.{reach-coefficients}
use Rattle.lam_tsai.proofs.Rounding.{parts-room}

-- so many sixteenths in size, and so many slops wide
abbrev bounds : ℕ → ℕ → Bounds
bounds size slops = record { size = size; wide = 16 * slops }

-- the interaction's numerator
mixed-size : (z : ℤ) → unsigned_abs z ≤ 14000000000000000000 → unsigned_abs z * 16 ≤ 28 * unsigned_abs (pos 8000000000000000000)
mixed-size z h = omega (arith, ints, h)

module _ {A : Type 0} {n : Numbers A} (laws : Lawful n) (slops : n.slop ≤ 2) {l : Lamina} (h : KeepsStrengths l) where
  abbrev ruled : Ruled n
  ruled = record { laws = laws; d = 16; some = lit≤ tt }

  -- the middle of an enclosure of at most about nine eighths, in units
  pub record IsMiddle (m : ℤ) : Type 0 where
    pub room : unsigned_abs m ≤ 2 * unit n
    pub size : unsigned_abs m * 16 ≤ 19 * unit n
    pub far : Reaches n (sixteenths 18 + 8) (n.calc.ratio m (pos (unit n)))

  abbrev pub point : ℤ → A
  point m = n.calc.ratio m (pos (unit n))

  abbrev pub point-at : ℤ → ℚ
  point-at m = fraction m (pos (unit n))

  known-point : (m : ℤ) → IsMiddle m → Known n 16 (bounds 19 1) (point m) (point-at m)
  known-point m is = known_ratio_at laws 16 (lit≤ tt) (bounds 19 1) m (pos (unit n)) (parts-room laws m is.room) (omega (arith, is.size)) (omega arith)

  known-along : Known n 16 (bounds 1 1) (by.linear n.calc l.xt l.xc) (by.linear exact l.xt l.xc)
  known-along = known_ratio_at laws 16 (lit≤ tt) (bounds 1 1) _ _ (linear_room h.range.xt h.range.xc h.ratio.along)
      (omega (arith, ints, clamps, h.range.xt.least, h.range.xc.least, h.ratio.along.first, h.ratio.along.second)) (omega arith)

  known-across : Known n 16 (bounds 1 1) (by.linear n.calc l.yt l.yc) (by.linear exact l.yt l.yc)
  known-across = known_ratio_at laws 16 (lit≤ tt) (bounds 1 1) _ _ (linear_room h.range.yt h.range.yc h.ratio.across)
      (omega (arith, ints, clamps, h.range.yt.least, h.range.yc.least, h.ratio.across.first, h.ratio.across.second)) (omega arith)

  known-along_square : Known n 16 (bounds 16 1) (by.quadratic n.calc l.xt l.xc) (by.quadratic exact l.xt l.xc)
  known-along_square = known_ratio_at laws 16 (lit≤ tt) (bounds 16 1) _ _ (quadratic_room h.range.xt h.range.xc h.ratio.along)
      (omega (arith, ints, clamps, h.range.xt.least, h.range.xc.least, h.ratio.along.first, h.ratio.along.second)) (omega arith)

  known-across_square : Known n 16 (bounds 16 1) (by.quadratic n.calc l.yt l.yc) (by.quadratic exact l.yt l.yc)
  known-across_square = known_ratio_at laws 16 (lit≤ tt) (bounds 16 1) _ _ (quadratic_room h.range.yt h.range.yc h.ratio.across)
      (omega (arith, ints, clamps, h.range.yt.least, h.range.yc.least, h.ratio.across.first, h.ratio.across.second)) (omega arith)

  known-mixed : Known n 16 (bounds 28 1) (by.mixed n.calc l) (by.mixed exact l)
  known-mixed = known_ratio_at laws 16 (lit≤ tt) (bounds 28 1) _ _ (mixed_room h) (mixed-size (by.interaction l) (interaction_small h)) (omega arith)

  known-one : Known n 16 (bounds 1 1) (n.calc.ratio (pos 1) (pos 4096)) (exact.ratio (pos 1) (pos 4096))
  known-one = known_ratio_at laws 16 (lit≤ tt) (bounds 1 1) (pos 1) (pos 4096) (record { positive = omega (arith, ints); den = omega (arith, ints); num = omega (arith, ints); room = omega (arith, ints) }) (omega (arith, ints)) (omega arith)

  abbrev pub c : Coefficients A
  c = by.coefficients n.calc l

  abbrev pub k : Coefficients ℚ
  k = by.coefficients exact l

  abbrev terms : Coefficients (Tracked ruled)
  terms = record { along = given known-along; across = given known-across; along_square = given known-along_square; across_square = given known-across_square; mixed = given known-mixed; one = given known-one }

  pub square-reach : (z : A) {x : ℚ} → Known n 16 (bounds 16 1) z x → 16 * reach n z ≤ 17 * unit n
  square-reach z known = (let far : Reaches n (sixteenths 16 + 4) z = known_reaches laws 16 _ (lit≤ tt) known (omega arith) in omega (arith, far.far))

  pub along_square-reach : 16 * reach n c.along_square ≤ 17 * unit n
  along_square-reach = square-reach c.along_square known-along_square

  pub across_square-reach : 16 * reach n c.across_square ≤ 17 * unit n
  across_square-reach = square-reach c.across_square known-across_square

  pub mixed-reach : 16 * reach n c.mixed ≤ 29 * unit n
  mixed-reach = (let far : Reaches n (sixteenths 28 + 4) c.mixed = known_reaches laws 16 _ (lit≤ tt) known-mixed (omega arith) in omega (arith, far.far))

  two : (z : A) {b : Bounds} {x : ℚ} (m : ℕ) → Known n 16 b z x → b.wide ≤ m * 16 → width n z ≤ 2 * m
  two z m known few = (let wide : width n z ≤ m * n.slop = known_narrow laws m (lit≤ tt) known few in let slop : m * n.slop ≤ m * 2 = (let swapped : n.slop * m ≤ 2 * m = mul-le-mul_right m slops in omega (arith, swapped)) in omega (arith, wide, slop))

  pub along_square-wide : width n c.along_square ≤ 2
  along_square-wide = two c.along_square 1 known-along_square (omega arith)

  pub across_square-wide : width n c.across_square ≤ 2
  across_square-wide = two c.across_square 1 known-across_square (omega arith)

  pub mixed-wide : width n c.mixed ≤ 2
  mixed-wide = two c.mixed 1 known-mixed (omega arith)

  module _ {x y s : ℤ} (hx : IsMiddle x) (hy : IsMiddle y) (hs : IsMiddle s) where
    abbrev pub m : Components A
    m = record { along = point x; across = point y; shear = point s }

    abbrev pub q : Components ℚ
    q = record { along = point-at x; across = point-at y; shear = point-at s }

    abbrev points : Components (Tracked ruled)
    points = record { along = given (known-point x hx); across = given (known-point y hy); shear = given (known-point s hs) }

    known-centre : Known n 16 (bounds 96 64) (by.centre n.calc c m) (by.centre exact k q)
    known-centre = bounded ruled (by.centre (tracked ruled) terms points) (bounds 96 64) refl

    pub centre-wide : width n (by.centre n.calc c m) ≤ 128
    centre-wide = two (by.centre n.calc c m) 64 known-centre (omega arith)

    pub centre-far : Reaches n (sixteenths 80) (by.centre n.calc c m)
    centre-far =
        let r = reach-coefficients laws h in
        let t = by.centre (ranges laws)
        (record { along = reaching r.along; across = reaching r.across; along_square = reaching r.along_square; across_square = reaching r.across_square; mixed = reaching r.mixed; one = reaching r.one })
        (record { along = reaching hx.far; across = reaching hy.far; shear = reaching hs.far }) in
        reaches_more laws (t.reaches refl) (omega arith)

    pub record IsSlope (g : A) (t : ℚ) : Type 0 where
      pub held : Holds n g t
      pub wide : width n g ≤ 64
      pub far : Reaches n (sixteenths 80) g

    slope-of : (g : A) (t : ℚ) → Known n 16 (bounds 78 32) g t → IsSlope g t
    slope-of g t known = record { held = known.held; wide = two g 32 known (omega arith); far = known_reaches laws 16 (sixteenths 80) (lit≤ tt) known (omega arith) }

    pub along-slope : IsSlope (by.slope n.calc c.along c.along_square c.mixed m.along m.across) (by.slope exact k.along k.along_square k.mixed q.along q.across)
    along-slope = slope-of _ _ (bounded ruled (by.slope (tracked ruled) terms.along terms.along_square terms.mixed points.along points.across) (bounds 78 32) refl)

    pub across-slope : IsSlope (by.slope n.calc c.across c.across_square c.mixed m.across m.along) (by.slope exact k.across k.across_square k.mixed q.across q.along)
    across-slope = slope-of _ _ (bounded ruled (by.slope (tracked ruled) terms.across terms.across_square terms.mixed points.across points.along) (bounds 78 32) refl)

    pub shear-slope : IsSlope (n.calc.quotient m.shear (pos 8)) (exact.quotient q.shear (pos 8))
    shear-slope = slope-of _ _ (bounded ruled ((tracked ruled).quotient points.shear (pos 8)) (bounds 78 32) refl)
