-- What is known of the powers of a direction's cosine and sine, as they are computed.
use Rattle.std.proofs.Common.{refl, ◌≡◌, sym, ◌∙◌, ap₂, subst, ℕ, ◌*◌, ◌≤◌, ℤ, pos, ◌*ℤ◌, ◌<ℤ◌, arith}
use Rattle.std.specs.Prelude.{unsigned_abs}
use Rattle.std.proofs.Math.Nat.{mul-le-mul}
use Rattle.std.proofs.lemmas.Int.{ints, unsigned_abs-mul}
use Rattle.lam_fraction.specs.Fraction.{ℚ, fraction, ◌*ℚ◌}
use Rattle.lam_fraction.specs.numbers.Numbers.{Numbers, Holds, Lawful}
use Rattle.lam_fraction.specs.inside.Known.{Known}
use Rattle.lam_fraction.proofs.FractionPairs.{fraction-product}
use Rattle.lam_fraction.proofs.Integers as Z
use Rattle.lam_fraction.proofs.numbers.Steps.{Parts}
use Rattle.lam_direction.proofs.SquareBounds.{squares-within}
use Rattle.lam_direction.specs.Circle.{CirclePoint, IsDirection}
use Rattle.lam_stock.specs.PlyLaw.{cosine, sine}
use Rattle.lam_lamina.specs.inside.Formulas as by
use Rattle.lam_lamina.specs.inside.Known.{KnownPowers, quarters}
use Rattle.lam_direction.specs.Squares.{squares_of}
use Rattle.lam_lamina.proofs.Identities.{powers_at}
use Rattle.lam_lamina.proofs.Fourths.{power-size, cosine-square, sine-square, both-product, fourth-size, squares-size, third-size, sine-fourth-size, sine-third-size}
use Rattle.lam_lamina.proofs.ReducedKnown.{ratio-is, known-of}
use Rattle.lam_stock.proofs.Angles.{direction-angle}

module _ {A : Type 0} {n : Numbers A} (laws : Lawful n) {d : CirclePoint} (h : IsDirection d) where
  abbrev size : ℤ
  size = d.h *ℤ d.h

  size_positive : pos 0 <ℤ size
  size_positive = let least = (squares-within h refl).least in omega (arith, ints, least)

  power : (a b : ℤ) {x y : ℚ} (parts : ℕ) → unsigned_abs a ≤ unsigned_abs size → unsigned_abs b ≤ unsigned_abs size → fraction a size ≡ x → fraction b size ≡ y → Parts 4 parts (x *ℚ y)
      → Known n 4 (quarters parts 1) (n.calc.ratio (a *ℤ b) (size *ℤ size)) (x *ℚ y)
  power a b {x} {y} parts first second e f small =
      let most : unsigned_abs size ≤ 1000000 = omega (arith, ints, size_positive, (squares-within h refl).greatest) in
      let product : unsigned_abs size * unsigned_abs size ≤ 1000000 * 1000000 = mul-le-mul most most in
      let is = ratio-is laws (a *ℤ b) (size *ℤ size) (Z.◌*ₚ◌ size_positive size_positive) (omega (arith, unsigned_abs-mul size size, product)) (power-size a b size first second) in
      known-of parts (subst (Holds n _) (sym (fraction-product a size b size size_positive size_positive) ∙ ap₂ ◌*ℚ◌ e f) is.held) (omega (arith, is.narrow)) small

  pub known-powers : KnownPowers n (by.powers n.calc (squares_of d)) (powers_at (cosine d) (sine d))
  known-powers =
      let t = squares-within h refl in
      let angle = direction-angle h in
      let cc = cosine-square h in
      let ss = sine-square h in
      let sc = both-product h in
      record {
        cosine_fourth = power _ _ 4 t.cosine_square t.cosine_square cc cc (fourth-size _ _ angle);
        sine_fourth = power _ _ 4 t.sine_square t.sine_square ss ss (sine-fourth-size _ _ angle);
        squares = power _ _ 1 t.sine_square t.cosine_square ss cc (squares-size _ _ angle);
        cosine_third = power _ _ 2 t.product t.cosine_square sc cc (third-size _ _ angle);
        sine_third = power _ _ 2 t.product t.sine_square sc ss (sine-third-size _ _ angle);
      }
