-- What is known of the reduced stiffness of a lamina, as it is computed.
use Rattle.std.proofs.Common.{◌≡◌, sym, ◌∙◌, ap, ap₂, w64, SFits, FitsSigned, subst, ℕ, ◌*◌, ◌≤◌, ℤ, pos, ◌*ℤ◌, ◌≤ℤ◌, ◌<ℤ◌, arith}
use Rattle.std.specs.Prelude.{◌^◌, unsigned_abs}
use Rattle.std.proofs.Math.Nat.{mul-le-mul}
use Rattle.std.proofs.lemmas.Int.{ints, to_z-of_z, unsigned_abs-mul, fits_signed_from_abs}
use Rattle.lam_fraction.specs.Fraction.{ℚ, whole, fraction, ◌/ℚ◌}
use Rattle.lam_fraction.specs.numbers.Numbers.{Numbers, Holds, Lawful, IsRatio}
use Rattle.lam_fraction.specs.inside.Known.{Known}
use Rattle.lam_fraction.proofs.Integers as Z
use Rattle.lam_fraction.proofs.Rationals.{weaken}
use Rattle.lam_fraction.proofs.numbers.Machine.{stored-64}
use Rattle.lam_fraction.proofs.numbers.Steps.{Parts}
use Rattle.lam_stock.specs.declared.item.Lamina.{Lamina}
use Rattle.lam_stock.specs.Limits.{ModuliInRange, KeepsPoisson}
use Rattle.lam_stock.specs.PlyLaw.{poisson_rest, reduced_11, reduced_12, reduced_22, reduced_66}
use Rattle.lam_lamina.specs.Covered.{IsCovered}
use Rattle.lam_lamina.specs.Held.{HoldsModuli, NarrowModuli, IsNarrow}
use Rattle.lam_lamina.specs.Stiffness.{moduli_over}
use Rattle.lam_lamina.specs.inside.Formulas as by
use Rattle.lam_lamina.specs.inside.Known.{KnownModuli, quarters}
use Rattle.lam_lamina.specs.declared.stiffness.Reduced.{Reduced}
use Rattle.lam_lamina.proofs.Moduli.{along_stiff, across_stiff, coupled_not_negative, poisson_rest_positive}
use Rattle.lam_lamina.proofs.Bounds.{elastic, spans, scale_positive, q11-at_most, q12-within, q22-at_most, q11-size, q12-size, q22-size, q66-size, fraction-over, fraction-room}

-- ---- the denominator of three of them

pub rest-least : {l : Lamina} → ModuliInRange l → KeepsPoisson l → pos 1 ≤ℤ poisson_rest l
rest-least {l} range poisson =
    let positive = poisson_rest_positive l (record { along = omega (arith, ints, range.least_e1); across = omega (arith, ints, range.least_e2); poisson = poisson.kept }) in
    omega (arith, ints, positive)

pub rest-greatest : {l : Lamina} → ModuliInRange l → poisson_rest l ≤ℤ pos 1000000000000
rest-greatest {l} range =
    let taken : pos 0 ≤ℤ ((l.n12 *ℤ l.n12) *ℤ l.e2) = Z.◌*ₙ◌ (Z.square l.n12) (omega (arith, ints, range.least_e2)) in
    omega (arith, ints, taken, range.greatest_e1)

rest_positive : {l : Lamina} {q0 : ℤ} → IsCovered q0 l → pos 0 <ℤ poisson_rest l
rest_positive h = omega (arith, ints, rest-least h.range h.poisson)

pub stored-as : {z n : ℤ} → SFits w64 z → z ≡ n → stored-64 z ≡ n
stored-as {z} f e = to_z-of_z w64 z f ∙ e

module _ {q0 : ℤ} {l : Lamina} (h : IsCovered q0 l) where
  pub denominator_positive : pos 0 <ℤ (poisson_rest l *ℤ q0)
  denominator_positive = Z.◌*ₚ◌ (rest_positive h) (scale_positive h)

  pub denominator-size : unsigned_abs (poisson_rest l *ℤ q0) ≤ 1000000000000 * 4194304
  denominator-size =
      let rest : unsigned_abs (poisson_rest l) ≤ 1000000000000 = omega (arith, ints, rest_positive h, rest-greatest h.range) in
      let scale : unsigned_abs q0 ≤ 4194304 = omega (arith, ints, scale_positive h, h.greatest) in
      let product : unsigned_abs (poisson_rest l) * unsigned_abs q0 ≤ 1000000000000 * 4194304 = mul-le-mul rest scale in
      omega (arith, unsigned_abs-mul (poisson_rest l) q0, product)

  -- ---- what is read back from 64 bits
  rest_fits : SFits w64 (poisson_rest l)
  rest_fits = omega (arith, ints, rest_positive h, rest-greatest h.range)

  pub rest-stored : {rest : ℤ} → rest ≡ poisson_rest l → stored-64 rest ≡ poisson_rest l
  rest-stored e = ap stored-64 e ∙ to_z-of_z w64 (poisson_rest l) rest_fits

  pub scale-stored : stored-64 q0 ≡ q0
  scale-stored = let f : SFits w64 q0 = omega (arith, ints, scale_positive h, h.greatest) in to_z-of_z w64 q0 f

  pub shear-stored : stored-64 l.g12 ≡ l.g12
  shear-stored = let f : SFits w64 l.g12 = omega (arith, ints, h.range.least_g12, h.range.greatest_g12) in to_z-of_z w64 l.g12 f

  fits : FitsSigned w64 (poisson_rest l *ℤ q0)
  fits = fits_signed_from_abs w64 (poisson_rest l *ℤ q0) (omega (arith, denominator-size))

  pub denominator_fits : {rest : ℤ} → rest ≡ poisson_rest l → FitsSigned w64 (rest *ℤ stored-64 q0)
  denominator_fits e = subst (FitsSigned w64) (sym (ap₂ ◌*ℤ◌ e scale-stored)) fits

  pub denominator-stored : {z rest : ℤ} → z ≡ rest *ℤ stored-64 q0 → rest ≡ poisson_rest l → stored-64 z ≡ poisson_rest l *ℤ q0
  denominator-stored e f = ap stored-64 (e ∙ ap₂ ◌*ℤ◌ f scale-stored) ∙ to_z-of_z w64 (poisson_rest l *ℤ q0) fits

  -- ---- no numerator exceeds its denominator
  pub q11-room : unsigned_abs (pos 1000000 *ℤ (l.e1 *ℤ l.e1)) ≤ unsigned_abs (poisson_rest l *ℤ q0)
  unfolding reduced_11
  q11-room = fraction-room _ (poisson_rest l) q0 (rest_positive h) (weaken (along_stiff l (elastic h))) (q11-at_most h)

  pub q12-room : unsigned_abs (pos 1000 *ℤ (l.n12 *ℤ (l.e1 *ℤ l.e2))) ≤ unsigned_abs (poisson_rest l *ℤ q0)
  unfolding reduced_12
  q12-room = fraction-room _ (poisson_rest l) q0 (rest_positive h) (coupled_not_negative l (elastic h) h.range.least_n12) (q12-within h)

  pub q22-room : unsigned_abs (pos 1000000 *ℤ (l.e1 *ℤ l.e2)) ≤ unsigned_abs (poisson_rest l *ℤ q0)
  unfolding reduced_22
  q22-room = fraction-room _ (poisson_rest l) q0 (rest_positive h) (weaken (across_stiff l (elastic h))) (q22-at_most h)

  pub q66-room : unsigned_abs l.g12 ≤ unsigned_abs q0
  q66-room = omega (arith, ints, (spans h).shear, h.range.least_g12)

-- ---- the four

-- a fraction of no more than one in size
pub ratio-is : {A : Type 0} {n : Numbers A} → Lawful n → (k d : ℤ) → pos 0 <ℤ d → unsigned_abs d ≤ 2 ^ 66 → unsigned_abs k ≤ unsigned_abs d → IsRatio n k d (n.calc.ratio k d)
ratio-is laws k d positive den small = laws.ratio k d (record { positive = positive; den = den; num = omega (arith, small, den); room = omega (arith, small) })

pub known-of : {A : Type 0} {n : Numbers A} {z : A} {x : ℚ} (size : ℕ) → Holds n z x → IsNarrow 1 n z → Parts 4 size x → Known n 4 (quarters size 1) z x
known-of size held narrow parts = record { held = held; narrow = omega (arith, narrow); least = parts.0; most = parts.1 }

module _ {A : Type 0} {n : Numbers A} {q0 : ℤ} {l : Lamina} (h : IsCovered q0 l) where
  -- four enclosures that hold the moduli and are narrow are known
  pub known-held : {r : Reduced A} → HoldsModuli n r (moduli_over q0 l) → NarrowModuli 1 n r → KnownModuli n r (moduli_over q0 l)
  known-held held narrow = record {
    q11 = known-of 4 held.q11 narrow.q11 (q11-size h);
    q12 = known-of 2 held.q12 narrow.q12 (q12-size h);
    q22 = known-of 4 held.q22 narrow.q22 (q22-size h);
    q66 = known-of 2 held.q66 narrow.q66 (q66-size h);
  }

  module _ (laws : Lawful n) where
    over-rest : (k : ℤ) → unsigned_abs k ≤ unsigned_abs (poisson_rest l *ℤ q0) → IsRatio n k (poisson_rest l *ℤ q0) (n.calc.ratio k (poisson_rest l *ℤ q0))
    over-rest k small = ratio-is laws k (poisson_rest l *ℤ q0) (denominator_positive h) (omega (arith, denominator-size h)) small

    shear-is : IsRatio n l.g12 q0 (n.calc.ratio l.g12 q0)
    shear-is = ratio-is laws l.g12 q0 (scale_positive h) (omega (arith, ints, scale_positive h, h.greatest)) (q66-room h)

    held-over : (k : ℤ) → unsigned_abs k ≤ unsigned_abs (poisson_rest l *ℤ q0) → Holds n (n.calc.ratio k (poisson_rest l *ℤ q0)) (fraction k (poisson_rest l) /ℚ whole q0)
    held-over k small = subst (Holds n _) (fraction-over k (poisson_rest l) q0 (rest_positive h) (scale_positive h)) (over-rest k small).held

    pub held-reduced : HoldsModuli n (by.reduced n.calc q0 l) (moduli_over q0 l)
    unfolding moduli_over reduced_11 reduced_12 reduced_22 reduced_66 fraction
    held-reduced = record { q11 = held-over _ (q11-room h); q12 = held-over _ (q12-room h); q22 = held-over _ (q22-room h); q66 = shear-is.held }

    pub narrow-reduced : NarrowModuli 1 n (by.reduced n.calc q0 l)
    narrow-reduced =
        let one : (w : ℕ) → w ≤ n.slop → w ≤ 1 * n.slop = λ w h. omega (arith, h) in
        record {
          q11 = one _ (over-rest _ (q11-room h)).narrow;
          q12 = one _ (over-rest _ (q12-room h)).narrow;
          q22 = one _ (over-rest _ (q22-room h)).narrow;
          q66 = one _ shear-is.narrow;
        }

    pub known-reduced : KnownModuli n (by.reduced n.calc q0 l) (moduli_over q0 l)
    known-reduced = known-held held-reduced narrow-reduced
