-- The matrices of a wall are determined by its sums.
use Rattle.std.proofs.Common.{◌≡◌, refl, sym, ◌∙◌, ap, ℤ, pos, ◌*ℤ◌, ◌<ℤ◌, List, arith}
use Rattle.std.proofs.lemmas.Int.{ints}
use Rattle.lam_fraction.specs.inside.WholeNumbers.{product_positive}
use Rattle.lam_fraction.specs.Fraction.{ℚ, whole, ◌+ℚ◌}
use Rattle.lam_fraction.proofs.Expression.{int, ◌⊕◌, ◌⊗◌}
use Rattle.lam_fraction.proofs.Solver.{◌≐◌}
use Rattle.lam_fraction.proofs.Rationals.{solve, same_without_factor}
use Rattle.lam_stock.specs.declared.item.Item.{Item}
use Rattle.lam_stock.specs.PlyLaw.{OffAxis}
use Rattle.lam_stock.proofs.EnergyTransformed.{same_off_axis}
use Rattle.lam_job.specs.Wall.{wall_thickness}
use Rattle.lam_wall.specs.Matrices.{Matrices, bending_strain, forces, moments}
use Rattle.lam_wall.specs.MatrixLaw.{AreMatrices, OnlyMatrices, times}
use Rattle.lam_fraction.proofs.FractionBounds.{whole_positive}
use Rattle.lam_wall.proofs.LinearSums.{row}
use Rattle.lam_wall.proofs.Strains.{laminate_strain, bending_of_curvature}

-- ---- equal linear forms have equal coefficients

abbrev SameRows : ℚ → ℚ → ℚ → ℚ → ℚ → ℚ → ℚ → ℚ → ℚ → ℚ → ℚ → ℚ → Type 0
SameRows a b c d e f g h i j k l = (u v w x y z : ℚ) → row a b c u v w +ℚ row d e f x y z ≡ row g h i u v w +ℚ row j k l x y z

same_coefficients : (a b c d e f g h i j k l : ℚ) → SameRows a b c d e f g h i j k l → (a ≡ g) × (b ≡ h) × (c ≡ i) × (d ≡ j) × (e ≡ k) × (f ≡ l)
same_coefficients a b c d e f g h i j k l same = (
  sym (first a b c d e f) ∙ same one zero zero zero zero zero ∙ first g h i j k l,
  sym (second a b c d e f) ∙ same zero one zero zero zero zero ∙ second g h i j k l,
  sym (third a b c d e f) ∙ same zero zero one zero zero zero ∙ third g h i j k l,
  sym (fourth a b c d e f) ∙ same zero zero zero one zero zero ∙ fourth g h i j k l,
  sym (fifth a b c d e f) ∙ same zero zero zero zero one zero ∙ fifth g h i j k l,
  sym (sixth a b c d e f) ∙ same zero zero zero zero zero one ∙ sixth g h i j k l,
)
  where
    zero : ℚ
    zero = whole (pos 0)

    one : ℚ
    one = whole (pos 1)

    first : (a b c d e f : ℚ) → row a b c one zero zero +ℚ row d e f zero zero zero ≡ a
    first = solve 6 (λ a b c d e f. (a ⊗ int (pos 1) ⊕ b ⊗ int (pos 0) ⊕ c ⊗ int (pos 0)) ⊕ (d ⊗ int (pos 0) ⊕ e ⊗ int (pos 0) ⊕ f ⊗ int (pos 0)) ≐ a) refl

    second : (a b c d e f : ℚ) → row a b c zero one zero +ℚ row d e f zero zero zero ≡ b
    second = solve 6 (λ a b c d e f. (a ⊗ int (pos 0) ⊕ b ⊗ int (pos 1) ⊕ c ⊗ int (pos 0)) ⊕ (d ⊗ int (pos 0) ⊕ e ⊗ int (pos 0) ⊕ f ⊗ int (pos 0)) ≐ b) refl

    third : (a b c d e f : ℚ) → row a b c zero zero one +ℚ row d e f zero zero zero ≡ c
    third = solve 6 (λ a b c d e f. (a ⊗ int (pos 0) ⊕ b ⊗ int (pos 0) ⊕ c ⊗ int (pos 1)) ⊕ (d ⊗ int (pos 0) ⊕ e ⊗ int (pos 0) ⊕ f ⊗ int (pos 0)) ≐ c) refl

    fourth : (a b c d e f : ℚ) → row a b c zero zero zero +ℚ row d e f one zero zero ≡ d
    fourth = solve 6 (λ a b c d e f. (a ⊗ int (pos 0) ⊕ b ⊗ int (pos 0) ⊕ c ⊗ int (pos 0)) ⊕ (d ⊗ int (pos 1) ⊕ e ⊗ int (pos 0) ⊕ f ⊗ int (pos 0)) ≐ d) refl

    fifth : (a b c d e f : ℚ) → row a b c zero zero zero +ℚ row d e f zero one zero ≡ e
    fifth = solve 6 (λ a b c d e f. (a ⊗ int (pos 0) ⊕ b ⊗ int (pos 0) ⊕ c ⊗ int (pos 0)) ⊕ (d ⊗ int (pos 0) ⊕ e ⊗ int (pos 1) ⊕ f ⊗ int (pos 0)) ≐ e) refl

    sixth : (a b c d e f : ℚ) → row a b c zero zero zero +ℚ row d e f zero zero one ≡ f
    sixth = solve 6 (λ a b c d e f. (a ⊗ int (pos 0) ⊕ b ⊗ int (pos 0) ⊕ c ⊗ int (pos 0)) ⊕ (d ⊗ int (pos 0) ⊕ e ⊗ int (pos 0) ⊕ f ⊗ int (pos 1)) ≐ f) refl

-- ---- the matrices

-- matrices of one wall give the same forces and moments
module _ (q0 : ℤ) (wall : List Item) (m n : Matrices) (scale_above : pos 0 <ℤ q0) (above : pos 0 <ℤ wall_thickness wall)
    (are_m : AreMatrices q0 wall m) (are_n : AreMatrices q0 wall n) where
  abbrev h : ℤ
  h = wall_thickness wall

  cancelled : {t u v : OffAxis} (k : ℤ) → pos 0 <ℤ k → t ≡ times (whole k) u → t ≡ times (whole k) v → u ≡ v
  cancelled k k_above p q =
      same_off_axis (same_without_factor (whole k) (whole_positive k_above) (ap (λ t. t.x) (sym p ∙ q)))
      (same_without_factor (whole k) (whole_positive k_above) (ap (λ t. t.y) (sym p ∙ q)))
      (same_without_factor (whole k) (whole_positive k_above) (ap (λ t. t.s) (sym p ∙ q)))

  four : pos 0 <ℤ (pos 4 *ℤ (h *ℤ q0))
  four = product_positive (pos 4) (h *ℤ q0) (omega (arith, ints)) (product_positive h q0 above scale_above)

  six : pos 0 <ℤ (pos 6 *ℤ (h *ℤ (h *ℤ q0)))
  six = product_positive (pos 6) (h *ℤ (h *ℤ q0)) (omega (arith, ints)) (product_positive h (h *ℤ q0) above (product_positive h q0 above scale_above))

  -- at each laminate strain, so at all mid-plane and bending strains
  at_all : (give : Matrices → OffAxis → OffAxis → OffAxis) (e k : OffAxis)
      → give m e (bending_strain h (laminate_strain h e k).curvature) ≡ give n e (bending_strain h (laminate_strain h e k).curvature)
      → give m e k ≡ give n e k
  at_all give e k same = sym (ap (give m e) (bending_of_curvature h above k)) ∙ same ∙ ap (give n e) (bending_of_curvature h above k)

  same_forces : (e k : OffAxis) → forces m e k ≡ forces n e k
  same_forces e k = at_all forces e k (cancelled (pos 4 *ℤ (h *ℤ q0)) four (are_m (laminate_strain h e k)).forces (are_n (laminate_strain h e k)).forces)

  same_moments : (e k : OffAxis) → moments m e k ≡ moments n e k
  same_moments e k = at_all moments e k (cancelled (pos 6 *ℤ (h *ℤ (h *ℤ q0))) six (are_m (laminate_strain h e k)).moments (are_n (laminate_strain h e k)).moments)

  same_matrices : m ≡ n
  same_matrices =
      let fx = same_coefficients m.a.xx m.a.xy m.a.xs m.b.xx m.b.xy m.b.xs n.a.xx n.a.xy n.a.xs n.b.xx n.b.xy n.b.xs
      (λ u v w x y z. ap (λ t. t.x) (same_forces (record { x = u; y = v; s = w }) (record { x = x; y = y; s = z }))) in
      let fy = same_coefficients m.a.xy m.a.yy m.a.ys m.b.xy m.b.yy m.b.ys n.a.xy n.a.yy n.a.ys n.b.xy n.b.yy n.b.ys
      (λ u v w x y z. ap (λ t. t.y) (same_forces (record { x = u; y = v; s = w }) (record { x = x; y = y; s = z }))) in
      let fs = same_coefficients m.a.xs m.a.ys m.a.ss m.b.xs m.b.ys m.b.ss n.a.xs n.a.ys n.a.ss n.b.xs n.b.ys n.b.ss
      (λ u v w x y z. ap (λ t. t.s) (same_forces (record { x = u; y = v; s = w }) (record { x = x; y = y; s = z }))) in
      let mx = same_coefficients m.b.xx m.b.xy m.b.xs m.d.xx m.d.xy m.d.xs n.b.xx n.b.xy n.b.xs n.d.xx n.d.xy n.d.xs
      (λ u v w x y z. ap (λ t. t.x) (same_moments (record { x = u; y = v; s = w }) (record { x = x; y = y; s = z }))) in
      let my = same_coefficients m.b.xy m.b.yy m.b.ys m.d.xy m.d.yy m.d.ys n.b.xy n.b.yy n.b.ys n.d.xy n.d.yy n.d.ys
      (λ u v w x y z. ap (λ t. t.y) (same_moments (record { x = u; y = v; s = w }) (record { x = x; y = y; s = z }))) in
      let ms = same_coefficients m.b.xs m.b.ys m.b.ss m.d.xs m.d.ys m.d.ss n.b.xs n.b.ys n.b.ss n.d.xs n.d.ys n.d.ss
      (λ u v w x y z. ap (λ t. t.s) (same_moments (record { x = u; y = v; s = w }) (record { x = x; y = y; s = z }))) in
      λ i. record {
        a = record { xx = fx.0 i; xy = fx.1 i; yy = fy.1 i; xs = fx.2 i; ys = fy.2 i; ss = fs.2 i };
        b = record { xx = fx.3 i; xy = fx.4 i; yy = fy.4 i; xs = fx.5 i; ys = fy.5 i; ss = fs.5 i };
        d = record { xx = mx.3 i; xy = mx.4 i; yy = my.4 i; xs = mx.5 i; ys = my.5 i; ss = ms.5 i };
      }

pub only_matrices : OnlyMatrices
only_matrices = same_matrices
