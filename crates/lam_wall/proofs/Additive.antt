-- The stress of a layer is additive in the strain.
use Rattle.std.proofs.Common.{◌≡◌, refl, ◌∙◌, ap₂, pos, [], ◌∷◌}
use Rattle.lam_fraction.specs.Fraction.{ℚ, fraction, ◌+ℚ◌}
use Rattle.lam_fraction.proofs.Rationals.{quotes, by_ring}
use Rattle.lam_direction.specs.Circle.{CirclePoint}
use Rattle.lam_stock.specs.declared.item.Item.{Item}
use Rattle.lam_stock.specs.declared.item.Lamina.{Lamina}
use Rattle.lam_stock.specs.declared.item.Kind.{Kind}
use Rattle.lam_stock.specs.declared.item.Kind.TheVariants.{Ply, Pair}
use Rattle.lam_stock.specs.PlyLaw.{OffAxis, ply_stress, strain_on_axis, stress_off_axis, cosine, sine, Side, Plus, Minus, side_point, side_wall_stress, layer_stress, mean, reduced_11, reduced_12, reduced_22, reduced_66}
use Rattle.lam_stock.proofs.EnergyTransformed.{same_off_axis}
use Rattle.lam_lamina.proofs.Identities.{mean_stress}
use Rattle.lam_job.specs.Equilibrium.{item_stress}
use Rattle.lam_wall.specs.Matrices.{added}

-- ---- at the cosine c and the sine s of an angle
abbrev stress_at : Lamina → ℚ → ℚ → OffAxis → OffAxis
stress_at l c s e = stress_off_axis c s (ply_stress l (strain_on_axis c s e))

stress-sum-x : (l : Lamina) (c s : ℚ) (u v : OffAxis) → (stress_at l c s (added u v)).x ≡ (stress_at l c s u).x +ℚ (stress_at l c s v).x
stress-sum-x l c s u v = by_ring (c ∷ s ∷ reduced_11 l ∷ reduced_12 l ∷ reduced_22 l ∷ reduced_66 l ∷ u.x ∷ u.y ∷ u.s ∷ v.x ∷ v.y ∷ v.s ∷ []) (search quotes depth 40 fits 9000) refl

stress-sum-y : (l : Lamina) (c s : ℚ) (u v : OffAxis) → (stress_at l c s (added u v)).y ≡ (stress_at l c s u).y +ℚ (stress_at l c s v).y
stress-sum-y l c s u v = by_ring (c ∷ s ∷ reduced_11 l ∷ reduced_12 l ∷ reduced_22 l ∷ reduced_66 l ∷ u.x ∷ u.y ∷ u.s ∷ v.x ∷ v.y ∷ v.s ∷ []) (search quotes depth 40 fits 9000) refl

stress-sum-s : (l : Lamina) (c s : ℚ) (u v : OffAxis) → (stress_at l c s (added u v)).s ≡ (stress_at l c s u).s +ℚ (stress_at l c s v).s
stress-sum-s l c s u v = by_ring (c ∷ s ∷ reduced_11 l ∷ reduced_12 l ∷ reduced_22 l ∷ reduced_66 l ∷ u.x ∷ u.y ∷ u.s ∷ v.x ∷ v.y ∷ v.s ∷ []) (search quotes depth 40 fits 9000) refl

side-sum : (l : Lamina) (d : CirclePoint) (side : Side) (u v : OffAxis) → side_wall_stress l d side (added u v) ≡ added (side_wall_stress l d side u) (side_wall_stress l d side v)
side-sum l d side u v =
    let c = cosine (side_point side d) in
    let s = sine (side_point side d) in
    same_off_axis (stress-sum-x l c s u v) (stress-sum-y l c s u v) (stress-sum-s l c s u v)

-- ---- a layer
mean-sum : (a b c d : ℚ) → mean (a +ℚ b) (c +ℚ d) ≡ mean a c +ℚ mean b d
mean-sum a b c d = by_ring (a ∷ b ∷ c ∷ d ∷ fraction (pos 1) (pos 2) ∷ []) (search quotes depth 20) refl

mean_stress-sum : (a b c d : OffAxis) → mean_stress (added a b) (added c d) ≡ added (mean_stress a c) (mean_stress b d)
mean_stress-sum a b c d = same_off_axis (mean-sum a.x b.x c.x d.x) (mean-sum a.y b.y c.y d.y) (mean-sum a.s b.s c.s d.s)

layer-sum : (kind : Kind) (l : Lamina) (d : CirclePoint) (u v : OffAxis) → layer_stress kind l d (added u v) ≡ added (layer_stress kind l d u) (layer_stress kind l d v)
layer-sum Ply l d u v = side-sum l d Plus u v
layer-sum Pair l d u v =
    ap₂ mean_stress (side-sum l d Plus u v) (side-sum l d Minus u v)
    ∙ mean_stress-sum (side_wall_stress l d Plus u) (side_wall_stress l d Plus v) (side_wall_stress l d Minus u) (side_wall_stress l d Minus v)

pub stress-sum : (i : Item) (u v : OffAxis) → item_stress i (added u v) ≡ added (item_stress i u) (item_stress i v)
stress-sum i u v = layer-sum i.kind i.lamina i.dir u v
