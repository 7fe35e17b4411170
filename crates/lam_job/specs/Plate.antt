-- Buckling of a simply supported rectangular plate under uniaxial compression (Jones, specially orthotropic plates).
use Rattle.std.specs.Prelude.{◌≡◌, ℕ, ◌≤◌, pos, ◌*◌, ◌*ℤ◌, List, Some, slice_get, IsSomeAnd}
use Rattle.lam_fraction.specs.Fraction.{ℚ, whole, fraction, ◌+ℚ◌, ◌*ℚ◌, ◌/ℚ◌, ◌≤ℚ◌}
use Rattle.lam_stock.specs.declared.item.Item.{Item}
use Rattle.lam_stock.specs.declared.item.ItemNo.{ItemNo}
use Rattle.lam_stock.specs.PlyLaw.{OffAxis, two}
use Rattle.lam_job.specs.JobData.{PanelData, JobData}
use Rattle.lam_job.specs.Schedule.{wall_of}
use Rattle.lam_job.specs.LaminateStrain.{LaminateStrain}
use Rattle.lam_job.specs.Equilibrium.{moment_sum}

abbrev pub at_rest : OffAxis
at_rest = record { x = whole (pos 0); y = whole (pos 0); s = whole (pos 0) }

-- the wall bent along x, along y, or twisted, by 1 per µm, with its mid-plane unstrained
abbrev pub bent_x : LaminateStrain
bent_x = record { mid_plane = at_rest; curvature = record at_rest { x = whole (pos 1) } }

abbrev pub bent_y : LaminateStrain
bent_y = record { mid_plane = at_rest; curvature = record at_rest { y = whole (pos 1) } }

abbrev pub twisted : LaminateStrain
twisted = record { mid_plane = at_rest; curvature = record at_rest { s = whole (pos 1) } }

-- a moment in MPa µm²: a twelfth of the moment sum
abbrev pub moment_of : (OffAxis → ℚ) → LaminateStrain → List Item → ℚ
moment_of of f wall = moment_sum of f wall /ℚ whole (pos 12)

-- the bending stiffnesses of a wall in MPa µm³, as the moments of unit curvatures
abbrev pub stiffness_11 : List Item → ℚ
stiffness_11 wall = moment_of (λ t. t.x) bent_x wall

abbrev pub stiffness_12 : List Item → ℚ
stiffness_12 wall = moment_of (λ t. t.x) bent_y wall

abbrev pub stiffness_22 : List Item → ℚ
stiffness_22 wall = moment_of (λ t. t.y) bent_y wall

abbrev pub stiffness_66 : List Item → ℚ
stiffness_66 wall = moment_of (λ t. t.s) twisted wall

-- π², with 333/106 for π, which is a little below it
abbrev pub circle_square : ℚ
circle_square = fraction (pos (333 * 333)) (pos (106 * 106))

-- the load per width in N/m under which a plate of length a and width b in mm buckles into m half waves:
-- π² (D11 m²/a² + 2 (D12 + 2 D66)/b² + D22 a²/(b⁴ m²)); below, aa, bb and mm are the squares of a, b and m
abbrev pub buckling_load : List Item → PanelData → ℕ → ℚ
buckling_load wall panel m =
    let aa = panel.length *ℤ panel.length in
    let bb = panel.width *ℤ panel.width in
    let mm = pos (m * m) in
    circle_square
    *ℚ (stiffness_11 wall *ℚ fraction mm aa
    +ℚ two *ℚ (stiffness_12 wall +ℚ two *ℚ stiffness_66 wall) /ℚ whole bb
    +ℚ stiffness_22 wall *ℚ fraction aa ((bb *ℤ bb) *ℤ mm))
    /ℚ whole (pos 1000000)

-- r thousandths of the load of a panel
abbrev pub panel_load : PanelData → ℚ → ℚ
panel_load panel r = r *ℚ fraction panel.load (pos 1000)

-- a panel of the wall stands r thousandths of its load, whatever the number of half waves
abbrev pub PanelAtLeast : List Item → PanelData → ℚ → Type 0
PanelAtLeast wall panel r = (m : ℕ) → 1 ≤ m → panel_load panel r ≤ℚ buckling_load wall panel m

-- ---- panels of a job by number, from 0. A panel that is not there stands any load, and does not buckle

abbrev pub PanelRatio : List Item → JobData → List ItemNo → ℕ → ℚ → Type 0
PanelRatio stock job listed panel r =
    (p : PanelData) → slice_get job.panels panel ≡ Some p → PanelAtLeast (wall_of stock job listed) p r

-- the panel is there, and does not stand its factor times its load
abbrev pub Buckles : List Item → JobData → List ItemNo → ℕ → Type 0
Buckles stock job listed panel =
    IsSomeAnd (slice_get job.panels panel) (λ p. ¬ PanelAtLeast (wall_of stock job listed) p (whole p.factor))
