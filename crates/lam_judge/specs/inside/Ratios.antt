-- The printed ratios of a schedule, as they are computed, over 60 bits.
use Rattle.std.specs.Prelude.{ℕ, ℤ, List, length, map, flat_map, if◌then◌else◌, Some, None}
use Rattle.lam_fraction.specs.numbers.Numbers.{Numbers}
use Rattle.lam_stock.specs.declared.item.Item.{Item}
use Rattle.lam_stock.specs.declared.item.ItemNo.{ItemNo}
use Rattle.lam_stock.specs.declared.scale.Scale.{Scale}
use Rattle.lam_stock.specs.Scale.{scale_of}
use Rattle.lam_job.specs.declared.load.Load.{Load}
use Rattle.lam_job.specs.JobData.{CaseData, PanelData, JobData}
use Rattle.lam_job.specs.LoadOf.{load_of}
use Rattle.lam_job.specs.Schedule.{wall_of}
use Rattle.lam_job.specs.Wall.{Placed, placed_plies}
use Rattle.lam_wall.specs.declared.wall.Wall.{Wall}
use Rattle.lam_plate.specs.inside.Formulas as plate
use Rattle.lam_tsai.specs.inside.Halving as tsai
use Rattle.lam_judge.specs.Printed.{Printed}
use Rattle.lam_judge.specs.inside.Judged.{face_strain, matrices}
use Rattle.lam_judge.specs.inside.Kept.{is_fit}
use Rattle.lam_judge.specs.inside.Scales.{fine}

-- of a panel of a wall of these matrices
unfoldable pub panel_ratio : {A : Type 0} → Numbers A → ℤ → Wall A → PanelData → ℕ
panel_ratio n q0 w panel = plate.printed_panel n q0 w panel

module _ (scale : Scale) (wall : List Item) where
  -- of a ply under a load
  unfoldable pub ply_ratio : Load → Placed → ℕ
  ply_ratio load p =
      tsai.printed_ratio fine p.item scale (face_strain fine scale wall load p.inner) (face_strain fine scale wall load p.outer)

  -- of each ply under a case
  abbrev pub case_ratios : CaseData → List ℕ
  case_ratios case = map (ply_ratio (load_of case.kind)) (placed_plies wall)

unfoldable pub printed : List Item → JobData → List ItemNo → Printed
printed stock job listed =
    let wall = wall_of stock job listed in
    record {
      plies = length wall;
      ratios = flat_map (case_ratios (scale_of stock) wall) job.cases;
      panels = if is_fit stock job listed then Some (map (panel_ratio fine (scale_of stock).q0 (matrices fine (scale_of stock) wall)) job.panels) else None;
    }
