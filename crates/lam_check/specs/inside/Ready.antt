-- What a checker has made before it begins.
use Rattle.std.specs.Prelude.{List}
use Rattle.lam_stock.specs.declared.item.Item.{Item}
use Rattle.lam_job.specs.JobData.{JobData}
use Rattle.lam_job.specs.Schedule.{IsJobFor}
use Rattle.lam_judge.specs.declared.tables.Tables.{Tables}
use Rattle.lam_judge.specs.inside.Tables.{AreTablesOf}
use Rattle.lam_bounds.specs.declared.bounds.Bounds.{Bounds}
use Rattle.lam_bounds.specs.inside.Tables.{AreBoundsOf}
use Rattle.lam_boxes.specs.declared.tables.BoxTables.{BoxTables}
use Rattle.lam_boxes.specs.inside.Tables.{AreBoxTablesOf}

-- the job is one of the catalogue, and what is made once is theirs
pub record IsReady (stock : List Item) (job : JobData) (tables : Tables) (bounds : Bounds) (boxes : BoxTables) : Type 0 where
  pub job_for : IsJobFor stock job
  pub are_tables : AreTablesOf stock tables
  pub are_bounds : AreBoundsOf stock job bounds
  pub are_boxes : AreBoxTablesOf stock boxes
