-- What a box of strains says, where it shows a place.
use Rattle.std.specs.Prelude.{◌≡◌, ℕ, List, Some, slice_get}
use Rattle.lam_stock.specs.declared.item.Item.{Item}
use Rattle.lam_job.specs.JobData.{CaseData, JobData}
use Rattle.lam_job.specs.Partial.{Partial}
use Rattle.lam_tree.specs.Closings.{MayBox}
use Rattle.lam_tree.specs.Words.{AllFailAt}
use Rattle.lam_tsai.specs.declared.place.Place.{Place}
use Rattle.lam_boxes.specs.inside.Boxes.{boxed}

-- for each case that a box may be asked of: every completion that is in range for it fails at the place
abbrev pub BoxesAreTrue : List Item → JobData → Partial → Type 0
BoxesAreTrue stock job p = (case : ℕ) (c : CaseData) (at : Place)
    → slice_get job.cases case ≡ Some c → MayBox job c → boxed stock job p case ≡ Some at → AllFailAt stock job p at
