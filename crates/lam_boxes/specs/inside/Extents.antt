-- How thick the completions of a partial schedule are at most and at least, where the liner carries no load.
use Rattle.std.specs.Prelude.{ℤ, pos, ◌+ℤ◌, ◌*ℤ◌, List, fold}
use Rattle.std.specs.Int.{int_min}
use Rattle.lam_stock.specs.LimitNumbers.{greatest_thickness}
use Rattle.lam_stock.specs.declared.item.Item.{Item}
use Rattle.lam_job.specs.JobData.{JobData}
use Rattle.lam_job.specs.Partial.{Partial, fixed_plies, open_places, thickest}
use Rattle.lam_job.specs.Schedule.{items_of}
use Rattle.lam_job.specs.Wall.{wall_thickness}

-- the least thickness of an item, in µm
abbrev pub thinnest : List Item → ℤ
thinnest stock = fold (λ least i. int_min least i.lamina.t) greatest_thickness stock

-- the plies that every completion has
abbrev pub fixed_items : List Item → JobData → Partial → List Item
fixed_items stock job p = items_of stock (fixed_plies job p)

-- how thick a completion is with plies of a thickness t at each open place
abbrev pub filled : ℤ → List Item → JobData → Partial → ℤ
filled t stock job p = wall_thickness (fixed_items stock job p) +ℤ pos (open_places job p) *ℤ t

abbrev pub most_thick : List Item → JobData → Partial → ℤ
most_thick stock job p = filled (thickest stock) stock job p

abbrev pub least_thick : List Item → JobData → Partial → ℤ
least_thick stock job p = filled (thinnest stock) stock job p
