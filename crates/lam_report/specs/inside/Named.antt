-- What is known of the schedule that an answer names.
use Rattle.std.specs.Prelude.{List, ⊤}
use Rattle.lam_stock.specs.declared.item.Item.{Item}
use Rattle.lam_tree.specs.declared.report.Answer.{Answer}
use Rattle.lam_tree.specs.declared.report.Answer.TheVariants as answer
use Rattle.lam_tree.specs.ReportRanges.{AreListed, IsSpot}

abbrev pub IsNamed : List Item → Answer → Type 0
IsNamed stock (answer.OpenStraddle near) = AreListed stock near.plies × IsSpot near.at
IsNamed stock other = ⊤
