-- What is computed of a schedule or of a partial one, as functions: a checker computes the same as the search did.
use Rattle.std.specs.Prelude.{ℕ, List, Option}
use Rattle.lam_stock.specs.declared.item.Item.{Item}
use Rattle.lam_stock.specs.declared.item.ItemNo.{ItemNo}
use Rattle.lam_job.specs.Partial.{Partial}
use Rattle.lam_support.specs.declared.weight.Weight.{Weight}
use Rattle.lam_tsai.specs.declared.place.Place.{Place}
use Rattle.lam_tree.specs.declared.node.Word.{Word}

pub record Tests : Type 0 where
  -- how much of a weighted force the layer of an item carries
  pub capacity : Item → Weight → ℕ
  -- how a schedule is judged, as the word of its leaf
  pub judged : List ItemNo → Word
  -- the printed ratio of a schedule under a case, of a wall ply, and the printed ratio of a panel, if the schedule is fit
  pub ratio : List ItemNo → (case ply : ℕ) → ℕ
  pub panel : List ItemNo → (panel : ℕ) → Option ℕ
  -- where all completions in range fail under a case, if such a place is found
  pub boxed : Partial → (case : ℕ) → Option Place
