-- What is computed of schedules, as a checker and a search compute it.
use Rattle.std.specs.Prelude.{List}
use Rattle.lam_stock.specs.declared.item.Item.{Item}
use Rattle.lam_job.specs.JobData.{JobData}
use Rattle.lam_tree.specs.declared.spot.Spot.TheVariants.{Ply, Panel}
use Rattle.lam_tree.specs.declared.node.Word.{Word}
use Rattle.lam_tree.specs.declared.node.Word.TheVariants as word
use Rattle.lam_tree.specs.Tests.{Tests}
use Rattle.lam_judge.specs.declared.judgement.Judgement.{Judgement}
use Rattle.lam_judge.specs.declared.judgement.Judgement.TheVariants as judgement
use Rattle.lam_judge.specs.Printed.{ratio_of, panel_of}
use Rattle.lam_judge.specs.inside.Judged.{judged}
use Rattle.lam_judge.specs.inside.Ratios.{printed}
use Rattle.lam_bounds.specs.inside.Computed.{capacity_value}
use Rattle.lam_boxes.specs.inside.Boxes.{boxed}

-- the word of a leaf whose only schedule is judged so
abbrev pub word_of : Judgement → Word
word_of judgement.Admissible = word.Admissible
word_of (judgement.Broken rule) = word.Rule rule
word_of (judgement.OutOfRange case) = word.Range case
word_of (judgement.Fails at) = word.Fails at
word_of (judgement.Buckles panel) = word.Buckles panel
word_of (judgement.StraddlesPly at) = word.Straddles (Ply at)
word_of (judgement.StraddlesPanel panel) = word.Straddles (Panel panel)

-- the computed answers for a catalogue and a job
abbrev pub computed : List Item → JobData → Tests
computed stock job = record {
  capacity = λ i w. capacity_value i w;
  judged = λ listed. word_of (judged stock job listed);
  ratio = λ listed case ply. ratio_of (printed stock job listed) case ply;
  panel = λ listed panel. panel_of (printed stock job listed) panel;
  boxed = λ p case. boxed stock job p case;
}
