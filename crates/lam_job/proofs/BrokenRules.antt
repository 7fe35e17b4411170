-- What is kept is not broken. Where no number is broken each rule is not unkept, which is short of kept: so what finds no
-- broken rule has to promise `Keeps` itself.
use Rattle.std.proofs.Common.{refl, ℕ, List}
use Rattle.lam_stock.specs.declared.item.Item.{Item}
use Rattle.lam_stock.specs.declared.item.ItemNo.{ItemNo}
use Rattle.lam_job.specs.JobData.{JobData}
use Rattle.lam_job.specs.Rules.{Rule, rule_number, KeepsRule, Keeps, Breaks}

pub kept_is_not_broken : (stock : List Item) (job : JobData) (listed : List ItemNo) → Keeps stock job listed → (number : ℕ) → ¬ Breaks number stock job listed
kept_is_not_broken stock job listed keeps number broken = broken.2 (keeps broken.0)

pub not_broken_is_not_unkept : (stock : List Item) (job : JobData) (listed : List ItemNo) → ((number : ℕ) → ¬ Breaks number stock job listed)
    → (rule : Rule) → ¬ (¬ KeepsRule rule stock job listed)
not_broken_is_not_unkept stock job listed none rule unkept = none (rule_number rule) (rule, refl, unkept)
