-- How large the block of a best schedule is.
use Rattle.std.proofs.Common.{◌≡◌, sym, ◌∙◌, subst, ℕ, ◌+◌, ◌*◌, ◌<◌, ◌≤◌, List, ◌++◌, length, Bool, true, false, if◌then◌else◌, arith}
use Rattle.std.proofs.Math.Nat.{mul-le-mul}
use Rattle.std.proofs.lemmas.List.{length-append}
use Rattle.std.proofs.lemmas.List.Elements.{All-append}
use Rattle.lam_stock.specs.declared.item.Item.{Item}
use Rattle.lam_stock.specs.declared.item.ItemNo.{ItemNo}
use Rattle.lam_stock.specs.Stock.{IsKnown}
use Rattle.lam_job.specs.JobData.{JobData}
use Rattle.lam_job.specs.Schedule.{items_of, wall_of}
use Rattle.lam_job.proofs.Listed.{items_of-length}

wall_by : (stock : List Item) (liner listed : List ItemNo) (carries : Bool) → IsKnown stock liner → IsKnown stock listed
    → length (if carries then items_of stock (liner ++ listed) else items_of stock listed) ≡ (if carries then length liner + length listed else length listed)
wall_by stock liner listed true of_liner known =
    items_of-length stock (liner ++ listed) (All-append (λ (ply : ItemNo). ply.0 < length stock) liner listed of_liner known) ∙ length-append liner listed
wall_by stock liner listed false of_liner known = items_of-length stock listed known

-- the plies of a wall are those listed, with the liner where that carries load
pub wall-long : (stock : List Item) (job : JobData) (listed : List ItemNo) → IsKnown stock job.liner → IsKnown stock listed
    → length (wall_of stock job listed) ≡ (if job.liner_in_wall then length job.liner + length listed else length listed)
wall-long stock job listed of_liner known = wall_by stock job.liner listed job.liner_in_wall of_liner known

-- a ratio for each case and ply
pub few_ratios : (ratios cases plies : ℕ) → ratios ≡ cases * plies → cases ≤ 16 → plies ≤ 64 → ratios ≤ 1024
few_ratios ratios cases plies is few short = subst (λ n. n ≤ 1024) (sym is) (mul-le-mul few short)

pub few_cases : (ratios cases plies : ℕ) → ratios ≡ cases * plies → cases ≤ 16 → ratios ≤ 16 * plies
few_cases ratios cases plies is few = subst (λ n. n ≤ 16 * plies) (sym is) (mul-le-mul few (let h : plies ≤ plies = omega arith in h))
