-- What printed ratios say at their numbers.
use Rattle.std.proofs.Common.{◌≡◌, refl, subst₂, ℕ, ◌+◌, ◌*◌, ◌<◌, List, length, slice_index_or}
use Rattle.std.proofs.lemmas.Nat.{div-mul-add, mod-mul-add}
use Rattle.std.proofs.lemmas.Option.{slice_get_read}
use Rattle.lam_stock.specs.declared.item.Item.{Item}
use Rattle.lam_stock.specs.declared.item.ItemNo.{ItemNo}
use Rattle.lam_job.specs.JobData.{JobData}
use Rattle.lam_sharp.specs.SharpRatios.{HasSharpRatio}
use Rattle.lam_judge.specs.Printed.{Printed, ArePrinted}

pub printed-ratio : (stock : List Item) (job : JobData) (listed : List ItemNo) (p : Printed) (case ply r : ℕ) → ArePrinted stock job listed p
    → ply < p.plies → case * p.plies + ply < length p.ratios → r ≡ slice_index_or p.ratios (case * p.plies + ply) r → HasSharpRatio stock job listed case ply r
printed-ratio stock job listed p case ply r are there within is =
    let i = case * p.plies + ply in
    subst₂ (λ c k. HasSharpRatio stock job listed c k r) (div-mul-add case p.plies ply there) (mod-mul-add case p.plies ply there)
    (are.ratios i r (slice_get_read p.ratios (length p.ratios) i r refl within is))
