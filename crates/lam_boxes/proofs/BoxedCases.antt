-- The box of a case of a job.
use Rattle.std.proofs.Common.{◌≡◌, refl, sym, ◌∙◌, ap, subst, ℕ, ◌+◌, ◌<◌, ◌≤◌, Bool, true, false, List, length, slice_get, Option, Some, None, IfSome, IsSomeAnd, IsTrue, is_some, inl, inr, arith}
use Rattle.std.proofs.lemmas.Bool.{cases_lt}
use Rattle.std.proofs.lemmas.Option.{same_Some, slice_get_within}
use Rattle.lam_number.specs.declared.fix.Fix.{Fix}
use Rattle.lam_number.specs.inside.FixNumbers.{fix_numbers}
use Rattle.lam_stock.specs.declared.item.Item.{Item}
use Rattle.lam_stock.specs.declared.item.ItemNo.{ItemNo}
use Rattle.lam_stock.specs.Scale.{scale_of}
use Rattle.lam_stock.specs.Stock.{IsKnown, IsStock}
use Rattle.lam_job.specs.JobData.{CaseData, JobData}
use Rattle.lam_job.specs.LoadOf.{load_of}
use Rattle.lam_job.specs.Partial.{Partial}
use Rattle.lam_job.specs.Ranges.{IsJob}
use Rattle.lam_job.specs.Rules.{LinerCarries}
use Rattle.lam_job.specs.Schedule.{items_of}
use Rattle.lam_job.proofs.Listed.{items_of-length}
use Rattle.lam_rules.specs.Conditions.{IsPartial}
use Rattle.lam_solve.proofs.Radius.{chosen}
use Rattle.lam_tree.specs.Closings.{HasNoMoments, MayBox}
use Rattle.lam_tree.specs.Words.{AllFailAt}
use Rattle.lam_tsai.specs.declared.place.Place.{Place}
use Rattle.lam_tsai.specs.declared.place.Side.{Side}
use Rattle.lam_boxes.specs.declared.three.Shape.{Shape}
use Rattle.lam_boxes.specs.inside.Boxes.{box_under, boxed, boxed_at, failing_in, first_failing, is_open, shape_of}
use Rattle.lam_boxes.proofs.FirstFailing.{found-at}
use Rattle.lam_boxes.proofs.Truth.{boxed-fails, unchosen}

module _ (stock : List Item) (job : JobData) (p : Partial) (k : ℕ) where
  -- no ply is settled, or all are
  pub boxed-shut : is_open job p ≡ false → boxed stock job p k ≡ None
  unfolding boxed
  boxed-shut shut = by (slice_get job.cases k)
    where
      by : (o : Option CaseData) → boxed_at (fix_numbers 60) stock job p k o ≡ None
      by None = refl
      by (Some c) = sym (unchosen (is_open job p) _ None shut)

  -- there is no such case
  pub boxed-absent : slice_get job.cases k ≡ None → boxed stock job p k ≡ None
  unfolding boxed
  boxed-absent e = ap (boxed_at (fix_numbers 60) stock job p k) e

  pub boxed-asked : (c : CaseData) → slice_get job.cases k ≡ Some c → is_open job p ≡ true
      → boxed stock job p k ≡ failing_in (fix_numbers 60) stock p.prefix k c.factor (box_under (fix_numbers 60) (scale_of stock) (shape_of (fix_numbers 60) stock job p) (load_of c.kind))
  unfolding boxed
  boxed-asked c e more = ap (boxed_at (fix_numbers 60) stock job p k) e ∙ sym (chosen (is_open job p) _ None more)

-- ---- a place that is found is one of the case, and of the plies

module _ (case : ℕ) (of : Item → Option Side) where
  pub found-case : (items : List Item) (r : Option Place) → r ≡ first_failing case of 0 items → IfSome r (λ at. at.case ≡ case)
  found-case items None e = tt
  found-case items (Some at) e = (found-at case of 0 items at (sym e)).case_is

  pub found-ply : (stock : List Item) (numbers : List ItemNo) (r : Option Place) → IsKnown stock numbers → length numbers ≤ 64 → r ≡ first_failing case of 0 (items_of stock numbers) → IfSome r (λ at. at.ply < 64)
  found-ply stock numbers None known few e = tt
  found-ply stock numbers (Some at) known few e =
      let f = found-at case of 0 (items_of stock numbers) at (sym e) in
      let within = slice_get_within (items_of stock numbers) f.place f.item f.listed in
      let count = items_of-length stock numbers known in
      let ply = f.ply_is in
      omega (arith, within, count, ply, few)

-- ---- what a job asks, under one of its cases

abbrev pub StaysFlat : JobData → Type 0
StaysFlat job = IsTrue job.rules.symmetric × (¬ LinerCarries job)

pub flat-of : (job : JobData) (c : CaseData) → MayBox job c → StaysFlat job
flat-of job c may = (may.symmetric, may.liner)

pub may-of : (job : JobData) (c : CaseData) → StaysFlat job → HasNoMoments c → MayBox job c
may-of job c flat none = record { symmetric = flat.0; liner = flat.1; moments = none }

module _ (stock : List Item) (job : JobData) (p : Partial) (k : ℕ) (c : CaseData) (there : slice_get job.cases k ≡ Some c) where
  module _ (more : is_open job p ≡ true) (prefix : List ItemNo) (prefix-is : prefix ≡ p.prefix) (shape : Shape (Fix 60)) (shape-is : shape ≡ shape_of (fix_numbers 60) stock job p) (r : Option Place) where
    pub place-boxed : (HasNoMoments c → r ≡ failing_in (fix_numbers 60) stock prefix k c.factor (box_under (fix_numbers 60) (scale_of stock) shape (load_of c.kind))) → HasNoMoments c → r ≡ boxed stock job p k
    place-boxed value none =
        value none ∙ (λ j. failing_in (fix_numbers 60) stock (prefix-is j) k c.factor (box_under (fix_numbers 60) (scale_of stock) (shape-is j) (load_of c.kind)))
        ∙ sym (boxed-asked stock job p k c there more)

  pub boxed-some : (r : Option Place) → (HasNoMoments c → r ≡ boxed stock job p k) → IfSome r (λ at. HasNoMoments c) → IfSome r (λ at. at.case ≡ k) → StaysFlat job
      → IfSome r (λ at. IsSomeAnd (slice_get job.cases at.case) (λ d. MayBox job d × (boxed stock job p at.case ≡ Some at)))
  boxed-some None is none case flat = tt
  boxed-some (Some at) is none case flat =
      subst (λ x. IsSomeAnd (slice_get job.cases x) (λ d. MayBox job d × (boxed stock job p x ≡ Some at))) (sym case)
      (subst (λ o. IsSomeAnd o (λ d. MayBox job d × (boxed stock job p k ≡ Some at))) (sym there) (may-of job c flat none, sym (is none)))

  pub boxed-so : IsStock stock (scale_of stock) → IsJob job → IsPartial stock job p → (r : Option Place) → r ≡ boxed stock job p k → MayBox job c → IfSome r (AllFailAt stock job p)
  boxed-so is valid ok None e may = tt
  boxed-so is valid ok (Some at) e may = boxed-fails stock job p is valid ok k c there may at (sym e)

  pub boxed-fails-so : IsStock stock (scale_of stock) → IsJob job → IsPartial stock job p → (r : Option Place) → (HasNoMoments c → r ≡ boxed stock job p k) → IfSome r (λ at. HasNoMoments c) → StaysFlat job → IfSome r (AllFailAt stock job p)
  boxed-fails-so is valid ok None e none flat = tt
  boxed-fails-so is valid ok (Some at) e none flat = boxed-fails stock job p is valid ok k c there (may-of job c flat none) at (sym (e none))

  pub boxed-none : (r : Option Place) (b : Bool) → b ≡ is_some r → b ≡ false → (HasNoMoments c → r ≡ boxed stock job p k) → (d : CaseData) → slice_get job.cases k ≡ Some d → MayBox job d → boxed stock job p k ≡ None
  boxed-none None b is shut value d at may = sym (value (subst HasNoMoments (same_Some d c (sym at ∙ there)) may.moments))
  boxed-none (Some at) b is shut value d at-d may = absurd (let n : true ≡ false = sym is ∙ shut in cc)

-- of one case more
pub none-more : (stock : List Item) (job : JobData) (p : Partial) (k : ℕ)
    → ((j : ℕ) (c : CaseData) → j < k → slice_get job.cases j ≡ Some c → MayBox job c → boxed stock job p j ≡ None)
    → ((c : CaseData) → slice_get job.cases k ≡ Some c → MayBox job c → boxed stock job p k ≡ None)
    → (j : ℕ) (c : CaseData) → j < k + 1 → slice_get job.cases j ≡ Some c → MayBox job c → boxed stock job p j ≡ None
none-more stock job p k below here j c less at may =
    elim (cases_lt j k) [
      | inl before ↦ below j c before at may
      | inr last ↦ (let e : j ≡ k = omega (arith, less, last) in
          ap (boxed stock job p) e ∙ here c (ap (slice_get job.cases) (sym e) ∙ at) may)
    ]
