-- The computed judgement, step by step.
use Rattle.std.proofs.Common.{◌≡◌, refl, sym, ◌∙◌, ap, subst, ℕ, ℤ, List, slice_get, Some, None, All, IsSomeAnd, arith}
use Rattle.std.specs.declared.option.Option.{Option}
use Rattle.lam_stock.specs.declared.item.Item.{Item}
use Rattle.lam_stock.specs.declared.item.ItemNo.{ItemNo}
use Rattle.lam_stock.specs.declared.scale.Scale.{Scale}
use Rattle.lam_stock.specs.Scale.{scale_of}
use Rattle.lam_job.specs.JobData.{CaseData, JobData}
use Rattle.lam_job.specs.LoadOf.{load_of}
use Rattle.lam_job.specs.LoadRange.{LoadInRange, WallInRange}
use Rattle.lam_job.specs.Schedule.{items_of, wall_of}
use Rattle.lam_job.specs.Wall.{wall_thickness}
use Rattle.lam_judge.specs.Judgements.{IsFirstOut}
use Rattle.lam_judge.specs.declared.judgement.Judgement.TheVariants as judgement
use Rattle.lam_judge.specs.inside.Judged.{by_strength, judged, or_broken, or_out}
use Rattle.lam_judge.specs.inside.Kept.{first_broken, first_out, first_out_from}
use Rattle.lam_judge.proofs.FirstOut.{in-where-none, out-means}

module _ (stock : List Item) (job : JobData) (listed : List ItemNo) where
  judged-is : judged stock job listed ≡ or_broken (first_broken stock job listed) (or_out (first_out stock job listed) (by_strength stock job listed))
  unfolding judged
  judged-is = refl

  pub judged-broken : (rule : ℕ) → first_broken stock job listed ≡ Some rule → judgement.Broken (record { 0 = rule }) ≡ judged stock job listed
  judged-broken rule e = sym (judged-is ∙ ap (λ o. or_broken o (or_out (first_out stock job listed) (by_strength stock job listed))) e)

  pub judged-out : (case : ℕ) → first_broken stock job listed ≡ None → first_out stock job listed ≡ Some case → judgement.OutOfRange case ≡ judged stock job listed
  judged-out case e d = sym (judged-is ∙ (λ i. or_broken (e i) (or_out (d i) (by_strength stock job listed))))

  pub judged-strength : first_broken stock job listed ≡ None → first_out stock job listed ≡ None → by_strength stock job listed ≡ judged stock job listed
  judged-strength e d = sym (judged-is ∙ (λ i. or_broken (e i) (or_out (d i) (by_strength stock job listed))))

  -- ---- out of range

  not-out : (cases : Option CaseData) → ((c : CaseData) → cases ≡ Some c → WallInRange stock (wall_of stock job listed) (load_of c.kind))
      → ¬ IsSomeAnd cases (λ c. ¬ WallInRange stock (wall_of stock job listed) (load_of c.kind))
  not-out None kept out = out
  not-out (Some c) kept out = out (kept c refl)

  pub first-out-said : (case : ℕ) → first_out stock job listed ≡ Some case → IsFirstOut stock job listed case
  first-out-said case e =
      let f = out-means (scale_of stock).floor (wall_thickness (wall_of stock job listed)) 0 job.cases case e in
      let number : case ≡ f.0 = omega (arith, f.2) in
      record {
        out = subst (λ o. IsSomeAnd o (λ c. ¬ WallInRange stock (wall_of stock job listed) (load_of c.kind))) (sym (ap (slice_get job.cases) number ∙ f.3.at)) f.3.out;
        first = λ other less. not-out (slice_get job.cases other) (λ c at. f.3.before other c (omega (arith, less, number)) at);
      }

  -- as the call is made
  pub first-out-is : (numbers : List ItemNo) (scale : Scale) (h stored : ℤ) (cases : List CaseData) (r : Option ℕ) → items_of stock numbers ≡ wall_of stock job listed → scale ≡ scale_of stock
      → h ≡ wall_thickness (items_of stock numbers) → stored ≡ h → cases ≡ job.cases → r ≡ first_out_from scale.floor stored 0 cases → r ≡ first_out stock job listed
  first-out-is numbers scale h stored cases r same is_scale is_h is_stored is_cases is =
      let thickness : stored ≡ wall_thickness (wall_of stock job listed) = is_stored ∙ is_h ∙ ap wall_thickness same in
      is ∙ (λ i. first_out_from (is_scale i).floor (thickness i) 0 (is_cases i))

  -- the loads of all cases are in range
  pub all-in-range : first_out stock job listed ≡ None → All (λ c. LoadInRange (scale_of stock).floor (wall_thickness (wall_of stock job listed)) (load_of c.kind)) job.cases
  all-in-range e = in-where-none (scale_of stock).floor (wall_thickness (wall_of stock job listed)) job.cases 0 job.cases e
