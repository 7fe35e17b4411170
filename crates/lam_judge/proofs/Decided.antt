-- A schedule that is near nowhere is judged admissible exactly where it is.
use Rattle.std.proofs.Common.{◌≡◌, refl, sym, ◌∙◌, subst, ℕ, List, slice_get, Option, Some, None, All, IsSomeAnd}
use Rattle.std.proofs.lemmas.List.Elements.{All-get_or}
use Rattle.std.proofs.lemmas.Option.{get_or_from_slice_get, same_Some, slice_get_within}
use Rattle.lam_fraction.specs.Fraction.{whole}
use Rattle.lam_stock.specs.declared.item.Item.{Item}
use Rattle.lam_stock.specs.declared.item.ItemNo.{ItemNo}
use Rattle.lam_job.specs.Design as design
use Rattle.lam_job.specs.JobData.{JobData}
use Rattle.lam_job.specs.LoadOf.{load_of}
use Rattle.lam_job.specs.LoadRange.{WallInRange}
use Rattle.lam_job.specs.Near.{AtPanel, AtPly}
use Rattle.lam_job.specs.Plate.{PanelAtLeast}
use Rattle.lam_job.specs.Schedule.{wall_of}
use Rattle.lam_job.specs.Strength.{PlyRatio, RatioAt}
use Rattle.lam_judge.specs.Judgements.{IsDecided, IsNearNowhere, IsSaid, place_of}
use Rattle.lam_judge.specs.declared.judgement.Judgement.{Judgement}
use Rattle.lam_judge.specs.declared.judgement.Judgement.TheVariants.{Admissible, Broken, OutOfRange, Fails, Buckles, StraddlesPly, StraddlesPanel}

-- what is so of all elements of a list is so of one of a number
of-all : {A : Type 0} (P : A → Type 0) (xs : List A) → All P xs → (k : ℕ) (x : A) → slice_get xs k ≡ Some x → P x
of-all P xs all k x at = subst P (get_or_from_slice_get xs k x x at) (All-get_or P xs k x (slice_get_within xs k x at) all)

-- no value that is there has something and has it not
some-not : {A : Type 0} (P : A → Type 0) (o : Option A) → ((x : A) → o ≡ Some x → P x) → IsSomeAnd o (λ x. ¬ P x) → ⊥
some-not P None all h = h
some-not P (Some x) all h = h (all x refl)

module _ (stock : List Item) (job : JobData) (listed : List ItemNo) where
  is-admissible : (judgement : Judgement) → IsSaid stock job listed judgement → IsNearNowhere stock job listed → design.Admissible stock job listed → judgement ≡ Admissible
  is-admissible Admissible said far ok = refl
  is-admissible (Broken rule) said far ok = absurd (said.broken.2 (ok.rules said.broken.0))
  is-admissible (OutOfRange case) said far ok =
      absurd (some-not (λ c. WallInRange stock (wall_of stock job listed) (load_of c.kind)) (slice_get job.cases case)
      (λ c at. of-all (λ c. WallInRange stock (wall_of stock job listed) (load_of c.kind)) job.cases ok.range case c at) said.1.out)
  is-admissible (Fails at) said far ok =
      absurd (some-not (λ c. RatioAt stock job listed (place_of at) (whole c.factor)) (slice_get job.cases at.case)
      (λ c there d is p found has. subst (λ x. PlyRatio (wall_of stock job listed) (load_of x.kind) at.ply (whole c.factor)) (same_Some c d (sym there ∙ is))
      (of-all (λ c. (ply : ℕ) → PlyRatio (wall_of stock job listed) (load_of c.kind) ply (whole c.factor)) job.cases ok.factors.cases at.case c there at.ply)
      p found (place_of at).face (place_of at).side has) said)
  is-admissible (Buckles panel) said far ok =
      absurd (some-not (λ p. PanelAtLeast (wall_of stock job listed) p (whole p.factor)) (slice_get job.panels panel)
      (λ p at. of-all (λ p. PanelAtLeast (wall_of stock job listed) p (whole p.factor)) job.panels ok.factors.panels panel p at) said)
  is-admissible (StraddlesPly at) said far ok = absurd (far (AtPly (place_of at)) said.near)
  is-admissible (StraddlesPanel panel) said far ok = absurd (far (AtPanel panel) said.near)

  pub decided : (judgement : Judgement) → IsSaid stock job listed judgement → IsDecided stock job listed judgement
  decided judgement said = λ far. (λ e. subst (IsSaid stock job listed) e said, λ ok. is-admissible judgement said far ok)
