-- The verdict over both scales: that over the first where it decides, else that over the second.
use Rattle.std.proofs.Common.{◌≡◌, refl, sym, ◌∙◌, ap, ℤ, FitsSigned, w64, arith}
use Rattle.std.proofs.lemmas.Int.{ints, to_z-of_z}
use Rattle.lam_fraction.proofs.numbers.Machine.{stored-64}
use Rattle.lam_number.specs.declared.strength.Verdict.{Verdict}
use Rattle.lam_number.specs.declared.strength.Verdict.TheVariants.{Meets, Fails, Straddles}
use Rattle.lam_solve.specs.inside.Formulas.{at_face}
use Rattle.lam_tsai.specs.declared.place.Side.{Side}
use Rattle.lam_judge.specs.declared.loaded.Loaded.{Loaded}
use Rattle.lam_judge.specs.declared.tables.Criteria.{Criteria}
use Rattle.lam_judge.specs.inside.Judged.{decided}
use Rattle.lam_judge.specs.inside.Loads.{IsReady, loaded_verdict, verdict_by}
use Rattle.lam_judge.specs.inside.Scales.{coarse, fine}

pub first-decides : (v w : Verdict) → (v ≡ Straddles → ⊥) → decided v w ≡ v
first-decides Meets w h = refl
first-decides Fails w h = refl
first-decides Straddles w h = absurd (h refl)

module _ (c : Criteria) (l : Loaded) (z : ℤ) (side : Side) where
  abbrev first : Verdict
  first = verdict_by coarse c.coarse (at_face coarse.calc l.coarse z l.h) side l.factor

  abbrev second : Verdict
  second = verdict_by fine c.fine (at_face fine.calc l.fine z l.h) side l.factor

  verdict-is : loaded_verdict c l z side ≡ decided first second
  unfolding loaded_verdict
  verdict-is = refl

  pub by-first : (v : Verdict) → v ≡ first → (v ≡ Straddles → ⊥) → v ≡ loaded_verdict c l z side
  by-first v e h = sym (first-decides v second h) ∙ ap (λ x. decided x second) e ∙ sym verdict-is

  pub by-second : (v w : Verdict) → v ≡ first → v ≡ Straddles → w ≡ second → w ≡ loaded_verdict c l z side
  by-second v w e h f = f ∙ ap (λ x. decided x second) (sym h ∙ e) ∙ sym verdict-is

-- ---- numbers that are stored

pub factor-stored : {c : Criteria} {l : Loaded} → IsReady c l → stored-64 l.factor ≡ l.factor
factor-stored {c} {l} ready = let fits : FitsSigned w64 l.factor = omega (arith, ints, ready.asked.least, ready.asked.greatest) in to_z-of_z w64 l.factor fits

pub thickness-stored : {c : Criteria} {l : Loaded} → IsReady c l → stored-64 l.h ≡ l.h
thickness-stored {c} {l} ready = let fits : FitsSigned w64 l.h = omega (arith, ints, ready.thick, ready.thin) in to_z-of_z w64 l.h fits
