-- What one scale alone settles.
use Rattle.std.proofs.Common.{◌≡◌, refl, ap, subst, true, false}
use Rattle.lam_number.specs.declared.strength.Verdict.{Verdict}
use Rattle.lam_number.specs.declared.strength.Verdict.TheVariants as verdict
use Rattle.lam_judge.specs.declared.finding.Finding.{Finding}
use Rattle.lam_judge.specs.declared.finding.Finding.TheVariants.{Clear, Fails, Straddles}
use Rattle.lam_judge.specs.inside.Findings.{found, and_then, is_clear, Settles}
use Rattle.lam_judge.specs.inside.Judged.{decided}

module _ {T : Type 0} where
  -- at one place
  pub settles-place : (v w : Verdict) (at : T) → Settles (found v at) (found (decided v w) at)
  settles-place verdict.Meets w at = refl
  settles-place verdict.Fails w at = refl
  settles-place verdict.Straddles w at = tt

  pub clear-all : (a all : Finding T) → Settles a all → is_clear a ≡ true → Clear ≡ all
  clear-all Clear all s e = s
  clear-all (Fails at) all s e = absurd (let n : false ≡ true = e in cc)
  clear-all (Straddles at) all s e = absurd (let n : false ≡ true = e in cc)

  -- where the first of two does not meet what is asked, the later does not matter
  pub settles-first : (a all later : Finding T) → Settles a all → is_clear a ≡ false → Settles a (and_then all later)
  settles-first Clear all later s e = absurd (let n : true ≡ false = e in cc)
  settles-first (Fails at) all later s e = ap (λ x. and_then x later) s
  settles-first (Straddles at) all later s e = tt

  -- and where it meets that, the later is all
  pub settles-later : (a b all later : Finding T) → Settles a all → is_clear a ≡ true → Settles b later → Settles b (and_then all later)
  settles-later a b all later s e settles = subst (λ x. Settles b (and_then x later)) (clear-all a all s e) settles

  -- ---- by the finding

  pub settled-clear : (a all : Finding T) → a ≡ Clear → Settles a all → Clear ≡ all
  settled-clear a all e s = subst (λ x. Settles x all) e s

  pub settled-fails : (a all : Finding T) (at : T) → a ≡ Fails at → Settles a all → Fails at ≡ all
  settled-fails a all at e s = subst (λ x. Settles x all) e s
