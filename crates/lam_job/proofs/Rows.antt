-- The fault of a row, by what stands at its key.
use Rattle.std.proofs.Common.{◌≡◌, refl, ap, sym, ◌∙◌, ℤ, pos, negsuc, SFits, w64, ℕ, List, [], ◌∷◌, Bool, true, false, ◌||◌, bytes_eq, Option, Some, None, option_map, if◌then◌else◌, Bor, arith}
use Rattle.std.specs.Option.{unwrap_or}
use Rattle.std.proofs.lemmas.Int.{ints}
use Rattle.toml.specs.Data.{Data, Members}
use Rattle.toml.specs.View.{view}
use Rattle.toml.specs.declared.value.Value.{Value}
use Rattle.lam_job.specs.declared.fault.JobCause.{JobCause}
use Rattle.lam_job.specs.declared.fault.JobCause.TheVariants as cause
use Rattle.lam_job.specs.declared.fault.JobKey.{JobKey}
use Rattle.lam_job.specs.declared.fault.JobPlace.{JobPlace}
use Rattle.lam_job.specs.JobOf.{row_fault, fault_at, form_cause, value_at, typed, first_broken, is_among}
use Rattle.lam_job.specs.Keys.{Form, must, may}
use Rattle.lam_job.specs.Ranges.{IsFrom}
use Rattle.lam_job.specs.inside.Tells.{first_text}

-- what a look-up found
pub at_key : {found : Option (Bor Value)} {o : Option Data} {r : Option (Bor Value)} → option_map (λ v. view v.now) found ≡ o → found ≡ r → o ≡ option_map (λ v. view v.now) r
at_key found is = sym found ∙ ap (option_map (λ v. view v.now)) is

module _ (place : JobPlace) (key : JobKey) (form : Form) (ms : Members) where
  pub must-absent : value_at key ms ≡ None → row_fault place (must key form) ms ≡ Some (fault_at place key cause.Missing)
  unfolding row_fault
  must-absent at = rw at refl

  pub may-absent : value_at key ms ≡ None → row_fault place (may key form) ms ≡ None
  unfolding row_fault
  may-absent at = rw at refl

  pub row-kept : (required : Bool) (d : Data) → value_at key ms ≡ Some d → form_cause form d ≡ None
      → row_fault place (record { key = key; form = form; required = required }) ms ≡ None
  unfolding row_fault
  row-kept required d at kept = rw (at, kept) refl

  pub row-broken : (required : Bool) (d : Data) (why : JobCause) → value_at key ms ≡ Some d → form_cause form d ≡ Some why
      → row_fault place (record { key = key; form = form; required = required }) ms ≡ Some (fault_at place key why)
  unfolding row_fault
  row-broken required d why at broken = rw (at, broken) refl

-- a number between two that fit fits
pub between_fits : (low high z : ℤ) → SFits w64 low → SFits w64 high → IsFrom low high z → SFits w64 z
between_fits (pos a) (pos b) (pos n) l h r = record { sfits = omega (arith, ints, h.sfits, r.greatest) }
between_fits (pos a) high (negsuc n) l h r = absurd (omega (arith, ints, r.least))
between_fits (negsuc a) (pos b) (pos n) l h r = record { sfits = omega (arith, ints, h.sfits, r.greatest) }
between_fits low (negsuc b) (pos n) l h r = absurd (omega (arith, ints, r.greatest))
between_fits (negsuc a) high (negsuc n) l h r = record { sfits = omega (arith, ints, l.sfits, r.least) }

-- ---- one of two texts

abbrev Pair : (first second : List ℕ) → Option (List ℕ) → Option JobCause
Pair first second o = typed o (λ s. first_broken ((cause.Kind, is_among (first ∷ second ∷ []) s) ∷ []))

none_by : (a b : Bool) → (if a then Some true else if b then Some false else None) ≡ None → first_broken ((cause.Kind, a || (b || false)) ∷ []) ≡ Some cause.Kind
none_by true b e = cc
none_by false true e = cc
none_by false false e = refl

pub neither : (first second : List ℕ) (o : Option (List ℕ)) → first_text first second o ≡ None → Pair first second o ≡ Some cause.Kind
neither first second None e = refl
neither first second (Some s) e = none_by (bytes_eq first s) (bytes_eq second s) e

some_by : (a b r : Bool) → (if a then Some true else if b then Some false else None) ≡ Some r → first_broken ((cause.Kind, a || (b || false)) ∷ []) ≡ None
some_by true b r e = refl
some_by false true r e = refl
some_by false false r e = cc

pub one_of_two : (first second : List ℕ) (o : Option (List ℕ)) {r : Bool} → first_text first second o ≡ Some r → Pair first second o ≡ None
one_of_two first second None e = cc
one_of_two first second (Some s) {r = r} e = some_by (bytes_eq first s) (bytes_eq second s) r e

first_by : (a b r : Bool) → (if a then Some true else if b then Some false else None) ≡ Some r → r ≡ a
first_by true b r e = cc
first_by false true r e = cc
first_by false false r e = cc

pub is_first : (first second : List ℕ) (o : Option (List ℕ)) {r : Bool} → first_text first second o ≡ Some r → r ≡ unwrap_or (option_map (bytes_eq first) o) false
is_first first second None e = cc
is_first first second (Some s) {r = r} e = first_by (bytes_eq first s) (bytes_eq second s) r e
