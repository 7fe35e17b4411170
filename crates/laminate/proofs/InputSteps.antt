-- The steps from the bytes of two files to an input: which step decides.
use Rattle.std.proofs.Common.{◌≡◌, ℕ, zero, suc, ◌≤◌, ◌<◌, ◌+◌, Bool, true, false, List, [], ◌∷◌, length, Option, Some, None, Result, Ok, Err, refl, sym, ap, subst, ◌∙◌, le-leb, arith, nat_le}
use Rattle.std.specs.Prelude.{IfSome, if◌then◌else◌}
use Rattle.std.proofs.lemmas.Bool.{leb-true}
use Rattle.std.proofs.lemmas.Bool.Decides.{nat_tests}
use Rattle.lam_stock.specs.declared.fault.StockFault.{StockFault}
use Rattle.lam_stock.specs.declared.item.Item.{Item}
use Rattle.lam_stock.specs.Catalogue.{stock_of}
use Rattle.lam_job.specs.declared.fault.JobFault.{JobFault}
use Rattle.lam_job.specs.JobData.{JobData}
use Rattle.lam_job.specs.JobOf.{job_of}
use Rattle.laminate.specs.declared.fault.Fault.{Fault}
use Rattle.laminate.specs.declared.fault.Fault.TheVariants as fault
use Rattle.laminate.specs.declared.fault.Source.{Source}
use Rattle.laminate.specs.declared.fault.Source.TheVariants as source
use Rattle.laminate.specs.declared.fault.Stop.{Stop}
use Rattle.laminate.specs.declared.fault.Stop.TheVariants as stop
use Rattle.laminate.specs.declared.input.Input.{Input}
use Rattle.laminate.specs.declared.status.Status.TheVariants as status
use Rattle.laminate.specs.Faults.{fault_status}
use Rattle.laminate.specs.Input.{as_fault, input_of, most_bytes, then_step, with_job, within_length}
use Rattle.laminate.specs.Outside.{IsContent}
use Rattle.laminate.specs.inside.Steps.{Gives}

-- ---- a file's length

abbrev limited : Source → List ℕ → Bool → Result (List ℕ) Fault
limited file bytes test = if test then Ok bytes else Err (fault.TooLong file)

by_length : (file : Source) (bytes : List ℕ) (test : Bool) → test ≡ true → limited file bytes test ≡ Ok bytes
by_length file bytes true e = refl
by_length file bytes false e = cc

by_excess : (file : Source) (bytes : List ℕ) (test : Bool) → test ≡ false → limited file bytes test ≡ Err (fault.TooLong file)
by_excess file bytes true e = cc
by_excess file bytes false e = refl

pub within : (file : Source) (bytes : List ℕ) → length bytes ≤ most_bytes file → within_length file bytes ≡ Ok bytes
within file bytes h = by_length file bytes (nat_le (length bytes) (most_bytes file)) (le-leb (length bytes) (most_bytes file) h)

not_within : (n m : ℕ) → m < n → nat_le n m ≡ false
not_within n m h = grind (arith, nat_tests)

pub beyond : (file : Source) (bytes : List ℕ) → most_bytes file < length bytes → within_length file bytes ≡ Err (fault.TooLong file)
beyond file bytes h =
    by_excess file bytes (nat_le (length bytes) (most_bytes file)) (not_within (length bytes) (most_bytes file) h)

zeros : (n : ℕ) → (bytes : List ℕ) × (length bytes ≡ n)
zeros zero = ([], refl)
zeros (suc n) = let rest = zeros n in (0 ∷ rest.0, ap suc rest.1)

longer : (n : ℕ) → (bytes : List ℕ) × (n < length bytes)
longer n = let bytes = zeros (n + 1) in (bytes.0, omega (arith, bytes.1))

-- a file that is told to be too long, or of which nothing is told
pub too_long : (told : Option (List ℕ)) (file : Source) → IfSome told (λ bytes. most_bytes file < length bytes)
    → (bytes : List ℕ) × IsContent told bytes × (within_length file bytes ≡ Err (fault.TooLong file))
too_long None file h = let bytes = longer (most_bytes file) in (bytes.0, tt, beyond file bytes.0 bytes.1)
too_long (Some bytes) file h = (bytes, refl, beyond file bytes h)

-- a file that is refused for its length is too long
excess : (file : Source) (bytes : List ℕ) (f : Fault) (test : Bool) → limited file bytes test ≡ Err f → fault_status f ≡ status.Refused
excess file bytes f true e = cc
excess file bytes f false e =
    let same : fault.TooLong file ≡ f = cc in subst (λ (x : Fault). fault_status x ≡ status.Refused) same refl

pub length_status : (file : Source) (bytes : List ℕ) (f : Fault) → within_length file bytes ≡ Err f → fault_status f ≡ status.Refused
length_status file bytes f = excess file bytes f (nat_le (length bytes) (most_bytes file))

by_test : (n m : ℕ) (test : Bool) → nat_le n m ≡ test → (bytes kept : List ℕ) (file : Source) → limited file bytes test ≡ Ok kept → n ≤ m
by_test n m true h bytes kept file e = leb-true n m h
by_test n m false h bytes kept file e = cc

pub length_within : (file : Source) (bytes kept : List ℕ) → within_length file bytes ≡ Ok kept → length bytes ≤ most_bytes file
length_within file bytes kept =
    by_test (length bytes) (most_bytes file) (nat_le (length bytes) (most_bytes file)) refl bytes kept file

-- ---- which step decides

then_ok : {A B : Type 0} (r : Result A Fault) (a : A) (next : A → Result B Fault) → r ≡ Ok a → then_step r next ≡ next a
then_ok {A = A} r a next e = ap (λ (x : Result A Fault). then_step x next) e

then_err : {A B : Type 0} (r : Result A Fault) (f : Fault) (next : A → Result B Fault) → r ≡ Err f → then_step r next ≡ Err f
then_err {A = A} r f next e = ap (λ (x : Result A Fault). then_step x next) e

-- the steps left after the two lengths, and after the catalogue
abbrev after_stock : List ℕ → List Item → Result Input Fault
after_stock job stock = then_step (as_fault fault.Job (job_of job stock)) (with_job stock)

abbrev after_lengths : List ℕ → List ℕ → List ℕ → Result Input Fault
after_lengths job catalogue _ = then_step (as_fault fault.Catalogue (stock_of catalogue)) (after_stock job)

abbrev after_length : List ℕ → List ℕ → List ℕ → Result Input Fault
after_length job catalogue _ = then_step (within_length source.Catalogue catalogue) (after_lengths job catalogue)

steps_are : (job catalogue : List ℕ) → input_of job catalogue ≡ then_step (within_length source.Job job) (after_length job catalogue)
unfolding input_of
steps_are job catalogue = refl

pub long_job : (job catalogue : List ℕ) (f : Fault) → within_length source.Job job ≡ Err f → input_of job catalogue ≡ Err f
long_job job catalogue f e =
    steps_are job catalogue ∙ then_err (within_length source.Job job) f (after_length job catalogue) e

at_catalogue : (job catalogue : List ℕ) → within_length source.Job job ≡ Ok job
    → input_of job catalogue ≡ then_step (within_length source.Catalogue catalogue) (after_lengths job catalogue)
at_catalogue job catalogue e =
    steps_are job catalogue ∙ then_ok (within_length source.Job job) job (after_length job catalogue) e

pub long_catalogue : (job catalogue : List ℕ) (f : Fault) → within_length source.Job job ≡ Ok job
    → within_length source.Catalogue catalogue ≡ Err f → input_of job catalogue ≡ Err f
long_catalogue job catalogue f e g =
    at_catalogue job catalogue e ∙ then_err (within_length source.Catalogue catalogue) f (after_lengths job catalogue) g

-- both files are within their length
pub record Short (job catalogue : List ℕ) : Type 0 where
  pub job_is : within_length source.Job job ≡ Ok job
  pub catalogue_is : within_length source.Catalogue catalogue ≡ Ok catalogue

at_stock : (job catalogue : List ℕ) → Short job catalogue
    → input_of job catalogue ≡ then_step (as_fault fault.Catalogue (stock_of catalogue)) (after_stock job)
at_stock job catalogue s =
    at_catalogue job catalogue s.job_is
    ∙ then_ok (within_length source.Catalogue catalogue) catalogue (after_lengths job catalogue) s.catalogue_is

-- the catalogue stops the reading
pub stock_stops : (job catalogue : List ℕ) (why : Stop) → Short job catalogue
    → Gives (as_fault fault.Catalogue (stock_of catalogue)) (Err why) → Gives (input_of job catalogue) (Err why)
stock_stops job catalogue (stop.Fault f) s e =
    at_stock job catalogue s ∙ then_err (as_fault fault.Catalogue (stock_of catalogue)) f (after_stock job) e
stock_stops job catalogue stop.Memory s _ = tt

-- and the catalogue has these items
at_job : (job catalogue : List ℕ) (stock : List Item) → Short job catalogue → as_fault fault.Catalogue (stock_of catalogue) ≡ Ok stock
    → input_of job catalogue ≡ then_step (as_fault fault.Job (job_of job stock)) (with_job stock)
at_job job catalogue stock s e =
    at_stock job catalogue s ∙ then_ok (as_fault fault.Catalogue (stock_of catalogue)) stock (after_stock job) e

-- the job stops the reading
pub job_stops : (job catalogue : List ℕ) (stock : List Item) (why : Stop) → Short job catalogue
    → as_fault fault.Catalogue (stock_of catalogue) ≡ Ok stock → Gives (as_fault fault.Job (job_of job stock)) (Err why)
    → Gives (input_of job catalogue) (Err why)
job_stops job catalogue stock (stop.Fault f) s e g =
    at_job job catalogue stock s e ∙ then_err (as_fault fault.Job (job_of job stock)) f (with_job stock) g
job_stops job catalogue stock stop.Memory s e _ = tt

pub both_read : (job catalogue : List ℕ) (stock : List Item) (held : JobData) → Short job catalogue
    → as_fault fault.Catalogue (stock_of catalogue) ≡ Ok stock → as_fault fault.Job (job_of job stock) ≡ Ok held
    → input_of job catalogue ≡ Ok (record { stock = stock; job = held })
both_read job catalogue stock held s e g =
    at_job job catalogue stock s e ∙ then_ok (as_fault fault.Job (job_of job stock)) held (with_job stock) g

-- ---- an input comes of a job within its length, and of that job's meaning beside the catalogue

split_step : {A B : Type 0} (r : Result A Fault) (next : A → Result B Fault) (b : B) → then_step r next ≡ Ok b
    → (a : A) × (r ≡ Ok a) × (next a ≡ Ok b)
split_step (Ok a) next b e = (a, refl, e)
split_step (Err f) next b e = cc

kept_whole : (file : Source) (bytes kept : List ℕ) (test : Bool) → limited file bytes test ≡ Ok kept → limited file bytes test ≡ Ok bytes
kept_whole file bytes kept true e = refl
kept_whole file bytes kept false e = cc

pub job_is_short : (job catalogue : List ℕ) (input : Input) → input_of job catalogue ≡ Ok input → within_length source.Job job ≡ Ok job
job_is_short job catalogue input e =
    let (kept, is, _) = split_step (within_length source.Job job) (after_length job catalogue) input (sym (steps_are job catalogue) ∙ e) in
    kept_whole source.Job job kept (nat_le (length job) (most_bytes source.Job)) is

unwrapped : {A E : Type 0} (kind : E → Fault) (r : Result A E) (a : A) → as_fault kind r ≡ Ok a → r ≡ Ok a
unwrapped kind (Ok x) a e = cc
unwrapped kind (Err x) a e = cc

job_meant : (job : List ℕ) (stock : List Item) (input : Input) → after_stock job stock ≡ Ok input → job_of job input.stock ≡ Ok input.job
job_meant job stock input e =
    let (held, is, made) = split_step (as_fault fault.Job (job_of job stock)) (with_job stock) input e in
    let same : with_job stock held ≡ Ok input = made in
    let stock_is : stock ≡ input.stock = cc in
    let job_is : held ≡ input.job = cc in
    subst (λ (s : List Item). job_of job s ≡ Ok input.job) stock_is (unwrapped fault.Job (job_of job stock) held is ∙ ap Ok job_is)

pub job_of_input : (job catalogue : List ℕ) (input : Input) → input_of job catalogue ≡ Ok input → job_of job input.stock ≡ Ok input.job
job_of_input job catalogue input e =
    let (j, _, f) = split_step (within_length source.Job job) (after_length job catalogue) input (sym (steps_are job catalogue) ∙ e) in
    let (c, _, g) = split_step (within_length source.Catalogue catalogue) (after_lengths job catalogue) input f in
    let (stock, _, h) = split_step (as_fault fault.Catalogue (stock_of catalogue)) (after_stock job) input g in
    job_meant job stock input h

-- ---- each refusal of the files ends with the status for one

abbrev Refused : {A : Type 0} → Result A Fault → Type 0
Refused (Ok a) = Unit {0}
Refused (Err f) = fault_status f ≡ status.Refused

then_refuses : {A B : Type 0} (r : Result A Fault) (next : A → Result B Fault) → Refused r → ((a : A) → Refused (next a))
    → Refused (then_step r next)
then_refuses (Ok a) next first later = later a
then_refuses (Err f) next first later = first

length_refuses : (file : Source) (bytes : List ℕ) (test : Bool) → Refused (limited file bytes test)
length_refuses file bytes true = tt
length_refuses file bytes false = refl

stock_refuses : (r : Result (List Item) StockFault) → Refused (as_fault fault.Catalogue r)
stock_refuses (Ok items) = tt
stock_refuses (Err f) = refl

job_refuses : (r : Result JobData JobFault) → Refused (as_fault fault.Job r)
job_refuses (Ok held) = tt
job_refuses (Err f) = refl

input_refuses : (job catalogue : List ℕ) → Refused (input_of job catalogue)
input_refuses job catalogue =
    subst Refused (sym (steps_are job catalogue))
    (then_refuses (within_length source.Job job) (after_length job catalogue)
    (length_refuses source.Job job (nat_le (length job) (most_bytes source.Job))) (λ _.
    then_refuses (within_length source.Catalogue catalogue) (after_lengths job catalogue)
    (length_refuses source.Catalogue catalogue (nat_le (length catalogue) (most_bytes source.Catalogue))) (λ _.
    then_refuses (as_fault fault.Catalogue (stock_of catalogue)) (after_stock job) (stock_refuses (stock_of catalogue)) (λ stock.
    then_refuses (as_fault fault.Job (job_of job stock)) (with_job stock) (job_refuses (job_of job stock)) (λ held. tt)))))

pub refusal_status : (job catalogue : List ℕ) (f : Fault) → input_of job catalogue ≡ Err f → fault_status f ≡ status.Refused
refusal_status job catalogue f e = subst (λ (r : Result Input Fault). Refused r) e (input_refuses job catalogue)
