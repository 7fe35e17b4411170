-- What the files of an order say, and what follows from it.
use Rattle.std.proofs.Common.{◌≡◌, ◌⊎◌, inl, inr, ℕ, List, Option, Some, None, Result, Ok, Err, refl, sym, ap, subst, ◌∙◌}
use Rattle.std.specs.Prelude.{IfSome, IsSome}
use Rattle.lam_words.specs.Reading.{OrderWords, design, analyse, check, sample}
use Rattle.lam_stock.specs.declared.item.ItemNo.{ItemNo}
use Rattle.laminate.specs.declared.fault.Fault.{Fault}
use Rattle.laminate.specs.declared.fault.ScheduleFault.{ScheduleFault}
use Rattle.laminate.specs.declared.fault.Source.TheVariants as source
use Rattle.laminate.specs.declared.input.Input.{Input}
use Rattle.laminate.specs.declared.status.Status.{Status}
use Rattle.laminate.specs.declared.status.Status.TheVariants as status
use Rattle.lam_judge.specs.Judgements.{IsFirstOut}
use Rattle.laminate.specs.Analysis.{Analyses, RefusesSchedule}
use Rattle.lam_tree.specs.declared.report.Answer.{Answer}
use Rattle.lam_tree.specs.declared.report.Answer.TheVariants as answer
use Rattle.laminate.specs.Design.{status_of}
use Rattle.laminate.specs.Answers.{Answers, ChecksAccepted, MayEnd, Refuses}
use Rattle.laminate.specs.Checking.{AcceptsReport, ChecksAs}
use Rattle.laminate.specs.Input.{input_of, within_length}
use Rattle.laminate.specs.Orders.{FileNames, Holds, IsTold, Say, files_of}
use Rattle.laminate.specs.Outside.{FilesSeen, IsContent}
use Rattle.laminate.proofs.InputSteps.{job_is_short}
use Rattle.laminate.proofs.RangeFacts.{never_out}

-- ---- contents that are told

told_twice : (told : Option (List ℕ)) (a b : List ℕ) → IsSome told → IsContent told a → IsContent told b → a ≡ b
told_twice None a b there first second = cc
told_twice (Some x) a b there first second = sym first ∙ second

held_twice : (files : FilesSeen) (name : Option (List ℕ)) (a b : List ℕ) → IfSome name (λ n. IsSome (files.contents n))
    → Holds files name a → Holds files name b → a ≡ b
held_twice files None a b told first second = absurd first
held_twice files (Some n) a b told first second = told_twice (files.contents n) a b told first second

-- told files that say an input say nothing else
pub said_once : (files : FilesSeen) (names : FileNames) (input : Input) (said : Result Input Fault)
    → IsTold files names → Say files names (Ok input) → Say files names said → said ≡ Ok input
said_once files names input said told (job, catalogue, is_job, is_catalogue, e) (j, c, is_j, is_c, f) =
    let same_job : job ≡ j = held_twice files names.job job j (told source.Job tt) is_job is_j in
    let same_catalogue : catalogue ≡ c =
    held_twice files names.catalogue catalogue c (told source.Catalogue (job, is_job, job_is_short job catalogue input e)) is_catalogue is_c in
    sym f ∙ (ap (λ (x : List ℕ). input_of x c) (sym same_job) ∙ (ap (λ (x : List ℕ). input_of job x) (sym same_catalogue) ∙ e))

-- ---- an analysis

-- a schedule word that is refused has no analysis
unanalysed : (input : Input) (word text : List ℕ) (fault : ScheduleFault) → RefusesSchedule input word fault → Analyses input word text → ⊥
unanalysed input word text fault (inl e) a = let f = a.named in cc
unanalysed input word text fault (inr (listed, case, e, out, _)) a =
    let f = a.named in
    let same : listed ≡ a.listed = cc in
    never_out input.stock input.job a.listed case a.range (subst (λ (x : List ItemNo). IsFirstOut input.stock input.job x case) same out)

-- ---- a check

-- a report within its length is not too long
not_both : (a b : List ℕ) (f : Fault) → a ≡ b → within_length source.Report a ≡ Ok a → within_length source.Report b ≡ Err f → ⊥
not_both a b f same short long =
    let e : within_length source.Report a ≡ Err f = subst (λ (x : List ℕ). within_length source.Report x ≡ Err f) (sym same) long in cc

checked_status : (input : Input) (bytes : List ℕ) (ended : Status) (text : List ℕ) → ChecksAs input bytes ended text
    → (ended ≡ status.Done) ⊎ (ended ≡ status.ReportRefused)
checked_status input bytes status.Done text checks = inl refl
checked_status input bytes status.ReportRefused text checks = inr refl
checked_status input bytes other text checks = absurd checks

-- what is accepted ends as accepted
accepted_status : (input : Input) (bytes : List ℕ) (ended : Status) (text : List ℕ) → AcceptsReport input bytes → ChecksAs input bytes ended text
    → ended ≡ status.Done
accepted_status input bytes status.Done text accepts checks = refl
accepted_status input bytes status.ReportRefused text accepts (why, refuses, e) = absurd (refuses.never accepts)
accepted_status input bytes other text accepts checks = absurd checks

pub accepted_ends : (files : FilesSeen) (o : OrderWords) (ended : Status) (text : List ℕ)
    → IsTold files (files_of o) → ChecksAccepted files o → Answers files o ended text → ended ≡ status.Done
accepted_ends files (design job catalogue options) ended text told accepted answers = absurd accepted
accepted_ends files (analyse job catalogue word) ended text told accepted answers = absurd accepted
accepted_ends files (check job catalogue report) ended text told (input, bytes, says, held, accepts) (other, others, said, holds, checks) =
    let e = said_once files (files_of (check job catalogue report)) input (Ok other) told says said in
    let same : other ≡ input = cc in
    let bytes_are = told_twice (files.contents report) others bytes (told source.Report (input, says)) holds.0 held.0 in
    accepted_status input bytes ended text accepts
    (subst (λ (x : List ℕ). ChecksAs input x ended text) bytes_are (subst (λ (x : Input). ChecksAs x others ended text) same checks))
accepted_ends files (sample number options) ended text told accepted answers = absurd accepted

pub accepted_is_valid : (files : FilesSeen) (o : OrderWords) (fault : Fault)
    → IsTold files (files_of o) → ChecksAccepted files o → Refuses files o fault → ⊥
accepted_is_valid files (design job catalogue options) fault told accepted refuses = absurd accepted
accepted_is_valid files (analyse job catalogue word) fault told accepted refuses = absurd accepted
accepted_is_valid files (check job catalogue report) fault told (input, bytes, says, held, accepts) (inl refused) =
    let e = said_once files (files_of (check job catalogue report)) input (Err fault) told says refused in cc
accepted_is_valid files (check job catalogue report) fault told (input, bytes, says, held, accepts) (inr (other, others, said, holds)) =
    not_both bytes others fault (told_twice (files.contents report) bytes others (told source.Report (input, says)) held.0 holds.0) held.1 holds.1
accepted_is_valid files (sample number options) fault told accepted refuses = absurd accepted

-- ---- by mode: told contents that are refused have no answer

pub unanswered : (files : FilesSeen) (o : OrderWords) (fault : Fault) (ended : Status) (text : List ℕ)
    → IsTold files (files_of o) → Refuses files o fault → Answers files o ended text → ⊥
unanswered files (design job catalogue options) fault ended text told refuses (input, says, _) =
    let e = said_once files (files_of (design job catalogue options)) input (Err fault) told says refuses in cc
unanswered files (analyse job catalogue word) fault ended text told (inl refused) (_, (input, says, _)) =
    let e = said_once files (files_of (analyse job catalogue word)) input (Err fault) told says refused in cc
unanswered files (analyse job catalogue word) fault ended text told (inr (other, why, said, refuses, _)) (_, (input, says, analyses)) =
    let e = said_once files (files_of (analyse job catalogue word)) input (Ok other) told says said in
    let same : other ≡ input = cc in
    unanalysed input word text why (subst (λ (x : Input). RefusesSchedule x word why) same refuses) analyses
unanswered files (check job catalogue report) fault ended text told (inl refused) (input, bytes, says, held, checks) =
    let e = said_once files (files_of (check job catalogue report)) input (Err fault) told says refused in cc
unanswered files (check job catalogue report) fault ended text told (inr (other, others, said, holds)) (input, bytes, says, held, checks) =
    not_both bytes others fault (told_twice (files.contents report) bytes others (told source.Report (input, says)) held.0 holds.0) held.1 holds.1
unanswered files (sample number options) fault ended text told refuses answers = absurd refuses

-- ---- by mode: the statuses of an answer

ends_as : (ended : Status) (given : Answer) → ended ≡ status_of given → (ended ≡ status.Done) ⊎ (ended ≡ status.Open)
ends_as ended answer.Least e = inl e
ends_as ended answer.NoneMeets e = inl e
ends_as ended answer.OpenBudget e = inr e
ends_as ended (answer.OpenStraddle near) e = inr e

pub may_end : (files : FilesSeen) (o : OrderWords) (ended : Status) (text : List ℕ) → Answers files o ended text → MayEnd o ended
may_end files (design job catalogue options) ended text (input, says, designs) = ends_as ended designs.report.answer designs.status_is
may_end files (analyse job catalogue word) ended text (e, _) = e
may_end files (check job catalogue report) ended text (input, bytes, says, held, checks) = checked_status input bytes ended text checks
may_end files (sample number options) ended text samples = ends_as ended samples.report.answer samples.status_is
