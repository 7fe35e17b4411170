-- How a run ends: the table of statuses, with what a run that ended with each of them did.
use Rattle.std.specs.Prelude.{◌≡◌, ◌⊎◌, ℕ, List, Option, Some, None}
use Rattle.lam_outside.specs.Counts.{Rose}
use Rattle.lam_words.specs.Reading.{OrderWords}
use Rattle.laminate.specs.declared.fault.Fault.{Fault}
use Rattle.laminate.specs.declared.fault.Fault.TheVariants as fault
use Rattle.laminate.specs.declared.fault.Source.{Source}
use Rattle.laminate.specs.declared.status.Status.{Status}
use Rattle.laminate.specs.declared.status.Status.TheVariants as status
use Rattle.laminate.specs.Answers.{Answers, ChecksAccepted, Refuses}
use Rattle.laminate.specs.Faults.{fault_line}
use Rattle.laminate.specs.Orders.{AllRead, IsTold, Unread, files_of}
use Rattle.laminate.specs.Outside.{FilesSeen, Outside, SinkFailed, Wrote, WrotePrefix}

-- a text that is due with a status
abbrev pub Due : (before after : FilesSeen) → Option OrderWords → Status → List ℕ → Type 0
Due before after order status.Done text = (o : OrderWords) × (order ≡ Some o) × Answers before o status.Done text
Due before after order status.Open text = (o : OrderWords) × (order ≡ Some o) × Answers before o status.Open text
Due before after order status.Usage text = (order ≡ None) × (text ≡ fault_line fault.Usage)
Due before after order status.Refused text =
    (o : OrderWords) × (f : Fault) × (order ≡ Some o) × Refuses before o f × (text ≡ fault_line f)
Due before after order status.ReadFault text =
    (o : OrderWords) × (file : Source) × (order ≡ Some o) × Unread before after (files_of o) file
    × (text ≡ fault_line (fault.CannotRead file))
Due before after order status.WriteFault text = ⊥
Due before after order status.Memory text = ⊥
Due before after order status.ReportRefused text = (o : OrderWords) × (order ≡ Some o) × Answers before o status.ReportRefused text

-- all of a text that is due with the status was written
abbrev pub WroteDue : {K : Type 0} → Outside K → Option OrderWords → Status → Type 0
WroteDue out order ended = (text : List ℕ) × Due out.files out.files_after order ended text × Wrote out text

-- what a run that ended with a status did: it wrote what is due with the status; or a prefix of what is due with another,
-- and the sink failed; or memory ran out, and the sink is as it was
abbrev pub Ending : {K : Type 0} → Outside K → Option OrderWords → Status → Type 0
Ending out order status.Done = WroteDue out order status.Done
Ending out order status.Open = WroteDue out order status.Open
Ending out order status.Usage = WroteDue out order status.Usage
Ending out order status.Refused = WroteDue out order status.Refused
Ending out order status.ReadFault = WroteDue out order status.ReadFault
Ending out order status.WriteFault =
    ((due : Status) × (text : List ℕ) × Due out.files out.files_after order due text × WrotePrefix out text) × SinkFailed out
Ending out order status.Memory = out.whole_after ≡ out.whole
Ending out order status.ReportRefused = WroteDue out order status.ReportRefused

-- a run that should end with a status does so, but for a write fault and want of memory
abbrev pub EndsAs : Status → Status → Type 0
EndsAs due ended = (ended ≡ due) ⊎ (ended ≡ status.WriteFault) ⊎ (ended ≡ status.Memory)

-- ---- what has to end with a refusal, what with an answer, and what with an acceptance

-- each file that the order reaches is told and was read, and a fault is the first cause to refuse the order
pub record MustRefuse {K : Type 0} (out : Outside K) (o : OrderWords) (f : Fault) : Type 0 where
  pub read : AllRead out.files out.files_after (files_of o)
  pub told : IsTold out.files (files_of o)
  pub refuses : Refuses out.files o f

-- each file that the order reaches was read, nothing refuses the order, and no count of the sink rose
pub record MustAnswer {K : Type 0} (out : Outside K) (o : OrderWords) : Type 0 where
  pub read : AllRead out.files out.files_after (files_of o)
  pub valid : (f : Fault) → ¬ Refuses out.files o f
  pub faults : ¬ Rose out.sink.faults out.sink_after.faults
  pub stalls : ¬ Rose out.sink.stalls out.sink_after.stalls

-- each file that the order reaches is told and was read, and the order is to check a report that is accepted
pub record MustAccept {K : Type 0} (out : Outside K) (o : OrderWords) : Type 0 where
  pub read : AllRead out.files out.files_after (files_of o)
  pub told : IsTold out.files (files_of o)
  pub accepted : ChecksAccepted out.files o
