-- How a run ends, by the table of statuses: from a text that is due to the ending, and what follows from the ending.
use Rattle.std.proofs.Common.{◌≡◌, ◌⊎◌, inl, inr, ℕ, List, Option, Some, None, Result, Ok, Err, refl, sym, ap, subst, ◌∙◌, le_trans}
use Rattle.std.specs.Prelude.{IfOk}
use Rattle.lam_outside.specs.Counts.{Rose}
use Rattle.lam_words.specs.declared.order.Order.{Order}
use Rattle.lam_words.specs.declared.order.WordsError.{WordsError}
use Rattle.lam_words.specs.declared.order.WordsError.TheVariants as words
use Rattle.lam_words.specs.Reading.{OrderWords}
use Rattle.lam_words.specs.Spelled.{spelled}
use Rattle.laminate.specs.declared.fault.Fault.{Fault}
use Rattle.laminate.specs.declared.fault.Fault.TheVariants as fault
use Rattle.laminate.specs.declared.status.Status.{Status}
use Rattle.laminate.specs.declared.status.Status.TheVariants as status
use Rattle.laminate.specs.Answers.{Answers, MayEnd, Refuses}
use Rattle.laminate.specs.Ending.{Due, Ending, EndsAs, MustAccept, MustAnswer, MustRefuse}
use Rattle.laminate.specs.Faults.{fault_line, fault_status}
use Rattle.laminate.specs.Orders.{Unread, files_of}
use Rattle.laminate.specs.Outside.{Contents, FilesSeen, Outside, SinkFailed, SinkSeen, SinkStays, Wrote, files_seen, outside, sink_seen}
use Rattle.laminate.specs.inside.Steps.{IsRead, WritesLine, WritesText}
use Rattle.laminate.proofs.OrderFacts.{accepted_ends, accepted_is_valid, may_end, unanswered}

-- ---- what was written of a text that is due

all_written : {K : Type 0} (out : Outside K) (order : Option OrderWords) (s : Status) (text : List ℕ)
    → Due out.files out.files_after order s text → Wrote out text → Ending out order s
all_written out order status.Done text due wrote = (text, due, wrote)
all_written out order status.Open text due wrote = (text, due, wrote)
all_written out order status.Usage text due wrote = (text, due, wrote)
all_written out order status.Refused text due wrote = (text, due, wrote)
all_written out order status.ReadFault text due wrote = (text, due, wrote)
all_written out order status.WriteFault text due wrote = absurd due
all_written out order status.Memory text due wrote = absurd due
all_written out order status.ReportRefused text due wrote = (text, due, wrote)

pub text_ends : {K : Type 0} (out : Outside K) (order : Option OrderWords) (due ended : Status) (text : List ℕ)
    → Due out.files out.files_after order due text → WritesText due text ended out.sink out.sink_after → Ending out order ended
text_ends out order due ended text h (inl (e, all)) =
    subst (λ (s : Status). Ending out order s) (sym e) (all_written out order due text h all)
text_ends out order due ended text h (inr (e, prefix, failed)) =
    subst (λ (s : Status). Ending out order s) (sym e) ((due, text, h, prefix), failed)

line_written : {K : Type 0} (out : Outside K) (order : Option OrderWords) (fault : Fault) (ended : Status)
    → Due out.files out.files_after order (fault_status fault) (fault_line fault)
    → WritesLine fault ended out.sink out.sink_after out.whole out.whole_after → Ending out order ended
line_written out order fault ended due (inl writes) =
    text_ends out order (fault_status fault) ended (fault_line fault) due writes
line_written out order fault ended due (inr (e, same)) = subst (λ (s : Status). Ending out order s) (sym e) same

-- the line of a fault that is due is written into a sink that is as it was
pub line_ends : {F K : Type 0} (contents : F → Contents) (faults : F → List ℕ → ℕ)
    (written : K → Option (List ℕ)) (sink_faults stalls : K → ℕ) (terms : K → List ℕ) (f g : F) (k l m : K)
    (order : Option OrderWords) (fault : Fault) (ended : Status) → l ≡ k
    → Due (files_seen contents faults f) (files_seen contents faults g) order (fault_status fault) (fault_line fault)
    → WritesLine fault ended (sink_seen written sink_faults stalls terms l) (sink_seen written sink_faults stalls terms m) l m
    → Ending (outside contents faults written sink_faults stalls terms f g k m) order ended
line_ends {K = K} contents faults written sink_faults stalls terms f g k l m order fault ended same due writes =
    line_written (outside contents faults written sink_faults stalls terms f g k m) order fault ended due
    (subst (λ (x : K). WritesLine fault ended (sink_seen written sink_faults stalls terms x) (sink_seen written sink_faults stalls terms m) x m)
    same writes)

-- ---- words that were read

pub is_read : (r : Result Order WordsError) (asked : Option OrderWords) → IfOk r (λ order. asked ≡ Some (spelled order))
    → (r ≡ Err words.Usage → asked ≡ None) → IsRead r asked
is_read (Ok order) asked ok usage = ok
is_read (Err words.Usage) asked ok usage = usage refl
is_read (Err words.Memory) asked ok usage = tt

pub usage_read : (r : Result Order WordsError) (e : WordsError) (asked : Option OrderWords) → r ≡ Err e → e ≡ words.Usage
    → IsRead r asked → asked ≡ None
usage_read r e asked is e_is read = subst (λ (x : Result Order WordsError). IsRead x asked) (is ∙ ap Err e_is) read

-- the order that words have
pub order_ends : {K : Type 0} (out : Outside K) (asked : Option OrderWords) (o : OrderWords) (ended : Status) → asked ≡ Some o
    → Ending out (Some o) ended → Ending out asked ended
order_ends out asked o ended e h = subst (λ (a : Option OrderWords). Ending out a ended) (sym e) h

-- the usage line is due to words without a reading
pub usage_due : (before after : FilesSeen) (asked : Option OrderWords) → asked ≡ None
    → Due before after asked status.Usage (fault_line fault.Usage)
usage_due before after asked e = (e, refl)

-- ---- what a sink keeps, it keeps over two steps

pub stays_on : (a b c : SinkSeen) → SinkStays a b → SinkStays b c → SinkStays a c
stays_on a b c first second = record {
  faults = le_trans first.faults second.faults;
  stalls = le_trans first.stalls second.stalls;
  terms = second.terms ∙ first.terms;
}

-- ---- words without a reading

pub unread_ends : {K : Type 0} (out : Outside K) (order : Option OrderWords) (ended : Status) → Ending out order ended → order ≡ None
    → EndsAs status.Usage ended
unread_ends out order status.Done (_, (o, is, _), _) none = cc
unread_ends out order status.Open (_, (o, is, _), _) none = cc
unread_ends out order status.Usage h none = inl refl
unread_ends out order status.Refused (_, (o, _, is, _, _), _) none = cc
unread_ends out order status.ReadFault (_, (o, _, is, _, _), _) none = cc
unread_ends out order status.WriteFault h none = inr (inl refl)
unread_ends out order status.Memory h none = inr (inr refl)
unread_ends out order status.ReportRefused (_, (o, is, _), _) none = cc

-- ---- refused contents, and contents that nothing refuses

as_asked : (P : OrderWords → Type 0) (order : Option OrderWords) (a b : OrderWords) → order ≡ Some a → order ≡ Some b → P a → P b
as_asked P order a b e f p = let same : a ≡ b = cc in subst P same p

never_answered : {K : Type 0} (out : Outside K) (order : Option OrderWords) (o p : OrderWords) (fault : Fault) (ended : Status) (text : List ℕ)
    → MustRefuse out o fault → order ≡ Some o → order ≡ Some p → Answers out.files p ended text → ⊥
never_answered out order o p fault ended text m some is answers =
    unanswered out.files o fault ended text m.told m.refuses (as_asked (λ (x : OrderWords). Answers out.files x ended text) order p o is some answers)

pub refused_ends : {K : Type 0} (out : Outside K) (order : Option OrderWords) (ended : Status) (o : OrderWords) (fault : Fault)
    → Ending out order ended → order ≡ Some o → MustRefuse out o fault → EndsAs status.Refused ended
refused_ends out order status.Done o fault (text, (p, is, answers), _) some m = absurd (never_answered out order o p fault status.Done text m some is answers)
refused_ends out order status.Open o fault (text, (p, is, answers), _) some m = absurd (never_answered out order o p fault status.Open text m some is answers)
refused_ends out order status.Usage o fault (_, (none, _), _) some m = cc
refused_ends out order status.Refused o fault h some m = inl refl
refused_ends out order status.ReadFault o fault (_, (p, file, is, unread, _), _) some m =
    absurd (m.read file (as_asked (λ (x : OrderWords). Unread out.files out.files_after (files_of x) file) order p o is some unread))
refused_ends out order status.WriteFault o fault h some m = inr (inl refl)
refused_ends out order status.Memory o fault h some m = inr (inr refl)
refused_ends out order status.ReportRefused o fault (text, (p, is, answers), _) some m =
    absurd (never_answered out order o p fault status.ReportRefused text m some is answers)

-- where no count of the sink rose, no write failed
never_failed : {K : Type 0} (out : Outside K) → ¬ (Rose out.sink.faults out.sink_after.faults)
    → ¬ (Rose out.sink.stalls out.sink_after.stalls) → SinkFailed out → ⊥
never_failed out faults stalls (inl rose) = faults rose
never_failed out faults stalls (inr rose) = stalls rose

answered_ends : {K : Type 0} (out : Outside K) (order : Option OrderWords) (ended : Status) (o p : OrderWords) (text : List ℕ)
    → order ≡ Some o → order ≡ Some p → MayEnd p ended → MayEnd o ended ⊎ (ended ≡ status.Memory)
answered_ends out order ended o p text some is may = inl (as_asked (λ (x : OrderWords). MayEnd x ended) order p o is some may)

pub completes : {K : Type 0} (out : Outside K) (order : Option OrderWords) (ended : Status) (o : OrderWords)
    → Ending out order ended → order ≡ Some o → MustAnswer out o → MayEnd o ended ⊎ (ended ≡ status.Memory)
completes out order status.Done o (text, (p, is, answers), _) some m =
    answered_ends out order status.Done o p text some is (may_end out.files p status.Done text answers)
completes out order status.Open o (text, (p, is, answers), _) some m =
    answered_ends out order status.Open o p text some is (may_end out.files p status.Open text answers)
completes out order status.Usage o (_, (none, _), _) some m = cc
completes out order status.Refused o (_, (p, fault, is, refuses, _), _) some m =
    absurd (m.valid fault (as_asked (λ (x : OrderWords). Refuses out.files x fault) order p o is some refuses))
completes out order status.ReadFault o (_, (p, file, is, unread, _), _) some m =
    absurd (m.read file (as_asked (λ (x : OrderWords). Unread out.files out.files_after (files_of x) file) order p o is some unread))
completes out order status.WriteFault o h some m = absurd (never_failed out m.faults m.stalls h.1)
completes out order status.Memory o h some m = inr refl
completes out order status.ReportRefused o (text, (p, is, answers), _) some m =
    answered_ends out order status.ReportRefused o p text some is (may_end out.files p status.ReportRefused text answers)

-- ---- reports that are accepted

answered_done : {K : Type 0} (out : Outside K) (order : Option OrderWords) (o p : OrderWords) (ended : Status) (text : List ℕ)
    → MustAccept out o → order ≡ Some o → order ≡ Some p → Answers out.files p ended text → EndsAs status.Done ended
answered_done out order o p ended text m some is answers =
    inl (accepted_ends out.files o ended text m.told m.accepted (as_asked (λ (x : OrderWords). Answers out.files x ended text) order p o is some answers))

pub accepts : {K : Type 0} (out : Outside K) (order : Option OrderWords) (ended : Status) (o : OrderWords)
    → Ending out order ended → order ≡ Some o → MustAccept out o → EndsAs status.Done ended
accepts out order status.Done o h some m = inl refl
accepts out order status.Open o (text, (p, is, answers), _) some m = answered_done out order o p status.Open text m some is answers
accepts out order status.Usage o (_, (none, _), _) some m = cc
accepts out order status.Refused o (_, (p, fault, is, refuses, _), _) some m =
    absurd (accepted_is_valid out.files o fault m.told m.accepted (as_asked (λ (x : OrderWords). Refuses out.files x fault) order p o is some refuses))
accepts out order status.ReadFault o (_, (p, file, is, unread, _), _) some m =
    absurd (m.read file (as_asked (λ (x : OrderWords). Unread out.files out.files_after (files_of x) file) order p o is some unread))
accepts out order status.WriteFault o h some m = inr (inl refl)
accepts out order status.Memory o h some m = inr (inr refl)
accepts out order status.ReportRefused o (text, (p, is, answers), _) some m =
    answered_done out order o p status.ReportRefused text m some is answers
