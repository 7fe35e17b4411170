-- How texts go into a sink, one after the other.
use Rattle.std.proofs.Common.{◌≡◌, ◌≤◌, ℕ, List, [], ◌++◌, Option, Some, None, Result, Ok, Err, refl, sym, ap, subst, ◌∙◌, append_assoc, append-nil, arith}
use Rattle.std.specs.Prelude.{IsErrOf}
use Rattle.std.specs.Result.{result_err}
use Rattle.std.specs.Io.KnownBytes.{Appends}
use Rattle.std.proofs.KnownBytes.{Appends-trans, Appends-nil}
use Rattle.lam_outside.specs.Counts.{Rose}
use Rattle.lam_outside.specs.Told.{GrowsByPrefix, Delivers}
use Rattle.lam_outside.specs.declared.writing.WriteFault.{WriteFault}
use Rattle.lam_outside.specs.declared.writing.WriteFault.TheVariants.{Failed, TookNone}
use Rattle.lam_outside.proofs.Growth.{Rose-then, Rose-after, GrowsByPrefix-longer, GrowsByPrefix-after}
use Rattle.lam_report.specs.inside.Pieces.{SinkView, Kept, Handed, Counted, Hands, Puts}

-- ---- one piece

-- nothing is put after a fault
pub put_nothing : (view : SinkView) (fault : WriteFault) (piece : List ℕ) → Puts view (Some fault) view (Some fault) piece
put_nothing view fault piece = record {
  handed = λ start front left part whole h. GrowsByPrefix-longer start view.written front part h;
  faults = omega arith;
  stalls = omega arith;
  terms = refl;
  counted = (refl, refl, refl);
}

-- what a call of `put_all` does
pub record PutsAll (old new : SinkView) (outcome : Result (Unit {0}) WriteFault) (piece : List ℕ) : Type 0 where
  pub faults : old.faults ≤ new.faults
  pub stalls : old.stalls ≤ new.stalls
  pub failed : IsErrOf outcome Failed → Rose old.faults new.faults
  pub took_none : IsErrOf outcome TookNone → Rose old.stalls new.stalls
  pub stalls_only_there : ¬ (IsErrOf outcome TookNone) → new.stalls ≡ old.stalls
  pub terms : new.terms ≡ old.terms
  pub written : Delivers old.written new.written outcome piece

whole_text : (done left part piece front : List ℕ) → piece ≡ left ++ part → front ≡ done ++ left → front ++ part ≡ done ++ piece
whole_text done left part piece front whole e = ap (λ t. t ++ part) e ∙ append_assoc done left part ∙ ap (λ t. done ++ t) (sym whole)

pub put_piece : (old new : SinkView) (outcome : Result (Unit {0}) WriteFault) (piece : List ℕ) → PutsAll old new outcome piece
    → Puts old None new (result_err outcome) piece
put_piece old new (Ok u) piece is = record {
  handed = λ start front left part whole h. (
    h.0 ++ piece,
    Appends-trans start old.written new.written h.0 piece h.1 is.written,
    whole_text h.0 left part piece front whole h.2 ∙ sym (append-nil (h.0 ++ piece)),
  );
  faults = is.faults;
  stalls = is.stalls;
  terms = is.terms;
  counted = is.stalls_only_there (λ e. (let n : Ok u ≡ Err TookNone = e in cc));
}
put_piece old new (Err Failed) piece is = record {
  handed = λ start front left part whole h. subst (GrowsByPrefix start new.written) (sym (whole_text h.0 left part piece front whole h.2))
      (GrowsByPrefix-after start old.written new.written h.0 piece h.1 is.written);
  faults = is.faults;
  stalls = is.stalls;
  terms = is.terms;
  counted = (is.failed refl, is.stalls_only_there (λ e. (let n : ◌≡◌ {A = Result (Unit {0}) WriteFault} (Err Failed) (Err TookNone) = e in cc)));
}
put_piece old new (Err TookNone) piece is = record {
  handed = λ start front left part whole h. subst (GrowsByPrefix start new.written) (sym (whole_text h.0 left part piece front whole h.2))
      (GrowsByPrefix-after start old.written new.written h.0 piece h.1 is.written);
  faults = is.faults;
  stalls = is.stalls;
  terms = is.terms;
  counted = is.took_none refl;
}

-- ---- texts

-- what is left grows while a piece is not full
pub keep_part : (view : SinkView) (before after : Kept) (part : List ℕ) → after.left ≡ before.left ++ part → after.fault ≡ before.fault
    → Hands view before view after part
keep_part view before after part left fault = record {
  handed = λ start front h. subst (λ l. Handed start view l after.fault (front ++ part)) (sym left)
      (subst (λ f. Handed start view (before.left ++ part) f (front ++ part)) (sym fault) (longer before.fault start front h));
  faults = omega arith;
  stalls = omega arith;
  terms = refl;
  counted = subst (Counted view view before.fault) (sym fault) (same before.fault);
} where
  longer : (f : Option WriteFault) (start : Option (List ℕ)) (front : List ℕ) → Handed start view before.left f front
      → Handed start view (before.left ++ part) f (front ++ part)
  longer None start front h = (h.0, h.1, ap (λ t. t ++ part) h.2 ∙ append_assoc h.0 before.left part)
  longer (Some fault) start front h = GrowsByPrefix-longer start view.written front part h

  same : (f : Option WriteFault) → Counted view view f f
  same None = refl
  same (Some fault) = (refl, refl, refl)

-- a full piece is put
pub full_piece : (old new : SinkView) (before after : Kept) (piece part : List ℕ) → piece ≡ before.left ++ part → after.left ≡ []
    → Puts old before.fault new after.fault piece → Hands old before new after part
full_piece old new before after piece part whole empty puts = record {
  handed = λ start front h. subst (λ l. Handed start new l after.fault (front ++ part)) (sym empty)
      (puts.handed start front before.left part whole h);
  faults = puts.faults;
  stalls = puts.stalls;
  terms = puts.terms;
  counted = puts.counted;
}

counted_then : (a b c : SinkView) (f g h : Option WriteFault) → a.faults ≤ b.faults → b.faults ≤ c.faults → a.stalls ≤ b.stalls → b.stalls ≤ c.stalls
    → Counted a b f g → Counted b c g h → Counted a c f h
counted_then a b c None None None la lb ma mb p q = q ∙ p
counted_then a b c None None (Some Failed) la lb ma mb p q = (Rose-after a.faults b.faults c.faults la q.0, q.1 ∙ p)
counted_then a b c None None (Some TookNone) la lb ma mb p q = Rose-after a.stalls b.stalls c.stalls ma q
counted_then a b c None (Some g) None la lb ma mb p q = absurd q
counted_then a b c None (Some Failed) (Some Failed) la lb ma mb p q = (Rose-then a.faults b.faults c.faults p.0 lb, q.2 ∙ p.1)
counted_then a b c None (Some TookNone) (Some TookNone) la lb ma mb p q = Rose-then a.stalls b.stalls c.stalls p mb
counted_then a b c None (Some Failed) (Some TookNone) la lb ma mb p q = absurd (let e : Failed ≡ TookNone = q.0 in cc)
counted_then a b c None (Some TookNone) (Some Failed) la lb ma mb p q = absurd (let e : TookNone ≡ Failed = q.0 in cc)
counted_then a b c (Some f) None h la lb ma mb p q = absurd p
counted_then a b c (Some f) (Some g) None la lb ma mb p q = absurd q
counted_then a b c (Some f) (Some g) (Some h) la lb ma mb p q = (p.0 ∙ q.0, q.1 ∙ p.1, q.2 ∙ p.2)

-- one text after the other
pub Hands-then : {a b c : SinkView} {k l m : Kept} {text more : List ℕ} → Hands a k b l text → Hands b l c m more → Hands a k c m (text ++ more)
Hands-then {a} {b} {c} {k} {l} {m} {text} {more} first next = record {
  handed = λ start front h. subst (Handed start c m.left m.fault) (append_assoc front text more) (next.handed start (front ++ text) (first.handed start front h));
  faults = let one = first.faults in let two = next.faults in omega (arith, one, two);
  stalls = let one = first.stalls in let two = next.stalls in omega (arith, one, two);
  terms = next.terms ∙ first.terms;
  counted = counted_then a b c k.fault l.fault m.fault first.faults next.faults first.stalls next.stalls first.counted next.counted;
}

-- no text
pub Hands-nothing : (view : SinkView) (kept : Kept) → Hands view kept view kept []
Hands-nothing view kept = keep_part view kept kept [] (sym (append-nil kept.left)) refl

-- ---- the end

pub finished_well : (start : Option (List ℕ)) (old new : SinkView) (left : List ℕ) (before after : Option WriteFault) (text : List ℕ) → after ≡ None
    → Puts old before new after left → Handed start old left before text → Appends start new.written text
finished_well start old new left before after text none puts h =
    let got = subst (λ f. Handed start new [] f (text ++ [])) none (puts.handed start text left [] (sym (append-nil left)) h) in
    subst (Appends start new.written) (sym (append-nil got.0) ∙ sym got.2 ∙ append-nil text) got.1

pub finished_ill : (start : Option (List ℕ)) (old new : SinkView) (left : List ℕ) (before after : Option WriteFault) (fault : WriteFault) (text : List ℕ)
    → after ≡ Some fault → Puts old before new after left → Handed start old left before text → GrowsByPrefix start new.written text
finished_ill start old new left before after fault text some puts h =
    let got = subst (λ f. Handed start new [] f (text ++ [])) some (puts.handed start text left [] (sym (append-nil left)) h) in
    subst (GrowsByPrefix start new.written) (append-nil text) got

-- the counts of a text from nothing kept to its end
pub began : (written : Option (List ℕ)) (now : SinkView) → now.written ≡ written → Handed written now [] None []
began written now is = ([], subst (λ w. Appends written w []) (sym is) (Appends-nil written), refl)
