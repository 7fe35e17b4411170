-- A text that is written into a sink in memory with room for it is written whole.
use Rattle.std.proofs.Common.{◌≡◌, ◌∙◌, ap, subst, ℕ, ◌<◌, ◌≤◌, List, [], ◌∷◌, length, drop, get_or, Some, arith}
use Rattle.std.specs.Prelude.{Result, Err, IsErrOf}
use Rattle.std.proofs.lemmas.List.{length-take-le}
use Rattle.lam_outside.specs.Counts.{Rose}
use Rattle.lam_outside.specs.SinkState.{SinkState, empty_sink, terms_of}
use Rattle.lam_outside.specs.Told.{Delivers, GrowsByPrefix}
use Rattle.lam_outside.specs.declared.writing.WriteFault.{WriteFault}
use Rattle.lam_outside.specs.declared.writing.WriteFault.TheVariants.{Failed, TookNone}

-- a prefix is no longer than the text
short_prefix : (new text : List ℕ) → GrowsByPrefix (Some []) (Some new) text → length new ≤ length text
short_prefix new text (n, within, grown) = let e = ap length grown in let l = length-take-le n text within in omega (arith, e, l, within)

-- what writing a text promises of an empty sink with more room than the text takes, and what such
-- a sink says of itself afterwards: there was no fault
pub written_whole : (room step : ℕ) (old new : SinkState) (outcome : Result (Unit {0}) WriteFault) (text : List ℕ)
    → length text < room → old ≡ empty_sink room step
    → (IsErrOf outcome Failed → Rose old.faults new.faults)
    → (IsErrOf outcome TookNone → Rose old.stalls new.stalls)
    → terms_of new ≡ terms_of old
    → Delivers (Some old.written) (Some new.written) outcome text
    → (new.calls.failing ≡ [] → new.faults ≡ 0)
    → (0 < new.stalls → length new.written ≡ new.room)
    → (fault : WriteFault) → outcome ≡ Err fault → ⊥
written_whole room step old new outcome text fits made failed took_none terms written fault_free full fault is = by fault is where
  same : terms_of new ≡ room ∷ step ∷ []
  same = terms ∙ ap terms_of made

  given : GrowsByPrefix (Some []) (Some new.written) text
  given = subst (λ (s : SinkState). GrowsByPrefix (Some s.written) (Some new.written) text) made (subst (λ o. Delivers (Some old.written) (Some new.written) o text) is written)

  by : (e : WriteFault) → outcome ≡ Err e → ⊥
  by Failed at =
      let none = fault_free (ap (λ l. drop 2 l) same) in
      let rose = subst (λ (s : SinkState). Rose s.faults new.faults) made (failed at) in
      omega (arith, none, rose)
  by TookNone at =
      let rose = subst (λ (s : SinkState). Rose s.stalls new.stalls) made (took_none at) in
      let long = full (omega (arith, rose)) in
      let room_is : new.room ≡ room = ap (λ l. get_or l 0 0) same in
      let short = short_prefix new.written text given in
      omega (arith, fits, long, room_is, short)
