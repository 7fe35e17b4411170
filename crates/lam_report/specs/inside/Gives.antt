-- What a reader of lines answers.
use Rattle.std.specs.Prelude.{◌≡◌, Bool, true, false, Option, Some, None, Result, Ok, Err, ⊤}
use Rattle.lam_report.specs.declared.head.ReadError.{ReadError}
use Rattle.lam_report.specs.declared.head.ReadError.TheVariants.{Refused, Memory}
use Rattle.lam_report.specs.inside.Left.{Left}
use Rattle.lam_report.specs.inside.Reading.{Got}

-- it read so, and the lines behind are left; or it stays at the faulty line
abbrev pub ReadsLine : {X : Type 0} → Option X → (old new : Left) → Got X → Type 0
ReadsLine (Some x) old new got = (got ≡ Ok (x, new.lines)) × (new.tail ≡ old.tail)
ReadsLine None old new got = (got ≡ Err new.lines) × (new.tail ≡ old.tail)

-- the same where memory may be wanted
abbrev pub Gives : {X : Type 0} → Result X ReadError → (old new : Left) → Got X → Type 0
Gives (Ok x) old new got = (got ≡ Ok (x, new.lines)) × (new.tail ≡ old.tail)
Gives (Err Refused) old new got = (got ≡ Err new.lines) × (new.tail ≡ old.tail)
Gives (Err Memory) old new got = ⊤

-- the same where what is read is not kept
abbrev pub Passes : {X : Type 0} → Bool → (old new : Left) → Got X → Type 0
Passes {X} true old new got = (x : X) × (got ≡ Ok (x, new.lines)) × (new.tail ≡ old.tail)
Passes false old new got = (got ≡ Err new.lines) × (new.tail ≡ old.tail)
