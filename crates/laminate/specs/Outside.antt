-- The files and the sink of a run, before it and after it.
use Rattle.std.specs.Prelude.{◌≡◌, ◌⊎◌, ℕ, ◌≤◌, List, Option, IfSome}
use Rattle.std.specs.Io.KnownBytes.{Appends}
use Rattle.lam_outside.specs.Counts.{Rose}
use Rattle.lam_outside.specs.Told.{GrowsByPrefix}

-- the contents of files by name, where they are told
abbrev pub Contents : Type 0
Contents = List ℕ → Option (List ℕ)

-- the bytes of a file: the told ones, where they are told
abbrev pub IsContent : Option (List ℕ) → List ℕ → Type 0
IsContent told bytes = IfSome told (λ b. b ≡ bytes)

-- what files tell: their contents, and the count of faults of each name
pub record FilesSeen : Type 0 where
  pub contents : Contents
  pub faults : List ℕ → ℕ

-- what a sink tells: what was written, where it tells that; the counts of its faults and of its turns that took none; and
-- the numbers on which it was made
pub record SinkSeen : Type 0 where
  pub written : Option (List ℕ)
  pub faults : ℕ
  pub stalls : ℕ
  pub terms : List ℕ

-- the files and the sink before and after; `whole` is all that the sink is, also what it does not tell
pub record Outside (K : Type 0) : Type 0 where
  pub files : FilesSeen
  pub files_after : FilesSeen
  pub sink : SinkSeen
  pub sink_after : SinkSeen
  pub whole : K
  pub whole_after : K

-- ---- what no run changes

-- the contents of files stay, and no count of their faults falls
pub record FilesStay (before after : FilesSeen) : Type 0 where
  pub contents : (name : List ℕ) → after.contents name ≡ before.contents name
  pub faults : (name : List ℕ) → before.faults name ≤ after.faults name

-- no count of a sink falls, and the numbers that it was made on stay
pub record SinkStays (before after : SinkSeen) : Type 0 where
  pub faults : before.faults ≤ after.faults
  pub stalls : before.stalls ≤ after.stalls
  pub terms : after.terms ≡ before.terms

pub record IsSteady {K : Type 0} (out : Outside K) : Type 0 where
  pub files : FilesStay out.files out.files_after
  pub sink : SinkStays out.sink out.sink_after

-- ---- what became of a text

-- all of the text was written, and nothing else
abbrev pub Wrote : {K : Type 0} → Outside K → List ℕ → Type 0
Wrote out text = Appends out.sink.written out.sink_after.written text

-- a prefix of the text was written, and nothing else
abbrev pub WrotePrefix : {K : Type 0} → Outside K → List ℕ → Type 0
WrotePrefix out text = GrowsByPrefix out.sink.written out.sink_after.written text

-- the sink failed, or took none of a piece
abbrev pub SinkFailed : {K : Type 0} → Outside K → Type 0
SinkFailed out = Rose out.sink.faults out.sink_after.faults ⊎ Rose out.sink.stalls out.sink_after.stalls

-- ---- by what tells of them

abbrev pub files_seen : {F : Type 0} → (F → Contents) → (F → List ℕ → ℕ) → F → FilesSeen
files_seen contents faults files = record { contents = contents files; faults = faults files }

abbrev pub sink_seen : {K : Type 0} → (K → Option (List ℕ)) → (K → ℕ) → (K → ℕ) → (K → List ℕ) → K → SinkSeen
sink_seen written faults stalls terms sink =
    record { written = written sink; faults = faults sink; stalls = stalls sink; terms = terms sink }

abbrev pub outside : {F K : Type 0} → (F → Contents) → (F → List ℕ → ℕ)
    → (K → Option (List ℕ)) → (K → ℕ) → (K → ℕ) → (K → List ℕ) → (files files_after : F) → (sink sink_after : K) → Outside K
outside contents read_faults written faults stalls terms f g k l = record {
  files = files_seen contents read_faults f;
  files_after = files_seen contents read_faults g;
  sink = sink_seen written faults stalls terms k;
  sink_after = sink_seen written faults stalls terms l;
  whole = k;
  whole_after = l;
}
