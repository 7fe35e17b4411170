-- What a sink in memory holds.
use Rattle.std.specs.Prelude.{ℕ, ◌-◌, List, [], ◌∷◌, length, min}
use Rattle.lam_outside.specs.Calls.{Calls, no_calls}

pub record SinkState : Type 0 where
  pub written : List ℕ
  pub room : ℕ
  pub step : ℕ
  pub calls : Calls
  pub faults : ℕ
  pub stalls : ℕ

-- nothing was written, and nothing counted
abbrev pub empty_sink : ℕ → ℕ → SinkState
empty_sink room step =
    record { written = []; room = room; step = step; calls = no_calls; faults = 0; stalls = 0 }

-- how many bytes of a piece a turn takes: the least of the piece, the step and the room left
abbrev pub turn_takes : SinkState → List ℕ → ℕ
turn_takes sink piece = min (length piece) (min sink.step (sink.room - length sink.written))

-- the room, the step and the failing calls
abbrev pub terms_of : SinkState → List ℕ
terms_of sink = sink.room ∷ (sink.step ∷ sink.calls.failing)
