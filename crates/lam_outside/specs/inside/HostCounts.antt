-- The counts of the host's files and of a sink over a writer.
use Rattle.std.specs.Prelude.{ℕ}
use Rattle.lam_outside.specs.declared.host.HostFiles.{HostFiles}
use Rattle.lam_outside.specs.declared.host.HostSink.{HostSink}

-- the count of faults, which is that of every name
abbrev pub read_faults : {R : Type 0} → HostFiles R → ℕ
read_faults files = files.faults

-- the count of turns that failed
abbrev pub write_faults : {W : Type 0} → HostSink W → ℕ
write_faults sink = sink.faults

-- the count of turns that took none of a piece that isn't empty
abbrev pub write_stalls : {W : Type 0} → HostSink W → ℕ
write_stalls sink = sink.stalls
