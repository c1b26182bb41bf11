-- What the sink over a writer counts.
use Rattle.std.specs.Prelude.{ℕ, List, Option, None}
use Rattle.tetri_io.specs.declared.std_sink.StdSink.{StdSink}

-- the writer
abbrev pub writer_of : {W : Type 0} → StdSink W → W
writer_of s = s.out

-- how many writes failed
abbrev pub fault_count : {W : Type 0} → StdSink W → ℕ
fault_count s = s.faults

-- It tells no bytes.
abbrev pub told_bytes : {W : Type 0} → StdSink W → Option (List ℕ)
told_bytes s = None
