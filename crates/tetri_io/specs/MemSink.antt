-- What the sink in memory holds, and which of its writes fail.
use Rattle.std.specs.Prelude.{ℕ, ◌≡◌, ◌-◌, ◌<◌, min, List, [], length, Contains}
use Rattle.tetri_io.specs.Causes.{one_more}
use Rattle.tetri_io.specs.declared.mem_sink.MemSink.{MemSink}

-- the bytes written so far
abbrev pub sink_bytes : MemSink → List ℕ
sink_bytes s = s.bytes.items

-- how many writes failed
abbrev pub fault_count : MemSink → ℕ
fault_count s = s.faults

-- how many writes there were
abbrev pub write_count : MemSink → ℕ
write_count s = s.calls

-- the numbers of the writes that fail
abbrev pub failing_writes : MemSink → List ℕ
failing_writes s = s.failing.items

-- how many more bytes it takes
abbrev pub room_left : MemSink → ℕ
room_left s = s.room - length (sink_bytes s)

-- how many bytes of a piece a write takes
abbrev pub write_size : MemSink → List ℕ → ℕ
write_size s piece = min (min (length piece) s.most) (room_left s)

-- The next write succeeds: room is left, and the write's number is not listed.
abbrev pub NextWriteSucceeds : MemSink → Type 0
NextWriteSucceeds s = (0 < room_left s) × (¬ Contains s.failing.items (one_more s.calls))

-- Writes take as much, the room is the same, and the same writes fail.
pub record KeepsWriteRules (old new : MemSink) : Type 0 where
  pub most : new.most ≡ old.most
  pub room : new.room ≡ old.room
  pub failing : failing_writes new ≡ failing_writes old

-- Nothing is written.
pub record IsFreshSink (most room : ℕ) (failing : List ℕ) (s : MemSink) : Type 0 where
  pub bytes : sink_bytes s ≡ []
  pub most_is : s.most ≡ most
  pub room_is : s.room ≡ room
  pub failing_is : failing_writes s ≡ failing
  pub writes : write_count s ≡ 0
  pub faults : fault_count s ≡ 0
