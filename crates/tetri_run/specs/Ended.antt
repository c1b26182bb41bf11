-- What the program does once a status stands: the number with which it exits, and what it says.
use Rattle.std.specs.Prelude.{◌≡◌, ◌⊎◌, ℕ, List, Option}
use Rattle.std.specs.Io.KnownBytes.{append_known}
use Rattle.tetri_run.specs.Status.{bad_trace_words, refused_words, status_words}
use Rattle.tetri_run.specs.declared.status.Status.{Status}
use Rattle.tetri_run.specs.declared.status.Status.TheVariants.{Done, Refused, Usage, ReadFault, WriteFault, BadTrace, NoMemory}

-- what the shell is told
abbrev pub exit_number : Status → ℕ
exit_number Done = 0
exit_number (Refused line why) = 1
exit_number Usage = 2
exit_number ReadFault = 3
exit_number WriteFault = 4
exit_number (BadTrace line why) = 5
exit_number NoMemory = 6

-- the line of this status is made in memory: it has numbers
abbrev pub NeedsMemory : Status → Type 0
NeedsMemory (Refused line why) = Unit {0}
NeedsMemory (BadTrace line why) = Unit {0}
NeedsMemory status = ⊥

-- The line of the status was written, which is empty once all is done. A line that is made in
-- memory may be left out.
abbrev pub IsSaid : Status → Option (List ℕ) → Option (List ℕ) → Type 0
IsSaid (Refused line why) before after = (after ≡ append_known before (refused_words line why))
    ⊎ (after ≡ before)
IsSaid (BadTrace line why) before after = (after ≡ append_known before (bad_trace_words line why))
    ⊎ (after ≡ before)
IsSaid status before after = after ≡ append_known before (status_words status)
