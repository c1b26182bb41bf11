-- The place of a job in a trace.
use Rattle.std.specs.Prelude.{ℕ, ◌<◌, ◌≤◌, IfSome, ℤ, pos, ◌-ℤ◌, ◌+◌, ◌*◌, ◌/◌, ◌==◌, ◌||◌, ◌&&◌, Bool, false, nat_le, nat_lt, Option, Some, None, Result, Ok, Err, if◌then◌else◌}
use Rattle.tetri_base.specs.ResultSteps.{◌>>=◌}
use Rattle.tetri_logs.specs.Swf.{refused}
use Rattle.tetri_logs.specs.declared.account.Account.{Account}
use Rattle.tetri_logs.specs.declared.entry.Cause.{Cause}
use Rattle.tetri_logs.specs.declared.entry.Cause.TheVariants.{NoSet, TooLarge, PartNode, Outside, Beyond}
use Rattle.tetri_request.specs.declared.ask.Ask.{Ask}
use Rattle.tetri_logs.specs.Scale.{is_part_node, moment_of, nodes_of, room_of, slot_of, slots_of, worth_of}
use Rattle.tetri_logs.specs.declared.options.Settings.{Settings}
use Rattle.tetri_logs.specs.declared.placing.Placing.{Placing}

-- whether a job is outside the part of the log that is wanted
abbrev pub is_outside : Settings → ℕ → Bool
is_outside s moment = nat_lt moment s.from || nat_le s.to moment

-- a slot of a run
abbrev pub within_run : ℕ → Result ℕ Cause
within_run slot = if nat_lt slot 10000 then Ok slot else Err Beyond

-- the slot in which a job arrives, not before slot 0
abbrev pub arrival_of : Settings → ℕ → Result ℕ Cause
arrival_of s moment = if nat_lt moment s.origin then Err Beyond else within_run (slot_of s moment)

-- so many slots as a run may last
abbrev pub within_slots : ℕ → Result ℕ Cause
within_slots slots = if nat_le slots 10000 then Ok slots else Err Beyond

-- how many slots longer than it asked for a job ran, 0 where it is not known
abbrev pub late_of : Settings → ℕ → Option ℕ → Result ℤ Cause
late_of s slots None = Ok (pos 0)
late_of s slots (Some ran) = if nat_le (slots_of s ran) (slots + 10000) then Ok (pos (slots_of s ran) -ℤ pos slots) else Err Beyond

-- the slot in which a job is cancelled while it waits
abbrev pub cancel_of : Settings → ℕ → Option ℕ → Result (Option ℕ) Cause
cancel_of s moment None = Ok None
cancel_of s moment (Some waited) = within_run (slot_of s (moment + waited)) >>= λ slot. Ok (Some slot)

-- what a job of so many nodes and slots asks for: all nodes may serve
abbrev pub ask_of : Settings → ℕ → ℕ → Result Ask Cause
ask_of s nodes slots =
    if nat_lt (1000000000000 / s.unit) (worth_of s nodes slots) then Err Beyond
    else Ok (record { k = nodes; set = 0; dur = slots; value = worth_of s nodes slots * s.unit; deadline = slots + s.slack; prefer = None; class = s.class; elastic = false })

-- the place of a job in a trace, or why it is left out
unfoldable pub place : Settings → Account → Result Placing Cause
place s a = do
  wanted ← refused (is_outside s (moment_of s a)) Outside
  seated ← refused (room_of s a == 0) NoSet
  fits ← refused (nat_lt (room_of s a) (nodes_of s a)) TooLarge
  whole ← refused (s.whole_nodes_only && is_part_node s a) PartNode
  arrival ← arrival_of s (moment_of s a)
  slots ← within_slots (slots_of s a.limit)
  late ← late_of s slots a.ran
  cancel ← cancel_of s (moment_of s a) a.waited
  ask ← ask_of s (nodes_of s a) slots
  Ok (record { arrival = arrival; late = late; ask = ask; cancel = cancel; part_node = is_part_node s a })

-- in a run of 10,000 slots
pub record IsPlaced (p : Placing) : Type 0 where
  pub arrival : p.arrival < 10000
  pub deadline : p.ask.deadline ≤ 20000
  pub cancel : IfSome p.cancel (λ slot. slot < 10000)
