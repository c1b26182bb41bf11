-- What a caller asks for.
use Rattle.std.specs.Prelude.{ℕ, ◌==◌, ◌&&◌, ◌||◌, Bool, false, nat_lt, Option, Some, None, is_none, if◌then◌else◌}
use Rattle.tetri_queue.specs.declared.asked.Asked.{Asked}
use Rattle.tetri_queue.specs.declared.asked.AskedFault.{AskedFault}
use Rattle.tetri_queue.specs.declared.asked.AskedFault.TheVariants.{Slot, Window, Budget, Slack, Ageing, Now}

-- ageing takes 1 to 10,000 slots
abbrev pub is_out_of_range : Option ℕ → Bool
is_out_of_range (Some slots) = slots == 0 || nat_lt 10000 slots
is_out_of_range None = false

-- the first thing that cannot be; with reservations slot 0 has to have a second
abbrev pub fault_of : Asked → Bool → Option AskedFault
fault_of a reserved =
    if a.slot == 0 || nat_lt 1000000 a.slot then Some Slot
    else (if a.window == 0 || nat_lt 64 a.window then Some Window
    else (if a.budget == 0 || nat_lt 10000 a.budget then Some Budget
    else (if nat_lt 10000 a.slack then Some Slack
    else (if is_out_of_range a.ageing then Some Ageing
    else (if reserved && is_none a.now then Some Now else None)))))
