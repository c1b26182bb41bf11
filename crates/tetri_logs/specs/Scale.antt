-- Seconds as slots, and processors as nodes.
use Rattle.std.specs.Prelude.{ℕ, ◌+◌, ◌-◌, ◌*◌, ◌/◌, Bool, max, min, nat_lt, unwrap_or}
use Rattle.tetri_logs.specs.declared.account.Account.{Account}
use Rattle.tetri_logs.specs.declared.options.Settings.{Settings}
use Rattle.tetri_logs.specs.declared.options.Worth.{Worth}
use Rattle.tetri_logs.specs.declared.options.Worth.TheVariants.{NodeSlots, Job}

-- the second since 1970 at which a job was submitted
abbrev pub moment_of : Settings → Account → ℕ
moment_of s a = s.start + a.submit

-- the slot of a second
abbrev pub slot_of : Settings → ℕ → ℕ
slot_of s moment = (moment - s.origin) / s.slot

-- in how many slots so many seconds fit, one at least
abbrev pub slots_of : Settings → ℕ → ℕ
slots_of s seconds = max ((seconds + s.slot - 1) / s.slot) 1

-- how many nodes have so many processors
abbrev pub nodes_with : Settings → ℕ → ℕ
nodes_with s processors = (processors + s.processors - 1) / s.processors

-- how many nodes a job asks for: those that the log counts, or so many that they have its processors
abbrev pub nodes_of : Settings → Account → ℕ
nodes_of s a = unwrap_or a.nodes (nodes_with s (unwrap_or a.processors 0))

-- how many nodes a job may have: those of its set, and no more than there are
abbrev pub room_of : Settings → Account → ℕ
room_of s a = min s.nodes (unwrap_or a.room s.nodes)

-- whether a job asks for fewer processors than a node has
abbrev pub is_part_node : Settings → Account → Bool
is_part_node s a = nat_lt (unwrap_or a.processors s.processors) s.processors

abbrev pub worth_by : Worth → ℕ → ℕ → ℕ
worth_by NodeSlots nodes slots = nodes * slots
worth_by Job nodes slots = 1

-- what so many nodes for so many slots are worth
abbrev pub worth_of : Settings → ℕ → ℕ → ℕ
worth_of s nodes slots = worth_by s.worth nodes slots
