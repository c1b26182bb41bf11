-- What a node's state means for jobs.
use Rattle.std.specs.Prelude.{ℕ, ◌-◌, ◌==◌, ◌||◌, Bool, List, length, take, slice_index, if◌then◌else◌, bytes_eq, codes}
use Rattle.tetri_hosts.specs.declared.state.NodeState.{NodeState}
use Rattle.tetri_hosts.specs.declared.state.NodeState.TheVariants.{Free, Taken, Shut}

abbrev pub word_state : List ℕ → NodeState
word_state word =
    if bytes_eq word (codes "idle") then Free
    else (if bytes_eq word (codes "allocated") || bytes_eq word (codes "completing") || bytes_eq word (codes "planned") || bytes_eq word (codes "reserved") || bytes_eq word (codes "maint")
    then Taken else Shut)

-- ~ powered down, # powering up, + completing too
abbrev pub is_soft_mark : ℕ → Bool
is_soft_mark mark = mark == 126 || mark == 35 || mark == 43

-- what a state means, with at most one mark behind it; any other mark makes a word that is not known
abbrev pub state_of : List ℕ → NodeState
state_of text = if is_soft_mark (slice_index text (length text - 1)) then word_state (take (length text - 1) text) else word_state text

-- the one that keeps more jobs away
abbrev pub stricter : NodeState → NodeState → NodeState
stricter Free other = other
stricter Taken Free = Taken
stricter Taken Taken = Taken
stricter Taken Shut = Shut
stricter Shut other = Shut
