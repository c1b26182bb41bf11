-- The trace that is made from a number.
use Rattle.std.specs.Prelude.{ℕ, zero, suc, ◌+◌, ◌*◌, ◌/◌, ◌%◌, ◌-ℤ◌, pos, List, [], ◌∷◌, ◌++◌, map, if◌then◌else◌, nat_lt, codes, decimal, false, true}
use Rattle.std.specs.List.{range_with_len}
use Rattle.tetri_strl.specs.declared.expr.Leaf.{Leaf}
use Rattle.tetri_strl.specs.Tree.{Tree, one, join, greatest, none, more}
use Rattle.tetri_cluster.specs.Sets.{number_in, with_set}
use Rattle.tetri_cluster.specs.declared.cluster.NodeText.{NodeText}
use Rattle.tetri_trace.specs.Lines.{with_job}
use Rattle.tetri_trace.specs.Scenario.{Scenario, Submission, strl, without_events}
use Rattle.tetri_make.specs.declared.drawing.Drawn.{Drawn}

-- the state behind a state: a linear congruential generator
abbrev pub next : ℕ → ℕ
next x = (1103515245 * x + 12345) % 2147483648

-- the number below m that is drawn in a state
abbrev pub drawn : ℕ → ℕ → ℕ
drawn x m = next x / 65536 % m

-- what is drawn for one job, from a state on
abbrev pub draws_in : ℕ → Drawn
draws_in x = record {
  shape = drawn x 3;
  nodes = 1 + drawn (next x) 3;
  slots = 1 + drawn (next (next x)) 3;
  worth = 1 + drawn (next (next (next x))) 20;
  late = drawn (next (next (next (next x)))) 3;
}

-- the state in which the draws for the job of a slot begin
abbrev pub state_at : ℕ → ℕ → ℕ
state_at n zero = n
state_at n (suc slot) = next (next (next (next (next (state_at n slot)))))

-- so many nodes, from the first on, each so many further
abbrev pub spaced : ℕ → ℕ → ℕ → List ℕ
spaced first step count = map (λ i. first + i * step) (range_with_len 0 count)

-- all nodes, those with the tag gpu, those of even number, and those of odd number
abbrev pub EVERY : List ℕ
EVERY = spaced 0 1 8

abbrev pub GPU : List ℕ
GPU = spaced 0 1 4

abbrev pub EVEN : List ℕ
EVEN = spaced 0 2 4

abbrev pub ODD : List ℕ
ODD = spaced 1 2 4

abbrev pub node_at : ℕ → NodeText
node_at i = record {
  name = codes "n" ++ decimal i;
  tags = (if nat_lt i 4 then codes "gpu" ∷ [] else []) ++ (codes "r" ++ decimal (i % 2)) ∷ [];
}

-- sets with those that a job's request names, in order
abbrev pub sets_with : List (List ℕ) → Drawn → List (List ℕ)
sets_with sets d = by_shape d.shape
  where
    by_shape : ℕ → List (List ℕ)
    by_shape zero = with_set (with_set sets GPU) EVERY
    by_shape (suc zero) = with_set (with_set sets EVEN) ODD
    by_shape _ = with_set sets EVERY

-- a leaf that wants exactly k nodes
abbrev pub exact_leaf : ℕ → ℕ → ℕ → ℕ → ℕ → ℕ → Leaf
exact_leaf num set k start dur v = record { num = num; set = set; k = k; start = start; dur = dur; v = v; linear = false }

-- the greater of two leaves
abbrev pub either_of : Leaf → Leaf → Tree
either_of l m = join greatest (more (one l) (more (one m) none))

-- the request of the job that arrives at a slot, over the sets that earlier requests name
abbrev pub request_of : List (List ℕ) → ℕ → Drawn → Tree
request_of sets slot d = by_shape d.shape
  where
    by_shape : ℕ → Tree
    by_shape zero = either_of
        (exact_leaf 0 (number_in sets GPU) d.nodes slot d.slots (2 * d.worth))
        (exact_leaf 1 (number_in (with_set sets GPU) EVERY) d.nodes slot (d.slots + 1) d.worth)
    by_shape (suc zero) = either_of
        (exact_leaf 0 (number_in sets EVEN) d.nodes slot d.slots d.worth)
        (exact_leaf 1 (number_in (with_set sets EVEN) ODD) d.nodes (slot + 1) d.slots d.worth)
    by_shape _ = one (record { num = 0; set = number_in sets EVERY; k = d.nodes; start = slot + 1; dur = d.slots; v = d.nodes * d.worth; linear = true })

abbrev pub job_name : ℕ → List ℕ
job_name slot = codes "j" ++ decimal slot

-- the job that arrives at a slot, over the sets that earlier requests name
abbrev pub arriving : List (List ℕ) → ℕ → Drawn → Submission
arriving sets slot d = record {
  name = job_name slot;
  arrival = slot;
  late = pos d.late -ℤ pos 1;
  demand = strl (request_of sets slot d);
}

-- a trace with the job of one slot more, and the sets that its request names
abbrev pub with_arriving : Scenario → ℕ → Drawn → Scenario
with_arriving s slot d = with_job (record s { sets = sets_with s.sets d }) (arriving s.sets slot d)

-- eight nodes, and so many jobs, one for each slot
unfoldable pub made_of : ℕ → ℕ → Scenario
made_of n zero = without_events (record { window = 4; budget = 16; until = 32; unit = 1 }) (map node_at (range_with_len 0 8)) []
made_of n (suc slot) = with_arriving (made_of n slot) slot (draws_in (state_at n slot))

-- the trace of a number: thirty-two jobs
abbrev pub generated : ℕ → Scenario
generated n = made_of n 32
