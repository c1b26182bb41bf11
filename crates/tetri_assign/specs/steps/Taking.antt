-- How nodes are taken, by the slot from which each may be used again. A count above 0 is of a partition that is closed in no slot of its leaf.
use Rattle.std.specs.Prelude.{◌≡◌, ℕ, ◌+◌, ◌-◌, ◌^◌, ◌<◌, ◌≤◌, All, nat_le, if◌then◌else◌, Bool, true, List, [], ◌∷◌, ◌++◌, length, map, take, slice_index_or, slice_set}
use Rattle.std.specs.List.{filter, filter_map, range_with_len}
use Rattle.std.specs.Option.{option_map}
use Rattle.tetri_strl.specs.declared.expr.Leaf.{Leaf}
use Rattle.tetri_base.specs.Lists.{Each}
use Rattle.tetri_space.specs.Partitions.{part_at}
use Rattle.tetri_space.specs.Space.{Bid, Space, leaf_in}
use Rattle.tetri_compile.specs.declared.outline.Tally.{Tally}
use Rattle.tetri_compile.specs.declared.taking.Taken.{Taken}
use Rattle.tetri_assign.specs.declared.backs.Mark.{Mark}
use Rattle.tetri_assign.specs.declared.held.Held.{Held}
use Rattle.tetri_assign.specs.declared.wants.Want.{Want}

-- the leaf wants so many nodes of a partition
abbrev pub want : ℕ → ℕ → ℕ → Leaf → Want
want job part many l = record { start = l.start; job = job; leaf = l.num; part = part; nodes = many; end = l.start + l.dur }

abbrev pub want_of : (ℕ → ℕ) → Tally → Want
want_of x c = want c.job c.part (x c.column) c.leaf

-- what counts want, where each count's leaf is offered
abbrev pub wants_from : List Bid → List Taken → List Want
wants_from bids ts = filter_map (λ t. option_map (want t.job t.part t.nodes) (leaf_in bids t.job t.leaf)) ts

-- a slot after every start
abbrev pub NEVER : ℕ
NEVER = 2 ^ 32 - 1

-- the slot from which a node may be used
abbrev pub back_at : Space → ℕ → ℕ
back_at s n = if slice_index_or s.drained n true then NEVER else slice_index_or s.busy_until n 0

abbrev pub backs : Space → List ℕ
backs s = map (back_at s) (range_with_len 0 s.nodes)

-- the node may be used in the slot
abbrev pub may_use : List ℕ → ℕ → ℕ → Bool
may_use back slot n = nat_le (slice_index_or back n 0) slot

-- the first of these nodes that may be used in the slot
abbrev pub ready : List ℕ → ℕ → ℕ → List ℕ → List ℕ
ready back slot many ns = take many (filter (may_use back slot) ns)

-- the place is in the list, and no node before it may be used in the slot
pub record IsMark (back ns : List ℕ) (m : Mark) : Type 0 where
  pub within : m.place ≤ length ns
  pub none : Each (λ n. m.slot < slice_index_or back n 0) (take m.place ns)

-- a mark of each partition, in no later slot than these wants
pub record AreMarks (parts : List (List ℕ)) (back : List ℕ) (ws : List Want) (ms : List Mark) : Type 0 where
  pub as_many : length ms ≡ length parts
  pub marks : (p : ℕ) (d : Mark) → p < length ms → IsMark back (part_at parts p) (slice_index_or ms p d)
  pub early : (p : ℕ) (d : Mark) → p < length ms → All (λ w. (slice_index_or ms p d).slot ≤ w.start) ws

-- these nodes may be used again from the slot on
abbrev pub hold : List ℕ → ℕ → List ℕ → List ℕ
hold back slot [] = back
hold back slot (n ∷ ns) = hold (slice_set back n slot) slot ns

abbrev pub held_by : Want → ℕ → Held
held_by w n = record { job = w.job; leaf = w.leaf; node = n }

-- the wants take nodes one after the other
abbrev pub taken_from : List (List ℕ) → List ℕ → List Want → List Held
taken_from parts back [] = []
taken_from parts back (w ∷ ws) =
    let ns = ready back w.start w.nodes (part_at parts w.part) in
    map (held_by w) ns ++ taken_from parts (hold back w.end ns) ws
