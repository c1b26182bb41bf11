-- Which nodes are free.
use Rattle.std.specs.Prelude.{◌≡◌, ℕ, ◌<◌, ◌≤◌, ◌&&◌, Bool, true, false, not, nat_lt, nat_le, List, slice_index, slice_index_or, slice_get, Some}
use Rattle.std.specs.List.{list_any, range_with_len}
use Rattle.tetri_strl.specs.declared.expr.Leaf.{Leaf}
use Rattle.tetri_space.specs.Closed.{is_closed_by}
use Rattle.tetri_space.specs.Space.{Space, Covers}

-- the node is closed in this slot
abbrev pub is_closed : Space → ℕ → ℕ → Bool
is_closed s n t = is_closed_by s.closures n t

-- a leaf may use the node in this slot
pub record IsFree (s : Space) (node slot : ℕ) : Type 0 where
  pub there : node < s.nodes
  pub not_drained : slice_get s.drained node ≡ Some false
  pub idle : slice_index s.busy_until node ≤ slot
  pub not_closed : is_closed s node slot ≡ false

-- the leaf may use the node in each of its slots
abbrev pub IsFreeThroughout : Space → Leaf → ℕ → Type 0
IsFreeThroughout s l n = (slot : ℕ) → Covers l slot → IsFree s n slot

-- the node is there and not drained, and nothing runs on it in this slot or later
abbrev pub is_idle : Space → ℕ → ℕ → Bool
is_idle s n t = nat_lt n s.nodes && not (slice_index_or s.drained n true)
    && nat_le (slice_index_or s.busy_until n 0) t

-- the test of `IsFree`
abbrev pub is_free : Space → ℕ → ℕ → Bool
is_free s n t = is_idle s n t && not (is_closed s n t)

-- the slots of a leaf, ascending
abbrev pub slots : Leaf → List ℕ
slots l = range_with_len l.start l.dur

-- the test of `IsFreeThroughout`
abbrev pub is_free_throughout : Space → Leaf → ℕ → Bool
is_free_throughout s l n = is_idle s n l.start && not (list_any (is_closed s n) (slots l))
