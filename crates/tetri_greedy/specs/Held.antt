-- What is held of the nodes, by node: slots of the window as the bits of a number.
use Rattle.std.specs.Prelude.{◌≡◌, ℕ, ◌+◌, ◌-◌, ◌^◌, ◌<◌, ◌≤◌, ◌==◌, Bool, true, All, List, [], ◌∷◌, length, min, slice_index_or, if◌then◌else◌}
use Rattle.std.specs.Int.{bit_at}
use Rattle.tetri_base.specs.Lists.{count}
use Rattle.tetri_strl.specs.declared.expr.Leaf.{Leaf}
use Rattle.tetri_space.specs.Free.{is_idle}
pub use Rattle.tetri_space.specs.Slots.{is_marked, marked, slots_of}
use Rattle.tetri_space.specs.Space.{Space}
use Rattle.tetri_advice.specs.Fit.{Placement, is_held, is_live}

-- the slots of a window of 64 in which a node is not idle: all where it is drained, else those before it is idle
abbrev pub busy_slots : Space → ℕ → ℕ
busy_slots s n = if slice_index_or s.drained n true then 2 ^ 64 - 1 else 2 ^ min 64 (slice_index_or s.busy_until n 0 - s.now) - 1

-- each node is held in the slots in which it is not idle, and in no others
pub record AreBusy (s : Space) (masks : List ℕ) : Type 0 where
  pub as_many : length masks ≡ s.nodes
  pub busy : (n : ℕ) → n < s.nodes → slice_index_or masks n 0 ≡ busy_slots s n

-- of an idle node the marks tell in which slots of a live leaf the placements hold it
pub record TellsOf (s : Space) (held : List Placement) (masks : List ℕ) : Type 0 where
  pub tells : (l : Leaf) (n : ℕ) → is_live s l ≡ true → 1 ≤ l.dur → is_idle s n l.start ≡ true → is_marked masks s.now l n ≡ is_held held l n

-- the slots of each placement are held at its nodes
abbrev pub all_marked : ℕ → List ℕ → List Placement → List ℕ
all_marked now masks [] = masks
all_marked now masks (p ∷ ps) = all_marked now (marked masks (slots_of now p.leaf) p.nodes) ps

-- the leaf starts in a window of 64 slots, and the nodes are among this many
pub record IsHoldable (now count : ℕ) (p : Placement) : Type 0 where
  pub live : now ≤ p.leaf.start
  pub window : p.leaf.start < now + 64
  pub some_slots : 1 ≤ p.leaf.dur
  pub few_slots : p.leaf.dur ≤ 10000
  pub known : All (λ n. n < count) p.nodes

-- each of the placements may be held
abbrev pub AreHoldable : ℕ → ℕ → List Placement → Type 0
AreHoldable now count [] = Unit {0}
AreHoldable now count (p ∷ ps) = IsHoldable now count p × AreHoldable now count ps

-- the mask does not hold the slot
abbrev pub is_clear : ℕ → ℕ → Bool
is_clear slot mask = bit_at mask slot == 0

-- for each of 64 slots a number of which no more nodes are not held in it
pub record AreMost (masks most : List ℕ) : Type 0 where
  pub slots : length most ≡ 64
  pub most_clear : (slot : ℕ) → slot < 64 → count (is_clear slot) masks ≤ slice_index_or most slot 0
