-- Slots that leaves share, and slots of a window as the bits of a number.
use Rattle.std.specs.Prelude.{ℕ, ◌+◌, ◌-◌, ◌^◌, ◌==◌, ◌&&◌, Bool, not, nat_lt, min, List, [], ◌∷◌, get_or, set, bit_and, bit_or}
use Rattle.tetri_strl.specs.declared.expr.Leaf.{Leaf}

-- two leaves have a slot in common
abbrev pub overlap : Leaf → Leaf → Bool
overlap l m = nat_lt l.start (m.start + m.dur) && nat_lt m.start (l.start + l.dur)

-- the slots of the window that a live leaf uses: bit i is slot now + i
abbrev pub slots_of : ℕ → Leaf → ℕ
slots_of now l = 2 ^ min 64 (l.start - now + l.dur) - 2 ^ (l.start - now)

-- two sets of bits have one in common
abbrev pub meets : ℕ → ℕ → Bool
meets a b = not (bit_and a b == 0)

-- By node, a mask has the slots in which it is held: the node is held in some slot of the window
-- that the leaf uses.
abbrev pub is_marked : List ℕ → ℕ → Leaf → ℕ → Bool
is_marked masks now l n = meets (get_or masks n 0) (slots_of now l)

-- these slots are held at each of the nodes
abbrev pub marked : List ℕ → ℕ → List ℕ → List ℕ
marked masks slots [] = masks
marked masks slots (n ∷ ns) = marked (set masks n (bit_or (get_or masks n 0) slots)) slots ns
