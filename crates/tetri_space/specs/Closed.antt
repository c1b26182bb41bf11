-- In which slots closures close a node.
use Rattle.std.specs.Prelude.{◌≡◌, ℕ, ◌+◌, ◌<◌, ◌≤◌, ◌==◌, ◌&&◌, Bool, false, not, nat_le, List, [], ◌∷◌, All, length}
use Rattle.std.specs.List.{list_any}
use Rattle.std.specs.List.Sorted.{IsStrictlyIncreasing}
use Rattle.tetri_space.specs.declared.closure.Closure.{Closure}

-- the closure closes this node in this slot
abbrev pub closes : ℕ → ℕ → Closure → Bool
closes n t c = c.node == n && nat_le c.from t && nat_le t c.to

-- some closure does
abbrev pub is_closed_by : List Closure → ℕ → ℕ → Bool
is_closed_by cs n t = list_any (closes n t) cs

-- the limits of a closure, where there are so many nodes
pub record IsSoundClosure (nodes : ℕ) (c : Closure) : Type 0 where
  pub there : c.node < nodes
  pub some_slots : c.from ≤ c.to
  pub within : c.to ≤ 30000

-- the limits of closures
pub record AreSoundClosures (nodes : ℕ) (cs : List Closure) : Type 0 where
  pub few : length cs ≤ 4096
  pub each : All (IsSoundClosure nodes) cs

-- of ascending numbers, an odd number is at most `t`
abbrev pub is_odd_at : List ℕ → ℕ → Bool
is_odd_at [] t = false
is_odd_at (x ∷ xs) t = nat_le x t && not (is_odd_at xs t)

-- The slots from `now` on in which the node closes or opens, each written as a number `base`
-- higher: it is closed in a slot where an odd number of them are not past it.
pub record AreTurns (cs : List Closure) (n now base : ℕ) (turns : List ℕ) : Type 0 where
  pub rising : IsStrictlyIncreasing turns
  pub not_before : All (λ x. base + now ≤ x) turns
  pub closed : (t : ℕ) → now ≤ t → is_odd_at turns (base + t) ≡ is_closed_by cs n t
