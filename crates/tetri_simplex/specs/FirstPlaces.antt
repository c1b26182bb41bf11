-- The first place of a list at which a number stands.
use Rattle.std.specs.Prelude.{◌≡◌, ℕ, ◌<◌, ◌≤◌, List, length, get_or}

-- of the places from k on; the length where the number stands at none of them
pub record IsFirstFrom (vs : List ℕ) (k v p : ℕ) : Type 0 where
  pub from : k ≤ p
  pub within : p ≤ length vs
  pub found : p < length vs → get_or vs p 0 ≡ v
  pub before : (q : ℕ) → k ≤ q → q < p → get_or vs q 0 ≡ v → ⊥

abbrev pub IsFirstPlace : List ℕ → ℕ → ℕ → Type 0
IsFirstPlace vs v p = IsFirstFrom vs 0 v p
