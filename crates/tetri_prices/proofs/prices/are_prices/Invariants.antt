use Rattle.std.proofs.Common.{◌≡◌, ◌<◌, ℕ, List, length, map, get_or}
use Rattle.tetri_prices.proofs.prices.are_prices.Given as goal

abbrev pub invariant-loop-row : goal.invariant-loop-row
invariant-loop-row l = (k : ℕ) → k < l.row-index → (d : List ℕ) → length (get_or (map (λ v. v.items) l.rows) k d) ≡ l.inst.window
