use Rattle.std.proofs.Common.{◌≡◌, ◌==◌, ◌||◌, ℕ, false, get_or, take}
use Rattle.std.specs.List.{list_any}
use Rattle.tetri_greedy.proofs.fitted.mark_each.Given as goal

abbrev pub invariant-loop-node : goal.invariant-loop-node
invariant-loop-node l =
    (n : ℕ) → get_or l.marks.items n false ≡ (get_or l.fn.marks.items n false || list_any (λ m. m == n) (take l.node-index l.nodes))
