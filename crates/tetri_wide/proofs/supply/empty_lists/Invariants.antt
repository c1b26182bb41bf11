use Rattle.std.proofs.Common.{◌≡◌, [], map, replicate}
use Rattle.tetri_wide.proofs.supply.empty_lists.Given as goal

abbrev pub invariant-loop : goal.invariant-loop
invariant-loop l = map (λ e. e.items) l.lists.items ≡ replicate l.counter []
