use Rattle.std.proofs.Common.{ap}
use Rattle.tetri_queue.specs.declared.arrays.Limit.{Limit}
use Rattle.tetri_queue.proofs.ArrayLemmas.{most_kept}
use Rattle.tetri_queue.proofs.arrays.Limits.count.Goals as goal

pub returns-then-place-len-clause-most : goal.returns-then-place-len-clause-most
returns-then-place-len-clause-most c = most_kept _ _ _ c.index_mut.result.now (ap (λ (m : Limit). m.most) c.index_mut.ensures.value)
