use Rattle.std.proofs.Common.{rules}
use Rattle.std.proofs.lemmas.List.Sorted.{answers_always}
use Rattle.tetri_workload.proofs.listed.in_order.Goals as goal

pub returns : goal.returns
returns c = record {
  moved = c.in_ok-sort_by_key.ensures.permutation;
  sorted = c.in_ok-sort_by_key.ensures.sorted (λ l. l.submit) (answers_always _ _ _ (λ f a r g k. search rules));
  stable = c.in_ok-sort_by_key.ensures.stable (λ l. l.submit) (answers_always _ _ _ (λ f a r g k. search rules));
}
