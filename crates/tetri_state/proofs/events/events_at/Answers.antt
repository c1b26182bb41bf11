use Rattle.std.proofs.Common.{rules, ◌≡◌, ◌≤◌, ◌+◌, length, drop, arith, ltb, leb, ltb-true, ltb-false, leb-true, leb-false}
use Rattle.std.specs.List.Sorted.{IsNonDecreasingBy}
use Rattle.std.proofs.lemmas.List.Sorted.{IsPartitionedBy-ltb, IsPartitionedBy-leb, IsPartitionPoint-from_clause, IsNonDecreasingBy-drop}
use Rattle.tetri_state.proofs.SlotLemmas.{stand_together}
use Rattle.tetri_state.proofs.events.events_at.Goals as goal

pub returns : goal.returns
returns c =
    let xs = c.args.events.now in
    let ys = c.split_at.result.1.now in
    let i = c.partition_point-from.result in
    let now = c.args.now in
    let e : ys ≡ drop i xs = search rules in
    let len : length ys + i ≤ length xs = grind (arith) in
    let up : IsNonDecreasingBy (λ l. l.at) ys = rw e (IsNonDecreasingBy-drop (λ l. l.at) i xs c.requires) in
    let first = IsPartitionPoint-from_clause (λ l. ltb l.at now) _ _ c.partition_point-from.ensures.partitioned
    (IsPartitionedBy-ltb (λ l. l.at) xs now c.requires) (λ a r q k. search rules) in
    let second = IsPartitionPoint-from_clause (λ l. leb l.at now) _ _ c.partition_point-count.ensures.partitioned
    (IsPartitionedBy-leb (λ l. l.at) ys now up) (λ a r q k. search rules) in
    stand_together now xs ys i c.partition_point-count.result e len
    (λ k d lo hi. ltb-true _ _ (first.0 k d lo hi))
    (λ k d lo hi. ltb-false _ _ (first.1 k d lo hi)) c.partition_point-from.ensures.bound
    (λ k d lo hi. leb-true _ _ (second.0 k d lo hi))
    (λ k d lo hi. leb-false _ _ (second.1 k d lo hi))
    c.partition_point-count.ensures.bound
