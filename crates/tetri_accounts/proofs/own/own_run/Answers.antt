use Rattle.std.proofs.Common.{◌≡◌, ◌≤◌, ◌∙◌, ℕ, List, true, false, ap, drop, length, take, sym, subst, rules}
use Rattle.std.specs.Prelude.{nat_le, nat_lt}
use Rattle.std.specs.List.Sorted.{IsNonDecreasingBy, IsPartitionPoint}
use Rattle.std.proofs.lemmas.List.Sorted.{IsNonDecreasingBy-drop, IsPartitionPoint-from_clause, IsPartitionedBy-leb, IsPartitionedBy-ltb}
use Rattle.tetri_state.specs.declared.pieces.Piece.{Piece}
use Rattle.tetri_accounts.proofs.OwnLemmas.{own_between}
use Rattle.tetri_accounts.proofs.own.own_run.Goals as goal

pub returns : goal.returns
returns c =
    let xs = c.args.pieces.now in
    let job = c.args.job in
    let n : Piece → ℕ = λ x. x.job in
    let before = c.partition_point-before.result in
    let count = c.partition_point-count.result in
    let rest = c.split_at.result.1.now in
    let back : rest ≡ drop before xs = c.split_at.ensures.back in
    let low = IsPartitionPoint-from_clause (λ (x : Piece). nat_lt x.job job) xs before c.partition_point-before.ensures.partitioned (IsPartitionedBy-ltb n xs job c.requires) (λ a r q k. search rules) in
    let ordered : IsNonDecreasingBy n rest = subst (IsNonDecreasingBy n) (sym back) (IsNonDecreasingBy-drop n before xs c.requires) in
    let high = IsPartitionPoint-from_clause (λ (x : Piece). nat_le x.job job) rest count c.partition_point-count.ensures.partitioned (IsPartitionedBy-leb n rest job ordered) (λ a r q k. search rules) in
    c.split_at-2.ensures.front ∙ ap (take count) back
    ∙ own_between n job xs before count c.partition_point-before.ensures.bound (subst (λ (ys : List Piece). count ≤ length ys) back c.partition_point-count.ensures.bound) low
    (subst (λ (ys : List Piece). IsPartitionPoint (λ x. nat_le x.job job ≡ true) (λ x. nat_le x.job job ≡ false) ys count) back high)
