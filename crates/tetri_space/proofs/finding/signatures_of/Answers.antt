use Rattle.std.proofs.Common.{◌&&◌, ◌++◌, ◌∷◌, [], false, List, ℕ, cond, length, slice_index_or, ap, sym, ◌∙◌, arith}
use Rattle.std.proofs.lemmas.List.{append-nil}
use Rattle.tetri_base.specs.Lists.{has, list_at}
use Rattle.tetri_space.specs.Partitions.{set_at}
use Rattle.tetri_space.specs.Space.{space}
use Rattle.tetri_space.proofs.FindingLemmas.{filter_kept, and_true, and_false}
use Rattle.tetri_space.proofs.finding.signatures_of.Goals as goal
use Rattle.tetri_space.proofs.finding.signatures_of.Goals.{then-used-set+in_ok-add_to_each, else-used-set}

pub loop-set-preserved : goal.loop-set-preserved
loop-set-preserved c =
    let k = c.loop-set.set in
    let s = space c.args.inst.now in
    let p = λ (n m : ℕ). slice_index_or c.args.used.now m false && has (set_at s m) n in
    elim c.if-used-set.branch [
      | then-used-set+in_ok-add_to_each w ↦ record {
        count = ap (λ v. length v.items) w.signatures-is ∙ w.in_ok-add_to_each.ensures.count ∙ c.loop-set.invariant.count;
        sets = λ n lt.
            filter_kept (p n) k (list_at c.loop-set.signatures.items n) _ (c.loop-set.invariant.sets n lt)
            (ap (λ v. list_at v.items n) w.signatures-is ∙ w.in_ok-add_to_each.ensures.added n (omega (arith, lt, c.loop-set.invariant.count))
            ∙ ap (λ b. list_at c.loop-set.signatures.items n ++ cond b (k ∷ []) [])
            (ap (λ (ns : List ℕ). has ns n) (w.as_slice.ensures ∙ w.nodes_of.ensures.value ∙ ap (λ (ss : List (List ℕ)). slice_index_or ss k []) w.deref-then-used-set.ensures)
            ∙ and_true (slice_index_or c.args.used.now k false) (has (set_at s k) n) w.if-used-set.true));
      }
      | else-used-set w ↦ record {
        count = ap (λ v. length v.items) w.signatures-is ∙ c.loop-set.invariant.count;
        sets = λ n lt.
            filter_kept (p n) k (list_at c.loop-set.signatures.items n) _ (c.loop-set.invariant.sets n lt)
            (ap (λ v. list_at v.items n) w.signatures-is ∙ sym (append-nil (list_at c.loop-set.signatures.items n))
            ∙ ap (λ b. list_at c.loop-set.signatures.items n ++ cond b (k ∷ []) [])
            (and_false (slice_index_or c.args.used.now k false) (has (set_at s k) n) w.if-used-set.false));
      }
    ]
