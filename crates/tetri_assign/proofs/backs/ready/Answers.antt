use Rattle.std.proofs.Common.{◌≡◌, ℕ, Bool, List, ◌++◌, ◌∷◌, ◌+◌, drop, take, filter, get_or, subst, arith}
use Rattle.std.proofs.lemmas.List.{drop_more}
use Rattle.tetri_assign.specs.steps.Taking.{may_use, ready}
use Rattle.tetri_assign.proofs.MarkLemmas.{seen_fails, seen_passes}
use Rattle.tetri_assign.proofs.StepLemmas.{le_test, not_le_test, passed_step, taken_step}
use Rattle.tetri_assign.proofs.backs.ready.Goals as goal
use Rattle.tetri_assign.proofs.backs.ready.Goals.{then-back-node+in_ok-push, else-back-node}

pub loop-seen-preserved : goal.loop-seen-preserved
loop-seen-preserved c =
    let passes : ℕ → Bool = may_use c.args.back.now c.args.slot in
    let items = c.args.nodes.now in
    let i = c.loop-seen.seen in
    let lt = c.loop-seen-test.true in
    let whole = ready c.args.back.now c.args.slot c.args.many c.args.nodes.now in
    let now : c.loop-seen.first.items ++ take c.loop-seen.left (filter passes (get_or items i 0 ∷ drop (i + 1) items)) ≡ whole =
    subst (λ (ns : List ℕ). c.loop-seen.first.items ++ take c.loop-seen.left (filter passes ns) ≡ whole) (drop_more items i 0 lt) c.loop-seen.invariant.so_far in
    elim c.if-back-node.branch [
      | then-back-node+in_ok-push w ↦
          let e = le_test _ _ w.if-back-node.true in
          rw (w.first-is, w.left-is, w.in_ok-push.ensures.items) record {
            within = omega (arith, lt);
            so_far = taken_step passes c.loop-seen.first.items (get_or items i 0) (drop (i + 1) items) whole c.loop-seen.left (λ none. absurd (omega (arith, none, c.if-left-gt0.true))) e now;
            seen = seen_passes passes items i lt c.loop-seen.first.items e c.loop-seen.invariant.seen;
          }
      | else-back-node w ↦
          let e = not_le_test _ _ w.if-back-node.false in
          rw (w.first-is, w.left-is) record {
            within = omega (arith, lt);
            so_far = passed_step passes c.loop-seen.first.items (get_or items i 0) (drop (i + 1) items) whole c.loop-seen.left e now;
            seen = seen_fails passes items i lt c.loop-seen.first.items e c.loop-seen.invariant.seen;
          }
    ]
