use Rattle.std.proofs.Common.{◌≡◌, ◌++◌, ◌∷◌, ◌+◌, ◌<◌, ◌∙◌, All, Bool, false, List, [], ℕ, ap, drop, take, filter, get_or, slice_index_or, sym, subst}
use Rattle.std.proofs.lemmas.List.{drop_more}
use Rattle.tetri_advice.specs.Fit.{is_available, is_held, lowest}
use Rattle.tetri_space.specs.Space.{space}
use Rattle.tetri_space.specs.Slots.{is_marked}
use Rattle.tetri_greedy.proofs.Steps.{passed_step, taken_step}
use Rattle.tetri_greedy.proofs.fits.lowest.Goals as goal
use Rattle.tetri_greedy.proofs.fits.lowest.Goals.{then-is_open+in_ok-push, else-is_open}

pub loop-node-preserved : goal.loop-node-preserved
loop-node-preserved c =
    let s = space c.args.inst.now in
    let opens = is_available s (is_marked c.args.held.now s.now) c.args.own.now.placements c.args.leaf.now in
    let items = c.args.set.now in
    let own = c.args.own.now.placements in
    let i = c.loop-node.node-index in
    let whole = lowest s (is_marked c.args.held.now s.now) c.args.own.now.placements c.args.leaf.now in
    let now : c.loop-node.nodes ++ take c.loop-node.left (filter opens (get_or items i 0 ∷ drop (i + 1) items)) ≡ whole =
    subst (λ ns. c.loop-node.nodes ++ take c.loop-node.left (filter opens ns) ≡ whole) (drop_more items i 0 c.loop-node-test.true) c.loop-node.invariant in
    let marked : slice_index_or c.deref.result.now (get_or items i 0) false ≡ is_held own c.args.leaf.now (get_or items i 0) =
    ap (λ (ms : List Bool). slice_index_or ms (get_or items i 0) false) c.deref.ensures.value ∙ c.in_ok-taken.ensures (get_or items i 0) in
    let is_open = c.is_open.ensures in
    elim c.if-is_open.branch [
      | then-is_open+in_ok-push w ↦ rw (w.nodes-is, w.left-is, w.in_ok-push.ensures.ok)
          (taken_step opens c.loop-node.nodes (get_or items i 0) (drop (i + 1) items) whole c.loop-node.left c.if-left-eq0.false
          (sym (is_open own marked) ∙ w.if-is_open.true) now)
      | else-is_open w ↦ rw (w.nodes-is, w.left-is)
          (passed_step opens c.loop-node.nodes (get_or items i 0) (drop (i + 1) items) whole c.loop-node.left (sym (is_open own marked) ∙ w.if-is_open.false) now)
    ]

pub is_open-requires-clause-there : goal.is_open-requires-clause-there
is_open-requires-clause-there c =
    let s = space c.args.inst.now in
    let within : All (λ n. n < s.nodes) c.args.set.now = subst (All (λ n. n < s.nodes)) (sym c.requires.set) c.requires.known.there in
    within c.loop-node.node-index 0 c.loop-node-test.true
