use Rattle.std.proofs.Common.{◌∷◌, [], refl, ap}
use Rattle.tetri_greedy.proofs.Placing.{append_grants, placements-append}
use Rattle.tetri_greedy.proofs.fitted.Placements.push.Goals as goal
use Rattle.tetri_greedy.proofs.fitted.Placements.push.Goals.{in-Ok, in-Err}

pub invariant_of-self-in-Ok : goal.invariant_of-self-in-Ok
invariant_of-self-in-Ok c =
    rw (c.in_ok-push.ensures.items, c.in-Ok.ensures.items)
    (append_grants c.self.inside.job c.self.inside.leaves.items (c.args.leaf ∷ []) c.self.inside.grants.items
    (record { job = c.self.inside.job; leaf = c.args.leaf.num; nodes = c.args.nodes } ∷ []) c.self.invariant (refl, tt))

pub returns : goal.returns
returns c =
    elim c.match-push.branch [
      | in-Ok w ↦ rw (w.result-is, w.self-is, c.in_ok-push.ensures.items, w.in-Ok.ensures.items, ← c.self.view_is)
          (ap (λ ps. record { job = c.self.inside.job; placements = ps })
          (placements-append c.self.inside.job c.self.inside.leaves.items (c.args.leaf ∷ []) c.self.inside.grants.items
          (record { job = c.self.inside.job; leaf = c.args.leaf.num; nodes = c.args.nodes } ∷ []) c.self.invariant))
      | in-Err w ↦ rw w.result-is tt
    ]
