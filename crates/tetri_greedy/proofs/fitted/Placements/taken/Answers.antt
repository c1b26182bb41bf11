use Rattle.std.proofs.Common.{length, ap, sym, ◌∙◌}
use Rattle.tetri_greedy.proofs.Placing.{as_many}
use Rattle.tetri_greedy.proofs.fitted.Placements.taken.Goals as goal

pub taken_by-requires : goal.taken_by-requires
taken_by-requires c =
    ap length c.deref.ensures.value ∙ as_many c.self.inside.job c.self.inside.leaves.items c.self.inside.grants.items c.self.invariant
    ∙ sym (ap length c.deref-2.ensures.value)
