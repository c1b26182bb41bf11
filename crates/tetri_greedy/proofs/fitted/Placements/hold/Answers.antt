use Rattle.std.proofs.Common.{length, ap, sym, ◌∙◌}
use Rattle.tetri_greedy.proofs.Placing.{as_many}
use Rattle.tetri_greedy.proofs.fitted.Placements.hold.Goals as goal

pub hold_each-requires-clause-as_long : goal.hold_each-requires-clause-as_long
hold_each-requires-clause-as_long c =
    ap length c.deref.ensures.value ∙ as_many c.self.inside.job c.self.inside.leaves.items c.self.inside.grants.items c.self.invariant
    ∙ sym (ap length c.deref-2.ensures.value)
