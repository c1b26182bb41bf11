use Rattle.std.proofs.Common.{◌<◌, List, length, ℕ, subst, sym}
use Rattle.tetri_greedy.proofs.OpenLemmas.{still_most_at}
use Rattle.tetri_greedy.proofs.held.HeldSlots.hold_at.Goals as goal

pub invariant_of-self : goal.invariant_of-self
invariant_of-self c =
    still_most_at c.self.inside.masks.items c.self.inside.room c.close.new.room c.args.node c.index-before.result.now c.args.slots c.index-before.ensures
    c.self.invariant (subst (λ (ms : List ℕ). c.args.node < length ms) (sym c.self.view_is) c.requires) c.close.array_long c.close.ensures
