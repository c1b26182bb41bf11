use Rattle.std.proofs.Common.{◌≡◌, ◌<◌, All, List, length, ℕ, false, arith, subst, sym}
use Rattle.tetri_space.specs.Slots.{is_marked}
use Rattle.tetri_greedy.proofs.OpenLemmas.{few_open}
use Rattle.tetri_greedy.proofs.held.HeldSlots.may_have.Goals as goal

pub returns-then-self-slot : goal.returns-then-self-slot
returns-then-self-slot c = λ answer nodes up within open_nodes.
    let masks = c.self.inside.masks.items in
    let l = c.args.leaf.now in
    few_open masks c.self.inside.room c.self.invariant c.args.now l c.loop-slot.slot c.args.count (omega (arith, c.loop-slot.auto.slot))
    (omega (arith, c.loop-slot-test.true, c.min-end.ensures)) c.if-self-slot.true nodes up
    (subst (λ (ms : List ℕ). All (λ n. n < length ms) nodes) (sym c.self.view_is) within)
    (subst (λ (ms : List ℕ). All (λ n. is_marked ms c.args.now l n ≡ false) nodes) (sym c.self.view_is) open_nodes)
