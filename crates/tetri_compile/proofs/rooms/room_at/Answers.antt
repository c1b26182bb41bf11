use Rattle.std.proofs.Common.{◌<◌, ℕ, List, Bool, cond, length, sym, ap, ◌∙◌, subst}
use Rattle.tetri_space.specs.Space.{space}
use Rattle.tetri_space.proofs.InstanceLaws.{available_is}
use Rattle.tetri_compile.specs.steps.Room.{idle_count}
use Rattle.tetri_compile.proofs.rooms.room_at.Goals as goal

pub closed-requires-clause-there : goal.closed-requires-clause-there
closed-requires-clause-there c = subst (λ (gs : List (List ℕ)). c.args.part < length gs) (sym c.requires.partitions.groups) c.requires.there

pub returns-then-closed : goal.returns-then-closed
returns-then-closed c =
    let s = space c.args.inst.now in
    sym (available_is s c.args.part c.args.slot c.requires.not_past ∙ ap (λ (b : Bool). cond b 0 (idle_count s c.args.part c.args.slot)) (sym c.closed.ensures ∙ c.if-closed.true))

pub returns : goal.returns
returns c =
    let s = space c.args.inst.now in
    c.idle_at.ensures
    ∙ sym (available_is s c.args.part c.args.slot c.requires.not_past ∙ ap (λ (b : Bool). cond b 0 (idle_count s c.args.part c.args.slot)) (sym c.closed.ensures ∙ c.if-closed.false))
