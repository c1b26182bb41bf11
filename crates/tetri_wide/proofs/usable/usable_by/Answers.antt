use Rattle.std.proofs.Common.{◌<◌, ℕ, List, Bool, cond, length, sym, ap, ◌∙◌, subst}
use Rattle.tetri_space.specs.Partitions.{available, partitions}
use Rattle.tetri_space.specs.Space.{space}
use Rattle.tetri_wide.proofs.usable.usable_by.Goals as goal

pub closed_within-requires-clause-there : goal.closed_within-requires-clause-there
closed_within-requires-clause-there c = subst (λ (gs : List (List ℕ)). c.args.part < length gs) (sym c.requires.partitions.groups) c.requires.there

pub available-requires-clause-there : goal.available-requires-clause-there
available-requires-clause-there c = subst (λ (gs : List (List ℕ)). c.args.part < length gs) (sym c.requires.partitions.groups) c.requires.there

pub returns-then-closed_within : goal.returns-then-closed_within
returns-then-closed_within c =
    let s = space c.args.inst.now in
    sym (ap (λ (b : Bool). cond b 0 (available s (partitions s) c.args.part c.args.leaf.now.start)) (sym c.closed_within.ensures ∙ c.if-closed_within.true))

pub returns : goal.returns
returns c =
    let s = space c.args.inst.now in
    c.from.ensures ∙ c.available.ensures
    ∙ sym (ap (λ (b : Bool). cond b 0 (available s (partitions s) c.args.part c.args.leaf.now.start)) (sym c.closed_within.ensures ∙ c.if-closed_within.false))
