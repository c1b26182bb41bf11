use Rattle.std.proofs.Common.{◌≡◌, ◌++◌, drop, map, filter}
use Rattle.tetri_base.specs.Lists.{has}
use Rattle.tetri_space.specs.Space.{bid, space}
use Rattle.tetri_accounts.specs.Rows.{row_of}
use Rattle.tetri_accounts.proofs.slot.add_rows.Given as goal

abbrev pub invariant-loop-offer : goal.invariant-loop-offer
invariant-loop-offer l =
    l.running.items ++ map (row_of l.grants l.pieces l.inst.now) (filter (λ b. has l.launched b.job) (drop l.offer-index (map bid l.offer-items)))
    ≡ l.initial.running.items ++ map (row_of l.grants l.pieces l.inst.now) (filter (λ b. has l.launched b.job) (space l.inst).bids)
