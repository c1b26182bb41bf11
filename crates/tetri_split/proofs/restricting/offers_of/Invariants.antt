use Rattle.std.proofs.Common.{◌≡◌, map, take}
use Rattle.std.specs.List.{filter}
use Rattle.tetri_base.specs.Lists.{has}
use Rattle.tetri_space.specs.Space.{Bid, bid}
use Rattle.tetri_split.proofs.restricting.offers_of.Given as goal

abbrev pub invariant-loop-job : goal.invariant-loop-job
invariant-loop-job l = map bid l.made.items ≡ filter (λ (b : Bid). has (take l.job-index l.jobs) b.job) (map bid l.offers)
