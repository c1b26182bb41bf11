use Rattle.std.proofs.Common.{◌≡◌, ◌++◌, drop}
use Rattle.std.specs.List.{filter}
use Rattle.tetri_compile.specs.Draft.{tally_form}
use Rattle.tetri_compile.specs.Sizes.{covers}
use Rattle.tetri_compile.proofs.supply.held_form.Given as goal

abbrev pub invariant-loop-tally : goal.invariant-loop-tally
invariant-loop-tally l = l.form.items ++ tally_form (filter (λ c. covers c.leaf l.slot) (drop l.tally-index l.tallies)) ≡ tally_form (filter (λ c. covers c.leaf l.slot) l.tallies)
