use Rattle.std.proofs.Common.{◌≡◌, ◌++◌, drop, map}
use Rattle.std.specs.List.{filter}
use Rattle.tetri_compile.specs.Draft.{tally_form}
use Rattle.tetri_compile.specs.Sizes.{covers}
use Rattle.tetri_wide.specs.Sketch.{form_of, tally_of}
use Rattle.tetri_wide.proofs.supply.held_form.Given as goal

abbrev pub invariant-loop-holding : goal.invariant-loop-holding
invariant-loop-holding l = form_of l.form.items ++ tally_form (filter (λ c. covers c.leaf l.slot) (map tally_of (drop l.holding-index l.holdings)))
    ≡ tally_form (filter (λ c. covers c.leaf l.slot) (map tally_of l.holdings))
