use Rattle.std.proofs.Common.{◌≡◌, ◌+◌, ◌-◌, ◌==◌, ◌++◌, List, map}
use Rattle.std.specs.List.{filter, range_with_len}
use Rattle.tetri_space.specs.Space.{space}
use Rattle.tetri_compile.specs.declared.outline.Tally.{Tally}
use Rattle.tetri_compile.specs.Draft.{part_supply}
use Rattle.tetri_compile.specs.steps.Walked.{room}
use Rattle.tetri_wide.specs.Sketch.{limit_of, tally_of}
use Rattle.tetri_wide.proofs.supply.add_part.Given as goal

abbrev pub invariant-loop-slot : goal.invariant-loop-slot
invariant-loop-slot l = (cs : List Tally) → map tally_of l.holdings ≡ filter (λ c. c.part == l.part) cs → record {
  uppers : l.out.uppers.items ≡ l.fn.out.uppers.items;
  rows : map limit_of l.out.rows.items ++ part_supply (room (space l.inst)) cs l.part (range_with_len l.slot (l.inst.now + l.inst.window - l.slot))
      ≡ map limit_of l.fn.out.rows.items ++ part_supply (room (space l.inst)) cs l.part (range_with_len l.inst.now l.inst.window);
  tallies : map tally_of l.out.holdings.items ≡ map tally_of l.fn.out.holdings.items;
}
