use Rattle.std.proofs.Common.{◌≡◌, ◌+◌, ◌-◌, ◌==◌, ◌++◌, List, map}
use Rattle.std.specs.List.{filter, range_with_len}
use Rattle.tetri_space.specs.Space.{space}
use Rattle.tetri_compile.specs.declared.outline.Tally.{Tally}
use Rattle.tetri_compile.specs.Draft.{part_supply}
use Rattle.tetri_compile.specs.Forms.{plain_limit}
use Rattle.tetri_compile.specs.steps.Walked.{room}
use Rattle.tetri_compile.proofs.supply.add_part.Given as goal

abbrev pub invariant-loop-slot : goal.invariant-loop-slot
invariant-loop-slot l = (cs : List Tally) → l.tallies ≡ filter (λ c. c.part == l.part) cs → record {
  uppers : l.out.uppers.items ≡ l.fn.out.uppers.items;
  rows : map plain_limit l.out.rows.items ++ part_supply (room (space l.inst)) cs l.part (range_with_len l.slot (l.inst.now + l.inst.window - l.slot))
      ≡ map plain_limit l.fn.out.rows.items ++ part_supply (room (space l.inst)) cs l.part (range_with_len l.inst.now l.inst.window);
  tallies : l.out.tallies.items ≡ l.fn.out.tallies.items;
}
