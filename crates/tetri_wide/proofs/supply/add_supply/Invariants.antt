use Rattle.std.proofs.Common.{◌≡◌, ◌-◌, ◌++◌, length, map}
use Rattle.std.specs.List.{range_with_len}
use Rattle.tetri_space.specs.Partitions.{partitions}
use Rattle.tetri_space.specs.Space.{space}
use Rattle.tetri_compile.specs.Draft.{supply}
use Rattle.tetri_compile.specs.steps.Walked.{room}
use Rattle.tetri_wide.specs.Sketch.{limit_of, tally_of}
use Rattle.tetri_wide.proofs.supply.add_supply.Given as goal

abbrev pub invariant-loop-part : goal.invariant-loop-part
invariant-loop-part l = record {
  uppers : l.out.uppers.items ≡ l.fn.out.uppers.items;
  rows : map limit_of l.out.rows.items ++ supply (room (space l.inst)) (map tally_of l.fn.out.holdings.items) (range_with_len l.inst.now l.inst.window)
      (range_with_len l.part (length (partitions (space l.inst)) - l.part))
      ≡ map limit_of l.fn.out.rows.items ++ supply (room (space l.inst)) (map tally_of l.fn.out.holdings.items) (range_with_len l.inst.now l.inst.window)
      (range_with_len 0 (length (partitions (space l.inst))));
  tallies : map tally_of l.out.holdings.items ≡ map tally_of l.fn.out.holdings.items;
}
