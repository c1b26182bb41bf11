use Rattle.std.proofs.Common.{◌≡◌, ◌-◌, ◌++◌, length, map}
use Rattle.std.specs.List.{range_with_len}
use Rattle.tetri_space.specs.Partitions.{partitions}
use Rattle.tetri_space.specs.Space.{space}
use Rattle.tetri_compile.specs.Draft.{supply}
use Rattle.tetri_compile.specs.Forms.{plain_limit}
use Rattle.tetri_compile.specs.steps.Walked.{room}
use Rattle.tetri_compile.proofs.supply.add_supply.Given as goal

abbrev pub invariant-loop-part : goal.invariant-loop-part
invariant-loop-part l = record {
  uppers : l.out.uppers.items ≡ l.fn.out.uppers.items;
  rows : map plain_limit l.out.rows.items ++ supply (room (space l.inst)) l.fn.out.tallies.items (range_with_len l.inst.now l.inst.window)
      (range_with_len l.part (length (partitions (space l.inst)) - l.part))
      ≡ map plain_limit l.fn.out.rows.items ++ supply (room (space l.inst)) l.fn.out.tallies.items (range_with_len l.inst.now l.inst.window)
      (range_with_len 0 (length (partitions (space l.inst))));
  tallies : l.out.tallies.items ≡ l.fn.out.tallies.items;
}
