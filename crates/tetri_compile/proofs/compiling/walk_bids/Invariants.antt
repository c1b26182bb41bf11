use Rattle.std.proofs.Common.{◌≡◌, ◌+◌, ◌++◌, ◌<◌, ◌^◌, length, drop, map}
use Rattle.tetri_strl.specs.Aligned.{EachLeaf}
use Rattle.tetri_strl.specs.WellMade.{IsSound}
use Rattle.tetri_base.specs.Lists.{Each}
use Rattle.tetri_space.specs.Partitions.{parts_of}
use Rattle.tetri_space.specs.Space.{bid, space}
use Rattle.tetri_compile.specs.Draft.{bid_rows, bid_tallies, bid_uppers, objective}
use Rattle.tetri_compile.specs.Forms.{plain_limit}
use Rattle.tetri_compile.specs.steps.Walked.{IsReady, inside, next_column, usable}
use Rattle.tetri_compile.proofs.compiling.walk_bids.Given as goal

abbrev pub invariant-loop-offer : goal.invariant-loop-offer
invariant-loop-offer l = record {
  ready : Each (λ b. IsSound b.expr × EachLeaf (IsReady (space l.inst) (parts_of l.parts)) b.expr) (drop l.offer-index (map bid l.offer-items));
  fits : next_column l.out + length (bid_uppers (inside (space l.inst)) (usable (space l.inst)) (drop l.offer-index (map bid l.offer-items))) < 2 ^ 31;
  form : l.form.items ++ objective (inside (space l.inst)) (usable (space l.inst)) (drop l.offer-index (map bid l.offer-items)) (next_column l.out)
      ≡ objective (inside (space l.inst)) (usable (space l.inst)) (map bid l.offer-items) (next_column l.fn.out);
  uppers : l.out.uppers.items ++ bid_uppers (inside (space l.inst)) (usable (space l.inst)) (drop l.offer-index (map bid l.offer-items))
      ≡ l.fn.out.uppers.items ++ bid_uppers (inside (space l.inst)) (usable (space l.inst)) (map bid l.offer-items);
  rows : map plain_limit l.out.rows.items ++ bid_rows (inside (space l.inst)) (usable (space l.inst)) (drop l.offer-index (map bid l.offer-items)) (next_column l.out)
      ≡ map plain_limit l.fn.out.rows.items ++ bid_rows (inside (space l.inst)) (usable (space l.inst)) (map bid l.offer-items) (next_column l.fn.out);
  tallies : l.out.tallies.items ++ bid_tallies (inside (space l.inst)) (usable (space l.inst)) (drop l.offer-index (map bid l.offer-items)) (next_column l.out)
      ≡ l.fn.out.tallies.items ++ bid_tallies (inside (space l.inst)) (usable (space l.inst)) (map bid l.offer-items) (next_column l.fn.out);
}
