use Rattle.std.proofs.Common.{◌≡◌, ◌+◌, ◌++◌, ◌<◌, ◌^◌, length, drop, map}
use Rattle.tetri_strl.specs.Aligned.{EachLeaf}
use Rattle.tetri_strl.specs.WellMade.{IsSound}
use Rattle.tetri_base.specs.Lists.{Each}
use Rattle.tetri_space.specs.Partitions.{parts_of}
use Rattle.tetri_space.specs.Space.{bid, space}
use Rattle.tetri_compile.specs.Draft.{bid_rows, bid_tallies, bid_uppers, objective}
use Rattle.tetri_compile.specs.steps.Walked.{IsReady, inside, usable}
use Rattle.tetri_wide.specs.Sketch.{form_of, limit_of, next_column, sketch, tally_of}
use Rattle.tetri_wide.proofs.program.walk_bids.Given as goal

abbrev pub invariant-loop-offer : goal.invariant-loop-offer
invariant-loop-offer l = record {
  ready : Each (λ b. IsSound b.expr × EachLeaf (IsReady (space l.inst) (parts_of l.parts)) b.expr) (drop l.offer-index (map bid l.offer-items));
  fits : next_column (sketch l.out) + length (bid_uppers (inside (space l.inst)) (usable (space l.inst)) (drop l.offer-index (map bid l.offer-items))) < 2 ^ 31;
  form : form_of l.form.items ++ objective (inside (space l.inst)) (usable (space l.inst)) (drop l.offer-index (map bid l.offer-items)) (next_column (sketch l.out))
      ≡ objective (inside (space l.inst)) (usable (space l.inst)) (map bid l.offer-items) (next_column (sketch l.fn.out));
  uppers : l.out.uppers.items ++ bid_uppers (inside (space l.inst)) (usable (space l.inst)) (drop l.offer-index (map bid l.offer-items))
      ≡ l.fn.out.uppers.items ++ bid_uppers (inside (space l.inst)) (usable (space l.inst)) (map bid l.offer-items);
  rows : map limit_of l.out.rows.items ++ bid_rows (inside (space l.inst)) (usable (space l.inst)) (drop l.offer-index (map bid l.offer-items)) (next_column (sketch l.out))
      ≡ map limit_of l.fn.out.rows.items ++ bid_rows (inside (space l.inst)) (usable (space l.inst)) (map bid l.offer-items) (next_column (sketch l.fn.out));
  tallies : map tally_of l.out.holdings.items ++ bid_tallies (inside (space l.inst)) (usable (space l.inst)) (drop l.offer-index (map bid l.offer-items)) (next_column (sketch l.out))
      ≡ map tally_of l.fn.out.holdings.items ++ bid_tallies (inside (space l.inst)) (usable (space l.inst)) (map bid l.offer-items) (next_column (sketch l.fn.out));
}
