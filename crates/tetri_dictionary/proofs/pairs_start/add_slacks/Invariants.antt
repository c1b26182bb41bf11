use Rattle.std.proofs.Common.{◌≡◌, ◌++◌, drop, map, length}
use Rattle.tetri_algebra.specs.Rational.{whole_ℚ}
use Rattle.tetri_dictionary.specs.Drafts.{draft_rows, IsDraft}
use Rattle.tetri_dictionary.specs.Mixed.{mixed_rows}
use Rattle.tetri_dictionary.specs.Start.{slack_row}
use Rattle.tetri_dictionary.proofs.pairs_start.add_slacks.Given as goal

abbrev pub invariant-loop-i : goal.invariant-loop-i
invariant-loop-i l = record {
  draft : IsDraft (length l.p.costs.items) l.draft;
  rows :
      draft_rows (length l.p.costs.items) l.draft ++ map (map whole_ℚ) (map (slack_row l.p.costs.items l.start) (drop l.i l.p.rows.items))
      ≡ draft_rows (length l.p.costs.items) l.fn.draft ++ map (map whole_ℚ) (map (slack_row l.p.costs.items l.start) l.p.rows.items);
  kept :
      mixed_rows l.draft.rows.items ++ map (map whole_ℚ) (map (slack_row l.p.costs.items l.start) (drop l.i l.p.rows.items))
      ≡ mixed_rows l.fn.draft.rows.items ++ map (map whole_ℚ) (map (slack_row l.p.costs.items l.start) l.p.rows.items);
  columns : l.draft.columns.items ≡ l.fn.draft.columns.items;
}
