use Rattle.std.proofs.Common.{◌≡◌, ◌≤◌, ◌++◌, ℕ, None, drop, get_or, map, length, take}
use Rattle.tetri_algebra.specs.Rational.{whole_ℚ}
use Rattle.tetri_dictionary.specs.Drafts.{draft_rows, IsDraft}
use Rattle.tetri_dictionary.specs.Start.{bound_rows}
use Rattle.tetri_dictionary.proofs.pairs_start.add_bounds.Given as goal

abbrev pub invariant-loop-j : goal.invariant-loop-j
invariant-loop-j l = record {
  draft : IsDraft (length l.p.costs.items) l.draft;
  rows :
      draft_rows (length l.p.costs.items) l.draft ++ map (map whole_ℚ) (bound_rows l.j l.p.costs.items (drop l.j l.r.lower.items) (drop l.j l.r.upper.items))
      ≡ draft_rows (length l.p.costs.items) l.fn.draft ++ map (map whole_ℚ) (bound_rows 0 l.p.costs.items l.r.lower.items l.r.upper.items);
  kept : take (length l.fn.draft.rows.items) l.draft.rows.items ≡ l.fn.draft.rows.items;
  free : (q : ℕ) → l.j ≤ q → get_or l.draft.columns.items q None ≡ None;
}
