use Rattle.std.proofs.Common.{◌≡◌, ◌+◌, ◌++◌, ◌<◌, ◌^◌, ◌∷◌, drop, map}
use Rattle.tetri_strl.specs.Aligned.{EachLeafOf}
use Rattle.tetri_strl.specs.Tree.{trees}
use Rattle.tetri_strl.specs.WellMade.{AreSound}
use Rattle.tetri_space.specs.Partitions.{parts_of}
use Rattle.tetri_space.specs.Space.{space}
use Rattle.tetri_compile.specs.Draft.{tallies_of}
use Rattle.tetri_compile.specs.Walk.{forms, rows_of, rows_under, uppers_of, width_of}
use Rattle.tetri_compile.specs.steps.Walked.{IsReady, inside, usable}
use Rattle.tetri_wide.specs.Sketch.{form_of, limit_of, next_column, sketch, tally_of}
use Rattle.tetri_wide.proofs.walking.+walk.Given as goal

abbrev pub invariant-walk_each-loop-place : goal.invariant-walk_each-loop-place
invariant-walk_each-loop-place l = record {
  sound : AreSound (trees (drop l.place l.kids));
  ready : EachLeafOf (IsReady (space l.inst) (parts_of l.parts)) (trees (drop l.place l.kids));
  fits : next_column (sketch l.out) + width_of (inside (space l.inst)) (usable (space l.inst)) (trees (drop l.place l.kids)) < 2 ^ 31;
  form : form_of l.form.items ++ forms (inside (space l.inst)) (usable (space l.inst)) (trees (drop l.place l.kids)) (l.first + l.place) (next_column (sketch l.out))
      ≡ forms (inside (space l.inst)) (usable (space l.inst)) (trees l.kids) l.first (next_column (sketch l.fn.out));
  uppers : l.out.uppers.items ++ uppers_of (inside (space l.inst)) (usable (space l.inst)) (trees (drop l.place l.kids))
      ≡ l.fn.out.uppers.items ++ uppers_of (inside (space l.inst)) (usable (space l.inst)) (trees l.kids);
  rows : map limit_of l.out.rows.items ++ rows_of (inside (space l.inst)) (usable (space l.inst)) (trees (drop l.place l.kids)) (l.first + l.place) (next_column (sketch l.out))
      ≡ map limit_of l.fn.out.rows.items ++ rows_of (inside (space l.inst)) (usable (space l.inst)) (trees l.kids) l.first (next_column (sketch l.fn.out));
  tallies : map tally_of l.out.holdings.items ++ tallies_of (inside (space l.inst)) (usable (space l.inst)) l.job (trees (drop l.place l.kids)) (next_column (sketch l.out))
      ≡ map tally_of l.fn.out.holdings.items ++ tallies_of (inside (space l.inst)) (usable (space l.inst)) l.job (trees l.kids) (next_column (sketch l.fn.out));
}

abbrev pub invariant-walk_under-loop-kid : goal.invariant-walk_under-loop-kid
invariant-walk_under-loop-kid l = record {
  sound : AreSound (trees (drop l.kid-index l.kids));
  ready : EachLeafOf (IsReady (space l.inst) (parts_of l.parts)) (trees (drop l.kid-index l.kids));
  fits : next_column (sketch l.out) + width_of (inside (space l.inst)) (usable (space l.inst)) (trees (drop l.kid-index l.kids)) < 2 ^ 31;
  uppers : l.out.uppers.items ++ uppers_of (inside (space l.inst)) (usable (space l.inst)) (trees (drop l.kid-index l.kids))
      ≡ l.fn.out.uppers.items ++ (l.best ∷ uppers_of (inside (space l.inst)) (usable (space l.inst)) (trees l.kids));
  rows : map limit_of l.out.rows.items ++ rows_under (inside (space l.inst)) (usable (space l.inst)) (trees (drop l.kid-index l.kids)) l.indicator l.column (next_column (sketch l.out))
      ≡ map limit_of l.fn.out.rows.items ++ rows_under (inside (space l.inst)) (usable (space l.inst)) (trees l.kids) l.indicator l.column (next_column (sketch l.fn.out) + 1);
  tallies : map tally_of l.out.holdings.items ++ tallies_of (inside (space l.inst)) (usable (space l.inst)) l.job (trees (drop l.kid-index l.kids)) (next_column (sketch l.out))
      ≡ map tally_of l.fn.out.holdings.items ++ tallies_of (inside (space l.inst)) (usable (space l.inst)) l.job (trees l.kids) (next_column (sketch l.fn.out) + 1);
}
