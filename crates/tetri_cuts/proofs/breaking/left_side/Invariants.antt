use Rattle.std.proofs.Common.{◌≡◌, drop}
use Rattle.tetri_algebra.specs.RationalRing.{zero_ℚ}
use Rattle.tetri_num.specs.Frac.{value}
use Rattle.tetri_dictionary.specs.Fractions.{values}
use Rattle.tetri_cuts.specs.Breaking.{form_left}
use Rattle.tetri_cuts.proofs.breaking.left_side.Given as goal

abbrev pub invariant-loop-term : goal.invariant-loop-term
invariant-loop-term l = form_left (drop l.term-index l.row.terms.items) (values l.point) (value l.sum) ≡ form_left l.row.terms.items (values l.point) zero_ℚ
