use Rattle.std.proofs.Common.{ap, sym, ◌∙◌, Err}
use Rattle.tetri_algebra.specs.RationalRing.{zero_ℚ}
use Rattle.tetri_num.specs.Frac.{value}
use Rattle.tetri_dictionary.proofs.MergeWalks.{multiple_is, product_past}
use Rattle.tetri_dictionary.proofs.merging.multiple.Goals as goal

pub returns-in-Some : goal.returns-in-Some
returns-in-Some c = multiple_is c.args.columns c.args.i c.args.place (value c.args.a) (value c.args.y) c.in-Some.part c.in-Some.ensures

pub returns-in-None : goal.returns-in-None
returns-in-None c = product_past c.args.columns c.args.i c.args.place (value c.args.a) zero_ℚ (value c.args.y) c.in-None.ensures ∙ ap Err (sym c.past.ensures)
