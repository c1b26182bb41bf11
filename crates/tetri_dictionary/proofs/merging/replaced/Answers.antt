use Rattle.std.proofs.Common.{ap, sym, ◌∙◌, Err}
use Rattle.tetri_num.specs.Frac.{value}
use Rattle.tetri_dictionary.proofs.MergeWalks.{product_past, total_is, total_past}
use Rattle.tetri_dictionary.proofs.merging.replaced.Goals as goal

pub returns-in_default : goal.returns-in_default
returns-in_default c = product_past c.args.columns c.args.i c.args.place (value c.args.a) (value c.args.x) (value c.args.y) c.in_default.ensures ∙ ap Err (sym c.past.ensures)

pub returns-in-Some-sum : goal.returns-in-Some-sum
returns-in-Some-sum c = total_is c.args.columns c.args.i c.args.place (value c.args.a) (value c.args.x) (value c.args.y) (value c.in-Some.part) (value c.in-Some-sum.total) c.in-Some.ensures c.in-Some-sum.ensures

pub returns-in-None : goal.returns-in-None
returns-in-None c = total_past c.args.columns c.args.i c.args.place (value c.args.a) (value c.args.x) (value c.args.y) (value c.in-Some.part) c.in-Some.ensures c.in-None.ensures ∙ ap Err (sym c.past-in-None.ensures)
