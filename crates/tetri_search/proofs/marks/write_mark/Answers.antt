use Rattle.std.proofs.Common.{◌∙◌, ap}
use Rattle.tetri_ip.specs.Points.{bounds_of}
use Rattle.tetri_search.specs.Laws.{is_rest}
use Rattle.tetri_search.specs.Views.{dual_of_rc}
use Rattle.tetri_search.proofs.MarkLemmas.{if_rest, rest_rest}
use Rattle.tetri_search.proofs.marks.write_mark.Goals as goal

pub returns-clause-own : goal.returns-clause-own
returns-clause-own c = if_rest c.ended.result.mark _ (ap is_rest c.ended.ensures.mark ∙ ap is_rest c.in_ok-mark.ensures ∙ rest_rest c.args.p.now (bounds_of c.args.r.now) (dual_of_rc c.args.above.now))
