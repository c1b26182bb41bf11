use Rattle.std.proofs.Common.{ap, sym, ◌∙◌, Some}
use Rattle.tetri_num.specs.Checked.{checked_sum}
use Rattle.tetri_num.specs.Frac.{value}
use Rattle.tetri_num.proofs.FractionLaws.{value_representable}
use Rattle.tetri_dictionary.proofs.ShortWays.{checked_sum-negative}
use Rattle.tetri_dictionary.proofs.short_ways.sum.Goals as goal

pub returns-then-cancel : goal.returns-then-cancel
returns-then-cancel c =
    ap (checked_sum (value c.args.x)) (c.cancel.ensures c.if-cancel.true)
    ∙ checked_sum-negative (value c.args.x) (value_representable c.args.x)
    ∙ ap Some (sym c.whole.ensures.rational)
