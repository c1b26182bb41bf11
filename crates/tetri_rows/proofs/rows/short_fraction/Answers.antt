use Rattle.std.proofs.Common.{sym, ap, ◌∙◌}
use mir.Syntax.{w128}
use mir.Val.{to_z}
use Rattle.tetri_rows.proofs.FractionLists.{short_whole, wide_number}
use Rattle.tetri_rows.proofs.rows.short_fraction.Goals as goal

pub returns-clause-value : goal.returns-clause-value
returns-clause-value c =
    let x = c.args.x in
    short_whole x _ c.short.result _ (wide_number x.num x.lowest.num_within) (sym (wide_number x.den x.lowest.den_within) ∙ ap (to_z w128) c.if-x-ne1.false) c.short.ensures.value
