use Rattle.std.proofs.Common.{◌∙◌, ap}
use Rattle.std.specs.Prelude.{count_by}
use Rattle.tetri_space.specs.Space.{space}
use Rattle.tetri_chart.specs.Marks.{is_left}
use Rattle.tetri_chart.proofs.MarkLemmas.{left_alike}
use Rattle.tetri_chart.proofs.marks.count_waiting.Goals as goal

pub returns : goal.returns
returns c =
    c.count_left.ensures ∙ ap (λ xs. count_by (is_left xs) (space c.args.inst.now).bids) c.deref.ensures.value
    ∙ left_alike _ _ c.in_ok-launched.ensures.same (space c.args.inst.now).bids
