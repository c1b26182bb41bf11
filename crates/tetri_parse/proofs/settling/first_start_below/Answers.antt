use Rattle.std.proofs.Common.{sym, ◌∙◌}
use Rattle.tetri_parse.proofs.Peaks.{same_start}
use Rattle.tetri_parse.proofs.settling.first_start_below.Goals as goal

pub returns : goal.returns
returns c = c.first_start_of.ensures ∙ sym (same_start c.args.cluster.now c.args.parts.now)
