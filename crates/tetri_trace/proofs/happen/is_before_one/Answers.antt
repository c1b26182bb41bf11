use Rattle.std.proofs.Common.{sym, ap, ◌∙◌}
use Rattle.std.specs.Prelude.{nat_lt}
use Rattle.tetri_trace.proofs.Later.{any_after_last}
use Rattle.tetri_trace.proofs.happen.is_before_one.Goals as goal

pub returns-in-Some : goal.returns-in-Some
returns-in-Some c = ap (nat_lt c.args.at) c.from.ensures ∙ sym (any_after_last c.args.at c.args.events.now c.requires c.in-Some.last.now (sym c.in-Some.ensures.value))
