use Rattle.std.proofs.Common.{map, string_bytes}
use Rattle.std.specs.Prelude.{codes}
use Rattle.tetri_export.specs.Lp.{costs_text}
use Rattle.tetri_export.proofs.TextLemmas.{after}
use Rattle.tetri_export.proofs.lp.add_objective.Goals as goal

pub returns : goal.returns
returns c =
    after (string_bytes c.args.out.now) (string_bytes c.push_str.new.self) (string_bytes c.add_costs.new.out) (codes "Maximize\n value: 0 nothing\n")
    (costs_text (map string_bytes c.args.columns.now) c.args.costs.now) c.in_ok-push_str.ensures.bytes c.in_ok-add_costs.ensures
