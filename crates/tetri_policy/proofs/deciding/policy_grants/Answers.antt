use Rattle.std.proofs.Common.{◌∙◌, ap}
use Rattle.tetri_space.specs.Space.{space}
use Rattle.tetri_space.specs.Trimmed.{all_trimmed}
use Rattle.tetri_policy.proofs.deciding.policy_grants.Goals as goal

pub returns : goal.returns
returns c = c.in_ok-grants.ensures ∙ ap (all_trimmed (space c.args.inst.now)) (c.of.ensures ∙ c.in_ok-starts.ensures)
