use Rattle.std.proofs.Common.{◌∙◌, ap, sym}
use Rattle.tetri_space.specs.Space.{space}
use Rattle.tetri_space.specs.Total.{total_in}
use Rattle.tetri_plan.proofs.KeptLemmas.{nothing_worth}
use Rattle.tetri_plan.proofs.planning.kept.Goals as goal

pub better-best-requires-clause-worth : goal.better-best-requires-clause-worth
better-best-requires-clause-worth c = let s = space c.args.inst.now in sym (ap (total_in s) c.new.ensures ∙ nothing_worth s c.requires.sound)
