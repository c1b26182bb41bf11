use Rattle.std.proofs.Common.{subst, sym}
use Rattle.tetri_space.specs.Lawful.{IsLawful}
use Rattle.tetri_space.specs.Space.{space}
use Rattle.tetri_delay.proofs.RestLemmas.{nothing_lawful}
use Rattle.tetri_delay.proofs.rest.lawful_or_none.Goals as goal

pub returns-in-Err : goal.returns-in-Err
returns-in-Err c = subst (IsLawful (space c.args.inst.now)) (sym c.new.ensures) (nothing_lawful (space c.args.inst.now))
