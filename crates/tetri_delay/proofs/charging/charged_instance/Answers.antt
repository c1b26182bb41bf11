use Rattle.std.proofs.Common.{subst, sym}
use Rattle.tetri_space.specs.Sound.{IsSound}
use Rattle.tetri_space.specs.Space.{space}
use Rattle.tetri_delay.proofs.ChargedLemmas.{charged_sound}
use Rattle.tetri_delay.proofs.charging.charged_instance.Goals as goal

pub returns-clause-sound : goal.returns-clause-sound
returns-clause-sound c =
    subst IsSound (sym c.in_ok-charged.ensures) (charged_sound c.args.rates c.args.jobs.first.now c.args.jobs.held.now (space c.args.inst.now) c.requires.sound)
