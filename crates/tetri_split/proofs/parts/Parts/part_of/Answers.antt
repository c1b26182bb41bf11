use Rattle.std.proofs.Common.{◌∙◌, ap, subst, sym}
use Rattle.tetri_base.specs.Lists.{has}
use Rattle.tetri_space.specs.Sound.{IsSound}
use Rattle.tetri_space.specs.Space.{space}
use Rattle.tetri_split.specs.Parts.{is_in_part}
use Rattle.tetri_split.specs.Restricted.{restricted}
use Rattle.tetri_split.proofs.RestrictedLemmas.{sound-kept}
use Rattle.tetri_split.proofs.parts.Parts.part_of.Goals as goal

pub returns-clause-sound : goal.returns-clause-sound
returns-clause-sound c =
    let s = space c.args.inst.now in
    let is = c.in_ok-made.ensures ∙ ap (λ ns. restricted (has ns) s) c.jobs_of.ensures.jobs in
    subst IsSound (sym is) (sound-kept (is_in_part c.args.self.now c.args.part) s c.requires.sound)
