use Rattle.std.proofs.Common.{List, subst, sym}
use Rattle.tetri_space.specs.Sound.{IsSound}
use Rattle.tetri_space.specs.Space.{space}
use Rattle.tetri_space.specs.declared.closure.Closure.{Closure}
use Rattle.tetri_delay.proofs.RestLemmas.{closed_sound}
use Rattle.tetri_delay.proofs.rest.closed.Goals as goal

pub returns : goal.returns
returns c =
    let s = space c.args.inst in
    subst (λ (cs : List Closure). IsSound (record s { closures = cs })) (sym c.in_ok-new.ensures.ok) (closed_sound s c.in_ok-closures.closures c.requires c.in_ok-closures.ensures)
