use Rattle.std.proofs.Common.{subst, sym}
use Rattle.tetri_space.specs.Lawful.{IsLawful}
use Rattle.tetri_space.specs.Space.{space}
use Rattle.tetri_space.specs.Trimmed.{IsThriftyForAll}
use Rattle.tetri_space.proofs.InstanceLaws.{lawful_trimmed, thrifty_trimmed}
use Rattle.tetri_delay.proofs.rest.others.Goals as goal

pub returns-clause-lawful : goal.returns-clause-lawful
returns-clause-lawful c =
    let s = space c.args.inst.now in
    subst (IsLawful s) (sym c.in_ok-trimmed.ensures) (lawful_trimmed s c.requires _ c.lawful_or_none-lawful.ensures)

pub returns-clause-thrifty : goal.returns-clause-thrifty
returns-clause-thrifty c =
    let s = space c.args.inst.now in
    subst (IsThriftyForAll s) (sym c.in_ok-trimmed.ensures) (thrifty_trimmed s c.requires _)
