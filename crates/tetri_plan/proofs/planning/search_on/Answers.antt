use Rattle.tetri_space.specs.Space.{space}
use Rattle.tetri_plan.proofs.SearchedLemmas.{searched_is}
use Rattle.tetri_plan.proofs.planning.search_on.Goals as goal

pub returns : goal.returns
returns c =
    let e = c.in_ok-found.ensures in
    searched_is (space c.args.inst.now) c.in_ok-compiled.compiled.program c.in_ok-compiled.ensures.compiled.program c.requires.sound c.args.kept.grants c.args.kept.worth c.args.budget c.in_ok-found.found c.in_ok-best.best
    c.requires.tree c.in_ok-compiled.ensures.fit (record { lawful = c.requires.lawful; thrifty = c.requires.thrifty }) c.requires.worth
    e.earned e.bound e.nodes e.best e.last e.point e.worth e.plain e.short c.in_ok-best.ensures.grants c.in_ok-best.ensures.worth
