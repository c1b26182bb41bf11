use Rattle.tetri_space.specs.Space.{space}
use Rattle.tetri_by_swift.proofs.RightLemmas.{plan_is_right}
use Rattle.tetri_by_swift.proofs.planning.search_from.Goals as goal

pub returns-clause-right : goal.returns-clause-right
returns-clause-right g c =
    let e = c.in_ok-best.ensures in
    plan_is_right (space c.args.inst.now) c.in_ok-compiled.compiled.program c.in_ok-compiled.ensures.compiled.program c.requires.sound c.requires.tree c.args.budget c.args.known.worth c.in_ok-found.found c.in_ok-found.ensures
    c.in_ok-best.best e.held e.at_least e.reached c.mark_of-mark.result c.mark_of-mark.ensures.optimal c.mark_of-mark.ensures.spent
    c.in_ok-grants.grants c.in_ok-grants.ensures c.args.low _
