use Rattle.std.proofs.Common.{All, subst, sym}
use Rattle.tetri_space.specs.Lawful.{IsLawful}
use Rattle.tetri_space.specs.Space.{space}
use Rattle.tetri_by_swift.proofs.turns.plan_in_turns.Goals as goal

pub plan_shortly-requires-clause-given : goal.plan_shortly-requires-clause-given
plan_shortly-requires-clause-given c =
    subst (All (IsLawful (space c.args.inst.now))) (sym c.deref.ensures.value) c.requires.given

pub plan_fully-requires-clause-first : goal.plan_fully-requires-clause-first
plan_fully-requires-clause-first c = c.in_ok-first.ensures.good.honest.lawful
