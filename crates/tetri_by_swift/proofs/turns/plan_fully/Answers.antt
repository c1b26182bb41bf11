use Rattle.std.proofs.Common.{◌∷◌, [], All, subst, sym}
use Rattle.std.proofs.lemmas.List.Elements.{All-append, All-cons, All-nil}
use Rattle.tetri_space.specs.Lawful.{IsLawful}
use Rattle.tetri_space.specs.Space.{space}
use Rattle.tetri_by_swift.proofs.turns.plan_fully.Goals as goal

pub add_priced-requires-clause-given : goal.add_priced-requires-clause-given
add_priced-requires-clause-given c =
    let lawful = IsLawful (space c.args.inst.now) in
    subst (All lawful) (sym c.in_ok-push.ensures.items)
    (All-append lawful c.args.given.items (c.args.first ∷ []) c.requires.given (All-cons lawful c.args.first [] c.requires.first (All-nil lawful)))

pub choose_by-requires-clause-given : goal.choose_by-requires-clause-given
choose_by-requires-clause-given c =
    subst (All (IsLawful (space c.args.inst.now))) (sym c.deref.ensures.value) c.in_ok-add_priced.ensures
