use Rattle.std.proofs.Common.{◌++◌, ◌∷◌, [], All, List, refl, subst, sym}
use Rattle.std.proofs.lemmas.List.Elements.{All-append, All-cons, All-nil}
use Rattle.tetri_strl.specs.declared.grants.Grant.{Grant}
use Rattle.tetri_space.specs.Lawful.{IsLawful}
use Rattle.tetri_space.specs.Space.{space}
use Rattle.tetri_by_price.proofs.by_price.add_priced.Goals as goal

pub returns-in-Ok : goal.returns-in-Ok
returns-in-Ok c =
    let lawful = IsLawful (space c.args.inst.now) in
    let plan : List Grant = c.in_ok-found.found.plan in
    subst (All lawful) (sym c.in_ok-push-in-Ok.ensures.items)
    (All-append lawful c.args.given.now.items (plan ∷ []) c.requires.given (All-cons lawful plan [] (c.in-Ok.ensures.ok.0 refl) (All-nil lawful)))
