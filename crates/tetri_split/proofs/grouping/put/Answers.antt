use Rattle.std.proofs.Common.{◌≡◌, ◌∙◌, ◌∷◌, ◌++◌, [], ℕ, List, None, Some, get_or, length, set, ap, subst, sym, arith}
use Rattle.std.proofs.lemmas.List.{get_or_default}
use Rattle.tetri_split.specs.Grouped.{AreGroups, ArePlaces}
use Rattle.tetri_split.proofs.GroupingLemmas.{put_alone, put_first, put_grown}
use Rattle.tetri_split.proofs.grouping.put.Goals as goal

pub returns-in_ok-push-in-Some-places-clause-put : goal.returns-in_ok-push-in-Some-places-clause-put
returns-in_ok-push-in-Some-places-clause-put c keys jobs own later made at =
    let groups = c.args.groups.now.items in
    let places = c.args.places.now in
    let x = c.in-Some.label in
    let k = c.in-Some-places.place in
    let job = c.args.job in
    let x_lt = c.requires.key x c.in-Some.is in
    let found : get_or places x None ≡ Some k = get_or_default places x None _ x_lt ∙ c.in-Some-places.is in
    let k_lt = c.requires.there x k found in
    let old : c.index_mut.result.now ≡ get_or groups k [] = c.index_mut.ensures.value ∙ get_or_default groups k c.index_mut.result.now [] k_lt in
    let new : c.push.new.self ≡ get_or groups k [] ++ job ∷ [] = c.in_ok-push-in-Some-places.ensures.ok ∙ ap (λ (ns : List ℕ). ns ++ job ∷ []) old in
    subst (λ (g : List ℕ). AreGroups keys (jobs ++ job ∷ []) (set groups k g) × ArePlaces keys places (set groups k g)) (sym new)
    (put_grown keys jobs groups job later made places x k at found (own ∙ c.in-Some.is))

pub returns-in_ok-add_group-in-None-clause-put : goal.returns-in_ok-add_group-in-None-clause-put
returns-in_ok-add_group-in-None-clause-put c keys jobs own later made at =
    let groups = c.args.groups.now.items in
    let places = c.args.places.now in
    let x = c.in-Some.label in
    let job = c.args.job in
    let x_lt = c.requires.key x c.in-Some.is in
    let none : get_or places x None ≡ None = get_or_default places x None _ x_lt ∙ c.in-None.is in
    let long : c.len.result ≡ length groups = omega (arith, c.len.ensures, c.args.groups.now.ok.0) in
    subst (λ (gs : List (List ℕ)). AreGroups keys (jobs ++ job ∷ []) gs × ArePlaces keys (set places x (Some c.len.result)) gs) (sym c.in_ok-add_group-in-None.ensures)
    (subst (λ (n : ℕ). AreGroups keys (jobs ++ job ∷ []) (groups ++ (job ∷ []) ∷ []) × ArePlaces keys (set places x (Some n)) (groups ++ (job ∷ []) ∷ [])) (sym long)
    (put_first keys jobs groups job later made places x at none x_lt (own ∙ c.in-Some.is)))

pub returns-in_default-clause-put : goal.returns-in_default-clause-put
returns-in_default-clause-put c keys jobs own later made at =
    let places = c.args.places.now in
    let job = c.args.job in
    subst (λ (gs : List (List ℕ)). AreGroups keys (jobs ++ job ∷ []) gs × ArePlaces keys places gs) (sym c.in_ok-add_group.ensures)
    (put_alone keys jobs c.args.groups.now.items job later made places at (own ∙ c.in_default.is))
