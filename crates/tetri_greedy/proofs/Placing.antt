-- Leaves and their grants, place by place.
use Rattle.std.proofs.Common.{◌≡◌, ℕ, zero, suc, List, [], ◌∷◌, ◌++◌, length, take, drop, refl, ap, ◌∙◌}
use Rattle.tetri_strl.specs.declared.expr.Leaf.{Leaf}
use Rattle.tetri_strl.specs.declared.grants.Grant.{Grant}
use Rattle.tetri_advice.specs.Fit.{grant_of, grants_of}
use Rattle.tetri_greedy.specs.Fitted.{placement_of, placements_of, AreGrantsOf}

pub placements-length : (job : ℕ) (ls : List Leaf) (gs : List Grant) → AreGrantsOf job ls gs → length (placements_of ls gs) ≡ length ls
placements-length job [] [] h = refl
placements-length job [] (g ∷ gs) h = absurd h
placements-length job (l ∷ ls) [] h = absurd h
placements-length job (l ∷ ls) (g ∷ gs) h = ap suc (placements-length job ls gs h.1)

pub as_many : (job : ℕ) (ls : List Leaf) (gs : List Grant) → AreGrantsOf job ls gs → length ls ≡ length gs
as_many job [] [] h = refl
as_many job [] (g ∷ gs) h = absurd h
as_many job (l ∷ ls) [] h = absurd h
as_many job (l ∷ ls) (g ∷ gs) h = ap suc (as_many job ls gs h.1)

pub are_grants : (job : ℕ) (ls : List Leaf) (gs : List Grant) → AreGrantsOf job ls gs → gs ≡ grants_of job (placements_of ls gs)
are_grants job [] [] h = refl
are_grants job [] (g ∷ gs) h = absurd h
are_grants job (l ∷ ls) [] h = absurd h
are_grants job (l ∷ ls) (g ∷ gs) h = ap (λ x. x ∷ gs) h.0 ∙ ap (λ xs. grant_of job (placement_of l g) ∷ xs) (are_grants job ls gs h.1)

pub take_grants : (job n : ℕ) (ls : List Leaf) (gs : List Grant) → AreGrantsOf job ls gs → AreGrantsOf job (take n ls) (take n gs)
take_grants job zero ls gs h = tt
take_grants job (suc n) [] [] h = tt
take_grants job (suc n) [] (g ∷ gs) h = absurd h
take_grants job (suc n) (l ∷ ls) [] h = absurd h
take_grants job (suc n) (l ∷ ls) (g ∷ gs) h = (h.0, take_grants job n ls gs h.1)

pub drop_grants : (job n : ℕ) (ls : List Leaf) (gs : List Grant) → AreGrantsOf job ls gs → AreGrantsOf job (drop n ls) (drop n gs)
drop_grants job zero ls gs h = h
drop_grants job (suc n) [] [] h = tt
drop_grants job (suc n) [] (g ∷ gs) h = absurd h
drop_grants job (suc n) (l ∷ ls) [] h = absurd h
drop_grants job (suc n) (l ∷ ls) (g ∷ gs) h = drop_grants job n ls gs h.1

pub append_grants : (job : ℕ) (ls ms : List Leaf) (gs hs : List Grant) → AreGrantsOf job ls gs → AreGrantsOf job ms hs → AreGrantsOf job (ls ++ ms) (gs ++ hs)
append_grants job [] ms [] hs h k = k
append_grants job [] ms (g ∷ gs) hs h k = absurd h
append_grants job (l ∷ ls) ms [] hs h k = absurd h
append_grants job (l ∷ ls) ms (g ∷ gs) hs h k = (h.0, append_grants job ls ms gs hs h.1 k)

pub placements-take : (job n : ℕ) (ls : List Leaf) (gs : List Grant) → AreGrantsOf job ls gs → placements_of (take n ls) (take n gs) ≡ take n (placements_of ls gs)
placements-take job zero ls gs h = refl
placements-take job (suc n) [] [] h = refl
placements-take job (suc n) [] (g ∷ gs) h = absurd h
placements-take job (suc n) (l ∷ ls) [] h = absurd h
placements-take job (suc n) (l ∷ ls) (g ∷ gs) h = ap (λ ps. placement_of l g ∷ ps) (placements-take job n ls gs h.1)

pub placements-drop : (job n : ℕ) (ls : List Leaf) (gs : List Grant) → AreGrantsOf job ls gs → placements_of (drop n ls) (drop n gs) ≡ drop n (placements_of ls gs)
placements-drop job zero ls gs h = refl
placements-drop job (suc n) [] [] h = refl
placements-drop job (suc n) [] (g ∷ gs) h = absurd h
placements-drop job (suc n) (l ∷ ls) [] h = absurd h
placements-drop job (suc n) (l ∷ ls) (g ∷ gs) h = placements-drop job n ls gs h.1

pub placements-append : (job : ℕ) (ls ms : List Leaf) (gs hs : List Grant) → AreGrantsOf job ls gs → placements_of (ls ++ ms) (gs ++ hs) ≡ placements_of ls gs ++ placements_of ms hs
placements-append job [] ms [] hs h = refl
placements-append job [] ms (g ∷ gs) hs h = absurd h
placements-append job (l ∷ ls) ms [] hs h = absurd h
placements-append job (l ∷ ls) ms (g ∷ gs) hs h = ap (λ ps. placement_of l g ∷ ps) (placements-append job ls ms gs hs h.1)

-- the grants from a place on
pub later_grants : (job n : ℕ) (ls : List Leaf) (gs : List Grant) → AreGrantsOf job ls gs → drop n gs ≡ grants_of job (drop n (placements_of ls gs))
later_grants job n ls gs h =
    are_grants job (drop n ls) (drop n gs) (drop_grants job n ls gs h) ∙ ap (grants_of job) (placements-drop job n ls gs h)
