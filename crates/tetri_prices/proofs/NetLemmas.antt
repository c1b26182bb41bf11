-- The least of what remains of each gain behind the least costs of all others, in one pass.
use Rattle.std.proofs.Common.{◌≡◌, ℕ, ◌+◌, ◌-◌, ◌≤◌, min, List, [], ◌∷◌, ap, ◌∙◌, arith}
use Rattle.tetri_strl.specs.Worth.{added_of, least_from, least_of}
use Rattle.tetri_prices.specs.Gain.{nets}

-- each gain with its own least cost
abbrev pub gross : List ℕ → List ℕ → List ℕ
gross [] cs = []
gross (g ∷ gs) [] = []
gross (g ∷ gs) (c ∷ cs) = (g + c) ∷ gross gs cs

net_from : (gs cs : List ℕ) (all g : ℕ) → added_of cs ≤ all → least_from (g - all) (nets all gs cs) ≡ least_from g (gross gs cs) - all
net_from [] cs all g few = omega arith
net_from (h ∷ gs) [] all g few = omega arith
net_from (h ∷ gs) (c ∷ cs) all g few =
    let rest : added_of cs ≤ all = omega (arith, few) in
    let step : min (g - all) (h - (all - c)) ≡ min g (h + c) - all = omega (arith, few) in
    ap (λ n. least_from n (nets all gs cs)) step ∙ net_from gs cs all (min g (h + c)) rest

pub net_gross : (gs cs : List ℕ) → least_of (nets (added_of cs) gs cs) ≡ least_of (gross gs cs) - added_of cs
net_gross [] cs = omega arith
net_gross (g ∷ gs) [] = omega arith
net_gross (g ∷ gs) (c ∷ cs) =
    let all = c + added_of cs in
    let few : added_of cs ≤ all = omega arith in
    let step : g - (all - c) ≡ g + c - all = omega arith in
    ap (λ n. least_from n (nets all gs cs)) step ∙ net_from gs cs all (g + c) few

-- a least is at most the number that it begins with
pub least_from_le : (m : ℕ) (xs : List ℕ) → least_from m xs ≤ m
least_from_le m [] = omega arith
least_from_le m (x ∷ xs) = omega (arith, least_from_le (min m x) xs)

pub least_le_added : (xs : List ℕ) → least_of xs ≤ added_of xs
least_le_added [] = omega arith
least_le_added (x ∷ xs) = omega (arith, least_from_le x xs)
