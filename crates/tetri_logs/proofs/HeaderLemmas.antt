-- A header has a name of a job's identifier.
use Rattle.std.proofs.Common.{◌≡◌, ℕ, ◌+◌, Bool, true, false, List, [], ◌∷◌, map, Bor, refl, cond}
use Rattle.std.specs.Prelude.{◌||◌, Option, Some, None, is_some, bytes_eq, codes}
use Rattle.std.specs.List.{list_any}
use Rattle.tetri_logs.specs.Header.{column_from, either, is_header, is_id}

found : (at : ℕ) (one other : Bool) (ones others : Option ℕ) (any : Bool) → is_some (either ones others) ≡ any
    → is_some (either (cond one (Some at) ones) (cond other (Some at) others)) ≡ ((one || other) || any)
found at true other ones others any e = refl
found at false true None others any e = refl
found at false true (Some n) others any e = refl
found at false false ones others any e = e

found_from : (at : ℕ) (names : List (Bor (List ℕ)))
    → is_some (either (column_from at (codes "JobID") (map (λ w. w.now) names)) (column_from at (codes "JobIDRaw") (map (λ w. w.now) names))) ≡ list_any (λ name. is_id name.now) names
found_from at [] = refl
found_from at (name ∷ names) =
    let one = column_from (at + 1) (codes "JobID") (map (λ w. w.now) names) in
    let other = column_from (at + 1) (codes "JobIDRaw") (map (λ w. w.now) names) in
    found at (bytes_eq name.now (codes "JobID")) (bytes_eq name.now (codes "JobIDRaw")) one other _ (found_from (at + 1) names)

pub header_has_id : (names : List (Bor (List ℕ))) → is_header (map (λ w. w.now) names) ≡ list_any (λ name. is_id name.now) names
header_has_id names = found_from 1 names
