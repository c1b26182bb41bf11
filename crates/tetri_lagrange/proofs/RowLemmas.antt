-- Rows of one length.
use Rattle.std.proofs.Common.{◌≡◌, ◌∷◌, [], ◌++◌, List, ℕ, Vec, Global, All, length, map, subst, sym}
use Rattle.std.proofs.lemmas.List.{map-append}
use Rattle.std.proofs.lemmas.List.Elements.{All-append, All-cons, All-nil}

-- with one more row of that length, all rows have it
pub rows_long : (w : ℕ) (old : List (Vec ℕ Global)) (row : Vec ℕ Global) (new : List (Vec ℕ Global))
    → new ≡ old ++ row ∷ [] → All (λ r. length r ≡ w) (map (λ v. v.items) old) → length row.items ≡ w
    → All (λ r. length r ≡ w) (map (λ v. v.items) new)
rows_long w old row new pushed all here =
    let P : List ℕ → Type 0 = λ r. length r ≡ w in
    let read : Vec ℕ Global → List ℕ = λ v. v.items in
    subst (λ (vs : List (Vec ℕ Global)). All P (map read vs)) (sym pushed)
    (subst (λ (rs : List (List ℕ)). All P rs) (sym (map-append read old (row ∷ [])))
    (All-append P (map read old) (row.items ∷ []) all (All-cons P row.items [] here (All-nil P))))
