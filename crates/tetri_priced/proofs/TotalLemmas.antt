-- Sums over a list, item by item.
use Rattle.std.proofs.Common.{◌≡◌, ℕ, ◌+◌, ◌<◌, ◌≤◌, List, ◌∷◌, drop, get_or, length, sym, ap, ◌∙◌, arith}
use Rattle.std.proofs.lemmas.List.{drop_all, drop_more}
use Rattle.tetri_base.specs.Lists.{sum_of}

module _ {X : Type 0} (f : X → ℕ) (xs : List X) (i sum total : ℕ) (so_far : sum + sum_of f (drop i xs) ≡ total) where
  pub sum_next : (x : X) → i < length xs → x ≡ get_or xs i x → sum + f x + sum_of f (drop (i + 1) xs) ≡ total
  sum_next x lt is =
      let next : drop i xs ≡ x ∷ drop (i + 1) xs = drop_more xs i x lt ∙ ap (λ y. y ∷ drop (i + 1) xs) (sym is) in
      omega (arith, so_far, ap (sum_of f) next)

  pub sum_all : length xs ≤ i → sum ≡ total
  sum_all over = omega (arith, so_far, ap (sum_of f) (drop_all i xs over))
