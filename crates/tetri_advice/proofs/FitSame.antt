-- A fit depends on what is taken of idle nodes in the slots of live leaves alone.
use Rattle.std.proofs.Common.{◌≡◌, ℕ, ◌≤◌, ◌&&◌, Bool, true, false, not, cond, List, [], ◌∷◌, ◌++◌, length, take, refl, sym, ap, ◌∙◌, nat_le}
use Rattle.std.specs.Prelude.{filter}
use Rattle.tetri_strl.specs.declared.expr.Leaf.{Leaf}
use Rattle.tetri_strl.specs.Aligned.{EachLeaf, EachLeafOf}
use Rattle.tetri_strl.specs.Tree.{greatest, least, added, Tree, one, join, scale, barrier, Trees, none, more}
use Rattle.tetri_strl.specs.WellMade.{IsGoodLeaf}
use Rattle.tetri_space.specs.Space.{Space, set_of}
use Rattle.tetri_space.specs.Free.{is_free_throughout, is_idle}
use Rattle.tetri_advice.specs.Fit.{Placement, all_fit, best_fit, better, enough, fit_beside, fit_of_leaf, fit_worth, fits, is_available, is_held, is_live, lowest}

filter-same : (p q : ℕ → Bool) (xs : List ℕ) → ((n : ℕ) → p n ≡ q n) → filter p xs ≡ filter q xs
filter-same p q [] same = refl
filter-same p q (x ∷ xs) same = ap (λ b. cond b (x ∷ filter p xs) (filter p xs)) (same x) ∙ ap (λ ys. cond (q x) (x ∷ ys) ys) (filter-same p q xs same)

module _ (s : Space) (job : ℕ) (f g : Leaf → ℕ → Bool) (same : (l : Leaf) (n : ℕ) → is_live s l ≡ true → 1 ≤ l.dur → is_idle s n l.start ≡ true → f l n ≡ g l n) where
  -- a node that is not idle is not free
  available-same : (held : List Placement) (l : Leaf) → is_live s l ≡ true → 1 ≤ l.dur → (n : ℕ) → is_available s f held l n ≡ is_available s g held l n
  available-same held l live some n = by_idle (is_idle s n l.start) refl
    where
      by_idle : (t : Bool) → is_idle s n l.start ≡ t → is_available s f held l n ≡ is_available s g held l n
      by_idle true e = ap (λ b. is_free_throughout s l n && not b && not (is_held held l n)) (same l n live some e)
      by_idle false e = rw e refl

  leaf-same : (held : List Placement) (l : Leaf) → 1 ≤ l.dur → fit_of_leaf s f held l ≡ fit_of_leaf s g held l
  leaf-same held l some = by_live (is_live s l) refl
    where
      by_live : (t : Bool) → is_live s l ≡ t → fit_of_leaf s f held l ≡ fit_of_leaf s g held l
      by_live true live =
          ap (λ ns. cond (is_live s l && enough l (length (take l.k ns))) (record { leaf = l; nodes = take l.k ns } ∷ []) [])
          (filter-same (is_available s f held l) (is_available s g held l) (set_of s l) (available-same held l live some))
      by_live false out =
          ap (λ b. cond (b && enough l (length (lowest s f held l))) (record { leaf = l; nodes = lowest s f held l } ∷ []) []) out
          ∙ sym (ap (λ b. cond (b && enough l (length (lowest s g held l))) (record { leaf = l; nodes = lowest s g held l } ∷ []) []) out)

  mutual
    pub fit-same : (t : Tree) → EachLeaf IsGoodLeaf t → (held : List Placement) → fit_beside s job f held t ≡ fit_beside s job g held t
    fit-same (one l) good held = leaf-same held l good.some_slots
    fit-same (join greatest ts) good held = ap (λ b. b.1) (best-same ts good held (0, []))
    fit-same (join least ts) good held =
        ap (λ b. cond b (fits s job f held ts) []) (all-same ts good held) ∙ ap (λ ps. cond (all_fit s job g held ts) ps []) (fits-same ts good held)
    fit-same (join added ts) good held = fits-same ts good held
    fit-same (scale t by) good held = fit-same t good held
    fit-same (barrier t v) good held = ap (λ ps. cond (nat_le v (fit_worth job t ps)) ps []) (fit-same t good held)

    fits-same : (ts : Trees) → EachLeafOf IsGoodLeaf ts → (held : List Placement) → fits s job f held ts ≡ fits s job g held ts
    fits-same none good held = refl
    fits-same (more t ts) good held =
        ap (λ ps. ps ++ fits s job f (held ++ ps) ts) (fit-same t good.0 held)
        ∙ ap (λ ps. fit_beside s job g held t ++ ps) (fits-same ts good.1 (held ++ fit_beside s job g held t))

    all-same : (ts : Trees) → EachLeafOf IsGoodLeaf ts → (held : List Placement) → all_fit s job f held ts ≡ all_fit s job g held ts
    all-same none good held = refl
    all-same (more t ts) good held =
        ap (λ ps. nat_le 1 (fit_worth job t ps) && all_fit s job f (held ++ ps) ts) (fit-same t good.0 held)
        ∙ ap (λ b. nat_le 1 (fit_worth job t (fit_beside s job g held t)) && b) (all-same ts good.1 (held ++ fit_beside s job g held t))

    best-same : (ts : Trees) → EachLeafOf IsGoodLeaf ts → (held : List Placement) (best : ℕ × List Placement) → best_fit s job f held ts best ≡ best_fit s job g held ts best
    best-same none good held best = refl
    best-same (more t ts) good held best =
        ap (λ ps. best_fit s job f held ts (better best (fit_worth job t ps, ps))) (fit-same t good.0 held)
        ∙ best-same ts good.1 held (better best (fit_worth job t (fit_beside s job g held t), fit_beside s job g held t))
