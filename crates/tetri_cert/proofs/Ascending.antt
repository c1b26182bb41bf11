-- Weights that ascend by row, one more at a time.
use Rattle.std.proofs.Common.{ℕ, ◌+◌, ◌-◌, ◌<◌, sym, subst, ⊎_elim, arith, List}
use Rattle.std.proofs.lemmas.Bool.{cases_eq}
use Rattle.tetri_ip.specs.declared.programs.Weight.{Weight}
use Rattle.tetri_ip.specs.Weighed.{weight_at}

pub ascends_more : (ws : List Weight) (k : ℕ) → 0 < k → ((a b : ℕ) → a < b → b < k → (weight_at ws a).row < (weight_at ws b).row) → (weight_at ws (k - 1)).row < (weight_at ws k).row →
    (a b : ℕ) → a < b → b < k + 1 → (weight_at ws a).row < (weight_at ws b).row
ascends_more ws k z h l a b m n =
    ⊎_elim
    (λ e. subst (λ i. (weight_at ws a).row < (weight_at ws i).row) (sym e) (at_last (let o : a < k = omega arith in o)))
    (λ e. h a b m (omega arith))
    (cases_eq b k)
  where
    at_last : a < k → (weight_at ws a).row < (weight_at ws k).row
    at_last o =
        ⊎_elim
        (λ e. subst (λ i. (weight_at ws i).row < (weight_at ws k).row) (sym e) l)
        (λ e. let r = h a (k - 1) (omega arith) (omega arith) in omega arith)
        (cases_eq a (k - 1))
