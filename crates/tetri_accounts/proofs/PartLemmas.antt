-- How the launches of a slot are parted, one after another.
use Rattle.std.proofs.Common.{◌≡◌, ℕ, Bool, true, false, cond, List, [], ◌∷◌, ◌++◌, map, filter, not, refl, ap, ◌∙◌, append_assoc}
use Rattle.tetri_state.specs.Begin.{Occurrences}
use Rattle.tetri_accounts.specs.Rows.{closed_as, goes_on, leaving, outcome_of, staying}
use Rattle.tetri_accounts.specs.declared.row.Outcome.{Outcome}
use Rattle.tetri_accounts.specs.declared.row.Row.{Row}

module _ (o : Occurrences) (now : ℕ) (r : Row) (rs : List Row) (outcome : Outcome) (is : outcome ≡ outcome_of o now r) where
  pub stays : (old new : List Row) → new ≡ old ++ cond (goes_on outcome) (r ∷ []) [] → new ++ staying o now rs ≡ old ++ staying o now (r ∷ rs)
  stays old new placed =
      ap (λ xs. xs ++ staying o now rs) placed ∙ append_assoc old (cond (goes_on outcome) (r ∷ []) []) (staying o now rs)
      ∙ ap (λ xs. old ++ xs) (by_test (goes_on outcome) ∙ ap (λ f. cond (goes_on f) (r ∷ staying o now rs) (staying o now rs)) is)
    where
      by_test : (b : Bool) → cond b (r ∷ []) [] ++ staying o now rs ≡ cond b (r ∷ staying o now rs) (staying o now rs)
      by_test true = refl
      by_test false = refl

  pub leaves : (old new : List Row) → new ≡ old ++ cond (goes_on outcome) [] (closed_as now outcome r ∷ []) → new ++ leaving o now rs ≡ old ++ leaving o now (r ∷ rs)
  leaves old new placed =
      ap (λ xs. xs ++ leaving o now rs) placed ∙ append_assoc old (cond (goes_on outcome) [] (closed_as now outcome r ∷ [])) (leaving o now rs)
      ∙ ap (λ xs. old ++ xs)
      (ap (λ f. cond (goes_on f) [] (closed_as now f r ∷ []) ++ leaving o now rs) is ∙ by_test (goes_on (outcome_of o now r)))
    where
      rest : List Row
      rest = filter (λ q. not (goes_on (outcome_of o now q))) rs

      by_test : (b : Bool) → cond b [] (closed_as now (outcome_of o now r) r ∷ []) ++ leaving o now rs ≡ map (λ q. closed_as now (outcome_of o now q) q) (cond (not b) (r ∷ rest) rest)
      by_test true = refl
      by_test false = refl
