-- The slot of one more event.
use Rattle.std.proofs.Common.{◌≡◌, ℕ, ◌-◌, ◌<◌, ◌≤◌, Bool, true, false, List, [], ◌∷◌, length, get_or, All, nat_lt, inl, inr, sym, ◌∙◌, refl, ap, Some, None, arith}
use Rattle.std.specs.Prelude.{AllPairs, slice_get}
use Rattle.std.specs.List.{list_any}
use Rattle.std.proofs.lemmas.Bool.{cases_lt, false≢true}
use Rattle.std.proofs.lemmas.Bool.Decides.{nat_tests}
use Rattle.std.proofs.lemmas.List.Folds.{list_any-from_Any, list_any_none}
use Rattle.std.proofs.lemmas.Option.{get_or_from_slice_get, slice_get_within, slice_get-get_or}
use Rattle.tetri_trace.specs.declared.trace.Event.{Event}

-- the last of events that ascend is the latest
module _ (at : ℕ) (es : List Event) (ascend : AllPairs (λ (e : Event) (f : Event). e.at ≤ f.at) es) (last : Event) (here : slice_get es (length es - 1) ≡ Some last) where
  within : length es - 1 < length es
  within = slice_get_within es (length es - 1) last here

  none_after : (k : ℕ) (d : Event) → k < length es → (get_or es k d).at ≤ last.at
  none_after k d lt =
      let at_last : get_or es (length es - 1) d ≡ last = get_or_from_slice_get es (length es - 1) last d here in
      elim (cases_lt k (length es - 1)) [
        | inl less ↦ omega (arith, ap (λ (e : Event). e.at) at_last, ascend k (length es - 1) d less within)
        | inr more ↦ let e : k ≡ length es - 1 = omega (arith, within) in omega (arith, ap (λ (e : Event). e.at) at_last, ap (λ i. (get_or es i d).at) e)
      ]

  by_last : (b : Bool) → nat_lt at last.at ≡ b → list_any (λ (e : Event). nat_lt at e.at) es ≡ b
  by_last true e = list_any-from_Any (λ (e : Event). nat_lt at e.at) es (length es - 1, last, within, get_or_from_slice_get es (length es - 1) last last here, e)
  by_last false e = list_any_none (λ (e : Event). nat_lt at e.at) es (λ k d lt. let le = none_after k d lt in grind (arith, nat_tests))

  pub any_after_last : list_any (λ (e : Event). nat_lt at e.at) es ≡ nat_lt at last.at
  any_after_last = by_last (nat_lt at last.at) refl

pub none_later : (at : ℕ) (es : List Event) → slice_get es (length es - 1) ≡ None → list_any (λ (e : Event). nat_lt at e.at) es ≡ false
none_later at [] e = refl
none_later at (x ∷ es) e = let some = slice_get-get_or (x ∷ es) (length (x ∷ es) - 1) x (omega arith) in cc

pub not_before_from_test : (at : ℕ) (es : List Event) → list_any (λ (e : Event). nat_lt at e.at) es ≡ false → All (λ (e : Event). e.at ≤ at) es
not_before_from_test at es h k d lt = by_test (nat_lt at (get_or es k d).at) refl
  where
    by_test : (b : Bool) → nat_lt at (get_or es k d).at ≡ b → (get_or es k d).at ≤ at
    by_test true e = absurd (false≢true (sym h ∙ list_any-from_Any (λ (f : Event). nat_lt at f.at) es (k, get_or es k d, lt, get_or_from_slice_get es k (get_or es k d) (get_or es k d) (slice_get-get_or es k d lt), e)))
    by_test false e = grind (arith, nat_tests)
