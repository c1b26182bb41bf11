-- One turn of the loops.
use Rattle.std.proofs.Common.{◌≡◌, ℕ, zero, suc, ◌+◌, ◌-◌, ◌<◌, ◌≤◌, Bool, true, false, List, [], ◌∷◌, ◌++◌, map, take, filter, refl, sym, ap, ◌∙◌, subst, arith, append_assoc}
use Rattle.std.proofs.lemmas.List.{map-append}
use Rattle.std.specs.Prelude.{if◌then◌else◌, nat_le}
use Rattle.std.proofs.lemmas.Bool.Decides.{nat_tests}
use Rattle.std.specs.List.{range_with_len}
use Rattle.tetri_space.proofs.InstanceLaws.{range_next}

pub le_test : (m n : ℕ) → m ≤ n → nat_le m n ≡ true
le_test m n h = grind (arith, nat_tests)

pub not_le_test : (m n : ℕ) → n < m → nat_le m n ≡ false
not_le_test m n h = grind (arith, nat_tests)

-- one number further
map_next : (f : ℕ → ℕ) (n : ℕ) → map f (range_with_len 0 (n + 1)) ≡ map f (range_with_len 0 n) ++ f n ∷ []
map_next f n =
    let more : n + 1 ≡ suc n = omega arith in
    ap (λ k. map f (range_with_len 0 k)) more ∙ ap (map f) (range_next n) ∙ map-append f (range_with_len 0 n) (n ∷ [])

pub push_next : (f : ℕ → ℕ) (n v : ℕ) (old new : List ℕ) → new ≡ old ++ v ∷ [] → old ≡ map f (range_with_len 0 n) → v ≡ f n → new ≡ map f (range_with_len 0 (n + 1))
push_next f n v old new pushed so_far is = pushed ∙ ap (λ xs. xs ++ v ∷ []) so_far ∙ ap (λ k. map f (range_with_len 0 n) ++ k ∷ []) is ∙ sym (map_next f n)

module _ (p : ℕ → Bool) (got : List ℕ) (n : ℕ) (rest whole : List ℕ) where
  -- a number that passes is taken
  pub taken_step : (left : ℕ) → (left ≡ 0 → ⊥) → p n ≡ true → got ++ take left (filter p (n ∷ rest)) ≡ whole →
      (got ++ n ∷ []) ++ take (left - 1) (filter p rest) ≡ whole
  taken_step zero some passes h = absurd (some refl)
  taken_step (suc left) some passes h =
      let less : suc left - 1 ≡ left = omega arith in
      ap (λ k. (got ++ n ∷ []) ++ take k (filter p rest)) less ∙ append_assoc got (n ∷ []) (take left (filter p rest)) ∙ subst (λ b. got ++ take (suc left) (if b then n ∷ filter p rest else filter p rest) ≡ whole) passes h

  -- and any other is passed over
  pub passed_step : (left : ℕ) → p n ≡ false → got ++ take left (filter p (n ∷ rest)) ≡ whole → got ++ take left (filter p rest) ≡ whole
  passed_step left fails h = subst (λ b. got ++ take left (if b then n ∷ filter p rest else filter p rest) ≡ whole) fails h
