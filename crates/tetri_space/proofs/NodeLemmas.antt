-- The least node of an ascending list that fails.
use Rattle.std.proofs.Common.{◌≡◌, ℕ, ◌+◌, ◌<◌, ◌≤◌, List, length, get_or, take, All, Contains, arith, inl, inr, sym, subst, ap, ◌∙◌}
use Rattle.std.specs.List.Sorted.{IsStrictlyIncreasing}
use Rattle.std.proofs.lemmas.Bool.{cases_lt}
use Rattle.std.proofs.lemmas.List.{get_or-take, length-take, get_or_default}
use Rattle.std.proofs.lemmas.List.Kept.{AllPairs-from_increasing}
use Rattle.tetri_space.specs.Broken.{IsLeast}

-- of two places in an ascending list, the later one has no lesser node
pub never_falls : (nodes : List ℕ) → IsStrictlyIncreasing nodes → (i j : ℕ) → i ≤ j → j < length nodes → get_or nodes i 0 ≤ get_or nodes j 0
never_falls nodes rising i j le lt = elim (cases_lt i j) [
  | inl below ↦ let less : get_or nodes i 0 < get_or nodes j 0 = AllPairs-from_increasing nodes rising i j 0 below lt in omega arith
  | inr above ↦ let same : i ≡ j = omega arith in omega (arith, ap (λ k. get_or nodes k 0) same)
]

-- a node of a list stands at some place
pub placed : (nodes : List ℕ) (m : ℕ) → Contains nodes m → (k : ℕ) × (k < length nodes) × (get_or nodes k 0 ≡ m)
placed nodes m at = (at.0, at.1, get_or_default nodes at.0 0 m at.1 ∙ at.2)

pub stands : (nodes : List ℕ) (k : ℕ) → k < length nodes → Contains nodes (get_or nodes k 0)
stands nodes k lt = (k, lt, get_or_default nodes k _ 0 lt)

-- a node behind places that all pass is the least that fails, where it fails
pub least_failing : (P : ℕ → Type 0) (nodes : List ℕ) (i : ℕ) → IsStrictlyIncreasing nodes → i < length nodes → All P (take i nodes) →
    (P (get_or nodes i 0) → ⊥) → IsLeast (λ m. Contains nodes m × (P m → ⊥)) (get_or nodes i 0)
least_failing P nodes i rising lt pass fails = record {
  holds = (stands nodes i lt, fails);
  least = λ m bad. elim (cases_lt (placed nodes m bad.0).0 i) [
    | inl before ↦
        let at = placed nodes m bad.0 in
        let here : P (get_or (take i nodes) at.0 0) = pass at.0 0 (omega (arith, length-take i nodes, before)) in
        absurd (bad.1 (subst P (get_or-take i nodes at.0 0 before ∙ at.2) here))
    | inr behind ↦
        let at = placed nodes m bad.0 in
        omega (arith, never_falls nodes rising i at.0 behind at.1, at.2)
  ];
}

module _ (xs ys : List ℕ) (rising : IsStrictlyIncreasing xs) (others_rising : IsStrictlyIncreasing ys) (i j : ℕ) where
  -- a node below the next of the others, none of those before it being among the first list, is not among them
  pub not_among : i < length xs → j < length ys → get_or xs i 0 < get_or ys j 0 → ((k : ℕ) → k < j → Contains xs (get_or ys k 0) → ⊥) → Contains ys (get_or xs i 0) → ⊥
  not_among lt others_lt less passed at =
      let other = placed ys (get_or xs i 0) at in
      elim (cases_lt other.0 j) [
        | inl before ↦ passed other.0 before (subst (Contains xs) (sym other.2) (stands xs i lt))
        | inr behind ↦ let le : get_or ys j 0 ≤ get_or ys other.0 0 = never_falls ys others_rising j other.0 behind other.1 in omega (arith, other.2)
      ]

  -- the least of the nodes that are in both lists
  pub least_common : i < length xs → j < length ys → get_or xs i 0 ≡ get_or ys j 0 → ((k : ℕ) → k < i → Contains ys (get_or xs k 0) → ⊥) →
      IsLeast (λ m. Contains xs m × Contains ys m) (get_or xs i 0)
  least_common lt others_lt same passed = record {
    holds = (stands xs i lt, subst (Contains ys) (sym same) (stands ys j others_lt));
    least = λ m both. elim (cases_lt (placed xs m both.0).0 i) [
      | inl before ↦ let at = placed xs m both.0 in absurd (passed at.0 before (subst (Contains ys) (sym at.2) both.1))
      | inr behind ↦ let at = placed xs m both.0 in omega (arith, never_falls xs rising i at.0 behind at.1, at.2)
    ];
  }

-- where all places of the first list are passed, no node is in both
pub none_common : (xs ys : List ℕ) (i : ℕ) → length xs ≤ i → ((k : ℕ) → k < i → Contains ys (get_or xs k 0) → ⊥) → (m : ℕ) → Contains xs m → Contains ys m → ⊥
none_common xs ys i all passed m at other =
    let here = placed xs m at in passed here.0 (omega (arith, here.1)) (subst (Contains ys) (sym here.2) other)

-- one place further on
pub passed_more : (P : ℕ → Type 0) (xs : List ℕ) (i : ℕ) → ((k : ℕ) → k < i → P (get_or xs k 0) → ⊥) → (P (get_or xs i 0) → ⊥) → (k : ℕ) → k < i + 1 → P (get_or xs k 0) → ⊥
passed_more P xs i passed here k lt = elim (cases_lt k i) [
  | inl before ↦ passed k before
  | inr last ↦ let at : k ≡ i = omega arith in subst (λ n. P (get_or xs n 0) → ⊥) (sym at) here
]
