-- Sets to which one is added.
use Rattle.std.proofs.Common.{◌≡◌, ℕ, ◌<◌, ◌≤◌, true, false, if◌then◌else◌, List, [], ◌∷◌, ◌++◌, length, get_or, Some, refl, sym, ap, ◌∙◌, arith, IsTrue, Contains, slice_get, inl, inr}
use Rattle.std.specs.Prelude.{All, ◌↔◌, position, Result, Ok, Err, is_ok}
use Rattle.std.specs.List.{IsDistinct}
use Rattle.std.specs.List.Sorted.{IsStrictlyIncreasing, IsBinarySearchResult}
use Rattle.std.specs.Ordering.{nat_cmp}
use Rattle.std.proofs.lemmas.List.{get_or_default}
use Rattle.std.proofs.lemmas.List.Elements.{All-push}
use Rattle.std.proofs.lemmas.List.Kept.{AllPairs-from_increasing}
use Rattle.std.proofs.lemmas.List.Sorted.{searched}
use Rattle.std.proofs.lemmas.List.Quantifiers.{position-Some}
use Rattle.std.proofs.lemmas.Map.Made.{AllPairs-from_IsDistinct}
use Rattle.std.proofs.lemmas.Bool.{cases_lt, true≢false}
use Rattle.std.proofs.lemmas.Option.{get_or_from_slice_get}
use Rattle.std.proofs.lemmas.Slice.Eq.{bytes_eq-Decides}
use Rattle.tetri_cluster.specs.Sets.{AreSets, has_nodes, is_known, with_set}

-- sets that an index keeps apart
pub are_sets : (sets : List (List ℕ)) → All IsStrictlyIncreasing sets → IsDistinct has_nodes sets → AreSets sets
are_sets sets rising apart = record { ascending = rising; different = AllPairs-from_IsDistinct bytes_eq-Decides sets apart }

pub ascending_with : (sets : List (List ℕ)) (nodes : List ℕ) → All IsStrictlyIncreasing sets → IsStrictlyIncreasing nodes → All IsStrictlyIncreasing (with_set sets nodes)
ascending_with sets nodes rising h =
    elim (is_known nodes sets) as (λ b. All IsStrictlyIncreasing (if b then sets else sets ++ nodes ∷ [])) [
      | true ↦ rising
      | false ↦ All-push IsStrictlyIncreasing sets nodes rising h
    ]

-- the set that was found by its nodes
pub found_set : (sets : List (List ℕ)) (nodes : List ℕ) (set : ℕ) → position (has_nodes nodes) sets ≡ Some set → get_or sets set [] ≡ nodes
found_set sets nodes set e = sym ((bytes_eq-Decides nodes (get_or sets set [])).0 (position-Some (has_nodes nodes) sets set [] e).1)

pub stored_set : (sets : List (List ℕ)) (nodes stored : List ℕ) (set : ℕ) → slice_get sets set ≡ Some stored → has_nodes nodes stored ≡ true → get_or sets set [] ≡ nodes
stored_set sets nodes stored set at same = get_or_from_slice_get sets set stored [] at ∙ sym ((bytes_eq-Decides nodes stored).0 same)

-- nodes that ascend do not fall
never_falls : (nodes : List ℕ) → IsStrictlyIncreasing nodes → (i j : ℕ) → i ≤ j → j < length nodes → get_or nodes i 0 ≤ get_or nodes j 0
never_falls nodes rising i j le lt =
    elim (cases_lt i j) [
      | inl below ↦ let less : get_or nodes i 0 < get_or nodes j 0 = AllPairs-from_increasing nodes rising i j 0 below lt in omega arith
      | inr above ↦ let same : i ≡ j = omega arith in omega (arith, ap (λ k. get_or nodes k 0) same)
    ]

-- what a binary search finds in nodes that ascend
pub search_finds : (nodes : List ℕ) (node : ℕ) (r : Result ℕ ℕ) → IsStrictlyIncreasing nodes → IsBinarySearchResult (λ y. nat_cmp y node) nodes r → IsTrue (is_ok r) ↔ Contains nodes node
search_finds nodes node (Ok i) rising found =
    let at = searched nodes node (Ok i) found (never_falls nodes rising) in
    (λ _. (i, at.0, get_or_default nodes i node 0 at.0 ∙ at.1), λ _. refl)
search_finds nodes node (Err i) rising found =
    let at = searched nodes node (Err i) found (never_falls nodes rising) in
    (λ h. absurd (true≢false (sym h)), λ held. absurd (nowhere at held.0 held.1 held.2))
  where
    nowhere : (i ≤ length nodes) × ((k : ℕ) → k < i → get_or nodes k 0 < node) × ((k : ℕ) → i ≤ k → k < length nodes → node < get_or nodes k 0) → (x : ℕ) → x < length nodes → get_or nodes x node ≡ node → ⊥
    nowhere at x lt is =
        let value : get_or nodes x 0 ≡ node = get_or_default nodes x 0 node lt ∙ is in
        elim (cases_lt x i) [
          | inl before ↦ let less : get_or nodes x 0 < node = at.1 x before in omega arith
          | inr behind ↦ let more : node < get_or nodes x 0 = at.2 x behind lt in omega arith
        ]
