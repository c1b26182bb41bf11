-- A set that was looked up or added.
use Rattle.std.proofs.Common.{◌≡◌, ℕ, ◌<◌, ◌≤◌, ◌||◌, Bool, true, false, not, nat_lt, if◌then◌else◌, List, [], ◌∷◌, ◌++◌, length, Some, None, refl, subst, arith}
use Rattle.std.specs.Prelude.{All}
use Rattle.std.specs.List.{list_any, position_or_len}
use Rattle.std.proofs.lemmas.List.{length_push}
use Rattle.std.proofs.lemmas.List.Elements.{All-push}
use Rattle.std.proofs.lemmas.List.Sums.{prefix_len-le-length}
use Rattle.tetri_cluster.specs.Sets.{has_nodes, is_known, set_added}

pub in_some : {X : Type 0} (b : Bool) (x y : X) → (if b then Some x else None) ≡ Some y → x ≡ y
in_some true x y h = cc
in_some false x y h = absurd (cc)

found_within : {X : Type 0} (p : X → Bool) (xs : List X) → list_any p xs ≡ true → position_or_len p xs < length xs
found_within p [] h = absurd (cc)
found_within p (x ∷ xs) h = by_first (p x) refl h (λ g. found_within p xs g)
  where
    by_first : (b : Bool) → p x ≡ b → (b || list_any p xs) ≡ true → (list_any p xs ≡ true → position_or_len p xs < length xs) → position_or_len p (x ∷ xs) < length (x ∷ xs)
    by_first true e g ih = rw e (omega arith)
    by_first false e g ih = let lt = ih g in rw e (omega arith)

module _ (nodes : List ℕ) (sets : List (List ℕ)) (x : ℕ × List (List ℕ)) (h : set_added nodes sets ≡ Some x) where
  added : (position_or_len (has_nodes nodes) sets, if is_known nodes sets then sets else sets ++ nodes ∷ []) ≡ x
  added = in_some (is_known nodes sets || nat_lt (length sets) 4096) (position_or_len (has_nodes nodes) sets, if is_known nodes sets then sets else sets ++ nodes ∷ []) x h

  -- what all sets have they all still have
  pub added_all : (P : List ℕ → Type 0) → All P sets → P nodes → All P x.1
  added_all P all here = subst (λ (y : ℕ × List (List ℕ)). All P y.1) added (elim (is_known nodes sets) as (λ b. All P (if b then sets else sets ++ nodes ∷ [])) [ true ↦ all | false ↦ All-push P sets nodes all here ])

  pub added_grown : length sets ≤ length x.1
  added_grown = subst (λ (y : ℕ × List (List ℕ)). length sets ≤ length y.1) added (by_known (is_known nodes sets))
    where
      by_known : (b : Bool) → length sets ≤ length (if b then sets else sets ++ nodes ∷ [])
      by_known true = omega arith
      by_known false = omega (arith, length_push sets nodes)

  pub added_number : x.0 < length x.1
  added_number = subst (λ (y : ℕ × List (List ℕ)). y.0 < length y.1) added (by_known (is_known nodes sets) refl)
    where
      by_known : (b : Bool) → is_known nodes sets ≡ b → position_or_len (has_nodes nodes) sets < length (if b then sets else sets ++ nodes ∷ [])
      by_known true e = found_within (has_nodes nodes) sets e
      by_known false e = omega (arith, length_push sets nodes, prefix_len-le-length (λ s. not (has_nodes nodes s)) sets)
