-- The names of the nodes, evenly spaced sets of nodes, and the number of a set that was looked up or added.
use Rattle.std.proofs.Common.{◌≡◌, ℕ, zero, suc, ◌+◌, ◌*◌, ◌<◌, ◌≤◌, ◌||◌, Bool, true, false, nat_lt, if◌then◌else◌, List, [], ◌∷◌, ◌++◌, length, map, All, get_or, Some, None, codes, decimal, refl, ap, sym, subst, ◌∙◌, arith}
use Rattle.std.specs.List.{range_with_len}
use Rattle.std.specs.List.Sorted.{IsStrictlyIncreasing}
use Rattle.std.proofs.Math.Nat.{suc-mul}
use Rattle.std.proofs.lemmas.Fmt.{decimal_digit}
use Rattle.std.proofs.lemmas.List.Elements.{All-from_recursion}
use Rattle.std.proofs.lemmas.List.FromFn.{get_or-map-range_with_len, length-map-range_with_len, map-range_with_len_more}
use Rattle.tetri_cluster.specs.Cluster.{names_of}
use Rattle.tetri_cluster.specs.Names.{differ, is_name}
use Rattle.tetri_cluster.specs.Sets.{is_known, set_added, with_set, number_in}
use Rattle.tetri_make.specs.Generated.{node_at, spaced}

-- the name of a node whose number has one digit
abbrev short_name : ℕ → List ℕ
short_name i = codes "n" ++ (48 + i) ∷ []

names_are : (from count : ℕ) → from + count ≤ 10 → names_of (map node_at (range_with_len from count)) ≡ map short_name (range_with_len from count)
names_are from zero le = refl
names_are from (suc count) le =
    ap (λ (names : List (List ℕ)). (codes "n" ++ decimal from) ∷ names) (names_are (from + 1) count (omega (arith, le)))
    ∙ ap (λ (digits : List ℕ). (codes "n" ++ digits) ∷ map short_name (range_with_len (from + 1) count)) (decimal_digit from (omega (arith, le)))

abbrev named : List ℕ → Type 0
named name = is_name name ≡ true

pub nodes_named : All named (names_of (map node_at (range_with_len 0 8)))
nodes_named = subst (All named) (sym (names_are 0 8 (omega arith)))
    (All-from_recursion named (map short_name (range_with_len 0 8)) (refl, (refl, (refl, (refl, (refl, (refl, (refl, (refl, tt)))))))))

pub nodes_differ : differ (names_of (map node_at (range_with_len 0 8))) ≡ true
nodes_differ = ap differ (names_are 0 8 (omega arith))

module _ (first step : ℕ) where
  pub spaced_more : (count : ℕ) → spaced first step (count + 1) ≡ spaced first step count ++ (first + count * step) ∷ []
  spaced_more count = map-range_with_len_more (λ (i : ℕ). first + i * step) 0 count count (omega arith)

  spaced_at : (count k : ℕ) → k < count → get_or (spaced first step count) k 0 ≡ first + k * step
  spaced_at count k lt = get_or-map-range_with_len (λ (i : ℕ). first + i * step) 0 count k k 0 lt (omega arith)

  one_step : (k : ℕ) → (k + 1) * step ≡ k * step + step
  one_step k = let e : k + 1 ≡ suc k = omega arith in ap (λ (i : ℕ). i * step) e ∙ suc-mul k step

  pub spaced_ascends : (count : ℕ) → 1 ≤ step → IsStrictlyIncreasing (spaced first step count)
  spaced_ascends count some k lt =
      let long = length-map-range_with_len (λ (i : ℕ). first + i * step) 0 count in
      let within : k + 1 < count = omega (arith, lt, long) in
      omega (arith, spaced_at count k (omega (arith, within)), spaced_at count (k + 1) within, one_step k, some)

in_some : {X : Type 0} (b : Bool) (x y : X) → (if b then Some x else None) ≡ Some y → x ≡ y
in_some true x y h = cc
in_some false x y h = absurd (cc)

pub added_number : (nodes : List ℕ) (sets : List (List ℕ)) (number : ℕ) (more : List (List ℕ)) → set_added nodes sets ≡ Some (number, more) → number ≡ number_in sets nodes
added_number nodes sets number more h =
    sym (ap (λ (x : ℕ × List (List ℕ)). x.0) (in_some (is_known nodes sets || nat_lt (length sets) 4096) (number_in sets nodes, with_set sets nodes) (number, more) h))
