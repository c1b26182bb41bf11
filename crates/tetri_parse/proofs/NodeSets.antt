-- Sets of nodes.
use Rattle.std.proofs.Common.{◌≡◌, ℕ, zero, suc, ◌+◌, ◌<◌, Bool, true, false, List, [], ◌∷◌, ◌++◌, take, drop, length, get_or, set, Option, Some, None, refl, sym, ap, subst, ◌∙◌, append_assoc, add-one, add-zero, arith, drop-cons}
use Rattle.std.specs.Prelude.{filter, fold, nat_eq, option_map, option_and_then, IfSome, Result, Ok, Err, if◌then◌else◌}
use Rattle.std.specs.List.{list_any, range_with_len}
use Rattle.std.proofs.lemmas.Bool.Decides.{nat_tests}
use Rattle.std.proofs.lemmas.Grind.{common_steps}
use Rattle.std.proofs.lemmas.List.Elements.{All-filter, All-from_get_or}
use Rattle.std.proofs.lemmas.List.Folds.{list_any_more}
use Rattle.std.proofs.lemmas.List.FromFn.{length-range_with_len, get_or-range_with_len}
use Rattle.std.proofs.lemmas.List.Kept.{IsStrictlyIncreasing-filter}
use Rattle.tetri_cluster.specs.declared.cluster.NodeText.{NodeText}
use Rattle.tetri_cluster.specs.Names.{is_among, number_of}
use Rattle.tetri_cluster.specs.Cluster.{names_of, tags_at, knows_tag}
use Rattle.tetri_base.specs.ResultSteps.{◌>>=◌}
use Rattle.tetri_parse.specs.declared.fault.Miss.{Miss}
use Rattle.tetri_parse.specs.SetText.{Part, every, tagged, listed, parts_at, numbers_of, narrowed, shared_nodes, set_at, said_nodes, nodes_in, IsNodeSet}

pub range-more : (a n : ℕ) → range_with_len a (n + 1) ≡ range_with_len a n ++ (a + n) ∷ []
range-more a n = rw add-one (by_suc a n)
  where
    by_suc : (a n : ℕ) → range_with_len a (suc n) ≡ range_with_len a n ++ (a + n) ∷ []
    by_suc a zero = rw add-zero refl
    by_suc a (suc n) = let e : a + 1 + n ≡ a + suc n = omega arith in ap (λ l. a ∷ l) (by_suc (a + 1) n ∙ ap (λ k. range_with_len (a + 1) n ++ k ∷ []) e)

pub all_is_node_set : (count : ℕ) → IsNodeSet count (range_with_len 0 count)
all_is_node_set count = record {
  ascending = λ k lt. let short : k + 1 < count = omega (arith, lt, length-range_with_len 0 count) in
      let here = get_or-range_with_len 0 count k 0 (omega arith) in
      let next = get_or-range_with_len 0 count (k + 1) 0 short in omega (arith, here, next);
  within = All-from_get_or (λ n. n < count) (range_with_len 0 count) 0 (λ i lt. let short : i < count = omega (arith, lt, length-range_with_len 0 count) in omega (arith, get_or-range_with_len 0 count i 0 short));
}

-- some nodes of a set are a set
pub kept_is_node_set : (count : ℕ) (p : ℕ → Bool) (nodes : List ℕ) → IsNodeSet count nodes → IsNodeSet count (filter p nodes)
kept_is_node_set count p nodes h = record {
  ascending = IsStrictlyIncreasing-filter p nodes h.ascending;
  within = All-filter p (λ n. n < count) nodes h.within;
}

-- tests that agree keep the same nodes
pub kept_alike : (p q : ℕ → Bool) → ((n : ℕ) → p n ≡ q n) → (xs : List ℕ) → filter p xs ≡ filter q xs
kept_alike p q same [] = refl
kept_alike p q same (x ∷ xs) = rw (same x, kept_alike p q same xs) refl

pub chosen_more : (flags : List Bool) (numbers : List ℕ) (i n : ℕ) → i < length numbers → n < length flags → get_or flags n false ≡ list_any (nat_eq n) (take i numbers) → get_or (set flags (get_or numbers i 0) true) n false ≡ list_any (nat_eq n) (take (i + 1) numbers)
chosen_more flags numbers i n lt short so_far = let e = list_any_more (nat_eq n) numbers i 0 lt in grind (arith, common_steps, nat_tests)

-- the numbers of names, one name after the other
module _ (cluster : List NodeText) (names : List (List ℕ)) (i : ℕ) (held : List ℕ) (total : Option (List ℕ)) where
  turn : (lt : i < length names) (d : List ℕ) → numbers_of cluster (drop i names) ≡ option_and_then (λ n. option_map (λ ns. n ∷ ns) (numbers_of cluster (drop (i + 1) names))) (number_of (get_or names i d) (names_of cluster))
  turn lt d = let e : drop i names ≡ get_or names i d ∷ drop (i + 1) names = rw add-one (drop-cons names i d lt) in ap (numbers_of cluster) e

  pub unknown_turn : (lt : i < length names) (d : List ℕ) → number_of (get_or names i d) (names_of cluster) ≡ None → option_map (λ ns. held ++ ns) (numbers_of cluster (drop i names)) ≡ total → total ≡ None
  unknown_turn lt d none so_far = sym so_far ∙ ap (option_map (λ ns. held ++ ns)) (turn lt d ∙ ap (option_and_then (λ n. option_map (λ ns. n ∷ ns) (numbers_of cluster (drop (i + 1) names)))) none)

  pub known_turn : (lt : i < length names) (d : List ℕ) (n : ℕ) → number_of (get_or names i d) (names_of cluster) ≡ Some n → option_map (λ ns. held ++ ns) (numbers_of cluster (drop i names)) ≡ total → option_map (λ ns. (held ++ n ∷ []) ++ ns) (numbers_of cluster (drop (i + 1) names)) ≡ total
  known_turn lt d n some so_far = regroup (numbers_of cluster (drop (i + 1) names)) ∙ sym (ap (option_map (λ ns. held ++ ns)) (turn lt d ∙ ap (option_and_then (λ n. option_map (λ ns. n ∷ ns) (numbers_of cluster (drop (i + 1) names)))) some)) ∙ so_far
    where
      regroup : (o : Option (List ℕ)) → option_map (λ ns. (held ++ n ∷ []) ++ ns) o ≡ option_map (λ ns. held ++ ns) (option_map (λ ns. n ∷ ns) o)
      regroup None = refl
      regroup (Some ns) = ap Some (simp append_assoc)

pub kept_set : (count : ℕ) (p : ℕ → Bool) (found nodes held : List ℕ) → found ≡ filter p nodes → nodes ≡ held → IsNodeSet count held → IsNodeSet count found
kept_set count p found nodes held e same h = subst (IsNodeSet count) (ap (filter p) (sym same) ∙ sym e) (kept_is_node_set count p held h)

-- what parts share is a set
narrowed_good : (cluster : List NodeText) (held : Option (List ℕ)) (part : Part) → IfSome held (IsNodeSet (length cluster)) → IfSome (narrowed cluster held part) (IsNodeSet (length cluster))
narrowed_good cluster None part h = tt
narrowed_good cluster (Some nodes) every h = h
narrowed_good cluster (Some nodes) (tagged tag) h = by_known (knows_tag cluster tag)
  where
    by_known : (b : Bool) → IfSome (if b then Some (filter (λ n. is_among tag (tags_at cluster n)) nodes) else None) (IsNodeSet (length cluster))
    by_known true = kept_is_node_set (length cluster) (λ n. is_among tag (tags_at cluster n)) nodes h
    by_known false = tt
narrowed_good cluster (Some nodes) (listed names) h = by_numbers (numbers_of cluster names)
  where
    by_numbers : (o : Option (List ℕ)) → IfSome (option_map (λ chosen. filter (λ n. list_any (nat_eq n) chosen) nodes) o) (IsNodeSet (length cluster))
    by_numbers None = tt
    by_numbers (Some chosen) = kept_is_node_set (length cluster) (λ n. list_any (nat_eq n) chosen) nodes h

shared_good : (cluster : List NodeText) (parts : List Part) (held : Option (List ℕ)) → IfSome held (IsNodeSet (length cluster)) → IfSome (fold (narrowed cluster) held parts) (IsNodeSet (length cluster))
shared_good cluster [] held h = h
shared_good cluster (p ∷ ps) held h = shared_good cluster ps (narrowed cluster held p) (narrowed_good cluster held p h)

pub nodes_in_good : (cluster : List NodeText) (text : List ℕ) → IfSome (nodes_in cluster text) (IsNodeSet (length cluster))
unfolding set_at nodes_in
nodes_in_good cluster text = by_parts (parts_at text)
  where
    by_parts : (r : Result (List Part × List ℕ) Miss) → IfSome (said_nodes (r >>= λ parts. Ok (shared_nodes cluster parts.0, parts.1))) (IsNodeSet (length cluster))
    by_parts (Ok x) = shared_good cluster x.0 (Some (range_with_len 0 (length cluster))) (all_is_node_set (length cluster))
    by_parts (Err m) = tt
