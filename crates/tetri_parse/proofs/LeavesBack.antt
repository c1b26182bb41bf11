-- Printed leaves are read back.
use Rattle.std.proofs.Common.{◌≡◌, map, ℕ, suc, ◌+◌, ◌-◌, ◌*◌, ◌%◌, ◌≤◌, ◌<◌, ◌&&◌, ◌==◌, Bool, true, false, not, nat_le, nat_lt, if◌then◌else◌, List, [], ◌∷◌, ◌++◌, length, get_or, Option, Some, Ok, refl, sym, ap, ◌∙◌, append_assoc, arith}
use Rattle.std.specs.Prelude.{codes, decimal}
use Rattle.std.specs.List.{position_or_len}
use Rattle.std.proofs.lemmas.Bool.Decides.{nat_tests}
use Rattle.std.proofs.lemmas.List.Folds.{list_any_at}
use Rattle.std.proofs.lemmas.List.Sums.{position_or_len_is}
use Rattle.std.proofs.lemmas.Slice.Eq.{bytes_eq-Decides}
use Rattle.tetri_strl.specs.declared.expr.Leaf.{Leaf}
use Rattle.tetri_strl.specs.WellMade.{PEAK, IsGoodLeaf}
use Rattle.tetri_cluster.specs.declared.cluster.NodeText.{NodeText}
use Rattle.tetri_cluster.specs.Cluster.{names_of, name_at}
use Rattle.tetri_cluster.specs.Names.{differ}
use Rattle.tetri_cluster.specs.Sets.{AreSets, has_nodes, is_known, set_added}
use Rattle.tetri_parse.specs.declared.fault.Fault.TheVariants.{Mixed, TooRich, Uneven}
use Rattle.tetri_parse.specs.LeafText.{LeafText}
use Rattle.tetri_base.specs.ResultSteps.{◌>>=◌}
use Rattle.tetri_parse.specs.Grammar.{leaf_at, body_at, expr_at}
use Rattle.tetri_parse.specs.Phrase.{asked}
use Rattle.tetri_parse.specs.Printing.{HasNames, is_every, set_text, leaf_word, numbers_text, with_commas}
use Rattle.tetri_parse.specs.SetText.{IsNodeSet}
use Rattle.tetri_parse.specs.Settling.{at, is_mixed, unless_rich, leaf_with, settled_set, settled_value, settled_leaf}
use Rattle.tetri_parse.specs.Tokens.{skip_blanks}
use Rattle.tetri_parse.proofs.SetsBack.{set_back}
use Rattle.tetri_parse.proofs.TokensBack.{test_false, number_back, number_first_byte}

-- the numbers of a leaf, each behind its comma, and the closing parenthesis
abbrev pub numbers_onto : ℕ → ℕ → ℕ → ℕ → List ℕ → List ℕ
numbers_onto k start dur v rest = decimal k ++ 44 ∷ (decimal start ++ 44 ∷ (decimal dur ++ 44 ∷ (decimal v ++ 41 ∷ rest)))

numbers_are : (k start dur v : ℕ) (rest : List ℕ) → numbers_text k start dur v ++ rest ≡ 44 ∷ numbers_onto k start dur v rest
unfolding numbers_text
numbers_are k start dur v rest = simp append_assoc

set_first_byte : (cluster : List NodeText) (nodes rest : List ℕ) → skip_blanks (set_text cluster nodes ++ rest) ≡ set_text cluster nodes ++ rest
unfolding set_text
set_first_byte cluster nodes rest = by_test (is_every (length cluster) nodes)
  where
    by_test : (b : Bool) → skip_blanks ((if b then codes "*" else codes "{" ++ with_commas (map (name_at cluster) nodes) ++ codes "}") ++ rest) ≡ (if b then codes "*" else codes "{" ++ with_commas (map (name_at cluster) nodes) ++ codes "}") ++ rest
    by_test true = refl
    by_test false = refl

-- a leaf's text behind its word
module _ (cluster : List NodeText) (d : differ (names_of cluster) ≡ true) (nodes : List ℕ) (good : IsNodeSet (length cluster) nodes) (named : HasNames cluster nodes) (k start dur v : ℕ) (rest : List ℕ) where
  abbrev whole_text : List ℕ
  whole_text = set_text cluster nodes ++ 44 ∷ numbers_onto k start dur v rest

  abbrev pub leaf_read : Bool → ℕ → ℕ → LeafText
  leaf_read linear num left = record { num = num; linear = linear; nodes = Some nodes; k = k; start = start; dur = dur; v = v; left = left; set_left = length whole_text; value_left = length (decimal v ++ 41 ∷ rest) }

  inner_back : (linear : Bool) (num left : ℕ) → 1 ≤ k → k ≤ 4096 → start ≤ 10000 → 1 ≤ dur → dur ≤ 10000 → v ≤ PEAK → leaf_at cluster linear num left (40 ∷ whole_text) ≡ Ok (leaf_read linear num left, rest)
  unfolding leaf_at
  inner_back linear num left k1 k2 s d1 d2 v1 =
      let first = set_first_byte cluster nodes (44 ∷ numbers_onto k start dur v rest) in
      let set = set_back cluster nodes (numbers_onto k start dur v rest) d good named in
      let k_back = number_back 1 4096 k 44 (decimal start ++ 44 ∷ (decimal dur ++ 44 ∷ (decimal v ++ 41 ∷ rest))) (omega arith) k1 k2 refl in
      let start_back = number_back 0 10000 start 44 (decimal dur ++ 44 ∷ (decimal v ++ 41 ∷ rest)) (omega arith) (omega arith) s refl in
      let dur_back = number_back 1 10000 dur 44 (decimal v ++ 41 ∷ rest) (omega arith) d1 d2 refl in
      let v_first = number_first_byte v 41 rest (omega arith) in
      let v_back = number_back 0 PEAK v 41 rest (omega arith) (omega arith) v1 refl in
      rw (first, set, k_back, start_back, dur_back, v_first, v_back) refl

  leaf_word_back : (b : Bool) (levels taken : ℕ) (text : List ℕ) → taken < 128 → expr_at cluster (suc levels) (taken, leaf_word b ++ text) ≡ (leaf_at cluster b taken (length (leaf_word b ++ text)) (40 ∷ text) >>= λ leaf. Ok (asked leaf.0, (taken + 1, leaf.1)))
  unfolding expr_at body_at
  leaf_word_back true levels taken text lt = let few : nat_le 128 taken ≡ false = grind (arith, nat_tests) in rw few refl
  leaf_word_back false levels taken text lt = let few : nat_le 128 taken ≡ false = grind (arith, nat_tests) in rw few refl

  pub leaf_back : (linear : Bool) (levels taken : ℕ) → taken < 128 → 1 ≤ k → k ≤ 4096 → start ≤ 10000 → 1 ≤ dur → dur ≤ 10000 → v ≤ PEAK
      → expr_at cluster (suc levels) (taken, (leaf_word linear ++ set_text cluster nodes ++ numbers_text k start dur v) ++ rest) ≡ Ok (asked (leaf_read linear taken (length (leaf_word linear ++ whole_text))), (taken + 1, rest))
  leaf_back linear levels taken few k1 k2 s d1 d2 v1 =
      let text : (leaf_word linear ++ set_text cluster nodes ++ numbers_text k start dur v) ++ rest ≡ leaf_word linear ++ whole_text =
      simp append_assoc (ap (λ l. leaf_word linear ++ (set_text cluster nodes ++ l)) (numbers_are k start dur v rest)) in
      ap (λ l. expr_at cluster (suc levels) (taken, l)) text
      ∙ leaf_word_back linear levels taken whole_text few
      ∙ ap (λ r. r >>= λ leaf. Ok (asked leaf.0, (taken + 1, leaf.1))) (inner_back linear taken (length (leaf_word linear ++ whole_text)) k1 k2 s d1 d2 v1)

-- a set that is there is found
pub known_set : (sets : List (List ℕ)) (i : ℕ) → AreSets sets → i < length sets → set_added (get_or sets i []) sets ≡ Some (i, sets)
known_set sets i lawful lt =
    let nodes = get_or sets i [] in
    let here : has_nodes nodes nodes ≡ true = (bytes_eq-Decides nodes nodes).1 refl in
    let known : is_known nodes sets ≡ true = list_any_at (has_nodes nodes) sets i [] lt here in
    let place : position_or_len (has_nodes nodes) sets ≡ i = position_or_len_is (has_nodes nodes) sets i [] (omega arith) (λ k below. others k (has_nodes nodes (get_or sets k [])) refl (λ same. lawful.different k i [] below lt (sym same))) (λ _. here) in
    rw (known, place) refl
  where
    others : (k : ℕ) (b : Bool) → has_nodes (get_or sets i []) (get_or sets k []) ≡ b → (get_or sets i [] ≡ get_or sets k [] → ⊥) → b ≡ false
    others k true e ne = absurd (ne ((bytes_eq-Decides _ _).0 e))
    others k false e ne = refl

-- the second pass makes the same leaf of it
module _ (arrival : ℕ) (sets : List (List ℕ)) (lawful : AreSets sets) (l : Leaf) (known : l.set < length sets) (early : arrival ≤ l.start) (good : IsGoodLeaf l) (small : l.v ≤ PEAK) where
  even : (l.linear && not (l.v % l.k == 0)) ≡ false
  even = by_linear l.linear refl
    where
      by_linear : (b : Bool) → l.linear ≡ b → (b && not (l.v % l.k == 0)) ≡ false
      by_linear true e = let whole = good.whole e in rw whole refl
      by_linear false e = refl

  module _ (m : LeafText) (num : m.num ≡ l.num) (linear : m.linear ≡ l.linear) (k : m.k ≡ l.k) (start : m.start ≡ l.start - arrival) (dur : m.dur ≡ l.dur) (v : m.v ≡ l.v) where
    one_v : m.v * 1 ≡ l.v
    one_v = omega arith

    same_leaf : leaf_with 1 arrival l.set m ≡ l
    same_leaf = let at_start : arrival + (l.start - arrival) ≡ l.start = omega arith in rw (num, linear, k, one_v, start, dur, at_start) refl

    value_even : (m.linear && not (m.v * 1 % m.k == 0)) ≡ false
    value_even =
        ap (λ b. b && not (m.v * 1 % m.k == 0)) linear
        ∙ ap (λ n. l.linear && not (n % m.k == 0)) one_v
        ∙ ap (λ n. l.linear && not (l.v % n == 0)) k
        ∙ even

    value_back : settled_value 1 arrival m (l.set, sets) ≡ Ok (l, sets)
    value_back = test_false (m.linear && not (m.v * 1 % m.k == 0)) (at Uneven m.value_left) (Ok (leaf_with 1 arrival l.set m, sets)) value_even ∙ ap (λ x. Ok (x, sets)) same_leaf

    set_there : (o : Option (List ℕ)) → o ≡ Some (get_or sets l.set []) → settled_set m.set_left o sets ≡ Ok (l.set, sets)
    set_there o e = rw (e, known_set sets l.set lawful known) refl

    pub leaf_settles : (wanted : Option ℕ) → m.nodes ≡ Some (get_or sets l.set []) → is_mixed wanted m.start ≡ false → settled_leaf 1 arrival wanted m sets ≡ Ok (l, sets)
    unfolding settled_leaf
    leaf_settles wanted nodes not_mixed =
        let poor : nat_lt PEAK (m.v * 1) ≡ false = let e = one_v in grind (arith, nat_tests) in
        test_false (is_mixed wanted m.start) (at Mixed m.left) (unless_rich (m.v * 1) m.left (settled_set m.set_left m.nodes sets >>= settled_value 1 arrival m)) not_mixed
        ∙ test_false (nat_lt PEAK (m.v * 1)) (at TooRich m.left) (settled_set m.set_left m.nodes sets >>= settled_value 1 arrival m) poor
        ∙ ap (λ r. r >>= settled_value 1 arrival m) (set_there m.nodes nodes)
        ∙ value_back
