-- Printed sets are read back.
use Rattle.std.proofs.Common.{◌≡◌, ℕ, zero, suc, ◌+◌, ◌≤◌, ◌<◌, ◌==◌, Bool, true, false, if◌then◌else◌, List, [], ◌∷◌, ◌++◌, length, map, get_or, Some, Ok, refl, sym, ap, ◌∙◌, subst, append_assoc, length-append, arith}
use Rattle.std.specs.Prelude.{All, filter, flat_map, nat_eq, option_map, codes}
use Rattle.std.specs.List.{list_any, range_with_len, AllByRecursion}
use Rattle.std.specs.List.Sorted.{IsStrictlyIncreasing}
use Rattle.std.proofs.lemmas.Bool.Decides.{nat_tests}
use Rattle.std.proofs.lemmas.List.{length-map}
use Rattle.std.proofs.lemmas.List.Elements.{All-tail}
use Rattle.std.proofs.lemmas.Slice.Eq.{bytes_eq-Decides}
use Rattle.tetri_cluster.specs.declared.cluster.NodeText.{NodeText}
use Rattle.tetri_cluster.specs.Names.{differ, is_name}
use Rattle.tetri_cluster.specs.Cluster.{names_of, name_at}
use Rattle.tetri_cluster.proofs.ClusterLaws.{number_back}
use Rattle.tetri_parse.specs.declared.token.Class.TheVariants.{Named}
use Rattle.tetri_base.specs.ResultSteps.{◌>>=◌}
use Rattle.tetri_parse.specs.Printing.{after_comma, with_commas, is_every, set_text, HasNames}
use Rattle.tetri_parse.specs.Rows.{row_at}
use Rattle.tetri_parse.specs.SetText.{Part, every, listed, part_at, listed_first, numbers_of, narrowed, set_at, IsNodeSet}
use Rattle.tetri_parse.specs.Tokens.{stands, skip_blanks, goes_on_at}
use Rattle.tetri_parse.specs.Tokens as tokens
use Rattle.tetri_parse.proofs.TokensBack.{first_of, name_parts, name_first_byte, name_back}

-- ascending numbers from a bound on
abbrev Rises : ℕ → List ℕ → Type 0
Rises a [] = Unit {0}
Rises a (x ∷ xs) = (a ≤ x) × Rises (x + 1) xs

rises : (a : ℕ) (xs : List ℕ) → (0 < length xs → a ≤ get_or xs 0 0) → IsStrictlyIncreasing xs → Rises a xs
rises a [] low h = tt
rises a (x ∷ xs) low h =
    (low (omega arith), rises (x + 1) xs (λ some. let step : x < get_or xs 0 0 = h 0 (omega arith) in omega arith) (λ k lt. let e : suc k + 1 ≡ suc (k + 1) = omega arith in subst (λ m. get_or (x ∷ xs) (suc k) 0 < get_or (x ∷ xs) m 0) e (h (suc k) (omega arith))))

rises_more : (a b : ℕ) (xs : List ℕ) → a ≤ b → Rises b xs → Rises a xs
rises_more a b [] le h = tt
rises_more a b (x ∷ xs) le h = let low = h.0 in (omega arith, h.1)

not_below : (a b : ℕ) (xs : List ℕ) → a < b → Rises b xs → list_any (nat_eq a) xs ≡ false
not_below a b [] lt h = refl
not_below a b (x ∷ xs) lt h =
    let low = h.0 in
    let ih = not_below a (x + 1) xs (omega arith) h.1 in
    let differs : (a == x) ≡ false = grind (arith, nat_tests) in
    rw (differs, ih) refl

-- what is kept of a range from above a number is not changed by that number
without : (x : ℕ) (xs : List ℕ) (count b : ℕ) → x < b → filter (λ n. list_any (nat_eq n) (x ∷ xs)) (range_with_len b count) ≡ filter (λ n. list_any (nat_eq n) xs) (range_with_len b count)
without x xs zero b lt = refl
without x xs (suc count) b lt =
    let differs : (b == x) ≡ false = grind (arith, nat_tests) in
    let ih = without x xs count (b + 1) (omega arith) in
    rw (differs, ih) refl

picked : (count a : ℕ) (xs : List ℕ) → Rises a xs → AllByRecursion (λ n. n < a + count) xs → filter (λ n. list_any (nat_eq n) xs) (range_with_len a count) ≡ xs
picked zero a [] h all = refl
picked zero a (x ∷ xs) h all = let low = h.0 in let high = all.0 in absurd (omega arith)
picked (suc count) a [] h all = picked count (a + 1) [] tt tt
picked (suc count) a (x ∷ xs) h all = by_first (a == x) refl (λ e. picked count (a + 1) xs (subst (λ n. Rises (n + 1) xs) (sym e) h.1) (higher xs all.1)) (λ lt. picked count (a + 1) (x ∷ xs) (lt, h.1) (higher (x ∷ xs) all))
  where
    higher : (ys : List ℕ) → AllByRecursion (λ n. n < a + suc count) ys → AllByRecursion (λ n. n < a + 1 + count) ys
    higher [] g = tt
    higher (y ∷ ys) g = let lt = g.0 in (omega arith, higher ys g.1)

    by_first : (b : Bool) → (a == x) ≡ b
        → (a ≡ x → filter (λ n. list_any (nat_eq n) xs) (range_with_len (a + 1) count) ≡ xs)
        → (a + 1 ≤ x → filter (λ n. list_any (nat_eq n) (x ∷ xs)) (range_with_len (a + 1) count) ≡ x ∷ xs)
        → filter (λ n. list_any (nat_eq n) (x ∷ xs)) (range_with_len a (suc count)) ≡ x ∷ xs
    by_first true e here there =
        let same : a ≡ x = grind (arith, nat_tests) in
        let rest = without x xs count (a + 1) (omega arith) ∙ here same in
        rw (e, rest) (ap (λ n. n ∷ xs) same)
    by_first false e here there =
        let low = h.0 in
        let more : a + 1 ≤ x = grind (arith, nat_tests) in
        let none = not_below a (a + 1) (x ∷ xs) (omega arith) (more, h.1) in
        rw none (there more)

by_recursion : {X : Type 0} (P : X → Type 0) (xs : List X) → All P xs → AllByRecursion P xs
by_recursion P [] h = tt
by_recursion P (x ∷ xs) h = (h 0 x (omega arith), by_recursion P xs (All-tail P x xs h))

numbers_back : (cluster : List NodeText) (nodes : List ℕ) → differ (names_of cluster) ≡ true → AllByRecursion (λ n. n < length (names_of cluster)) nodes → numbers_of cluster (map (name_at cluster) nodes) ≡ Some nodes
numbers_back cluster [] h all = refl
numbers_back cluster (n ∷ ns) h all =
    let first = number_back (names_of cluster) n h all.0 in
    let rest = numbers_back cluster ns h all.1 in
    rw (first, rest) refl

-- names with commas between, up to the closing brace
abbrev names_onto : List (List ℕ) → List ℕ → List ℕ
names_onto [] rest = 125 ∷ rest
names_onto (x ∷ xs) rest = 44 ∷ (x ++ names_onto xs rest)

onto : (names : List (List ℕ)) (rest : List ℕ) → flat_map after_comma names ++ 125 ∷ rest ≡ names_onto names rest
onto [] rest = refl
onto (x ∷ xs) rest = let ih = onto xs rest in ap (λ (l : List ℕ). 44 ∷ l) (append_assoc x (flat_map after_comma xs) (125 ∷ rest) ∙ ap (λ l. x ++ l) ih)

names_row : (x : List ℕ) (xs : List (List ℕ)) (rest : List ℕ) (n : ℕ) → length xs < n → AllByRecursion (λ name. is_name name ≡ true) (x ∷ xs) → row_at tokens.name_at (goes_on_at 125) n (x ++ names_onto xs rest) ≡ Ok (x ∷ xs, rest)
unfolding row_at
names_row x xs rest zero lt named = absurd (omega arith)
names_row x [] rest (suc n) lt named = let first = name_back x 125 rest named.0 refl in rw first refl
names_row x (y ∷ ys) rest (suc n) lt named =
    let first = name_back x 44 (y ++ names_onto ys rest) named.0 refl in
    let others = names_row y ys rest n (omega arith) named.1 in
    rw (first, others) refl

onto_long : (xs : List (List ℕ)) (rest : List ℕ) → length xs < length (names_onto xs rest)
onto_long [] rest = omega arith
onto_long (x ∷ xs) rest = let ih = onto_long xs rest in let e = length-append x (names_onto xs rest) in omega arith

-- a set of nodes of the cluster, and a comma behind it
module _ (cluster : List NodeText) (nodes : List ℕ) (rest : List ℕ) where
  abbrev behind : List ℕ
  behind = 44 ∷ rest

  set_of_parts : (text : List ℕ) (part : Part) (first : ℕ) → part_at (first ∷ text) ≡ Ok (part, behind) → narrowed cluster (Some (range_with_len 0 (length cluster))) part ≡ Some nodes → set_at cluster (first ∷ text) ≡ Ok (Some nodes, behind)
  unfolding set_at row_at
  set_of_parts text part first read means = rw read (ap (λ o. Ok (o, behind)) means)

  every_part : part_at (42 ∷ behind) ≡ Ok (every, behind)
  unfolding part_at
  every_part = refl

  none_part : part_at (123 ∷ 125 ∷ behind) ≡ Ok (listed [], behind)
  unfolding part_at
  none_part = refl

  open_brace : (text : List ℕ) → part_at (123 ∷ text) ≡ listed_first (skip_blanks text)
  unfolding part_at
  open_brace text = refl

  no_brace : (b : ℕ) → stands Named b ≡ true → (b == 125) ≡ false
  no_brace b h = grind (arith, nat_tests)

  listed_names : (x : List ℕ) (xs : List (List ℕ)) → AllByRecursion (λ name. is_name name ≡ true) (x ∷ xs) → listed_first (x ++ names_onto xs behind) ≡ Ok (listed (x ∷ xs), behind)
  listed_names [] xs named = let p = name_parts [] named.0 in absurd (omega (arith, p.0))
  listed_names (b ∷ bs) xs named =
      let p = name_parts (b ∷ bs) named.0 in
      let other = no_brace b (first_of (stands Named) b bs p.1) in
      let long = onto_long xs behind in
      let count = length-append (b ∷ bs) (names_onto xs behind) in
      let row = names_row (b ∷ bs) xs behind (length ((b ∷ bs) ++ names_onto xs behind)) (omega arith) named in
      rw other (ap (λ r. r >>= λ names. Ok (listed names.0, names.1)) row)

  braced_part : (x : List ℕ) (xs : List (List ℕ)) → AllByRecursion (λ name. is_name name ≡ true) (x ∷ xs) → part_at (123 ∷ (x ++ names_onto xs behind)) ≡ Ok (listed (x ∷ xs), behind)
  braced_part x xs named = open_brace (x ++ names_onto xs behind) ∙ ap listed_first (name_first_byte x (names_onto xs behind) named.0) ∙ listed_names x xs named

  names_named : (ns : List ℕ) → AllByRecursion (λ n. is_name (name_at cluster n) ≡ true) ns → AllByRecursion (λ name. is_name name ≡ true) (map (name_at cluster) ns)
  names_named [] h = tt
  names_named (n ∷ ns) h = (h.0, names_named ns h.1)

  braced : differ (names_of cluster) ≡ true → Rises 0 nodes → AllByRecursion (λ n. n < length cluster) nodes → narrowed cluster (Some (range_with_len 0 (length cluster))) (listed (map (name_at cluster) nodes)) ≡ Some nodes
  braced d up below =
      let count : length (names_of cluster) ≡ length cluster = length-map cluster (λ n. n.name) in
      let read = numbers_back cluster nodes d (subst (λ k. AllByRecursion (λ n. n < k) nodes) (sym count) below) in
      let zero_count : 0 + length cluster ≡ length cluster = omega arith in
      ap (option_map (λ chosen. filter (λ n. list_any (nat_eq n) chosen) (range_with_len 0 (length cluster)))) read
      ∙ ap Some (picked (length cluster) 0 nodes up (subst (λ k. AllByRecursion (λ n. n < k) nodes) (sym zero_count) below))

  in_braces : (ns : List ℕ) → nodes ≡ ns → differ (names_of cluster) ≡ true → Rises 0 nodes → AllByRecursion (λ n. n < length cluster) nodes → AllByRecursion (λ n. is_name (name_at cluster n) ≡ true) ns
      → set_at cluster ((codes "{" ++ with_commas (map (name_at cluster) ns) ++ codes "}") ++ behind) ≡ Ok (Some nodes, behind)
  in_braces [] e d up below named = set_of_parts (125 ∷ behind) (listed []) 123 none_part (ap (λ ns. narrowed cluster (Some (range_with_len 0 (length cluster))) (listed (map (name_at cluster) ns))) (sym e) ∙ braced d up below)
  in_braces (n ∷ ns) e d up below named =
      let x = name_at cluster n in
      let xs = map (name_at cluster) ns in
      let text : (with_commas (x ∷ xs) ++ codes "}") ++ behind ≡ x ++ names_onto xs behind = simp append_assoc (ap (λ l. x ++ l) (onto xs behind)) in
      ap (λ (l : List ℕ). set_at cluster (123 ∷ l)) text
      ∙ set_of_parts (x ++ names_onto xs behind) (listed (x ∷ xs)) 123 (braced_part x xs (named.0, names_named ns named.1)) (ap (λ ms. narrowed cluster (Some (range_with_len 0 (length cluster))) (listed (map (name_at cluster) ms))) (sym e) ∙ braced d up below)

  pub set_back : differ (names_of cluster) ≡ true → IsNodeSet (length cluster) nodes → HasNames cluster nodes → set_at cluster (set_text cluster nodes ++ behind) ≡ Ok (Some nodes, behind)
  unfolding set_text
  set_back d good named = by_test (is_every (length cluster) nodes) refl
    where
      by_test : (b : Bool) → is_every (length cluster) nodes ≡ b → set_at cluster ((if b then codes "*" else codes "{" ++ with_commas (map (name_at cluster) nodes) ++ codes "}") ++ behind) ≡ Ok (Some nodes, behind)
      by_test true e = set_of_parts behind every 42 every_part (ap Some (sym ((bytes_eq-Decides nodes (range_with_len 0 (length cluster))).0 e)))
      by_test false e =
          in_braces nodes refl d (rises 0 nodes (λ some. omega arith) good.ascending) (by_recursion (λ n. n < length cluster) nodes good.within) (by_recursion (λ n. is_name (name_at cluster n) ≡ true) nodes (named e))
