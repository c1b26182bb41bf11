-- Lists by tag that grow, and who is in them.
use Rattle.std.proofs.Common.{◌≡◌, ◌∙◌, ℕ, zero, suc, ◌+◌, ◌<◌, ◌≤◌, ◌==◌, ◌||◌, ◌&&◌, Bool, true, false, cond, nat_lt, List, [], ◌∷◌, ◌++◌, map, length, get_or, set, not, All, Option, inl, inr, refl, sym, ap, arith, bytes_eq, length-append, add-zero}
use Rattle.std.specs.Prelude.{filter, nat_eq, Some, None}
use Rattle.std.specs.List.{list_any, position_or_len}
use Rattle.std.specs.List.Sorted.{IsNonDecreasing}
use Rattle.std.proofs.lemmas.Bool.{cases_lt, eq-eqb, false≢true, lt-ltb, ltb-true}
use Rattle.std.proofs.lemmas.Bool.Decides.{nat_tests}
use Rattle.std.proofs.lemmas.List.{append-nil, get_or-set_same, get_or-set_other}
use Rattle.std.proofs.lemmas.List.Elements.{All-nil, All-cons, All-append, All-weaker}
use Rattle.std.proofs.lemmas.List.Folds.{list_any-append, position_or_len_push}
use Rattle.std.proofs.lemmas.List.Quantifiers.{position-Some}
use Rattle.std.proofs.lemmas.List.Sums.{prefix_len-le-length}
use Rattle.std.proofs.lemmas.Slice.Eq.{bytes_eq-Decides}
use Rattle.std.proofs.Math.ListN.{get_or-append}
use Rattle.std.proofs.Math.Seq.{get_or-append_seam}
use Rattle.tetri_cluster.specs.Cluster.{knows_tag, tags_at}
use Rattle.tetri_cluster.specs.Names.{is_among, number_of}
use Rattle.tetri_cluster.specs.Tags.{tag_list, tagged_from}
use Rattle.tetri_cluster.specs.declared.cluster.NodeText.{NodeText}

get_or_past : (xs : List (List ℕ)) (n : ℕ) → length xs ≤ n → get_or xs n [] ≡ []
get_or_past [] n le = refl
get_or_past (x ∷ xs) zero le = absurd (omega arith)
get_or_past (x ∷ xs) (suc n) le = get_or_past xs n (omega arith)

same_bytes : (q t : List ℕ) → bytes_eq q t ≡ true → q ≡ t
same_bytes q t h = (bytes_eq-Decides q t).0 h

abbrev place : List ℕ → List (List ℕ) → ℕ
place q tags = position_or_len (bytes_eq q) tags

place_within : (q : List ℕ) (tags : List (List ℕ)) → place q tags ≤ length tags
place_within q tags = prefix_len-le-length (λ t. not (bytes_eq q t)) tags

-- where a number is found it is the place
place_is : (q : List ℕ) (tags : List (List ℕ)) (m : ℕ) → number_of q tags ≡ Some m → (place q tags ≡ m) × (m < length tags)
place_is q tags m h = by_test (nat_lt (place q tags) (length tags)) refl h
  where
    by_test : (b : Bool) → nat_lt (place q tags) (length tags) ≡ b → cond b (Some (place q tags)) None ≡ Some m → (place q tags ≡ m) × (m < length tags)
    by_test true e g = let same : place q tags ≡ m = cc in (same, omega (arith, ltb-true _ _ e))
    by_test false e g = absurd (let none : Option ℕ = None in let h : none ≡ Some m = g in cc)

place_none : (q : List ℕ) (tags : List (List ℕ)) → number_of q tags ≡ None → place q tags ≡ length tags
place_none q tags h = by_test (nat_lt (place q tags) (length tags)) refl h
  where
    by_test : (b : Bool) → nat_lt (place q tags) (length tags) ≡ b → cond b (Some (place q tags)) None ≡ None → place q tags ≡ length tags
    by_test true e g = absurd (let some : Option ℕ = Some (place q tags) in let h : some ≡ None = g in cc)
    by_test false e g = let le = place_within q tags in grind (arith, nat_tests)

-- the names that are found at one number are one name
place_differs : (q t : List ℕ) (tags : List (List ℕ)) (m : ℕ) → number_of t tags ≡ Some m → bytes_eq q t ≡ false → place q tags ≡ m → ⊥
place_differs q t tags m found other e =
    let there = place_is t tags m found in
    let d : List ℕ = [] in
    let at_t = same_bytes t (get_or tags m d) (position-Some (bytes_eq t) tags m d found).1 in
    let here : nat_lt (place q tags) (length tags) ≡ true = lt-ltb _ _ (omega (arith, there.1)) in
    let found_q : number_of q tags ≡ Some m = ap (λ b. cond b (Some (place q tags)) None) here ∙ ap (λ n. Some n) e in
    let at_q = same_bytes q (get_or tags m d) (position-Some (bytes_eq q) tags m d found_q).1 in
    false≢true (sym other ∙ (bytes_eq-Decides q t).1 (at_q ∙ sym at_t))

-- one node more in the list of a tag that is there
pub put_known : (tags lists : List (List ℕ)) (t : List ℕ) (m node : ℕ) → number_of t tags ≡ Some m → length lists ≡ length tags → (q : List ℕ)
    → tag_list tags (set lists m (get_or lists m [] ++ node ∷ [])) q ≡ tag_list tags lists q ++ cond (bytes_eq q t) (node ∷ []) []
put_known tags lists t m node found count q = by_test (bytes_eq q t) refl
  where
    more : List ℕ
    more = get_or lists m [] ++ node ∷ []

    by_test : (b : Bool) → bytes_eq q t ≡ b → get_or (set lists m more) (place q tags) [] ≡ get_or lists (place q tags) [] ++ cond b (node ∷ []) []
    by_test true e =
        let at_m : place q tags ≡ m = ap (λ n. place n tags) (same_bytes q t e) ∙ (place_is t tags m found).0 in
        rw at_m (get_or-set_same lists m more [] (omega (arith, count, (place_is t tags m found).1)))
    by_test false e = get_or-set_other lists m (place q tags) more [] (place_differs q t tags m found e) ∙ sym (append-nil (get_or lists (place q tags) []))

-- one node in a new list for a tag that is not there
pub put_new : (tags lists : List (List ℕ)) (t : List ℕ) (node : ℕ) → number_of t tags ≡ None → length lists ≡ length tags → (q : List ℕ)
    → tag_list (tags ++ t ∷ []) (lists ++ (node ∷ []) ∷ []) q ≡ tag_list tags lists q ++ cond (bytes_eq q t) (node ∷ []) []
put_new tags lists t node none count q = by_test (bytes_eq q t) refl
  where
    wider : List (List ℕ)
    wider = lists ++ (node ∷ []) ∷ []

    moved : place q (tags ++ t ∷ []) ≡ cond (place q tags == length tags) (length tags + cond (bytes_eq q t) 0 1) (place q tags)
    moved = position_or_len_push (bytes_eq q) tags t

    absent : (n : ℕ) → length lists ≤ n → get_or lists n [] ≡ []
    absent n le = get_or_past lists n le

    by_test : (b : Bool) → bytes_eq q t ≡ b → get_or wider (place q (tags ++ t ∷ [])) [] ≡ get_or lists (place q tags) [] ++ cond b (node ∷ []) []
    by_test true e =
        let last : place q tags ≡ length tags = ap (λ n. place n tags) (same_bytes q t e) ∙ place_none t tags none in
        let now : place q (tags ++ t ∷ []) ≡ length lists = moved ∙ ap (λ c. cond c (length tags + cond (bytes_eq q t) 0 1) (place q tags)) (eq-eqb _ _ last) ∙ ap (λ c. length tags + cond c 0 1) e ∙ add-zero (length tags) ∙ sym count in
        rw (now, absent (place q tags) (omega (arith, last, count))) (get_or-append_seam lists (node ∷ []) [] [])
    by_test false e = elim (cases_lt (place q tags) (length tags)) [
      | inl less ↦
          let other : (place q tags == length tags) ≡ false = grind (arith, nat_tests) in
          let now : place q (tags ++ t ∷ []) ≡ place q tags = moved ∙ ap (λ c. cond c (length tags + cond (bytes_eq q t) 0 1) (place q tags)) other in
          ap (λ n. get_or wider n []) now ∙ get_or-append lists ((node ∷ []) ∷ []) [] (place q tags) (omega (arith, count)) ∙ sym (append-nil (get_or lists (place q tags) []))
      | inr least ↦
          let last : place q tags ≡ length tags = omega (arith, place_within q tags) in
          let now : place q (tags ++ t ∷ []) ≡ length tags + 1 = moved ∙ ap (λ c. cond c (length tags + cond (bytes_eq q t) 0 1) (place q tags)) (eq-eqb _ _ last) ∙ ap (λ c. length tags + cond c 0 1) e in
          ap (λ n. get_or wider n []) now ∙ get_or_past wider (length tags + 1) (omega (arith, count, length-append lists ((node ∷ []) ∷ []))) ∙ sym (ap (λ l. l ++ []) (absent (place q tags) (omega (arith, last, count))))
    ]

-- a list that stands nowhere is empty
pub tag_list_none : (tags lists : List (List ℕ)) (t : List ℕ) → number_of t tags ≡ None → length lists ≡ length tags → tag_list tags lists t ≡ []
tag_list_none tags lists t none count = get_or_past lists (place t tags) (omega (arith, place_none t tags none, count))

pub tag_list_some : (tags lists : List (List ℕ)) (t : List ℕ) (m : ℕ) → number_of t tags ≡ Some m → tag_list tags lists t ≡ get_or lists m []
tag_list_some tags lists t m found = ap (λ n. get_or lists n []) (place_is t tags m found).0

-- one tag more
one_copy : (at n : ℕ) (x q : List ℕ) (xs : List (List ℕ)) → list_any (nat_eq n) (map (λ _. at) (filter (bytes_eq q) xs)) ≡ ((n == at) && is_among q xs) → (b : Bool)
    → list_any (nat_eq n) (map (λ _. at) (cond b (x ∷ filter (bytes_eq q) xs) (filter (bytes_eq q) xs))) ≡ ((n == at) && (b || is_among q xs))
one_copy at n x q xs rest false = rest
one_copy at n x q xs rest true = by_other (n == at) rest
  where
    by_other : (c : Bool) → list_any (nat_eq n) (map (λ _. at) (filter (bytes_eq q) xs)) ≡ (c && is_among q xs) → (c || list_any (nat_eq n) (map (λ _. at) (filter (bytes_eq q) xs))) ≡ (c && true)
    by_other true f = refl
    by_other false f = f

-- as often as a node has a tag, it is the node
copies : (at n : ℕ) (q : List ℕ) (names : List (List ℕ)) → list_any (nat_eq n) (map (λ _. at) (filter (bytes_eq q) names)) ≡ ((n == at) && is_among q names)
copies at n q [] = by_test (n == at)
  where
    by_test : (b : Bool) → false ≡ (b && false)
    by_test true = refl
    by_test false = refl
copies at n q (x ∷ xs) = one_copy at n x q xs (copies at n q xs) (bytes_eq q x)

-- no node before the first is listed
none_before : (at n : ℕ) (q : List ℕ) (nodes : List NodeText) → n < at → list_any (nat_eq n) (tagged_from at q nodes) ≡ false
none_before at n q [] lt = refl
none_before at n q (x ∷ xs) lt =
    let other : (n == at) ≡ false = grind (arith, nat_tests) in
    list_any-append (nat_eq n) (map (λ _. at) (filter (bytes_eq q) x.tags)) (tagged_from (at + 1) q xs)
    ∙ ap (λ b. b || list_any (nat_eq n) (tagged_from (at + 1) q xs)) (copies at n q x.tags ∙ ap (λ b. b && is_among q x.tags) other)
    ∙ none_before (at + 1) n q xs (omega arith)

-- the nodes that are listed are those that have the tag
pub listed_members : (at m : ℕ) (q : List ℕ) (nodes : List NodeText) → list_any (nat_eq (at + m)) (tagged_from at q nodes) ≡ is_among q (tags_at nodes m)
listed_members at m q [] = refl
listed_members at zero q (x ∷ xs) =
    let here : (at + 0 == at) ≡ true = eq-eqb (at + 0) at (add-zero at) in
    list_any-append (nat_eq (at + 0)) (map (λ _. at) (filter (bytes_eq q) x.tags)) (tagged_from (at + 1) q xs)
    ∙ ap (λ b. b || list_any (nat_eq (at + 0)) (tagged_from (at + 1) q xs)) (copies at (at + 0) q x.tags ∙ ap (λ b. b && is_among q x.tags) here)
    ∙ ap (λ b. is_among q x.tags || b) (none_before (at + 1) (at + 0) q xs (omega arith))
    ∙ or_false (is_among q x.tags)
  where
    or_false : (b : Bool) → (b || false) ≡ b
    or_false true = refl
    or_false false = refl
listed_members at (suc m) q (x ∷ xs) =
    let other : (at + suc m == at) ≡ false = grind (arith, nat_tests) in
    let further : at + suc m ≡ at + 1 + m = omega arith in
    list_any-append (nat_eq (at + suc m)) (map (λ _. at) (filter (bytes_eq q) x.tags)) (tagged_from (at + 1) q xs)
    ∙ ap (λ b. b || list_any (nat_eq (at + suc m)) (tagged_from (at + 1) q xs)) (copies at (at + suc m) q x.tags ∙ ap (λ b. b && is_among q x.tags) other)
    ∙ ap (λ n. list_any (nat_eq n) (tagged_from (at + 1) q xs)) further
    ∙ listed_members (at + 1) m q xs

same_all : (at most : ℕ) (names : List (List ℕ)) → at < most → All (λ n. n < most) (map (λ _. at) names)
same_all at most [] lt = All-nil (λ n. n < most)
same_all at most (x ∷ xs) lt = All-cons (λ n. n < most) at (map (λ _. at) xs) lt (same_all at most xs lt)

-- they are there
pub listed_within : (at most : ℕ) (q : List ℕ) (nodes : List NodeText) → at + length nodes ≤ most → All (λ n. n < most) (tagged_from at q nodes)
listed_within at most q [] le = All-nil (λ n. n < most)
listed_within at most q (x ∷ xs) le =
    All-append (λ n. n < most) (map (λ _. at) (filter (bytes_eq q) x.tags)) (tagged_from (at + 1) q xs) (same_all at most (filter (bytes_eq q) x.tags) (omega arith)) (listed_within (at + 1) most q xs (omega arith))

some_copies : (at : ℕ) (q : List ℕ) (names : List (List ℕ)) → is_among q names ≡ nat_lt 0 (length (map (λ (_ : List ℕ). at) (filter (bytes_eq q) names)))
some_copies at q [] = refl
some_copies at q (x ∷ xs) = by_test (some_copies at q xs) (bytes_eq q x)
  where
    by_test : is_among q xs ≡ nat_lt 0 (length (map (λ (_ : List ℕ). at) (filter (bytes_eq q) xs))) → (b : Bool) → (b || is_among q xs) ≡ nat_lt 0 (length (map (λ (_ : List ℕ). at) (cond b (x ∷ filter (bytes_eq q) xs) (filter (bytes_eq q) xs))))
    by_test h true = sym (lt-ltb 0 (suc (length (map (λ (_ : List ℕ). at) (filter (bytes_eq q) xs)))) (omega arith))
    by_test h false = h

some_of_two : (xs ys : List ℕ) → nat_lt 0 (length (xs ++ ys)) ≡ (nat_lt 0 (length xs) || nat_lt 0 (length ys))
some_of_two [] ys = refl
some_of_two (x ∷ xs) ys = lt-ltb 0 (suc (length (xs ++ ys))) (omega arith) ∙ sym (ap (λ b. b || nat_lt 0 (length ys)) (lt-ltb 0 (suc (length xs)) (omega arith)))

-- a tag is known where some node is listed
pub known_listed : (at : ℕ) (q : List ℕ) (nodes : List NodeText) → knows_tag nodes q ≡ nat_lt 0 (length (tagged_from at q nodes))
known_listed at q [] = refl
known_listed at q (x ∷ xs) =
    ap (λ b. b || knows_tag xs q) (some_copies at q x.tags)
    ∙ ap (λ b. nat_lt 0 (length (map (λ (_ : List ℕ). at) (filter (bytes_eq q) x.tags))) || b) (known_listed (at + 1) q xs)
    ∙ sym (some_of_two (map (λ (_ : List ℕ). at) (filter (bytes_eq q) x.tags)) (tagged_from (at + 1) q xs))

-- a number before others that do not fall and are no less
rises-cons : (x : ℕ) (xs : List ℕ) → All (λ y. x ≤ y) xs → IsNonDecreasing xs → IsNonDecreasing (x ∷ xs)
rises-cons x xs low up zero zero d le lt = omega arith
rises-cons x xs low up zero (suc j) d le lt = low j d (omega arith)
rises-cons x xs low up (suc i) zero d le lt = absurd (omega (arith, le))
rises-cons x xs low up (suc i) (suc j) d le lt = up i j d (omega (arith, le)) (omega (arith, lt))

low_copies : (at : ℕ) (names : List (List ℕ)) (others : List ℕ) → All (λ n. at ≤ n) others → All (λ n. at ≤ n) (map (λ _. at) names ++ others)
low_copies at [] others low = low
low_copies at (x ∷ xs) others low = All-cons (λ n. at ≤ n) at (map (λ _. at) xs ++ others) (omega arith) (low_copies at xs others low)

rising_copies : (at : ℕ) (names : List (List ℕ)) (others : List ℕ) → All (λ n. at ≤ n) others → IsNonDecreasing others → IsNonDecreasing (map (λ _. at) names ++ others)
rising_copies at [] others low up = up
rising_copies at (x ∷ xs) others low up = rises-cons at (map (λ _. at) xs ++ others) (low_copies at xs others low) (rising_copies at xs others low up)

listed_from : (at : ℕ) (q : List ℕ) (nodes : List NodeText) → All (λ n. at ≤ n) (tagged_from at q nodes)
listed_from at q [] = All-nil (λ n. at ≤ n)
listed_from at q (x ∷ xs) =
    low_copies at (filter (bytes_eq q) x.tags) (tagged_from (at + 1) q xs)
    (All-weaker (λ n. at + 1 ≤ n) (λ n. at ≤ n) (λ n h. omega arith) (tagged_from (at + 1) q xs) (listed_from (at + 1) q xs))

-- they ascend
pub listed_ascend : (at : ℕ) (q : List ℕ) (nodes : List NodeText) → IsNonDecreasing (tagged_from at q nodes)
listed_ascend at q [] = λ i j d le lt. absurd (omega (arith, lt))
listed_ascend at q (x ∷ xs) =
    rising_copies at (filter (bytes_eq q) x.tags) (tagged_from (at + 1) q xs)
    (All-weaker (λ n. at + 1 ≤ n) (λ n. at ≤ n) (λ n h. omega arith) (tagged_from (at + 1) q xs) (listed_from (at + 1) q xs))
    (listed_ascend (at + 1) q xs)
