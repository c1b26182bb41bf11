-- Nodes that have the tags that were seen.
use Rattle.std.proofs.Common.{◌≡◌, ◌∙◌, ℕ, zero, suc, nat_lt, ◌+◌, ◌<◌, ◌≤◌, ◌==◌, ◌||◌, Bool, true, false, List, [], ◌∷◌, ◌++◌, length, get_or, cond, Some, refl, sym, ap, subst, inl, inr, arith, bytes_eq, true≢false}
use Rattle.std.specs.Prelude.{All, filter, nat_eq, Result, Ok, Err, is_ok}
use Rattle.std.specs.List.{list_any}
use Rattle.std.specs.List.Sorted.{IsBinarySearchResult, IsNonDecreasing, IsPermutation}
use Rattle.std.specs.Ordering.{nat_cmp}
use Rattle.std.proofs.lemmas.Bool.{cases_lt, lt-ltb}
use Rattle.std.proofs.lemmas.List.Elements.{All-filter, All-head, All-tail, filter_passes}
use Rattle.std.proofs.lemmas.List.Folds.{list_any_at}
use Rattle.std.proofs.lemmas.List.Sorted.{list_any-IsPermutation, searched}
use Rattle.std.proofs.lemmas.Slice.Eq.{bytes_eq-Decides}
use Rattle.tetri_base.proofs.ListLaws.{eq_from_test, test_from_eq}
use Rattle.tetri_cluster.specs.declared.cluster.NodeText.{NodeText}
use Rattle.tetri_cluster.specs.Names.{is_among}
use Rattle.tetri_cluster.specs.Cluster.{tags_at, knows_tag}
use Rattle.tetri_parse.specs.SetText.{listed, narrowed, numbers_of, tagged}
use Rattle.tetri_parse.specs.Tagged.{HaveTag, HaveTags}
use Rattle.tetri_parse.proofs.NodeSets.{kept_alike}

-- ---- a binary search in numbers that ascend
nowhere : (n : ℕ) (xs : List ℕ) → ((k : ℕ) → k < length xs → get_or xs k 0 ≡ n → ⊥) → list_any (nat_eq n) xs ≡ false
nowhere n [] other = refl
nowhere n (x ∷ xs) other =
    let first : nat_eq n x ≡ false = by_test (nat_eq n x) refl in
    rw first (nowhere n xs (λ k lt is. other (k + 1) (omega (arith, lt)) (at_next k ∙ is)))
  where
    at_next : (k : ℕ) → get_or (x ∷ xs) (k + 1) 0 ≡ get_or xs k 0
    at_next k = let e : k + 1 ≡ suc k = omega arith in ap (λ i. get_or (x ∷ xs) i 0) e

    by_test : (b : Bool) → nat_eq n x ≡ b → b ≡ false
    by_test true e = absurd (other 0 (omega arith) (sym (eq_from_test n x e)))
    by_test false e = refl

pub search_holds : (xs : List ℕ) (n : ℕ) (r : Result ℕ ℕ) → IsNonDecreasing xs → IsBinarySearchResult (λ y. nat_cmp y n) xs r → is_ok r ≡ list_any (nat_eq n) xs
search_holds xs n (Ok i) rising found =
    let at = searched xs n (Ok i) found (λ j k le lt. rising j k 0 le lt) in
    let here : nat_eq n (get_or xs i 0) ≡ true = test_from_eq n (get_or xs i 0) (sym at.1) in
    sym (list_any_at (nat_eq n) xs i 0 at.0 here)
search_holds xs n (Err i) rising found =
    let at = searched xs n (Err i) found (λ j k le lt. rising j k 0 le lt) in
    sym (nowhere n xs (λ k lt is. apart at k lt is))
  where
    apart : (i ≤ length xs) × ((k : ℕ) → k < i → get_or xs k 0 < n) × ((k : ℕ) → i ≤ k → k < length xs → n < get_or xs k 0) → (k : ℕ) → k < length xs → get_or xs k 0 ≡ n → ⊥
    apart at k lt is =
        elim (cases_lt k i) [
          | inl before ↦ let less : get_or xs k 0 < n = at.1 k before in omega arith
          | inr behind ↦ let more : n < get_or xs k 0 = at.2 k behind lt in omega arith
        ]

-- ---- names
-- numbers in another order leave the same nodes
pub names_leave : (cluster : List NodeText) (names : List (List ℕ)) (numbers sorted found held nodes left : List ℕ) → numbers_of cluster names ≡ Some numbers → IsPermutation numbers sorted → found ≡ sorted →
    held ≡ nodes → left ≡ filter (λ n. list_any (nat_eq n) found) held → Some left ≡ narrowed cluster (Some nodes) (listed names)
names_leave cluster names numbers sorted found held nodes left known moved found_is held_is left_is =
    let same : left ≡ filter (λ n. list_any (nat_eq n) numbers) nodes =
    left_is ∙ ap (filter (λ n. list_any (nat_eq n) found)) held_is
    ∙ kept_alike (λ n. list_any (nat_eq n) found) (λ n. list_any (nat_eq n) numbers)
    (λ n. ap (list_any (nat_eq n)) found_is ∙ sym (list_any-IsPermutation (nat_eq n) numbers sorted moved)) nodes in
    rw (known, same) refl

-- ---- tags that were seen
-- a list that is not empty has some
pub some_from : (n : ℕ) (b : Bool) → b ≡ (n == 0) → b ≡ false → nat_lt 0 n ≡ true
some_from zero b h e = absurd (true≢false (sym h ∙ e))
some_from (suc n) b h e = lt-ltb 0 (suc n) (omega arith)

-- a filter that all pass leaves all
kept_all : (p : ℕ → Bool) (xs : List ℕ) → All (λ n. p n ≡ true) xs → filter p xs ≡ xs
kept_all p [] h = refl
kept_all p (x ∷ xs) h =
    let first : p x ≡ true = All-head (λ n. p n ≡ true) x xs h in
    rw (first, kept_all p xs (All-tail (λ n. p n ≡ true) x xs h)) refl

module _ (cluster : List NodeText) where
  abbrev has : List ℕ → ℕ → Bool
  has tag n = is_among tag (tags_at cluster n)

  -- a tag that was seen is one of them
  seen_tag : (nodes tag : List ℕ) (tags : List (List ℕ)) → HaveTags cluster nodes tags → is_among tag tags ≡ true → HaveTag cluster nodes tag
  seen_tag nodes tag [] h e = absurd (true≢false (sym e))
  seen_tag nodes tag (t ∷ ts) h e = by_first (bytes_eq tag t) refl e (λ f. seen_tag nodes tag ts h.1 f)
    where
      by_first : (b : Bool) → bytes_eq tag t ≡ b → (b || is_among tag ts) ≡ true → (is_among tag ts ≡ true → HaveTag cluster nodes tag) → HaveTag cluster nodes tag
      by_first true same f later = subst (HaveTag cluster nodes) (sym ((bytes_eq-Decides tag t).0 same)) h.0
      by_first false other f later = later f

  -- such a tag leaves the nodes as they are
  pub seen_leaves : (nodes tag : List ℕ) (tags : List (List ℕ)) → HaveTags cluster nodes tags → is_among tag tags ≡ true → Some nodes ≡ narrowed cluster (Some nodes) (tagged tag)
  seen_leaves nodes tag tags h e =
      let held = seen_tag nodes tag tags h e in
      rw (held.known, kept_all (has tag) nodes held.each) refl

  -- a filter keeps the tags
  pub still_have : (p : ℕ → Bool) (nodes : List ℕ) (tags : List (List ℕ)) → HaveTags cluster nodes tags → HaveTags cluster (filter p nodes) tags
  still_have p nodes [] h = tt
  still_have p nodes (t ∷ ts) h = (record { known = h.0.known; each = All-filter p (λ n. has t n ≡ true) nodes h.0.each }, still_have p nodes ts h.1)

  have_more : (nodes tag : List ℕ) (tags : List (List ℕ)) → HaveTags cluster nodes tags → HaveTag cluster nodes tag → HaveTags cluster nodes (tags ++ tag ∷ [])
  have_more nodes tag [] h one = (one, tt)
  have_more nodes tag (t ∷ ts) h one = (h.0, have_more nodes tag ts h.1 one)

  module _ (tag found nodes left : List ℕ) (members : (n : ℕ) → list_any (nat_eq n) found ≡ has tag n) (left_is : left ≡ filter (λ n. list_any (nat_eq n) found) nodes) where
    same_left : left ≡ filter (has tag) nodes
    same_left = left_is ∙ kept_alike (λ n. list_any (nat_eq n) found) (has tag) members nodes

    -- a tag that is new is seen
    pub new_seen : (tags now : List (List ℕ)) (new : Bool) → knows_tag cluster tag ≡ true → HaveTags cluster nodes tags → now ≡ cond new (tags ++ tag ∷ []) tags → HaveTags cluster left now
    new_seen tags now new known h is = subst (HaveTags cluster left) (sym is) (by_new new)
      where
        before : HaveTags cluster left tags
        before = subst (λ ns. HaveTags cluster ns tags) (sym same_left) (still_have (has tag) nodes tags h)

        one : HaveTag cluster left tag
        one = subst (λ ns. HaveTag cluster ns tag) (sym same_left) (record { known = known; each = filter_passes (has tag) nodes })

        by_new : (b : Bool) → HaveTags cluster left (cond b (tags ++ tag ∷ []) tags)
        by_new true = have_more left tag tags before one
        by_new false = before
