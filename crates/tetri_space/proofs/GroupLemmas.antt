-- Nodes that are grouped by their signatures one after another.
use Rattle.std.proofs.Common.{◌≡◌, ℕ, zero, suc, ◌+◌, ◌<◌, ◌&&◌, ◌||◌, not, Bool, true, false, cond, List, [], ◌∷◌, ◌++◌, length, map, get_or, set, bytes_eq, refl, sym, ap, ◌∙◌, subst, arith, true≢false}
use Rattle.std.specs.List.{list_any, filter, range_with_len}
use Rattle.std.proofs.lemmas.Bool.{and_parts, and_from, false_from_ne_true}
use Rattle.std.proofs.lemmas.List.{append-nil, map-append, get_or_default}
use Rattle.std.proofs.lemmas.List.Elements.{filter-append}
use Rattle.std.proofs.lemmas.List.Folds.{list_any-append}
use Rattle.std.proofs.lemmas.Slice.Eq.{bytes_eq-Decides}
use Rattle.tetri_base.specs.Lists.{Each, EachPair}
use Rattle.tetri_space.specs.steps.Finding.{has_some, is_first, firsts, grouped}
use Rattle.tetri_base.proofs.ListLaws.{any_from, Each-get, Each-map, Each-from, EachPair-append, Each-passed, Each-filter}

pub range_push : (a n : ℕ) → range_with_len a (suc n) ≡ range_with_len a n ++ (a + n) ∷ []
range_push a zero = ap (λ k. k ∷ []) (omega arith)
range_push a (suc n) = ap (λ ks. a ∷ ks) (range_push (a + 1) n ∙ ap (λ k. range_with_len (a + 1) n ++ k ∷ []) (omega arith))

pub range_next : (n : ℕ) → range_with_len 0 (suc n) ≡ range_with_len 0 n ++ n ∷ []
range_next n = range_push 0 n ∙ ap (λ k. range_with_len 0 n ++ k ∷ []) (omega arith)

-- tests that agree keep the same
pub filter-same : {X : Type 0} (p q : X → Bool) (xs : List X) → Each (λ x. p x ≡ q x) xs → filter p xs ≡ filter q xs
filter-same p q [] h = refl
filter-same p q (x ∷ xs) h = ap (λ b. cond b (x ∷ filter p xs) (filter p xs)) h.0 ∙ ap (λ ys. cond (q x) (x ∷ ys) ys) (filter-same p q xs h.1)

pub map-same : {X Y : Type 0} (f g : X → Y) (xs : List X) → Each (λ x. f x ≡ g x) xs → map f xs ≡ map g xs
map-same f g [] h = refl
map-same f g (x ∷ xs) h = ap (λ y. y ∷ map f xs) h.0 ∙ ap (λ ys. g x ∷ ys) (map-same f g xs h.1)

none_each : {X : Type 0} (p : X → Bool) (xs : List X) → list_any p xs ≡ false → Each (λ x. p x ≡ false) xs
none_each p [] e = tt
none_each p (x ∷ xs) e = let both = or_parts_false (p x) (list_any p xs) e in (both.0, none_each p xs both.1)
  where
    or_parts_false : (b c : Bool) → (b || c) ≡ false → (b ≡ false) × (c ≡ false)
    or_parts_false true c e = absurd (true≢false e)
    or_parts_false false c e = (refl, e)

filter_none : {X : Type 0} (p : X → Bool) (xs : List X) → Each (λ x. p x ≡ false) xs → filter p xs ≡ []
filter_none p [] h = refl
filter_none p (x ∷ xs) h = ap (λ b. cond b (x ∷ filter p xs) (filter p xs)) h.0 ∙ filter_none p xs h.1

module _ (sig : ℕ → List ℕ) where
  abbrev like : ℕ → ℕ → Bool
  like m n = bytes_eq (sig m) (sig n)

  like_eq : (m n : ℕ) → like m n ≡ true → sig m ≡ sig n
  like_eq m n = (bytes_eq-Decides (sig m) (sig n)).0

  eq_like : (m n : ℕ) → sig m ≡ sig n → like m n ≡ true
  eq_like m n = (bytes_eq-Decides (sig m) (sig n)).1

  firsts_next : (n : ℕ) → firsts sig (suc n) ≡ firsts sig n ++ cond (is_first sig n) (n ∷ []) []
  firsts_next n = ap (filter (is_first sig)) (range_next n) ∙ filter-append (is_first sig) (range_with_len 0 n) (n ∷ [])

  -- some node before n has the signature
  abbrev any_before : List ℕ → ℕ → Bool
  any_before t n = list_any (λ m. bytes_eq (sig m) t) (range_with_len 0 n)

  before_next : (t : List ℕ) (n : ℕ) → any_before t (suc n) ≡ (any_before t n || bytes_eq (sig n) t)
  before_next t n =
      ap (list_any (λ m. bytes_eq (sig m) t)) (range_next n) ∙ list_any-append (λ m. bytes_eq (sig m) t) (range_with_len 0 n) (n ∷ [])
      ∙ ap (λ b. any_before t n || b) (or_false (bytes_eq (sig n) t))
    where
      or_false : (b : Bool) → (b || false) ≡ b
      or_false true = refl
      or_false false = refl

  -- exactly where one of the first nodes of signatures has it
  any_first : (t : List ℕ) (n : ℕ) → has_some t ≡ true → list_any (λ m. bytes_eq (sig m) t) (firsts sig n) ≡ any_before t n
  any_first t zero some = refl
  any_first t (suc n) some =
      ap (list_any (λ m. bytes_eq (sig m) t)) (firsts_next n)
      ∙ list_any-append (λ m. bytes_eq (sig m) t) (firsts sig n) (cond (is_first sig n) (n ∷ []) [])
      ∙ ap (λ b. b || list_any (λ m. bytes_eq (sig m) t) (cond (is_first sig n) (n ∷ []) [])) (any_first t n some)
      ∙ by_first (is_first sig n) later
      ∙ sym (before_next t n)
    where
      -- a node with the signature that is not the first has an earlier one
      later : is_first sig n ≡ false → bytes_eq (sig n) t ≡ true → any_before t n ≡ true
      later absent e =
          let same = (bytes_eq-Decides (sig n) t).0 e in
          let has : has_some (sig n) ≡ true = ap has_some same ∙ some in
          ap (λ u. any_before u n) (sym same) ∙ not_not (any_before (sig n) n) (has_some (sig n)) has absent
        where
          not_not : (b c : Bool) → c ≡ true → (c && not b) ≡ false → b ≡ true
          not_not true c h e = refl
          not_not false true h e = sym e
          not_not false false h e = h

      or_false : (b : Bool) → (b || false) ≡ b
      or_false true = refl
      or_false false = refl

      or_same : (b c : Bool) → (c ≡ true → b ≡ true) → (b || false) ≡ (b || c)
      or_same true c h = refl
      or_same false true h = h refl
      or_same false false h = refl

      by_first : (f : Bool) → (f ≡ false → bytes_eq (sig n) t ≡ true → any_before t n ≡ true) →
          (any_before t n || list_any (λ m. bytes_eq (sig m) t) (cond f (n ∷ []) [])) ≡ (any_before t n || bytes_eq (sig n) t)
      by_first true h = ap (λ b. any_before t n || b) (or_false (bytes_eq (sig n) t))
      by_first false h = or_same (any_before t n) (bytes_eq (sig n) t) (h refl)

  -- no two firsts have one signature
  abbrev Other : ℕ → ℕ → Type 0
  Other m n = sig m ≡ sig n → ⊥

  not_before : (n : ℕ) → is_first sig n ≡ true → Each (λ m. like m n ≡ false) (range_with_len 0 n)
  not_before n e = none_each (λ m. like m n) (range_with_len 0 n) (flip (any_before (sig n) n) (and_parts (has_some (sig n)) (not (any_before (sig n) n)) e).1)
    where
      flip : (b : Bool) → not b ≡ true → b ≡ false
      flip true e = sym e
      flip false e = refl

  other_from : (m n : ℕ) → like m n ≡ false → Other m n
  other_from m n e same = true≢false (sym (eq_like m n same) ∙ e)

  from_other : (m n : ℕ) → Other m n → like m n ≡ false
  from_other m n other = false_from_ne_true (like m n) (λ e. other (like_eq m n e))

  firsts_other : (n : ℕ) → EachPair Other (firsts sig n)
  firsts_other zero = tt
  firsts_other (suc n) = subst (EachPair Other) (sym (firsts_next n)) (by_first (is_first sig n) (firsts_other n) (not_before n))
    where
      by_first : (f : Bool) → EachPair Other (firsts sig n) → (f ≡ true → Each (λ m. like m n ≡ false) (range_with_len 0 n)) → EachPair Other (firsts sig n ++ cond f (n ∷ []) [])
      by_first true before new =
          EachPair-append Other (firsts sig n) (n ∷ []) before (tt, tt)
          (Each-map (λ m. like m n ≡ false) (λ m. Each (Other m) (n ∷ [])) (λ m e. (other_from m n e, tt)) (firsts sig n)
          (Each-filter (λ m. like m n ≡ false) (is_first sig) (range_with_len 0 n) (new refl)))
      by_first false before new = subst (EachPair Other) (sym (append-nil (firsts sig n))) before

  abbrev group_of : ℕ → ℕ → List ℕ
  group_of m n = filter (like m) (range_with_len 0 n)

  group_next : (m n : ℕ) → group_of m (suc n) ≡ group_of m n ++ cond (like m n) (n ∷ []) []
  group_next m n = ap (filter (like m)) (range_next n) ∙ filter-append (like m) (range_with_len 0 n) (n ∷ [])

  same_group : (m n : ℕ) → like m n ≡ false → group_of m (suc n) ≡ group_of m n
  same_group m n e = group_next m n ∙ ap (λ b. group_of m n ++ cond b (n ∷ []) []) e ∙ append-nil (group_of m n)

  firsts_stay : (n : ℕ) → is_first sig n ≡ false → firsts sig (suc n) ≡ firsts sig n
  firsts_stay n e = firsts_next n ∙ ap (λ b. firsts sig n ++ cond b (n ∷ []) []) e ∙ append-nil (firsts sig n)

  -- a node with an empty signature changes nothing
  pub group_empty : (n : ℕ) → has_some (sig n) ≡ false → (firsts sig (suc n) ≡ firsts sig n) × (grouped sig (suc n) ≡ grouped sig n)
  group_empty n e =
      let stay = firsts_stay n (ap (λ b. b && not (any_before (sig n) n)) e) in (
        stay,
        ap (map (λ m. group_of m (suc n))) stay
            ∙ map-same (λ m. group_of m (suc n)) (λ m. group_of m n) (firsts sig n)
            (Each-passed (λ m. group_of m (suc n) ≡ group_of m n) (is_first sig)
            (λ m f. same_group m n (false_from_ne_true (like m n) (λ same.
            true≢false (sym (and_parts (has_some (sig m)) (not (any_before (sig m) m)) f).0 ∙ ap has_some (like_eq m n same) ∙ e)))) (range_with_len 0 n)),
      )

  -- a node with a new signature makes a group of its own
  pub group_new : (n : ℕ) → has_some (sig n) ≡ true → list_any (λ m. like m n) (firsts sig n) ≡ false →
      (firsts sig (suc n) ≡ firsts sig n ++ n ∷ []) × (grouped sig (suc n) ≡ grouped sig n ++ (n ∷ []) ∷ [])
  group_new n some none =
      let before : any_before (sig n) n ≡ false = sym (any_first (sig n) n some) ∙ none in
      let first : is_first sig n ≡ true = and_from (has_some (sig n)) (not (any_before (sig n) n)) some (ap not before) in
      let grown : firsts sig (suc n) ≡ firsts sig n ++ n ∷ [] = firsts_next n ∙ ap (λ b. firsts sig n ++ cond b (n ∷ []) []) first in (
        grown,
        ap (map (λ m. group_of m (suc n))) grown ∙ map-append (λ m. group_of m (suc n)) (firsts sig n) (n ∷ [])
            ∙ ap (λ gs. gs ++ group_of n (suc n) ∷ []) (map-same (λ m. group_of m (suc n)) (λ m. group_of m n) (firsts sig n)
            (Each-map (λ m. like m n ≡ false) (λ m. group_of m (suc n) ≡ group_of m n) (λ m e. same_group m n e) (firsts sig n) (none_each (λ m. like m n) (firsts sig n) none)))
            ∙ ap (λ g. grouped sig n ++ g ∷ []) own,
      )
    where
      own : group_of n (suc n) ≡ n ∷ []
      own =
          group_next n n ∙ ap (λ b. group_of n n ++ cond b (n ∷ []) []) (eq_like n n refl)
          ∙ ap (λ g. g ++ n ∷ []) (filter_none (like n) (range_with_len 0 n)
          (Each-map (λ m. like m n ≡ false) (λ m. like n m ≡ false) (λ m e. from_other n m (λ same. other_from m n e (sym same))) (range_with_len 0 n)
          (none_each (λ m. like m n) (range_with_len 0 n) (sym (any_first (sig n) n some) ∙ none))))

  -- pushing to the group whose first node has the signature
  push_at : (n : ℕ) (f : ℕ → List ℕ) (ms : List ℕ) (j : ℕ) → j < length ms → sig (get_or ms j 0) ≡ sig n → EachPair Other ms →
      map (λ m. f m ++ cond (like m n) (n ∷ []) []) ms ≡ set (map f ms) j (get_or (map f ms) j [] ++ n ∷ [])
  push_at n f [] j lt same other = absurd (omega arith)
  push_at n f (m ∷ ms) zero lt same other =
      ap (λ b. (f m ++ cond b (n ∷ []) []) ∷ map (λ k. f k ++ cond (like k n) (n ∷ []) []) ms) (eq_like m n same)
      ∙ ap (λ gs. (f m ++ n ∷ []) ∷ gs)
      (map-same (λ k. f k ++ cond (like k n) (n ∷ []) []) f ms
      (Each-map (Other m) (λ k. f k ++ cond (like k n) (n ∷ []) [] ≡ f k)
      (λ k o. ap (λ b. f k ++ cond b (n ∷ []) []) (from_other k n (λ e. o (same ∙ sym e))) ∙ append-nil (f k)) ms other.0))
  push_at n f (m ∷ ms) (suc j) lt same other =
      ap (λ b. (f m ++ cond b (n ∷ []) []) ∷ map (λ k. f k ++ cond (like k n) (n ∷ []) []) ms)
      (from_other m n (λ e. Each-get (Other m) ms j 0 other.0 (omega arith) (e ∙ sym same)))
      ∙ ap (λ g. g ∷ map (λ k. f k ++ cond (like k n) (n ∷ []) []) ms) (append-nil (f m))
      ∙ ap (λ gs. f m ∷ gs) (push_at n f ms j (omega arith) same other.1)

  -- a node with the signature of a group joins it
  pub group_joined : (n j : ℕ) → has_some (sig n) ≡ true → j < length (firsts sig n) → sig (get_or (firsts sig n) j 0) ≡ sig n →
      (firsts sig (suc n) ≡ firsts sig n) × (grouped sig (suc n) ≡ set (grouped sig n) j (get_or (grouped sig n) j [] ++ n ∷ []))
  group_joined n j some lt same =
      let found = any_from (λ m. like m n) (firsts sig n) (get_or (firsts sig n) j 0) (j, lt, get_or_default (firsts sig n) j (get_or (firsts sig n) j 0) 0 lt) (eq_like (get_or (firsts sig n) j 0) n same) in
      let before : any_before (sig n) n ≡ true = sym (any_first (sig n) n some) ∙ found in (
        firsts_stay n (not_first before),
        ap (map (λ m. group_of m (suc n))) (firsts_stay n (not_first before))
            ∙ map-same (λ m. group_of m (suc n)) (λ m. group_of m n ++ cond (like m n) (n ∷ []) []) (firsts sig n) (Each-from (λ m. group_of m (suc n) ≡ group_of m n ++ cond (like m n) (n ∷ []) []) (firsts sig n) (λ m at. group_next m n))
            ∙ push_at n (λ m. group_of m n) (firsts sig n) j lt same (firsts_other n),
      )
    where
      not_first : any_before (sig n) n ≡ true → is_first sig n ≡ false
      not_first e = ap (λ b. has_some (sig n) && not b) e ∙ and_false (has_some (sig n))
        where
          and_false : (b : Bool) → (b && false) ≡ false
          and_false true = refl
          and_false false = refl
