-- Steps of the loops that find the partitions.
use Rattle.std.proofs.Common.{bytes_eq, length-drop, ◌≡◌, ℕ, suc, ◌+◌, ◌<◌, ◌≤◌, ◌==◌, ◌&&◌, ◌||◌, Bool, true, false, cond, List, [], ◌∷◌, ◌++◌, length, map, get_or, set, drop, All, Contains, Vec, Global, Some, None, refl, sym, ap, ◌∙◌, arith, true≢false, inl, inr}
use Rattle.std.specs.List.{list_any, filter, position, range_with_len}
use Rattle.std.proofs.lemmas.List.Quantifiers.{position-Some}
use Rattle.std.proofs.lemmas.Slice.Eq.{bytes_eq-Decides}
use Rattle.std.specs.Bool.{one_answer}
use Rattle.tetri_cluster.proofs.ClusterLaws.{list_any_map, position_map}
use Rattle.std.specs.List.Sorted.{IsStrictlyIncreasing}
use Rattle.std.proofs.lemmas.Bool.{cases_eq, eq-eqb, ne_eqb}
use Rattle.std.proofs.lemmas.List.{append-nil, append_assoc, map-append, length-map, get_or-map, get_or_default, get_or-drop, get_or-set_same, get_or-set_other, map-set, drop_more}
use Rattle.std.proofs.lemmas.List.Elements.{All-contains, filter-append}
use Rattle.std.proofs.lemmas.List.Folds.{list_any-append}
use Rattle.std.proofs.lemmas.List.Kept.{AllPairs-from_increasing}
use Rattle.tetri_strl.specs.declared.expr.Expr.{Expr}
use Rattle.tetri_strl.specs.declared.expr.Leaf.{Leaf}
use Rattle.tetri_strl.specs.Tree.{leaves, tree}
use Rattle.tetri_strl.specs.Prune.{pruned}
use Rattle.tetri_strl.specs.Aligned.{EachLeaf}
use Rattle.tetri_strl.proofs.ExprLaws.{EachLeaf-from}
use Rattle.tetri_space.specs.Closed.{AreTurns}
use Rattle.tetri_space.specs.steps.Finding.{IsSigned, has_some, firsts, grouped}
use Rattle.tetri_base.specs.Lists.{has, Each, list_at}
use Rattle.tetri_space.specs.Partitions.{with_left, bids_left, sets_in}
use Rattle.tetri_space.specs.Space.{Space, bid}
use Rattle.tetri_space.specs.declared.instance.Offer.{Offer}
use Rattle.tetri_space.proofs.BidLemmas.{next_bid}
use Rattle.tetri_space.proofs.NodeLemmas.{never_falls}
use Rattle.tetri_space.proofs.GroupLemmas.{range_next, group_empty, group_joined, group_new}
use Rattle.tetri_space.proofs.PrunedLemmas.{sets_in_has}
use Rattle.tetri_base.proofs.ListLaws.{Each-from, none_from, Each-map, test_from_ne}

-- ---- a number put last in one of several lists
put_at : (vs : List (Vec ℕ Global)) (i j x : ℕ) (old new : Vec ℕ Global) → i < length vs → old ≡ get_or vs i old → new.items ≡ old.items ++ x ∷ [] →
    list_at (set vs i new) j ≡ list_at vs j ++ cond (i == j) (x ∷ []) []
put_at vs i j x old new lt is grown =
    ap (λ zs. get_or zs j []) (map-set (λ (v : Vec ℕ Global). v.items) vs i new)
    ∙ elim (cases_eq i j) [
      | inl same ↦
          ap (λ k. get_or (set (map (λ (v : Vec ℕ Global). v.items) vs) i new.items) k []) (sym same)
          ∙ get_or-set_same (map (λ (v : Vec ℕ Global). v.items) vs) i new.items [] (omega (arith, length-map vs (λ (v : Vec ℕ Global). v.items)))
          ∙ grown ∙ ap (λ xs. xs ++ x ∷ []) (sym here)
          ∙ ap (λ k. list_at vs k ++ x ∷ []) same
          ∙ ap (λ (b : Bool). list_at vs j ++ cond b (x ∷ []) []) (sym (eq-eqb i j same))
      | inr other ↦
          get_or-set_other (map (λ (v : Vec ℕ Global). v.items) vs) i j new.items [] (λ same. other (sym same))
          ∙ sym (append-nil (list_at vs j))
          ∙ ap (λ (b : Bool). list_at vs j ++ cond b (x ∷ []) []) (sym (ne_eqb i j other))
    ]
  where
    here : list_at vs i ≡ old.items
    here = get_or-map (λ (v : Vec ℕ Global). v.items) vs i old [] lt ∙ ap (λ (v : Vec ℕ Global). v.items) (sym is)

-- a place of an ascending list is not further on
not_later : (p : ℕ) (ps : List ℕ) → Each (λ q. p < q) ps → has ps p ≡ false
not_later p ps h = none_from (λ q. q == p) ps (Each-map (λ q. p < q) (λ q. (q == p) ≡ false) (λ q lt. test_from_ne q p (λ e. omega (arith, lt, e))) ps h)

-- one place after another
pub put_next : (vs : List (Vec ℕ Global)) (ps : List ℕ) (k j x : ℕ) (old new : Vec ℕ Global) → IsStrictlyIncreasing ps → k < length ps →
    get_or ps k 0 < length vs → old ≡ get_or vs (get_or ps k 0) old → new.items ≡ old.items ++ x ∷ [] →
    list_at (set vs (get_or ps k 0) new) j ++ cond (has (drop (k + 1) ps) j) (x ∷ []) [] ≡ list_at vs j ++ cond (has (drop k ps) j) (x ∷ []) []
put_next vs ps k j x old new rising lt within is grown =
    let p = get_or ps k 0 in
    let rest = drop (k + 1) ps in
    ap (λ xs. xs ++ cond (has rest j) (x ∷ []) []) (put_at vs p j x old new within is grown)
    ∙ append_assoc (list_at vs j) (cond (p == j) (x ∷ []) []) (cond (has rest j) (x ∷ []) [])
    ∙ ap (λ xs. list_at vs j ++ xs) (once (p == j) (has rest j) (λ e. ap (has rest) (sym (eq_of p j e)) ∙ not_later p rest later))
    ∙ ap (λ ys. list_at vs j ++ cond (has ys j) (x ∷ []) []) (sym (drop_more ps k 0 lt))
  where
    eq_of : (m n : ℕ) → (m == n) ≡ true → m ≡ n
    eq_of = Rattle.tetri_base.proofs.ListLaws.eq_from_test

    once : (b c : Bool) → (b ≡ true → c ≡ false) → cond b (x ∷ []) [] ++ cond c (x ∷ []) [] ≡ cond (b || c) (x ∷ []) []
    once true true h = absurd (true≢false (h refl))
    once true false h = refl
    once false c h = refl

    later : Each (λ q. get_or ps k 0 < q) (drop (k + 1) ps)
    later = Each-from (λ q. get_or ps k 0 < q) (drop (k + 1) ps) (λ q at.
        let there : get_or (drop (k + 1) ps) at.0 q ≡ get_or ps (k + 1 + at.0) q = get_or-drop (k + 1) ps at.0 q in
        let within : k + 1 + at.0 < length ps = omega (arith, at.1, length-drop (k + 1) ps) in
        let less : get_or ps k 0 < get_or ps (k + 1 + at.0) 0 = AllPairs-from_increasing ps rising k (k + 1 + at.0) 0 (omega arith) within in
        omega (arith, less, get_or_default ps (k + 1 + at.0) q 0 within, there, at.2))

-- a place that is not among the lists, and so none behind it
pub past_lists : (ps : List ℕ) (k len j : ℕ) → IsStrictlyIncreasing ps → k < length ps → len ≤ get_or ps k 0 → j < len → has (drop k ps) j ≡ false
past_lists ps k len j rising lt past below =
    none_from (λ q. q == j) (drop k ps) (Each-from (λ q. (q == j) ≡ false) (drop k ps) (λ q at. test_from_ne q j (λ e.
    let there : get_or (drop k ps) at.0 q ≡ get_or ps (k + at.0) q = get_or-drop k ps at.0 q in
    let within : k + at.0 < length ps = omega (arith, at.1, length-drop k ps) in
    omega (arith, never_falls ps rising k (k + at.0) (omega arith) within, get_or_default ps (k + at.0) q 0 within, there, at.2, e))))

-- ---- signatures, one node further
module _ (s : Space) (base n : ℕ) where
  pub signed_none : (sets : List ℕ) → length sets ≡ 0 → IsSigned s base n sets sets
  signed_none [] e = record { none = λ t. refl; some = λ t. absurd (true≢false (sym t)) }
  signed_none (x ∷ xs) e = absurd (omega (arith, e))

  pub signed_some : (sets signature : List ℕ) → (length sets ≡ 0 → ⊥) → (ts : List ℕ) → signature ≡ sets ++ ts → AreTurns s.closures n s.now base ts → IsSigned s base n sets signature
  signed_some [] signature some ts is turns = absurd (some refl)
  signed_some (x ∷ xs) signature some ts is turns = record { none = λ t. absurd (true≢false t); some = λ t. (ts, is, turns) }

-- the list at a place where another is put
pub put_here : (vs : List (Vec ℕ Global)) (i : ℕ) (v : Vec ℕ Global) → i < length vs → list_at (set vs i v) i ≡ v.items
put_here vs i v lt =
    ap (λ zs. get_or zs i []) (map-set (λ (w : Vec ℕ Global). w.items) vs i v)
    ∙ get_or-set_same (map (λ (w : Vec ℕ Global). w.items) vs) i v.items [] (omega (arith, lt, length-map vs (λ (w : Vec ℕ Global). w.items)))

pub put_other : (vs : List (Vec ℕ Global)) (i j : ℕ) (v : Vec ℕ Global) → (j ≡ i → ⊥) → list_at (set vs i v) j ≡ list_at vs j
put_other vs i j v other =
    ap (λ zs. get_or zs j []) (map-set (λ (w : Vec ℕ Global). w.items) vs i v)
    ∙ get_or-set_other (map (λ (w : Vec ℕ Global). w.items) vs) i j v.items [] other

-- ---- the offers that are left
pub left_next : (from to : ℕ) (os : List Offer) (i : ℕ) (o : Offer) → i < length os → o ≡ get_or os i o →
    bids_left from to (drop i (map bid os)) ≡ with_left o.job (pruned from to (tree o.expr)) (bids_left from to (drop (i + 1) (map bid os)))
left_next from to os i o lt is = ap (bids_left from to) (next_bid os i o lt is)

module _ (from to : ℕ) (os : List Offer) (i : ℕ) (o : Offer) (lt : i < length os) (is : o ≡ get_or os i o) where
  -- an offer of which something is left
  pub left_some : (live grown : List Offer) (e : Expr) → Some (tree e) ≡ pruned from to (tree o.expr) → grown ≡ live ++ record { job = o.job; expr = e } ∷ [] →
      map bid grown ++ bids_left from to (drop (i + 1) (map bid os)) ≡ map bid live ++ bids_left from to (drop i (map bid os))
  left_some live grown e made put =
      ap (λ xs. map bid xs ++ bids_left from to (drop (i + 1) (map bid os))) put
      ∙ ap (λ xs. xs ++ bids_left from to (drop (i + 1) (map bid os))) (map-append bid live (record { job = o.job; expr = e } ∷ []))
      ∙ append_assoc (map bid live) (bid (record { job = o.job; expr = e }) ∷ []) (bids_left from to (drop (i + 1) (map bid os)))
      ∙ ap (λ t. map bid live ++ with_left o.job t (bids_left from to (drop (i + 1) (map bid os)))) made
      ∙ ap (λ xs. map bid live ++ xs) (sym (left_next from to os i o lt is))

  -- and one of which nothing is
  pub left_none : (live : List Offer) → None ≡ pruned from to (tree o.expr) →
      map bid live ++ bids_left from to (drop (i + 1) (map bid os)) ≡ map bid live ++ bids_left from to (drop i (map bid os))
  left_none live made =
      ap (λ t. map bid live ++ with_left o.job t (bids_left from to (drop (i + 1) (map bid os)))) made
      ∙ ap (λ xs. map bid live ++ xs) (sym (left_next from to os i o lt is))

-- ---- the sets that are named
pub sets_next : (os : List Offer) (i : ℕ) (o : Offer) → i < length os → o ≡ get_or os i o →
    sets_in (drop i (map bid os)) ≡ map (λ (l : Leaf). l.set) (leaves (tree o.expr)) ++ sets_in (drop (i + 1) (map bid os))
sets_next os i o lt is = ap sets_in (next_bid os i o lt is)

pub has-append : (xs ys : List ℕ) (k : ℕ) → has (xs ++ ys) k ≡ (has xs k || has ys k)
has-append xs ys k = list_any-append (λ m. m == k) xs ys

or_assoc : (a b c d : Bool) → a ≡ (b || c) → (a || d) ≡ (b || (c || d))
or_assoc a true c d e = ap (λ x. x || d) e
or_assoc a false c d e = ap (λ x. x || d) e

pub named_next : (os : List Offer) (i : ℕ) (o : Offer) (lt : i < length os) (is : o ≡ get_or os i o) (k : ℕ) (b c : Bool) →
    c ≡ (b || has (map (λ (l : Leaf). l.set) (leaves (tree o.expr))) k) →
    (c || has (sets_in (drop (i + 1) (map bid os))) k) ≡ (b || has (sets_in (drop i (map bid os))) k)
named_next os i o lt is k b c e =
    or_assoc c b (has (map (λ (l : Leaf). l.set) (leaves (tree o.expr))) k) (has (sets_in (drop (i + 1) (map bid os))) k) e
    ∙ ap (λ x. b || x) (sym (has-append (map (λ (l : Leaf). l.set) (leaves (tree o.expr))) (sets_in (drop (i + 1) (map bid os))) k) ∙ ap (λ ns. has ns k) (sym (sets_next os i o lt is)))

-- a leaf of an offer names one of the sets
pub named_within : (P : ℕ → Type 0) (os : List Offer) (i : ℕ) (o : Offer) → i < length os → o ≡ get_or os i o → All P (sets_in (map bid os)) →
    EachLeaf (λ l. P l.set) (tree o.expr)
named_within P os i o lt is all =
    EachLeaf-from (λ l. P l.set) (tree o.expr) (λ l below.
    All-contains P (sets_in (map bid os)) l.set all (sets_in_has (map bid os) (bid o) l (among os i lt is) below))
  where
    among : (xs : List Offer) (k : ℕ) → k < length xs → o ≡ get_or xs k o → Contains (map bid xs) (bid o)
    among xs k short at = (k, omega (arith, length-map xs bid), get_or-map bid xs k o (bid o) short ∙ ap bid (sym at))

-- ---- filters of a range, one number further
pub filter_next : (p : ℕ → Bool) (n : ℕ) → filter p (range_with_len 0 (n + 1)) ≡ filter p (range_with_len 0 n) ++ cond (p n) (n ∷ []) []
filter_next p n = let e : n + 1 ≡ suc n = omega arith in ap (λ k. filter p (range_with_len 0 k)) e ∙ ap (filter p) (range_next n) ∙ filter-append p (range_with_len 0 n) (n ∷ [])

pub filter_kept : (p : ℕ → Bool) (n : ℕ) (xs ys : List ℕ) → xs ≡ filter p (range_with_len 0 n) → ys ≡ xs ++ cond (p n) (n ∷ []) [] → ys ≡ filter p (range_with_len 0 (n + 1))
filter_kept p n xs ys so_far next = next ∙ ap (λ zs. zs ++ cond (p n) (n ∷ []) []) so_far ∙ sym (filter_next p n)

-- a list of the lists at a place
pub list_is : (vs : List (Vec ℕ Global)) (k : ℕ) (v : Vec ℕ Global) → k < length vs → v ≡ get_or vs k v → list_at vs k ≡ v.items
list_is vs k v lt is = get_or-map (λ (w : Vec ℕ Global). w.items) vs k v [] lt ∙ ap (λ (w : Vec ℕ Global). w.items) (sym is)

-- ---- groups, one node further
any-same : {X : Type 0} (p q : X → Bool) (xs : List X) → ((x : X) → p x ≡ q x) → list_any p xs ≡ list_any q xs
any-same p q [] h = refl
any-same p q (x ∷ xs) h = ap (λ b. b || list_any p xs) (h x) ∙ ap (λ b. q x || b) (any-same p q xs h)

bytes_eq-sym : (xs ys : List ℕ) → bytes_eq xs ys ≡ bytes_eq ys xs
bytes_eq-sym xs ys =
    one_answer {P = xs ≡ ys} (bytes_eq xs ys) (bytes_eq ys xs) (bytes_eq-Decides xs ys)
    (λ e. sym ((bytes_eq-Decides ys xs).0 e), λ e. (bytes_eq-Decides ys xs).1 (sym e))

-- a list that is not empty has something
pub some_from : (xs : List ℕ) → (length xs == 0) ≡ false → has_some xs ≡ true
some_from [] e = absurd (true≢false e)
some_from (x ∷ xs) e = refl

pub none_of_empty : (xs : List ℕ) → (length xs == 0) ≡ true → has_some xs ≡ false
none_of_empty [] e = refl
none_of_empty (x ∷ xs) e = absurd (true≢false (sym e ∙ not_zero (length xs)))
  where
    not_zero : (k : ℕ) → (suc k == 0) ≡ false
    not_zero k = test_from_ne (suc k) 0 (λ (f : suc k ≡ 0). omega (arith, f))

module _ (sigs : List (Vec ℕ Global)) (n : ℕ) (keys : List (Vec ℕ Global)) (groups : List (List ℕ))
    (known : map (λ (v : Vec ℕ Global). v.items) keys ≡ map (list_at sigs) (firsts (list_at sigs) n)) (so_far : groups ≡ grouped (list_at sigs) n) where
  abbrev Next : List (Vec ℕ Global) → List (List ℕ) → Type 0
  Next ks gs = (map (λ (v : Vec ℕ Global). v.items) ks ≡ map (list_at sigs) (firsts (list_at sigs) (n + 1))) × (gs ≡ grouped (list_at sigs) (n + 1))

  further : (ks : List (Vec ℕ Global)) (gs : List (List ℕ)) → map (λ (v : Vec ℕ Global). v.items) ks ≡ map (list_at sigs) (firsts (list_at sigs) (suc n)) →
      gs ≡ grouped (list_at sigs) (suc n) → Next ks gs
  further ks gs e f =
      let at : suc n ≡ n + 1 = omega arith in
      (e ∙ ap (λ k. map (list_at sigs) (firsts (list_at sigs) k)) at, f ∙ ap (grouped (list_at sigs)) at)

  pub skip_node : has_some (list_at sigs n) ≡ false → Next keys groups
  skip_node e =
      let step = group_empty (list_at sigs) n e in
      further keys groups (known ∙ ap (map (list_at sigs)) (sym step.0)) (so_far ∙ sym step.1)

  pub join_node : (t : List ℕ) (j : ℕ) (old new : List ℕ) → t ≡ list_at sigs n → has_some t ≡ true → position (λ (v : Vec ℕ Global). bytes_eq t v.items) keys ≡ Some j →
      (j < length groups) × (old ≡ get_or groups j old → new ≡ old ++ n ∷ [] → Next keys (set groups j new))
  join_node t j old new is some found =
      let sig = list_at sigs in
      let ms = firsts (list_at sigs) n in
      let at = position-Some (bytes_eq t) (map sig ms) j [] (ap (position (bytes_eq t)) (sym known) ∙ position_map (bytes_eq t) (λ (v : Vec ℕ Global). v.items) keys ∙ found) in
      let lt : j < length ms = omega (arith, at.0, length-map ms sig) in
      let long : j < length groups = omega (arith, lt, ap length so_far, length-map ms (λ m. filter (λ k. bytes_eq (sig m) (sig k)) (range_with_len 0 n))) in
      let same : sig (get_or ms j 0) ≡ sig n = sym (get_or-map sig ms j 0 [] lt) ∙ sym ((bytes_eq-Decides t (get_or (map sig ms) j [])).0 at.1) ∙ is in
      let step = group_joined sig n j (ap has_some (sym is) ∙ some) lt same in (
        long,
        λ here grown. further keys (set groups j new) (known ∙ ap (map sig) (sym step.0))
            (ap (λ g. set groups j g) (grown ∙ ap (λ g. g ++ n ∷ []) (here ∙ get_or_default groups j old [] long))
            ∙ ap (λ gs. set gs j (get_or gs j [] ++ n ∷ [])) so_far ∙ sym step.1),
      )

  pub new_node : (t : List ℕ) (v : Vec ℕ Global) → t ≡ list_at sigs n → v.items ≡ t → has_some t ≡ true → list_any (λ (w : Vec ℕ Global). bytes_eq t w.items) keys ≡ false →
      Next (keys ++ v ∷ []) (groups ++ (n ∷ []) ∷ [])
  new_node t v is same some none =
      let unmet : list_any (λ m. bytes_eq (list_at sigs m) (list_at sigs n)) (firsts (list_at sigs) n) ≡ false =
      any-same (λ m. bytes_eq (list_at sigs m) (list_at sigs n)) (λ m. bytes_eq t (list_at sigs m)) (firsts (list_at sigs) n)
      (λ m. bytes_eq-sym (list_at sigs m) (list_at sigs n) ∙ ap (λ u. bytes_eq u (list_at sigs m)) (sym is))
      ∙ sym (list_any_map (bytes_eq t) (list_at sigs) (firsts (list_at sigs) n)) ∙ ap (list_any (bytes_eq t)) (sym known)
      ∙ list_any_map (bytes_eq t) (λ (w : Vec ℕ Global). w.items) keys ∙ none in
      let step = group_new (list_at sigs) n (ap has_some (sym is) ∙ some) unmet in
      further (keys ++ v ∷ []) (groups ++ (n ∷ []) ∷ [])
      (map-append (λ (w : Vec ℕ Global). w.items) keys (v ∷ []) ∙ ap (λ xs. xs ++ v.items ∷ []) known
      ∙ ap (λ x. map (list_at sigs) (firsts (list_at sigs) n) ++ x ∷ []) (same ∙ is)
      ∙ sym (map-append (list_at sigs) (firsts (list_at sigs) n) (n ∷ [])) ∙ ap (map (list_at sigs)) (sym step.0))
      (ap (λ gs. gs ++ (n ∷ []) ∷ []) so_far ∙ sym step.1)

pub and_true : (b c : Bool) → b ≡ true → c ≡ (b && c)
and_true true c e = refl
and_true false c e = absurd (true≢false (sym e))

pub and_false : (b c : Bool) → b ≡ false → false ≡ (b && c)
and_false true c e = absurd (true≢false e)
and_false false c e = refl
