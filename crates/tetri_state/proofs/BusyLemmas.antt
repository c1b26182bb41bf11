-- Which pieces are on the nodes, and until when.
use Rattle.std.proofs.Common.{◌≡◌, ℕ, ◌+◌, ◌-◌, ◌<◌, ◌≤◌, ◌==◌, ◌||◌, Bool, true, false, cond, List, [], ◌∷◌, length, get_or, drop, filter, map, not, nat_le, All, Some, None, refl, sym, ap, ◌∙◌, subst, arith, inl, inr, replicate, set, length-set, get_or-set_same, get_or-set_other, ◌≢◌}
use Rattle.std.specs.List.{find, range_with_len}
use Rattle.std.specs.Option.{option_map}
use Rattle.std.proofs.lemmas.Bool.{cases_lt}
use Rattle.std.proofs.lemmas.Bool.Decides.{nat_tests}
use Rattle.std.proofs.lemmas.List.{drop_more, get_or_past, get_or-replicate, length-replicate, same_lists}
use Rattle.std.proofs.lemmas.List.Elements.{All-head, All-tail}
use Rattle.std.proofs.lemmas.List.FromFn.{get_or-map-range_with_len, length-map-range_with_len}
use Rattle.tetri_base.specs.Lists.{has}
use Rattle.tetri_state.specs.declared.pieces.Piece.{Piece}
use Rattle.tetri_state.specs.Begin.{has_ended, holder_in}
use Rattle.tetri_state.specs.Planning.{busy_until, expected_or, marked}

-- rows by node
module _ {X : Type 0} where
  -- a row is given by its length and its places
  row_is : (f : ℕ → X) (n : ℕ) (row : List X) → length row ≡ n → ((k : ℕ) (d : X) → k < n → get_or row k d ≡ f k) → row ≡ map f (range_with_len 0 n)
  row_is f n row len each =
      same_lists row (map f (range_with_len 0 n)) (len ∙ sym (length-map-range_with_len f 0 n))
      (λ k d lt. each k d (omega arith) ∙ sym (get_or-map-range_with_len f 0 n k k d (omega arith) (omega arith)))

  length-marked : (x : X) (row : List X) (ns : List ℕ) → length (marked x row ns) ≡ length row
  length-marked x row [] = refl
  length-marked x row (n ∷ ns) = length-marked x (set row n x) ns ∙ length-set row n x

  set_at : (x : X) (row : List X) (n k : ℕ) (d : X) (t : Bool) → (n == k) ≡ t → n < length row → get_or (set row n x) k d ≡ cond t x (get_or row k d)
  set_at x row n k d true same lt =
      let at : n ≡ k = grind (arith, nat_tests) in
      subst (λ m. get_or (set row n x) m d ≡ x) at (get_or-set_same row n x d lt)
  set_at x row n k d false differ lt =
      let other : k ≢ n = λ e. let no_way : ⊥ = grind (arith, nat_tests) in no_way in
      get_or-set_other row n k x d other

  either_marks : (s t : Bool) (x y : X) → cond t x (cond s x y) ≡ cond (s || t) x y
  either_marks true true x y = refl
  either_marks true false x y = refl
  either_marks false true x y = refl
  either_marks false false x y = refl

  marked_at : (x : X) (row : List X) (ns : List ℕ) (k : ℕ) (d : X) → All (λ n. n < length row) ns → get_or (marked x row ns) k d ≡ cond (has ns k) x (get_or row k d)
  marked_at x row [] k d within = refl
  marked_at x row (n ∷ ns) k d within =
      marked_at x (set row n x) ns k d
      (λ i e lt. omega (arith, All-tail (λ m. m < length row) n ns within i e lt, length-set row n x))
      ∙ ap (cond (has ns k) x) (set_at x row n k d (n == k) refl (All-head (λ m. m < length row) n ns within))
      ∙ either_marks (n == k) (has ns k) x (get_or row k d)

  module _ (nodes : ℕ) where
    pub row_of_same : (x : X) (f : ℕ → X) (row : List X) → row ≡ replicate nodes x → ((n : ℕ) → f n ≡ x) → row ≡ map f (range_with_len 0 nodes)
    row_of_same x f row is same =
        row_is f nodes row (ap length is ∙ length-replicate nodes x)
        (λ k d lt. ap (λ r. get_or r k d) is ∙ get_or-replicate nodes k x d lt ∙ sym (same k))

    -- one more list of places, which is written over the others
    pub row_marked : (x : X) (f g : ℕ → X) (row : List X) (ns : List ℕ) → row ≡ map f (range_with_len 0 nodes) → All (λ n. n < nodes) ns →
        ((n : ℕ) → g n ≡ cond (has ns n) x (f n)) → marked x row ns ≡ map g (range_with_len 0 nodes)
    row_marked x f g row ns is within same =
        let len : length row ≡ nodes = ap length is ∙ length-map-range_with_len f 0 nodes in
        row_is g nodes (marked x row ns) (length-marked x row ns ∙ len)
        (λ k d lt.
        marked_at x row ns k d (λ i e below. omega (arith, within i e below))
        ∙ ap (cond (has ns k) x) (ap (λ r. get_or r k d) is ∙ get_or-map-range_with_len f 0 nodes k k d lt (omega arith))
        ∙ sym (same k))

pub first_busy : (now : ℕ) (p : Piece) (ps : List Piece) (node : ℕ) → busy_until now (p ∷ ps) node ≡ cond (has p.nodes node) p.expected (busy_until now ps node)
first_busy now p ps node = by_test (has p.nodes node)
  where
    by_test : (t : Bool) → expected_or now (cond t (Some p) (find (λ q. has q.nodes node) ps)) ≡ cond t p.expected (busy_until now ps node)
    by_test true = refl
    by_test false = refl

pub first_holder : (p : Piece) (ps : List Piece) (node : ℕ) → holder_in (p ∷ ps) node ≡ cond (has p.nodes node) (Some p.job) (holder_in ps node)
first_holder p ps node = by_test (has p.nodes node)
  where
    by_test : (t : Bool) → option_map (λ (q : Piece). q.job) (cond t (Some p) (find (λ q. has q.nodes node) ps)) ≡ cond t (Some p.job) (holder_in ps node)
    by_test true = refl
    by_test false = refl

-- a piece that has ended is left out
pub still_running : (now : ℕ) (p : Piece) (ps : List Piece) → now < p.real → filter (λ q. not (has_ended now q)) (p ∷ ps) ≡ p ∷ filter (λ q. not (has_ended now q)) ps
still_running now p ps lt = let test : nat_le p.real now ≡ false = grind (arith, nat_tests) in ap (λ b. cond (not b) (p ∷ filter (λ q. not (has_ended now q)) ps) (filter (λ q. not (has_ended now q)) ps)) test

pub run_out : (now : ℕ) (p : Piece) (ps : List Piece) → p.real ≤ now → filter (λ q. not (has_ended now q)) (p ∷ ps) ≡ filter (λ q. not (has_ended now q)) ps
run_out now p ps le = let test : nat_le p.real now ≡ true = grind (arith, nat_tests) in ap (λ b. cond (not b) (p ∷ filter (λ q. not (has_ended now q)) ps) (filter (λ q. not (has_ended now q)) ps)) test

-- the jobs on the nodes by a row, also of nodes that are not there
pub holders_are : (nodes : ℕ) (ps : List Piece) → All (λ p. All (λ n. n < nodes) p.nodes) ps → (n : ℕ) → get_or (map (holder_in ps) (range_with_len 0 nodes)) n None ≡ holder_in ps n
holders_are nodes ps within n = elim (cases_lt n nodes) [
  | inl lt ↦ get_or-map-range_with_len (holder_in ps) 0 nodes n n None lt (omega arith)
  | inr ge ↦ get_or_past (map (holder_in ps) (range_with_len 0 nodes)) n None (omega (arith, length-map-range_with_len (holder_in ps) 0 nodes)) ∙ sym (none_there ps within ge)
]
  where
    not_in : (ns : List ℕ) → All (λ m. m < nodes) ns → nodes ≤ n → has ns n ≡ false
    not_in [] all ge = refl
    not_in (m ∷ ns) all ge =
        let head : m < nodes = All-head (λ k. k < nodes) m ns all in
        let other : (m == n) ≡ false = grind (arith, nat_tests) in
        ap (λ b. b || has ns n) other ∙ not_in ns (All-tail (λ k. k < nodes) m ns all) ge

    none_there : (qs : List Piece) → All (λ p. All (λ m. m < nodes) p.nodes) qs → nodes ≤ n → holder_in qs n ≡ None
    none_there [] all ge = refl
    none_there (q ∷ qs) all ge =
        first_holder q qs n
        ∙ ap (λ b. cond b (Some q.job) (holder_in qs n)) (not_in q.nodes (All-head (λ (p : Piece). All (λ m. m < nodes) p.nodes) q qs all) ge)
        ∙ none_there qs (All-tail (λ (p : Piece). All (λ m. m < nodes) p.nodes) q qs all) ge

-- the piece before those that are left
pub piece_before : (ps : List Piece) (i : ℕ) (p : Piece) → 0 < i → i ≤ length ps → p ≡ get_or ps (i - 1) p → drop (i - 1) ps ≡ p ∷ drop i ps
piece_before ps i p some within is =
    drop_more ps (i - 1) p (omega arith) ∙ ap (λ q. q ∷ drop (i - 1 + 1) ps) (sym is) ∙ ap (λ k. p ∷ drop k ps) (omega arith)

-- the nodes of one of the pieces
pub known_nodes : (nodes : ℕ) (ps : List Piece) (i : ℕ) (p : Piece) → All (λ q. All (λ n. n < nodes) q.nodes) ps → i < length ps → p ≡ get_or ps i p → All (λ n. n < nodes) p.nodes
known_nodes nodes ps i p known lt is = subst (λ (q : Piece). All (λ n. n < nodes) q.nodes) (sym is) (known i p lt)
