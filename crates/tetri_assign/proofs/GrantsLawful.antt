-- The grants of a point are lawful.
use Rattle.std.proofs.Common.{◌≡◌, ◌⊎◌, ℕ, zero, suc, ◌<◌, ◌≤◌, ◌==◌, ◌&&◌, ◌||◌, Bool, true, false, cond, List, [], ◌∷◌, length, get_or, map, Contains, refl, sym, ap, ◌∙◌, subst, arith, true≢false, inl, inr, le_trans, Some, AllPairs, IsSomeAnd}
use Rattle.std.specs.Prelude.{nat_lt}
use Rattle.std.specs.List.{list_all, range_with_len}
use Rattle.std.proofs.lemmas.Bool.{cases_order, and_from}
use Rattle.std.proofs.lemmas.Bool.Decides.{nat_tests}
use Rattle.tetri_strl.specs.declared.expr.Leaf.{Leaf}
use Rattle.tetri_strl.specs.declared.grants.Grant.{Grant}
use Rattle.tetri_strl.specs.Tree.{leaves}
use Rattle.tetri_strl.specs.Worth.{granted}
use Rattle.tetri_base.specs.Lists.{has, Each, EachPair, Ascends}
use Rattle.tetri_space.specs.Partitions.{part_at, set_at}
use Rattle.tetri_space.specs.Space.{Bid, Space, leaf_in, Covers, set_of}
use Rattle.tetri_base.proofs.ListLaws.{eq_from_test, test_from_eq, Each-all, Each-map, Each-append, Each-passed, Each-both, Each-at, Each-from, Each-across, EachPair-append, EachPair-with, from_all}
use Rattle.tetri_compile.specs.declared.outline.Tally.{Tally}
use Rattle.std.proofs.lemmas.Option.{same_Some}
use Rattle.tetri_compile.specs.Sizes.{covers}
use Rattle.tetri_compile.specs.Usable.{is_shut}
use Rattle.tetri_compile.proofs.ProgramLaws.{Each-has, all_of}
use Rattle.tetri_assign.specs.Assigned.{Piece, held, all_held}
use Rattle.tetri_assign.specs.declared.held.Held.{Held}
use Rattle.tetri_assign.proofs.Turns.{EachPair-get}
use native.Mathlib.Numerals.{unary_clauses}
use Rattle.std.specs.List.Sorted.{IsStrictlyIncreasing}
use Rattle.std.proofs.lemmas.List.Kept.{AllPairs-cons}
use Rattle.tetri_space.specs.Free.{IsFree, is_free}
use Rattle.tetri_space.specs.GrantOrder.{ComesBefore}
use Rattle.tetri_space.specs.Lawful.{MayBeGranted, IsLawfulGrant, IsLawful}
use Rattle.tetri_space.specs.Lawful.{AreApart as GrantsApart}
use Rattle.tetri_space.proofs.InstanceLaws.{free_decides}
use Rattle.tetri_assign.proofs.HeldLemmas.{IsOther, AreGathered, gathered_right, leaf_before}
use Rattle.tetri_assign.proofs.Meeting.{parts, inside, IsMeeting, IsOpen, IsPlaced, made_pieces, part_ascends, parts_differ, right, ps_open, ps_placed, leaf_is, same_leaf_apart, HaveNoNode}
use Rattle.tetri_assign.proofs.GrantedLemmas.{made, granted_few}
use Rattle.tetri_assign.proofs.LawfulFacts.{stays_free}
use Rattle.tetri_assign.proofs.Pieces.{IsExact, NoClash, slot_from, has_own}

-- ---- lists by number
pairs_of : {X : Type 0} (R : X → X → Type 0) (xs : List X) → EachPair R xs → AllPairs R xs
pairs_of R [] h = λ i j d lt within. absurd (omega (arith, within))
pairs_of R (x ∷ xs) h = AllPairs-cons R x xs (all_of (R x) xs h.0) (pairs_of R xs h.1)

rises_from : (ns : List ℕ) → Ascends ns → IsStrictlyIncreasing ns
rises_from [] h k lt = absurd (omega (arith, lt))
rises_from (m ∷ []) h k lt = absurd (omega (arith, lt))
rises_from (m ∷ n ∷ ns) h zero lt = h.0.0
rises_from (m ∷ n ∷ ns) h (suc k) lt = simp unary_clauses (simp unary_clauses at (rises_from (n ∷ ns) h.1 k (omega (arith, lt))))

contains_from : (ns : List ℕ) (n : ℕ) → has ns n ≡ true → Contains ns n
contains_from [] n e = absurd (true≢false (sym e))
contains_from (m ∷ ns) n e = by_test (m == n) (λ t. eq_from_test m n t) (λ t. contains_from ns n t) e
  where
    by_test : (b : Bool) → (b ≡ true → m ≡ n) → (has ns n ≡ true → Contains ns n) → (b || has ns n) ≡ true → Contains (m ∷ ns) n
    by_test true same rest t = (0, omega arith, same refl)
    by_test false same rest t = let later = rest t in (suc later.0, omega (arith, later.1), later.2)

held_le : (a : List Grant) (g : Grant) → Contains a g → length g.nodes ≤ granted a g.job g.leaf
held_le [] g at = absurd (omega (arith, at.1))
held_le (k ∷ a) g (zero, lt, e) =
    subst (λ (z : Grant). length z.nodes ≤ granted (k ∷ a) z.job z.leaf) e
    (let own : (k.job == k.job && k.leaf == k.leaf) ≡ true = and_from (k.job == k.job) (k.leaf == k.leaf) (test_from_eq k.job k.job refl) (test_from_eq k.leaf k.leaf refl) in
    omega (arith, ap (λ b. cond b (length k.nodes) 0) own))
held_le (k ∷ a) g (suc j, lt, e) = omega (arith, held_le a g (j, omega (arith, lt), e))

module _ (i : Space) (os : List Bid) (asks marks : List (List ℕ)) (x : ℕ → ℕ) (meets : IsMeeting i os asks marks x) where
  abbrev pieces_made : List Piece
  pieces_made = made_pieces i os asks marks x meets

  abbrev grants_made : List Grant
  grants_made = made i os asks marks x meets

  abbrev Exact : Piece → Type 0
  Exact q = IsExact i (parts i os asks marks x) x (part_ascends i os asks marks x meets) (parts_differ i os asks marks x meets) q

  abbrev IsPiece : Piece → Type 0
  IsPiece q = Contains pieces_made q × Exact q × IsPlaced i os asks marks x q.tally × IsOpen i os asks marks x meets q.tally

  all_pieces : Each IsPiece pieces_made
  all_pieces =
      Each-both (Contains pieces_made) (λ q. Exact q × IsPlaced i os asks marks x q.tally × IsOpen i os asks marks x meets q.tally) IsPiece (λ q a b. (a, b.0, b.1, b.2)) pieces_made
      (Each-from (Contains pieces_made) pieces_made (λ q at. at))
      (Each-both Exact (λ q. IsPlaced i os asks marks x q.tally × IsOpen i os asks marks x meets q.tally) (λ q. Exact q × IsPlaced i os asks marks x q.tally × IsOpen i os asks marks x meets q.tally)
      (λ q a b. (a, b.0, b.1)) pieces_made (right i os asks marks x meets).0
      (Each-both (λ q. IsPlaced i os asks marks x q.tally) (λ q. IsOpen i os asks marks x meets q.tally) (λ q. IsPlaced i os asks marks x q.tally × IsOpen i os asks marks x meets q.tally)
      (λ q a b. (a, b)) pieces_made (ps_placed i os asks marks x meets) (ps_open i os asks marks x meets)))

  -- ---- what the leaves got is of the pieces, and nothing twice
  record IsFrom (h : Held) : Type 0 where
    piece : Piece
    fine : IsPiece piece
    job : piece.tally.job ≡ h.job
    leaf : piece.tally.leaf.num ≡ h.leaf
    node : has piece.nodes h.node ≡ true

  from_nodes : (q : Piece) → IsPiece q → (ns : List ℕ) → Each (λ n. has q.nodes n ≡ true) ns → Each IsFrom (map (held q.tally) ns)
  from_nodes q fine [] h = tt
  from_nodes q fine (n ∷ ns) h = (record { piece = q; fine = fine; job = refl; leaf = refl; node = h.0 }, from_nodes q fine ns h.1)

  from_pieces : (qs : List Piece) → Each IsPiece qs → Each IsFrom (all_held qs)
  from_pieces [] h = tt
  from_pieces (q ∷ qs) h = Each-append IsFrom (map (held q.tally) q.nodes) (all_held qs) (from_nodes q h.0 q.nodes (has_own q.nodes)) (from_pieces qs h.1)

  -- of the piece's leaf, and of one of these nodes
  abbrev IsOf-piece : Piece → Held → Type 0
  IsOf-piece q h = (q.tally.job ≡ h.job) × (q.tally.leaf.num ≡ h.leaf) × (has q.nodes h.node ≡ true)

  of_piece : (q : Piece) (ns : List ℕ) → Each (λ n. has q.nodes n ≡ true) ns → Each (IsOf-piece q) (map (held q.tally) ns)
  of_piece q [] h = tt
  of_piece q (n ∷ ns) h = ((refl, refl, h.0), of_piece q ns h.1)

  nodes_other : (c : Tally) (ns : List ℕ) → Ascends ns → EachPair IsOther (map (held c) ns)
  nodes_other c [] h = tt
  nodes_other c (n ∷ ns) h = (each ns h.0, nodes_other c ns h.1)
    where
      each : (ms : List ℕ) → Each (λ m. n < m) ms → Each (IsOther (held c n)) (map (held c) ms)
      each [] k = tt
      each (m ∷ ms) k = ((λ p q r. absurd (omega (arith, k.0, r))), each ms k.1)

  -- nothing of these pieces is of the other one too
  apart_from : (q : Piece) (qs : List Piece) → Each (HaveNoNode i os asks marks x meets q) qs → Each (λ h. IsOf-piece q h → ⊥) (all_held qs)
  apart_from q [] h = tt
  apart_from q (r ∷ rs) h =
      Each-append (λ z. IsOf-piece q z → ⊥) (map (held r.tally) r.nodes) (all_held rs)
      (Each-map (IsOf-piece r) (λ z. IsOf-piece q z → ⊥) (λ z a b. h.0 z.node (b.0 ∙ sym a.0) (b.1 ∙ sym a.1) b.2 a.2) (map (held r.tally) r.nodes) (of_piece r r.nodes (has_own r.nodes)))
      (apart_from q rs h.1)

  held_other : (qs : List Piece) → Each Exact qs → EachPair (HaveNoNode i os asks marks x meets) qs → EachPair IsOther (all_held qs)
  held_other [] exact other = tt
  held_other (q ∷ qs) exact other =
      EachPair-append IsOther (map (held q.tally) q.nodes) (all_held qs) (nodes_other q.tally q.nodes exact.0.ascending) (held_other qs exact.1 other.1)
      (Each-across (IsOf-piece q) (λ h. IsOf-piece q h → ⊥) IsOther (λ a b p no e f g. no (p.0 ∙ e, p.1 ∙ f, ap (has q.nodes) (sym g) ∙ p.2))
      (map (held q.tally) q.nodes) (all_held qs) (of_piece q q.nodes (has_own q.nodes)) (apart_from q qs other.0))

  gathered_made : AreGathered IsFrom grants_made
  gathered_made = gathered_right IsFrom (all_held pieces_made) (held_other pieces_made (right i os asks marks x meets).0 (same_leaf_apart i os asks marks x meets)) (from_pieces pieces_made all_pieces)

  -- ---- each grant by itself
  abbrev node_of : Grant → ℕ → Held
  node_of g n = record { job = g.job; leaf = g.leaf; node = n }

  -- the piece that a grant has a node of is of the grant's leaf
  leaf_from : (g : Grant) (n : ℕ) (h : IsFrom (node_of g n)) → leaf_in i.bids g.job g.leaf ≡ Some h.piece.tally.leaf
  leaf_from g n h = ap (λ j. leaf_in i.bids j g.leaf) (sym h.job) ∙ ap (leaf_in i.bids h.piece.tally.job) (sym h.leaf) ∙ leaf_is i os asks marks x meets h.piece.tally h.fine.2

  in_set_of : (q : Piece) → IsPiece q → (n : ℕ) → has q.nodes n ≡ true → has (set_at i q.tally.leaf.set) n ≡ true
  in_set_of q fine n there =
      let set = set_at i q.tally.leaf.set in
      let all = parts i os asks marks x in
      let part_in_set = Each-at (λ m. list_all (has set) (part_at all m) ≡ true) (inside i os asks marks x q.tally.leaf.set) q.tally.part
      (Each-passed (λ m. list_all (has set) (part_at all m) ≡ true) (λ m. list_all (has set) (part_at all m)) (λ m t. t) (range_with_len 0 (length all)))
      fine.2.of_bid.part in
      Each-has (λ m. has set m ≡ true) (part_at all q.tally.part) n (from_all (has set) (part_at all q.tally.part) part_in_set) (fine.1.in_part n there)

  node_right : (g : Grant) (l : Leaf) → leaf_in i.bids g.job g.leaf ≡ Some l → (n : ℕ) → IsFrom (node_of g n) →
      Contains (set_of i l) n × ((slot : ℕ) → Covers l slot → IsFree i n slot)
  node_right g l found n h =
      let same : h.piece.tally.leaf ≡ l = same_Some h.piece.tally.leaf l (sym (leaf_from g n h) ∙ found) in
      let part = h.piece.tally.part in
      let idle : is_free i n l.start ≡ true = subst (λ (m : Leaf). is_free i n m.start ≡ true) same (h.fine.1.idle n h.node) in
      let opened : is_shut i (parts i os asks marks x) part l ≡ false = subst (λ (m : Leaf). is_shut i (parts i os asks marks x) part m ≡ false) same h.fine.3 in (
        subst (λ (m : Leaf). Contains (set_of i m) n) same (contains_from (set_at i h.piece.tally.leaf.set) n (in_set_of h.piece h.fine n h.node)),
        λ slot covers. (free_decides i n slot).0 (stays_free i (parts i os asks marks x) part l opened n slot (h.fine.1.in_part n h.node) covers.begun covers.not_over idle),
      )

  -- a grant's first node names its leaf
  record HasLeaf (g : Grant) : Type 0 where
    leaf : Leaf
    found : leaf_in i.bids g.job g.leaf ≡ Some leaf
    bid : Bid
    among : Contains os bid
    job : bid.job ≡ g.job
    below : Contains (leaves bid.expr) leaf
    num : leaf.num ≡ g.leaf

  leaf_of_grant : (g : Grant) → 1 ≤ length g.nodes → Each (λ n. IsFrom (node_of g n)) g.nodes → HasLeaf g
  leaf_of_grant g some from = by_nodes g.nodes some from
    where
      by_nodes : (ns : List ℕ) → 1 ≤ length ns → Each (λ n. IsFrom (node_of g n)) ns → HasLeaf g
      by_nodes [] some from = absurd (omega (arith, some))
      by_nodes (n ∷ ns) some from =
          let h = from.0 in
          record {
            leaf = h.piece.tally.leaf;
            found = leaf_from g n h;
            bid = h.fine.2.bid;
            among = h.fine.2.among;
            job = sym h.fine.2.of_bid.job ∙ h.job;
            below = h.fine.2.of_bid.leaf;
            num = h.leaf;
          }

  lawful_grant : (g : Grant) → Contains grants_made g → IsLawfulGrant i g
  lawful_grant g at =
      let some = Each-at (λ k. 1 ≤ length k.nodes) grants_made g gathered_made.some at in
      let from = Each-at (λ k. Each (λ n. IsFrom (node_of k n)) k.nodes) grants_made g gathered_made.from at in
      let h = leaf_of_grant g some from in
      let live = meets.live h.bid h.leaf h.among h.below in
      let few : length g.nodes ≤ h.leaf.k =
      le_trans (held_le grants_made g at)
      (subst (λ j. granted grants_made j g.leaf ≤ h.leaf.k) h.job (subst (λ n. granted grants_made h.bid.job n ≤ h.leaf.k) h.num (granted_few i os asks marks x meets h.bid h.leaf h.among h.below))) in
      let fine = Each-map (λ n. IsFrom (node_of g n)) (λ n. Contains (set_of i h.leaf) n × ((slot : ℕ) → Covers h.leaf slot → IsFree i n slot)) (λ n f. node_right g h.leaf h.found n f) g.nodes from in
      subst (λ o. IsSomeAnd o (λ l. MayBeGranted i l g.nodes)) (sym h.found)
      (record {
        live = record { not_early = live.0; not_late = live.1 };
        nodes_right = record {
          some = some;
          ascending = rises_from g.nodes (Each-at (λ k. Ascends k.nodes) grants_made g gathered_made.ascending at);
          few = few;
          in_set = all_of (Contains (set_of i h.leaf)) g.nodes (Each-map _ (Contains (set_of i h.leaf)) (λ n f. f.0) g.nodes fine);
          free = all_of (λ n. (slot : ℕ) → Covers h.leaf slot → IsFree i n slot) g.nodes (Each-map _ (λ n. (slot : ℕ) → Covers h.leaf slot → IsFree i n slot) (λ n f. f.1) g.nodes fine);
        };
      })

  -- ---- two grants
  get_or_any : (zs : List Piece) (j : ℕ) (d g : Piece) → j < length zs → get_or zs j d ≡ get_or zs j g
  get_or_any [] j d g lt = absurd (omega arith)
  get_or_any (z ∷ zs) zero d g lt = refl
  get_or_any (z ∷ zs) (suc j) d g lt = get_or_any zs j d g (omega arith)

  -- two pieces of different leaves do not clash
  clear : (q r : Piece) → Contains pieces_made q → Contains pieces_made r → (q ≡ r → ⊥) → (n slot : ℕ) → has q.nodes n ≡ true → has r.nodes n ≡ true →
      covers q.tally.leaf slot ≡ true → covers r.tally.leaf slot ≡ true → ⊥
  clear q r a b other n slot c d e f =
      let apart = (right i os asks marks x meets).1 in
      let clash = NoClash i (parts i os asks marks x) x (part_ascends i os asks marks x meets) (parts_differ i os asks marks x meets) in
      elim (cases_order a.0 b.0) [
        | inl same ↦ other (sym a.2 ∙ ap (λ j. get_or pieces_made j q) same ∙ get_or_any pieces_made b.0 q r b.1 ∙ b.2)
        | inr (inl lt) ↦
            EachPair-get clash pieces_made a.0 b.0 q r apart lt b.1 n slot
            (ap (λ z. has z.nodes n) a.2 ∙ c) (ap (λ z. has z.nodes n) b.2 ∙ d) (ap (λ z. covers z.tally.leaf slot) a.2 ∙ e) (ap (λ z. covers z.tally.leaf slot) b.2 ∙ f)
        | inr (inr gt) ↦
            EachPair-get clash pieces_made b.0 a.0 r q apart gt a.1 n slot
            (ap (λ z. has z.nodes n) b.2 ∙ d) (ap (λ z. has z.nodes n) a.2 ∙ c) (ap (λ z. covers z.tally.leaf slot) b.2 ∙ f) (ap (λ z. covers z.tally.leaf slot) a.2 ∙ e)
      ]

  other_leaf_from : (g k : Grant) → leaf_before g.job g.leaf k ≡ true → g.job ≡ k.job → g.leaf ≡ k.leaf → ⊥
  other_leaf_from g k e p q = no_leaf g.job g.leaf k.job k.leaf e p q
    where
      no_leaf : (j l m n : ℕ) → (nat_lt j m || (j == m && nat_lt l n)) ≡ true → j ≡ m → l ≡ n → ⊥
      no_leaf j l m n e p q = grind (arith, nat_tests)

  abbrev IsMade : Grant → Type 0
  IsMade g = Each (λ n. IsFrom (node_of g n)) g.nodes

  grants_apart : (g k : Grant) → IsMade g → IsMade k → leaf_before g.job g.leaf k ≡ true → GrantsApart i g k
  grants_apart g k from_g from_k before = record {
    other_leaf = other_leaf_from g k before;
    other_slots = λ n in_g in_k l found_l m found_m slot at_l at_m.
        let h = Each-at (λ z. IsFrom (node_of g z)) g.nodes n from_g in_g in
        let f = Each-at (λ z. IsFrom (node_of k z)) k.nodes n from_k in_k in
        let same_l : l ≡ h.piece.tally.leaf = same_Some l h.piece.tally.leaf (sym found_l ∙ leaf_from g n h) in
        let same_m : m ≡ f.piece.tally.leaf = same_Some m f.piece.tally.leaf (sym found_m ∙ leaf_from k n f) in
        clear h.piece f.piece h.fine.0 f.fine.0
        (λ e. other_leaf_from g k before
        (sym h.job ∙ ap (λ (z : Piece). z.tally.job) e ∙ f.job) (sym h.leaf ∙ ap (λ (z : Piece). z.tally.leaf.num) e ∙ f.leaf))
        n slot h.node f.node
        (ap (λ (z : Leaf). covers z slot) (sym same_l) ∙ covered l slot at_l) (ap (λ (z : Leaf). covers z slot) (sym same_m) ∙ covered m slot at_m);
  }
    where
      covered : (l : Leaf) (t : ℕ) → Covers l t → covers l t ≡ true
      covered l t h = slot_from i (parts i os asks marks x) x (part_ascends i os asks marks x meets) (parts_differ i os asks marks x meets) l t h.begun h.not_over

  pub made_lawful : IsLawful i grants_made
  made_lawful = record {
    grants = all_of (IsLawfulGrant i) grants_made (Each-from (IsLawfulGrant i) grants_made lawful_grant);
    apart = pairs_of (GrantsApart i) grants_made
        (EachPair-with IsMade (λ g k. leaf_before g.job g.leaf k ≡ true) (GrantsApart i) grants_apart grants_made gathered_made.from gathered_made.by_leaf);
  }

  -- the grants go by job and leaf
  pub made_ordered : AllPairs ComesBefore grants_made
  made_ordered =
      pairs_of ComesBefore grants_made
      (EachPair-with (λ g. Unit {0}) (λ g k. leaf_before g.job g.leaf k ≡ true) ComesBefore (λ g k u v e. before_from g.job g.leaf k.job k.leaf e) grants_made
      (Each-all (λ g. Unit {0}) (λ g. tt) grants_made) gathered_made.by_leaf)
    where
      less : (j l m n : ℕ) → (nat_lt j m || (j == m && nat_lt l n)) ≡ true → j ≡ m → l < n
      less j l m n e same = grind (arith, nat_tests)

      not_later : (j l m n : ℕ) → (nat_lt j m || (j == m && nat_lt l n)) ≡ true → m < j → ⊥
      not_later j l m n e gt = grind (arith, nat_tests)

      before_from : (j l m n : ℕ) → (nat_lt j m || (j == m && nat_lt l n)) ≡ true → (j < m) ⊎ ((j ≡ m) × (l < n))
      before_from j l m n e =
          elim (cases_order j m) [
            | inl same ↦ inr (same, less j l m n e same)
            | inr (inl lt) ↦ inl lt
            | inr (inr gt) ↦ absurd (not_later j l m n e gt)
          ]
