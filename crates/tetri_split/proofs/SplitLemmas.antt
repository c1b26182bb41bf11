-- From keys and groups to parts.
use Rattle.std.proofs.Common.{◌≡◌, ◌⊎◌, ℕ, zero, suc, ◌+◌, ◌<◌, ◌≤◌, ◌&&◌, Bool, true, false, cond, List, [], ◌∷◌, ◌++◌, length, map, get_or, take, All, AllPairs, Contains, Option, Some, None, refl, sym, ap, ◌∙◌, subst, arith, true≢false, inl, inr, nat_le, nat_lt}
use Rattle.std.specs.List.{Any, filter, range_with_len}
use Rattle.std.proofs.lemmas.Bool.{and_parts, cases_lt, cases_order}
use Rattle.std.proofs.lemmas.Bool.Decides.{nat_tests}
use Rattle.std.proofs.lemmas.List.{get_or-map, get_or_append_left, get_or_default, get_or_past, get_or_push, get_or-take, length-map, length-take, take_more}
use Rattle.std.proofs.lemmas.List.FromFn.{length-range_with_len}
use Rattle.std.proofs.lemmas.List.Elements.{All-contains, All-contains_itself, All-filter, All-map, All-push, All-take, All-weaker, Contains-get_or}
use Rattle.std.proofs.lemmas.Option.{same_Some}
use Rattle.tetri_base.proofs.ListLaws.{test_from_eq, test_from_ne}
use Rattle.tetri_strl.specs.declared.expr.Leaf.{Leaf}
use Rattle.tetri_strl.specs.Tree.{greatest, join, leaves, none}
use Rattle.tetri_space.specs.declared.instance.Offer.{Offer}
use Rattle.tetri_space.specs.Sound.{HasKnownSet, IsSound, IsSoundBid}
use Rattle.tetri_space.specs.Space.{Bid, IsLive, Space, bid, is_live, set_of}
use Rattle.tetri_space.proofs.InstanceLaws.{leaf_in-found, leaf_in-within, offered_leaf}
use Rattle.tetri_split.specs.Grouped.{AreAlike, AreGroups, AreUnlike, key_of}
use Rattle.tetri_split.specs.Labels.{AreJoined, AreKeysOf, AreMarked, HaveALink, HaveOneLabel, HaveSameKey, IsChain, IsOneOf, LabelsLink, label_of, live_sets, nodes_for, nodes_by_bid}
use Rattle.tetri_split.specs.Parts.{AreIndependent, ArePartsOf, IsCrossed, IsUndivided, MayUse, jobs_in}
use Rattle.tetri_split.proofs.LabelLemmas.{linked_same, nodes_all, one_label_kept}
use Rattle.tetri_split.proofs.Members.{contains_filter, contains_flat, contains_map, filter_contains, flat_contains, map_contains}

-- ---- the nodes that a job may use
le_from_test : (m n : ℕ) → nat_le m n ≡ true → m ≤ n
le_from_test m n e = grind (arith, nat_tests)

lt_from_test : (m n : ℕ) → nat_lt m n ≡ true → m < n
lt_from_test m n e = grind (arith, nat_tests)

live_test : (from to x : ℕ) → from ≤ x → x < to → (nat_le from x && nat_lt x to) ≡ true
live_test from to x le lt = grind (arith, nat_tests)

module _ (s : Space) where
  live_from : (l : Leaf) → is_live s l ≡ true → IsLive s l
  live_from l e =
      let both = and_parts (nat_le s.now l.start) (nat_lt l.start (s.now + s.window)) e in
      record { not_early = le_from_test s.now l.start both.0; not_late = lt_from_test l.start (s.now + s.window) both.1 }

  -- what a bid may use its job may use
  pub used_from : IsSound s → (b : Bid) (n : ℕ) → Contains s.bids b → Contains (nodes_for s b) n → MayUse s b.job n
  used_from sound b n pending at =
      let set = flat_contains (λ k. get_or s.sets k []) (live_sets s b) n at in
      let leaf = map_contains (λ (l : Leaf). l.set) (filter (is_live s) (leaves b.expr)) set.0 set.1 in
      let both = filter_contains (is_live s) (leaves b.expr) leaf.0 leaf.1 in
      record {
        number = leaf.0.num;
        leaf = leaf.0;
        offered = leaf_in-found s b leaf.0 sound pending both.0;
        live = live_from leaf.0 both.1;
        in_set = subst (λ k. Contains (get_or s.sets k []) n) (sym leaf.2) set.2;
      }

  -- a bid of the job that may use the node
  record IsReached (j n : ℕ) : Type 0 where
    bid : Bid
    pending : Contains s.bids bid
    of_job : bid.job ≡ j
    reached : Contains (nodes_for s bid) n

  reached_from : (j n : ℕ) → MayUse s j n → IsReached j n
  reached_from j n may =
      let found = leaf_in-within s.bids j may.number may.leaf may.offered in
      let b = found.0 in
      let live : Contains (filter (is_live s) (leaves b.expr)) may.leaf =
      contains_filter (is_live s) (leaves b.expr) may.leaf (live_test s.now (s.now + s.window) may.leaf.start may.live.not_early may.live.not_late) found.1.below in
      record {
        bid = b;
        pending = found.1.pending;
        of_job = found.1.of_job;
        reached = contains_flat (λ k. get_or s.sets k []) (live_sets s b) may.leaf.set n
            (contains_map (λ (l : Leaf). l.set) (filter (is_live s) (leaves b.expr)) may.leaf live) may.in_set;
      }

no_bid : Bid
no_bid = record { job = 0; expr = join greatest none }

-- the key of the job at a place
pub key_at : (keys : List (Option ℕ)) (js : List ℕ) (k : ℕ) → AllPairs (λ i j. i < j) js → k < length js → length keys ≡ length js → key_of keys js (get_or js k 0) ≡ get_or keys k None
key_at [] [] k up lt same = absurd (omega arith)
key_at [] (i ∷ js) k up lt same = absurd (omega arith)
key_at (x ∷ keys) [] k up lt same = absurd (omega arith)
key_at (x ∷ keys) (i ∷ js) zero up lt same = ap (λ t. cond t x (key_of keys js i)) (test_from_eq i i refl)
key_at (x ∷ keys) (i ∷ js) (suc k) up lt same =
    let before : i < get_or js k 0 = up 0 (suc k) 0 (omega arith) lt in
    ap (λ t. cond t x (key_of keys js (get_or js k 0))) (test_from_ne i (get_or js k 0) (λ e. omega (arith, before, e)))
    ∙ key_at keys js k (λ a b d less within. up (suc a) (suc b) d (omega arith) (omega arith)) (omega arith) (omega arith)

module _ (s : Space) (sound : IsSound s) where
  jobs_rise : AllPairs (λ i j. i < j) (jobs_in s.bids)
  jobs_rise i j d lt within =
      let b = no_bid in
      let inside : j < length s.bids = omega (arith, length-map s.bids (λ (c : Bid). c.job)) in
      let order : (get_or s.bids i b).job < (get_or s.bids j b).job = sound.ascending i j b lt inside in
      let one = get_or-map (λ (c : Bid). c.job) s.bids i b d (omega arith) in
      let other = get_or-map (λ (c : Bid). c.job) s.bids j b d inside in
      omega (arith, order, one, other)

  -- the place of a job that may use a node
  record IsPlaced (j n : ℕ) : Type 0 where
    place : ℕ
    within : place < length s.bids
    job_at : get_or (jobs_in s.bids) place 0 ≡ j
    reached : Contains (get_or (nodes_by_bid s) place []) n

  placed : (j n : ℕ) → MayUse s j n → IsPlaced j n
  placed j n may =
      let h = reached_from s j n may in
      let k = h.pending.0 in
      let lt = h.pending.1 in
      record {
        place = k;
        within = lt;
        job_at = get_or-map (λ (c : Bid). c.job) s.bids k h.bid 0 lt ∙ ap (λ (c : Bid). c.job) h.pending.2 ∙ h.of_job;
        reached = subst (λ ns. Contains ns n) (sym (get_or-map (nodes_for s) s.bids k h.bid [] lt ∙ ap (nodes_for s) h.pending.2)) h.reached;
      }

  use_at : (k n : ℕ) → k < length s.bids → Contains (get_or (nodes_by_bid s) k []) n → MayUse s (get_or (jobs_in s.bids) k 0) n
  use_at k n lt at =
      let b = get_or s.bids k no_bid in
      let here : get_or (nodes_by_bid s) k [] ≡ nodes_for s b = get_or-map (nodes_for s) s.bids k no_bid [] lt in
      subst (λ j. MayUse s j n) (sym (get_or-map (λ (c : Bid). c.job) s.bids k no_bid 0 lt))
      (used_from s sound b n (Contains-get_or s.bids k no_bid lt) (subst (λ ns. Contains ns n) here at))

  -- a list of the nodes that a bid may use stands at a bid's place
  place_of : (r : List ℕ) → Contains (nodes_by_bid s) r → (k : ℕ) × (k < length s.bids) × (get_or (nodes_by_bid s) k [] ≡ r)
  place_of r at =
      let lt : at.0 < length s.bids = omega (arith, at.1, length-map s.bids (nodes_for s)) in
      (at.0, lt, get_or_default (nodes_by_bid s) at.0 [] r at.1 ∙ at.2)

  module _ (keys : List (Option ℕ)) (are : AreKeysOf s keys) (groups : List (List ℕ)) (made : AreGroups (key_of keys (jobs_in s.bids)) (jobs_in s.bids) groups) where
    abbrev key : ℕ → Option ℕ
    key = key_of keys (jobs_in s.bids)

    key_here : (k : ℕ) → k < length s.bids → key (get_or (jobs_in s.bids) k 0) ≡ get_or keys k None
    key_here k lt =
        key_at keys (jobs_in s.bids) k jobs_rise (omega (arith, length-map s.bids (λ (c : Bid). c.job))) (are.count ∙ sym (length-map s.bids (λ (c : Bid). c.job)))

    -- jobs that may use the same node have the same key
    same_key : (i j n : ℕ) → MayUse s i n → MayUse s j n → HaveSameKey (key i) (key j)
    same_key i j n u v =
        let p = placed i n u in
        let q = placed j n v in
        let same = are.shared p.place q.place n p.within q.within p.reached q.reached in
        record {
          same = same.same;
          of_one = ap key (sym p.job_at) ∙ key_here p.place p.within ∙ same.of_one;
          of_other = ap key (sym q.job_at) ∙ key_here q.place q.within ∙ same.of_other;
        }

    alike_from : (i j n : ℕ) → MayUse s i n → MayUse s j n → AreAlike key i j
    alike_from i j n u v = let same = same_key i j n u v in inr (same.same, same.of_one, same.of_other)

    independent_from : (p q : List ℕ) → AreUnlike key p q → AreIndependent s p q
    independent_from p q unlike = record {
      other_jobs = λ j one other. unlike j j one other (inl refl);
      no_meeting = λ i j one other meet. unlike i j one other (alike_from i j meet.0 meet.1 meet.2);
    }

    job_place : (j : ℕ) → Contains (jobs_in s.bids) j → (k : ℕ) × (k < length s.bids) × (get_or (jobs_in s.bids) k 0 ≡ j)
    job_place j at =
        (at.0, omega (arith, at.1, length-map s.bids (λ (c : Bid). c.job)), get_or_default (jobs_in s.bids) at.0 0 j at.1 ∙ at.2)

    -- the jobs with the key of one job of a group are in the group
    in_group : (k : ℕ) (p : List ℕ) → k < length groups → get_or groups k p ≡ p → (i j : ℕ) → Contains p i → AreAlike key i j → Contains (jobs_in s.bids) j → Contains p j
    in_group k p lt is i j at same pending =
        let found = All-contains (λ m. Any (λ q. Contains q m) groups) (jobs_in s.bids) j made.covered pending in
        by_place found.0 found.1 found.2 found.3 found.4 (cases_order k found.0)
      where
        back : AreAlike key i j → AreAlike key j i
        back (inl e) = inl (sym e)
        back (inr h) = inr (h.0, h.2, h.1)

        by_place : (m : ℕ) (q : List ℕ) → m < length groups → get_or groups m q ≡ q → Contains q j → (k ≡ m) ⊎ ((k < m) ⊎ (m < k)) → Contains p j
        by_place m q within there has (inl e) = subst (λ r. Contains r j) (sym there ∙ get_or_default groups m q p within ∙ ap (λ x. get_or groups x p) (sym e) ∙ is) has
        by_place m q within there has (inr (inl less)) =
            absurd (made.unlike k m p less within i j (subst (λ r. Contains r i) (sym is) at)
            (subst (λ r. Contains r j) (sym there ∙ get_or_default groups m q p within) has) same)
        by_place m q within there has (inr (inr more)) =
            absurd (made.unlike m k p more lt j i (subst (λ r. Contains r j) (sym there ∙ get_or_default groups m q p within) has)
            (subst (λ r. Contains r i) (sym is) at) (back same))

    module _ (p : List ℕ) (k : ℕ) (lt : k < length groups) (is : get_or groups k p ≡ p) (side : ℕ → Bool) (j o : ℕ) (has_j : Contains p j) (fails : side j ≡ false) (used : MayUse s j o) where
      -- along a chain from a node of a job that passes to one of a job that fails, two jobs meet of which one passes and one fails
      crossed : (m : ℕ) (ns : List ℕ) → IsChain (nodes_by_bid s) m ns o → (i : ℕ) → Contains p i → side i ≡ true → MayUse s i m → IsCrossed s side p
      crossed m [] e i has_i passes may =
          record { one = i; other = j; has_one = has_i; has_other = has_j; passes = passes; fails = fails; meeting = (m, may, subst (MayUse s j) (sym e) used) }
      crossed m (n ∷ ns) h i has_i passes may =
          let at = place_of h.0.list h.0.among in
          let l = get_or (jobs_in s.bids) at.0 0 in
          let here : MayUse s l m = use_at at.0 m at.1 (subst (λ r. Contains r m) (sym at.2) h.0.has_one) in
          let there : MayUse s l n = use_at at.0 n at.1 (subst (λ r. Contains r n) (sym at.2) h.0.has_other) in
          let pending : Contains (jobs_in s.bids) l =
          Contains-get_or (jobs_in s.bids) at.0 0 (omega (arith, at.1, length-map s.bids (λ (c : Bid). c.job))) in
          let has_l : Contains p l = in_group k p lt is i l has_i (alike_from i l m may here) pending in
          by_side l (side l) refl has_l here (λ pass. crossed n ns h.1 l has_l pass there)
        where
          by_side : (l : ℕ) (t : Bool) → side l ≡ t → Contains p l → MayUse s l m → (side l ≡ true → IsCrossed s side p) → IsCrossed s side p
          by_side l true e has_l here rest = rest e
          by_side l false e has_l here rest = record { one = i; other = l; has_one = has_i; has_other = has_l; passes = passes; fails = e; meeting = (m, may, here) }

    undivided_from : (p : List ℕ) (k : ℕ) → k < length groups → get_or groups k p ≡ p → IsUndivided s p
    undivided_from p k lt is side i j has_i passes has_j fails = by_alike (All-contains (λ q. (a b : ℕ) → Contains q a → Contains q b → AreAlike key a b) groups p made.alike (k, lt, is) i j has_i has_j)
      where
        pending_of : (a : ℕ) → Contains p a → Contains (jobs_in s.bids) a
        pending_of a at = All-contains (Contains (jobs_in s.bids)) p a (All-contains (All (Contains (jobs_in s.bids))) groups p made.pending (k, lt, is)) at

        by_alike : AreAlike key i j → IsCrossed s side p
        by_alike (inl e) = absurd (true≢false (sym passes ∙ ap side e ∙ fails))
        by_alike (inr (x, of_i, of_j)) =
            let a = job_place i (pending_of i has_i) in
            let b = job_place j (pending_of j has_j) in
            let link = are.linked a.0 b.0 a.1 b.1 (record {
              same = x;
              of_one = sym (key_here a.0 a.1) ∙ ap key a.2 ∙ of_i;
              of_other = sym (key_here b.0 b.1) ∙ ap key b.2 ∙ of_j;
            }) in
            let use_i : MayUse s i link.one = subst (λ l. MayUse s l link.one) a.2 (use_at a.0 link.one a.1 link.has_one) in
            let use_j : MayUse s j link.other = subst (λ l. MayUse s l link.other) b.2 (use_at b.0 link.other b.1 link.has_other) in
            crossed p k lt is side j link.other has_j fails use_j link.one link.linked.0 link.linked.1 i has_i passes use_i

    pub parts_from : ArePartsOf s groups
    parts_from = record {
      covered = λ k d lt.
          subst (λ j. Any (λ p. Contains p j) groups) (get_or-map (λ (c : Bid). c.job) s.bids k d d.job lt)
          (made.covered k d.job (omega (arith, length-map s.bids (λ (c : Bid). c.job))));
      pending = made.pending;
      some_jobs = made.some_jobs;
      ascending = made.ascending;
      by_least = made.by_least;
      independent = λ i j d less within. independent_from (get_or groups i d) (get_or groups j d) (made.unlike i j d less within);
      undivided = λ k d lt. undivided_from (get_or groups k d) k lt (sym (get_or_default groups k d (get_or groups k d) lt));
    }

-- ---- the sets of a bid's live leaves
pub live_known : (s : Space) (b : Bid) → IsSoundBid s b → All (λ k. k < length s.sets) (live_sets s b)
live_known s b h =
    All-map (λ k. k < length s.sets) (λ (l : Leaf). l.set) (filter (is_live s) (leaves b.expr))
    (All-weaker (HasKnownSet s) (λ l. l.set < length s.sets) (λ l known. known.known) (filter (is_live s) (leaves b.expr))
    (All-filter (is_live s) (HasKnownSet s) (leaves b.expr) h.known_sets))

pub live_nodes : (s : Space) (b : Bid) → IsSoundBid s b → All (λ k. All (λ n. n < s.nodes) (get_or s.sets k [])) (live_sets s b)
live_nodes s b h =
    All-map (λ k. All (λ n. n < s.nodes) (get_or s.sets k [])) (λ (l : Leaf). l.set) (filter (is_live s) (leaves b.expr))
    (All-weaker (HasKnownSet s) (λ l. All (λ n. n < s.nodes) (get_or s.sets l.set [])) (λ l known. known.there) (filter (is_live s) (leaves b.expr))
    (All-filter (is_live s) (HasKnownSet s) (leaves b.expr) h.known_sets))

-- ---- keys from labels
some_none : (x : ℕ) → Some x ≡ None → ⊥
some_none x e = cc

module _ (labels : List ℕ) where
  none_of : (o : Option ℕ) (r : List ℕ) → IsOneOf r o → label_of labels o ≡ None → r ≡ []
  none_of None r h e = h
  none_of (Some n) r h e = absurd (some_none (get_or labels n 0) e)

  key_is : (o : Option ℕ) (r : List ℕ) (n : ℕ) → IsOneOf r o → HaveOneLabel labels r → Contains r n → label_of labels o ≡ Some (get_or labels n 0)
  key_is None r n h one at = absurd (nothing_in (subst (λ q. Contains q n) h at))
    where
      nothing_in : Contains [] n → ⊥
      nothing_in (k, lt, is) = omega (arith, lt)
  key_is (Some m) r n h one at = ap Some (one m n h at)

  -- the node that a label is of
  node_of : (o : Option ℕ) (r : List ℕ) (x : ℕ) → IsOneOf r o → label_of labels o ≡ Some x → (n : ℕ) × (o ≡ Some n) × Contains r n × (get_or labels n 0 ≡ x)
  node_of None r x h e = absurd (some_none x (sym e))
  node_of (Some n) r x h e = (n, refl, h, same_Some (get_or labels n 0) x e)

module _ (s : Space) (sound : IsSound s) (labels : List ℕ) (nodes : List (Option ℕ)) (count : length nodes ≡ length s.bids) (all : length labels ≡ s.nodes)
    (node : (i : ℕ) → i < length s.bids → IsOneOf (get_or (nodes_by_bid s) i []) (get_or nodes i None)) where
  node_there : (j n : ℕ) → MayUse s j n → n < s.nodes
  node_there j n may = All-contains (λ m. m < s.nodes) (set_of s may.leaf) n (offered_leaf s j may.number may.leaf sound may.offered).1.there may.in_set

  pub reach_within : (k n : ℕ) → k < length s.bids → Contains (get_or (nodes_by_bid s) k []) n → n < length labels
  reach_within k n lt at = subst (λ m. n < m) (sym all) (node_there (get_or (jobs_in s.bids) k 0) n (use_at s sound k n lt at))

  pub nodes_within : (k n : ℕ) → k < length nodes → get_or nodes k None ≡ Some n → n < length labels
  nodes_within k n lt is = reach_within k n (omega (arith, count)) (subst (IsOneOf (get_or (nodes_by_bid s) k [])) is (node k (omega (arith, count))))

  module _ (one : All (HaveOneLabel labels) (nodes_by_bid s)) (links : LabelsLink (nodes_by_bid s) labels) (small : All (λ x. x < s.nodes) labels) where
    abbrev keys : List (Option ℕ)
    keys = map (label_of labels) nodes

    key_at_place : (k : ℕ) → k < length s.bids → get_or keys k None ≡ label_of labels (get_or nodes k None)
    key_at_place k lt = get_or-map (label_of labels) nodes k None None (omega (arith, count))

    one_at : (k : ℕ) → k < length s.bids → HaveOneLabel labels (get_or (nodes_by_bid s) k [])
    one_at k lt = one k [] (omega (arith, length-map s.bids (nodes_for s)))

    linked_of : (i j : ℕ) → i < length s.bids → j < length s.bids → HaveSameKey (get_or keys i None) (get_or keys j None) →
        HaveALink (nodes_by_bid s) (get_or (nodes_by_bid s) i []) (get_or (nodes_by_bid s) j [])
    linked_of i j i_lt j_lt same =
        let a = node_of labels (get_or nodes i None) (get_or (nodes_by_bid s) i []) same.same (node i i_lt) (sym (key_at_place i i_lt) ∙ same.of_one) in
        let b = node_of labels (get_or nodes j None) (get_or (nodes_by_bid s) j []) same.same (node j j_lt) (sym (key_at_place j j_lt) ∙ same.of_other) in
        record {
          one = a.0;
          other = b.0;
          has_one = a.2;
          has_other = b.2;
          linked = links a.0 b.0 (reach_within i a.0 i_lt a.2) (reach_within j b.0 j_lt b.2) (a.3 ∙ sym b.3);
        }

    small_of : (i x : ℕ) → get_or keys i None ≡ Some x → x < s.nodes
    small_of i x e = elim (cases_lt i (length nodes)) [
      | inl lt ↦
          let i_lt : i < length s.bids = omega (arith, count) in
          let a = node_of labels (get_or nodes i None) (get_or (nodes_by_bid s) i []) x (node i i_lt) (sym (key_at_place i i_lt) ∙ e) in
          subst (λ y. y < s.nodes) a.3 (small a.0 0 (reach_within i a.0 i_lt a.2))
      | inr past ↦ absurd (some_none x (sym e ∙ get_or_past keys i None (omega (arith, length-map nodes (label_of labels)))))
    ]

    pub keys_from : AreKeysOf s keys
    keys_from = record {
      count = length-map nodes (label_of labels) ∙ count;
      small = small_of;
      none = λ i lt e. none_of labels (get_or nodes i None) (get_or (nodes_by_bid s) i []) (node i lt) (sym (key_at_place i lt) ∙ e);
      shared = λ i j n i_lt j_lt one_has other_has. record {
        same = get_or labels n 0;
        of_one = key_at_place i i_lt ∙ key_is labels (get_or nodes i None) (get_or (nodes_by_bid s) i []) n (node i i_lt) (one_at i i_lt) one_has;
        of_other = key_at_place j j_lt ∙ key_is labels (get_or nodes j None) (get_or (nodes_by_bid s) j []) n (node j j_lt) (one_at j j_lt) other_has;
      };
      linked = linked_of;
    }

-- ---- the nodes of the jobs, one job after another
module _ (s : Space) (sound : IsSound s) where
  reach_of : (k : ℕ) (b : Bid) → k < length s.bids → get_or s.bids k b ≡ b → get_or (nodes_by_bid s) k [] ≡ nodes_for s b
  reach_of k b lt is = get_or-map (nodes_for s) s.bids k b [] lt ∙ ap (nodes_for s) is

  reach_nodes : (b : Bid) → IsSoundBid s b → All (λ n. n < s.nodes) (nodes_for s b)
  reach_nodes b good = nodes_all (λ n. n < s.nodes) s.sets (live_sets s b) (live_nodes s b good)

  reaches_nodes : All (All (λ n. n < s.nodes)) (nodes_by_bid s)
  reaches_nodes = All-map (All (λ n. n < s.nodes)) (nodes_for s) s.bids (All-weaker (IsSoundBid s) (λ b. All (λ n. n < s.nodes) (nodes_for s b)) reach_nodes s.bids sound.sound_bids)

  module _ (i : ℕ) (b : Bid) (lt : i < length s.bids) (is : get_or s.bids i b ≡ b) where
    pub more_nodes : (nodes pushed : List (Option ℕ)) (o : Option ℕ) → length nodes ≡ i → pushed ≡ nodes ++ o ∷ [] → ((k : ℕ) → k < i → IsOneOf (get_or (nodes_by_bid s) k []) (get_or nodes k None)) →
        IsOneOf (nodes_for s b) o → (k : ℕ) → k < i + 1 → IsOneOf (get_or (nodes_by_bid s) k []) (get_or pushed k None)
    more_nodes nodes pushed o long made old new k below = subst (λ ns. IsOneOf (get_or (nodes_by_bid s) k []) (get_or ns k None)) (sym made) (elim (cases_lt k i) [
      | inl less ↦ subst (IsOneOf (get_or (nodes_by_bid s) k [])) (sym (get_or_append_left nodes (o ∷ []) None k (omega arith))) (old k less)
      | inr more ↦
          let same : i ≡ k = omega arith in
          subst (λ j. IsOneOf (get_or (nodes_by_bid s) j []) (get_or (nodes ++ o ∷ []) j None)) same
          (subst (IsOneOf (get_or (nodes_by_bid s) i [])) (sym (get_or_push nodes o None i long)) (subst (λ ns. IsOneOf ns o) (sym (reach_of i b lt is)) new))
    ])

    in_reaches : i < length (nodes_by_bid s)
    in_reaches = omega (arith, length-map s.bids (nodes_for s))

    pub more_one_label : (old new : List ℕ) → length old ≡ s.nodes → AreJoined (nodes_for s b) old new → All (HaveOneLabel old) (take i (nodes_by_bid s)) → HaveOneLabel new (nodes_for s b) →
        All (HaveOneLabel new) (take (i + 1) (nodes_by_bid s))
    more_one_label old new long joined before now =
        subst (All (HaveOneLabel new)) (sym (take_more (nodes_by_bid s) i [] in_reaches))
        (All-push (HaveOneLabel new) (take i (nodes_by_bid s)) (get_or (nodes_by_bid s) i [])
        (λ k d k_lt. one_label_kept old new (get_or (take i (nodes_by_bid s)) k d) joined.keeps
        (subst (λ c. All (λ n. n < c) (get_or (take i (nodes_by_bid s)) k d)) (sym long) (All-take (All (λ n. n < s.nodes)) i (nodes_by_bid s) reaches_nodes k d k_lt)) (before k d k_lt))
        (subst (HaveOneLabel new) (sym (reach_of i b lt is)) now))

    pub more_links : (start old new : List ℕ) → AreJoined (nodes_for s b) old new → (LabelsLink (nodes_by_bid s) start → LabelsLink (nodes_by_bid s) old) → LabelsLink (nodes_by_bid s) start → LabelsLink (nodes_by_bid s) new
    more_links start old new joined before first =
        let among : Contains (nodes_by_bid s) (nodes_for s b) = subst (Contains (nodes_by_bid s)) (reach_of i b lt is) (Contains-get_or (nodes_by_bid s) i [] in_reaches) in
        joined.links (nodes_by_bid s) (nodes_for s b) among (All-contains_itself (nodes_for s b)) (before first)

-- ---- the labels at first
pub own_label : (n k : ℕ) → k < n → get_or (range_with_len 0 n) k 0 ≡ k
own_label n k lt = let at = from_start 0 n k lt in omega (arith, at)
  where
    from_start : (a m j : ℕ) → j < m → get_or (range_with_len a m) j 0 ≡ a + j
    from_start a zero j lt = absurd (omega arith)
    from_start a (suc m) zero lt = omega arith
    from_start a (suc m) (suc j) lt = let rest = from_start (a + 1) m j (omega arith) in omega (arith, rest)

pub own_links : (lists : List (List ℕ)) (n : ℕ) → LabelsLink lists (range_with_len 0 n)
own_links lists n i j i_lt j_lt same =
    let long = length-range_with_len 0 n in
    let one = own_label n i (omega (arith, long)) in
    let other = own_label n j (omega (arith, long)) in
    linked_same lists i j (omega (arith, one, other, same))

pub own_small : (n : ℕ) → All (λ x. x < n) (range_with_len 0 n)
own_small n k d lt =
    let long = length-range_with_len 0 n in
    let one = own_label n k (omega (arith, long)) in
    let at = get_or_default (range_with_len 0 n) k d 0 lt in
    omega (arith, one, at, long)

pub none_marked : (sets : List (List ℕ)) (marks : List Bool) (labels : List ℕ) → ((k : ℕ) → get_or marks k false ≡ false) → AreMarked sets marks labels
none_marked sets marks labels unset k e = absurd (true≢false (sym e ∙ unset k))

-- ---- the jobs, one after another
pub record IsNextJob (keys : List (Option ℕ)) (js : List ℕ) (i job : ℕ) : Type 0 where
  pub key : key_of keys js job ≡ get_or keys i None
  pub later : All (λ j. j < job) (take i js)
  pub next : take (i + 1) js ≡ take i js ++ job ∷ []

pub next_job : (keys : List (Option ℕ)) (js : List ℕ) (i job : ℕ) → i < length js → AllPairs (λ i j. i < j) js → length keys ≡ length js → get_or js i 0 ≡ job → IsNextJob keys js i job
next_job keys js i job lt up same is = record {
  key = ap (key_of keys js) (sym is) ∙ key_at keys js i up lt same;
  later = λ k d k_lt.
      let inside : k < i = omega (arith, k_lt, length-take i js) in
      let at = get_or-take i js k d inside in
      let first = get_or_default js k d 0 (omega arith) in
      let order : get_or js k 0 < get_or js i 0 = up k i 0 inside lt in
      omega (arith, at, first, order, is);
  next = take_more js i 0 lt ∙ ap (λ j. take i js ++ j ∷ []) is;
}

pub offer_jobs_rise : (os : List Offer) → AllPairs (λ (b c : Bid). b.job < c.job) (map bid os) → AllPairs (λ i j. i < j) (jobs_in (map bid os))
offer_jobs_rise os up i j d less within =
    let bs = map bid os in
    let inside : j < length bs = omega (arith, length-map bs (λ (c : Bid). c.job)) in
    let order : (get_or bs i no_bid).job < (get_or bs j no_bid).job = up i j no_bid less inside in
    let one = get_or-map (λ (c : Bid). c.job) bs i no_bid d (omega arith) in
    let other = get_or-map (λ (c : Bid). c.job) bs j no_bid d inside in
    omega (arith, order, one, other)

pub offer_job_at : (os : List Offer) (i : ℕ) (o : Offer) → i < length os → o ≡ get_or os i o → get_or (jobs_in (map bid os)) i 0 ≡ o.job
offer_job_at os i o lt is =
    get_or-map (λ (c : Bid). c.job) (map bid os) i (bid o) 0 (omega (arith, length-map os bid))
    ∙ ap (λ (c : Bid). c.job) (get_or-map bid os i o (bid o) lt ∙ ap bid (sym is))

-- an offer stands among the bids where it stands among the offers
pub bid_at_place : (os jobs : List Offer) (i : ℕ) (o : Offer) → os ≡ jobs → i < length os → o ≡ get_or os i o → (i < length (map bid jobs)) × (get_or (map bid jobs) i (bid o) ≡ bid o)
bid_at_place os jobs i o same lt is =
    subst (λ xs. (i < length (map bid xs)) × (get_or (map bid xs) i (bid o) ≡ bid o)) same
    (omega (arith, length-map os bid), get_or-map bid os i o (bid o) lt ∙ ap bid (sym is))
