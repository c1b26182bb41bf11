-- Labels that are merged and joined, and nodes that are linked.
use Rattle.std.proofs.Common.{◌≡◌, ◌⊎◌, ℕ, suc, ◌+◌, ◌<◌, ◌==◌, Bool, true, false, cond, List, [], ◌∷◌, ◌++◌, length, map, get_or, set, take, All, Contains, Option, Some, None, refl, sym, ap, ◌∙◌, subst, arith, true≢false, inl, inr}
use Rattle.std.proofs.lemmas.List.{append-nil, get_or-map, get_or-set_other, get_or-take, get_or_default, length-map, length-take, take_more}
use Rattle.std.proofs.lemmas.List.Concat.{flat_map-append}
use Rattle.std.proofs.lemmas.List.Elements.{All-append, All-contains, All-nil, All-take, All-weaker, Contains-append_cases, Contains-append_left, Contains-append_right, Contains-get_or, Contains-push_cases}
use Rattle.tetri_base.proofs.ListLaws.{eq_from_test, test_from_eq, test_from_ne}
use Rattle.tetri_split.specs.Labels.{AreJoined, AreLinked, AreMarked, AreMerged, HaveOneLabel, IsChain, IsOneOf, KeepsLabels, LabelsLink, nodes_in}
use Rattle.tetri_split.proofs.Members.{contains_flat}

-- ---- chains
module _ (lists : List (List ℕ)) where
  chain_on : (m n o : ℕ) (ns os : List ℕ) → IsChain lists m ns n → IsChain lists n os o → IsChain lists m (ns ++ os) o
  chain_on m n o [] os e rest = subst (λ k. IsChain lists k os o) (sym e) rest
  chain_on m n o (k ∷ ns) os h rest = (h.0, chain_on k n o ns os h.1 rest)

  pub linked_on : (m n o : ℕ) → AreLinked lists m n → AreLinked lists n o → AreLinked lists m o
  linked_on m n o one other = (one.0 ++ other.0, chain_on m n o one.0 other.0 one.1 other.1)

  pub linked_same : (m n : ℕ) → m ≡ n → AreLinked lists m n
  linked_same m n e = ([], e)

  pub linked_by : (m n : ℕ) (r : List ℕ) → Contains lists r → Contains r m → Contains r n → AreLinked lists m n
  linked_by m n r among one other = (n ∷ [], (record { list = r; among = among; has_one = one; has_other = other }, refl))

  chain_back : (m : ℕ) (ns : List ℕ) (o : ℕ) → IsChain lists m ns o → AreLinked lists o m
  chain_back m [] o e = ([], sym e)
  chain_back m (n ∷ ns) o h = linked_on o n m (chain_back n ns o h.1) (linked_by n m h.0.list h.0.among h.0.has_other h.0.has_one)

  pub linked_back : (m o : ℕ) → AreLinked lists m o → AreLinked lists o m
  linked_back m o h = chain_back m h.0 o h.1

-- ---- merging
cond_same : (t : Bool) (x : ℕ) → cond t x x ≡ x
cond_same true x = refl
cond_same false x = refl

cond_true : (t : Bool) (x y : ℕ) → t ≡ true → cond t x y ≡ x
cond_true true x y e = refl
cond_true false x y e = absurd (true≢false (sym e))

cond_false : (t : Bool) (x y : ℕ) → t ≡ false → cond t x y ≡ y
cond_false true x y e = absurd (true≢false e)
cond_false false x y e = refl

-- where the labels are the same already
pub merged_same : (old : List ℕ) (first second : ℕ) → get_or old first 0 ≡ get_or old second 0 → AreMerged old first second old
merged_same old first second e = record { count = refl; each = λ n lt. kept (get_or old n 0) (get_or old second 0) (get_or old first 0) e }
  where
    kept : (x lost stays : ℕ) → stays ≡ lost → x ≡ cond (x == lost) stays x
    kept x lost stays same = by_test (x == lost) (eq_from_test x lost)
      where
        by_test : (t : Bool) → (t ≡ true → x ≡ lost) → x ≡ cond t stays x
        by_test true is = is refl ∙ sym same
        by_test false is = refl

pub merged_renamed : (old new : List ℕ) (first second lost kept : ℕ) → kept ≡ get_or old first 0 → lost ≡ get_or old second 0 →
    new ≡ map (λ x. cond (x == lost) kept x) old → AreMerged old first second new
merged_renamed old new first second lost kept is_kept is_lost is = record {
  count = ap length is ∙ length-map old (λ x. cond (x == lost) kept x);
  each = λ n lt.
      ap (λ xs. get_or xs n 0) is ∙ get_or-map (λ x. cond (x == lost) kept x) old n 0 0 lt
      ∙ ap (λ k. cond (get_or old n 0 == lost) k (get_or old n 0)) is_kept ∙ ap (λ k. cond (get_or old n 0 == k) (get_or old first 0) (get_or old n 0)) is_lost;
}

module _ (old : List ℕ) (first second : ℕ) (new : List ℕ) (merged : AreMerged old first second new) where
  pub merged_keeps : KeepsLabels old new
  merged_keeps m n m_lt n_lt e =
      merged.each m m_lt ∙ ap (λ x. cond (x == get_or old second 0) (get_or old first 0) x) e ∙ sym (merged.each n n_lt)

  -- both nodes have one label then
  pub merged_one : first < length old → second < length old → get_or new first 0 ≡ get_or new second 0
  merged_one f_lt s_lt =
      merged.each first f_lt ∙ cond_same (get_or old first 0 == get_or old second 0) (get_or old first 0)
      ∙ sym (merged.each second s_lt ∙ cond_true (get_or old second 0 == get_or old second 0) (get_or old first 0) (get_or old second 0) (test_from_eq _ _ refl))

  pub merged_links : (lists : List (List ℕ)) → first < length old → second < length old → AreLinked lists first second → LabelsLink lists old → LabelsLink lists new
  merged_links lists f_lt s_lt linked links m n m_lt n_lt same =
      let a = get_or old first 0 in
      let b = get_or old second 0 in
      let m_in : m < length old = omega (arith, merged.count) in
      let n_in : n < length old = omega (arith, merged.count) in
      by_tests (get_or old m 0 == b) (get_or old n 0 == b) (eq_from_test (get_or old m 0) b) (eq_from_test (get_or old n 0) b) m_in n_in
      (sym (merged.each m m_in) ∙ same ∙ merged.each n n_in)
    where
      -- a node with the second node's label and one with the first's
      across : (i j : ℕ) → i < length old → j < length old → get_or old i 0 ≡ get_or old second 0 → get_or old first 0 ≡ get_or old j 0 → AreLinked lists i j
      across i j i_lt j_lt one other =
          linked_on lists i second j (links i second i_lt s_lt one) (linked_on lists second first j (linked_back lists first second linked) (links first j f_lt j_lt other))

      by_tests : (t u : Bool) → (t ≡ true → get_or old m 0 ≡ get_or old second 0) → (u ≡ true → get_or old n 0 ≡ get_or old second 0) → m < length old → n < length old →
          cond t (get_or old first 0) (get_or old m 0) ≡ cond u (get_or old first 0) (get_or old n 0) → AreLinked lists m n
      by_tests true true p q m_in n_in e = links m n m_in n_in (p refl ∙ sym (q refl))
      by_tests true false p q m_in n_in e = across m n m_in n_in (p refl) e
      by_tests false true p q m_in n_in e = linked_back lists n m (across n m n_in m_in (q refl) (sym e))
      by_tests false false p q m_in n_in e = links m n m_in n_in e

  pub merged_small : (b : ℕ) → first < length old → All (λ x. x < b) old → All (λ x. x < b) new
  merged_small b f_lt small k d lt =
      let k_in : k < length old = omega (arith, merged.count) in
      let here : get_or new k d < b =
      subst (λ x. x < b) (sym (get_or_default new k d 0 lt ∙ merged.each k k_in)) (one_of (get_or old k 0 == get_or old second 0) (small first 0 f_lt) (small k 0 k_in)) in
      here
    where
      one_of : (t : Bool) → get_or old first 0 < b → get_or old k 0 < b → cond t (get_or old first 0) (get_or old k 0) < b
      one_of true x y = x
      one_of false x y = y

  pub merged_joined : (r : List ℕ) → first < length old → second < length old → Contains r first → Contains r second → AreJoined r old new
  merged_joined r f_lt s_lt one other = record {
    count = merged.count;
    keeps = merged_keeps;
    links = λ lists q among within links.
        merged_links lists f_lt s_lt
        (linked_by lists first second q among (All-contains (Contains q) r first within one) (All-contains (Contains q) r second within other)) links;
    small = λ b. merged_small b f_lt;
  }

-- ---- joining
pub joined_none : (nodes labels : List ℕ) → AreJoined nodes labels labels
joined_none nodes labels = record { count = refl; keeps = λ m n m_lt n_lt e. e; links = λ lists r among within h. h; small = λ b h. h }

pub joined_on : (nodes a b c : List ℕ) → AreJoined nodes a b → AreJoined nodes b c → AreJoined nodes a c
joined_on nodes a b c one other = record {
  count = other.count ∙ one.count;
  keeps = λ m n m_lt n_lt e. other.keeps m n (omega (arith, one.count)) (omega (arith, one.count)) (one.keeps m n m_lt n_lt e);
  links = λ lists r among within h. other.links lists r among within (one.links lists r among within h);
  small = λ x h. other.small x (one.small x h);
}

-- joining some of the nodes is no more than joining them all
pub joined_within : (nodes all a b : List ℕ) → All (Contains all) nodes → AreJoined nodes a b → AreJoined all a b
joined_within nodes all a b some one = record {
  count = one.count;
  keeps = one.keeps;
  links = λ lists r among within h. one.links lists r among (All-weaker (Contains all) (Contains r) (λ n at. All-contains (Contains r) all n within at) nodes some) h;
  small = one.small;
}

pub one_label_kept : (old new nodes : List ℕ) → KeepsLabels old new → All (λ n. n < length old) nodes → HaveOneLabel old nodes → HaveOneLabel new nodes
one_label_kept old new nodes keeps within one m n has_m has_n =
    keeps m n (All-contains (λ k. k < length old) nodes m within has_m) (All-contains (λ k. k < length old) nodes n within has_n) (one m n has_m has_n)

pub marked_kept : (sets : List (List ℕ)) (marks : List Bool) (old new : List ℕ) → length new ≡ length old → KeepsLabels old new → AreMarked sets marks old → AreMarked sets marks new
marked_kept sets marks old new count keeps marked k e =
    let h = marked k e in (
      subst (λ n. All (λ x. x < n) (get_or sets k [])) (sym count) h.0,
      one_label_kept old new (get_or sets k []) keeps h.0 h.1,
    )

-- once a set is joined it may be marked
pub marked_more : (sets : List (List ℕ)) (marks : List Bool) (labels : List ℕ) (set_number : ℕ) → AreMarked sets marks labels → All (λ n. n < length labels) (get_or sets set_number []) →
    HaveOneLabel labels (get_or sets set_number []) → AreMarked sets (set marks set_number true) labels
marked_more sets marks labels i marked there one k e = by_place (cases_same k i)
  where
    cases_same : (x y : ℕ) → (x ≡ y) ⊎ (x ≡ y → ⊥)
    cases_same x y = by_test (x == y) (eq_from_test x y) (λ f same. true≢false (sym (test_from_eq x y same) ∙ f))
      where
        by_test : (t : Bool) → (t ≡ true → x ≡ y) → (t ≡ false → x ≡ y → ⊥) → (x ≡ y) ⊎ (x ≡ y → ⊥)
        by_test true p q = inl (p refl)
        by_test false p q = inr (q refl)

    by_place : (k ≡ i) ⊎ (k ≡ i → ⊥) → All (λ n. n < length labels) (get_or sets k []) × HaveOneLabel labels (get_or sets k [])
    by_place (inl same) = subst (λ j. All (λ n. n < length labels) (get_or sets j []) × HaveOneLabel labels (get_or sets j [])) (sym same) (there, one)
    by_place (inr other) = marked k (sym (get_or-set_other marks i k true false other) ∙ e)

-- ---- lists of nodes one after another
pub nodes_more : (sets : List (List ℕ)) (ks : List ℕ) (i : ℕ) → i < length ks → nodes_in sets (take (i + 1) ks) ≡ nodes_in sets (take i ks) ++ get_or sets (get_or ks i 0) []
nodes_more sets ks i lt =
    ap (nodes_in sets) (take_more ks i 0 lt) ∙ flat_map-append (λ k. get_or sets k []) (take i ks) (get_or ks i 0 ∷ [])
    ∙ ap (λ ns. nodes_in sets (take i ks) ++ ns) (append_nothing (get_or sets (get_or ks i 0) []))
  where
    append_nothing : (ns : List ℕ) → ns ++ [] ≡ ns
    append_nothing [] = refl
    append_nothing (n ∷ ns) = ap (λ ms. n ∷ ms) (append_nothing ns)

pub one_label_append : (labels one other : List ℕ) (m n : ℕ) → HaveOneLabel labels one → HaveOneLabel labels other → Contains one m → Contains other n →
    get_or labels m 0 ≡ get_or labels n 0 → HaveOneLabel labels (one ++ other)
one_label_append labels one other m n left right has_m has_n same i j has_i has_j =
    as_m i (Contains-append_cases one other i has_i) ∙ sym (as_m j (Contains-append_cases one other j has_j))
  where
    as_m : (k : ℕ) → Contains one k ⊎ Contains other k → get_or labels k 0 ≡ get_or labels m 0
    as_m k (inl here) = left k m here has_m
    as_m k (inr there) = right k n there has_n ∙ sym same

-- the sets of some numbers are of the nodes of all of them
pub nodes_of_one : (sets : List (List ℕ)) (ks : List ℕ) (k : ℕ) → Contains ks k → All (Contains (nodes_in sets ks)) (get_or sets k [])
nodes_of_one sets ks k at i d lt = contains_flat (λ j. get_or sets j []) ks k (get_or (get_or sets k []) i d) at (Contains-get_or (get_or sets k []) i d lt)

pub nodes_all : (P : ℕ → Type 0) (sets : List (List ℕ)) (ks : List ℕ) → All (λ k. All P (get_or sets k [])) ks → All P (nodes_in sets ks)
nodes_all P sets [] h = All-nil P
nodes_all P sets (k ∷ ks) h = All-append P (get_or sets k []) (nodes_in sets ks) (h 0 0 (omega arith)) (nodes_all P sets ks (λ i d lt. h (suc i) d (omega (arith, lt))))

-- no list is empty of which something is a member
pub one_of_append : (done nodes : List ℕ) (before after : Option ℕ) → IsOneOf done before → (before ≡ None → (n : ℕ) × Contains nodes n × (after ≡ Some n)) →
    ((n : ℕ) → before ≡ Some n → after ≡ Some n) → IsOneOf (done ++ nodes) after
one_of_append done nodes None after none new old =
    let found = new refl in
    subst (IsOneOf (done ++ nodes)) (sym found.2) (Contains-append_right done nodes found.0 found.1)
one_of_append done nodes (Some n) after some new old = subst (IsOneOf (done ++ nodes)) (sym (old n refl)) (Contains-append_left done nodes n some)

-- ---- the nodes of one set
module _ (nodes start labels new : List ℕ) (i : ℕ) (lt : i < length nodes) (within : All (λ n. n < length start) nodes) (joined : AreJoined nodes start labels) (one : HaveOneLabel labels (take i nodes))
    (merged : AreMerged labels (get_or nodes 0 0) (get_or nodes i 0) new) where
  in_labels : (k : ℕ) → k < length nodes → get_or nodes k 0 < length labels
  in_labels k k_lt = subst (λ n. get_or nodes k 0 < n) (sym joined.count) (within k 0 k_lt)

  pub node_joined : AreJoined nodes start new
  node_joined =
      joined_on nodes start labels new joined
      (merged_joined labels (get_or nodes 0 0) (get_or nodes i 0) new merged nodes (in_labels 0 (omega arith)) (in_labels i lt)
      (Contains-get_or nodes 0 0 (omega arith)) (Contains-get_or nodes i 0 lt))

  as_first : (m : ℕ) → Contains (take i nodes) m → get_or new m 0 ≡ get_or new (get_or nodes 0 0) 0
  as_first m at =
      let some : 0 < i = omega (arith, at.1, length-take i nodes) in
      let has_first : Contains (take i nodes) (get_or nodes 0 0) =
      (0, omega (arith, some, lt, length-take i nodes), get_or-take i nodes 0 (get_or nodes 0 0) some ∙ sym (get_or_default nodes 0 0 (get_or nodes 0 0) (omega arith))) in
      let m_in : m < length labels = subst (λ n. m < n) (sym joined.count) (All-contains (λ n. n < length start) (take i nodes) m (All-take (λ n. n < length start) i nodes within) at) in
      merged_keeps labels (get_or nodes 0 0) (get_or nodes i 0) new merged m (get_or nodes 0 0) m_in (in_labels 0 (omega arith)) (one m (get_or nodes 0 0) at has_first)

  pub node_one_label : HaveOneLabel new (take (i + 1) nodes)
  node_one_label m n has_m has_n = label_is m has_m ∙ sym (label_is n has_n)
    where
      by_cases : (k : ℕ) → Contains (take i nodes) k ⊎ (get_or nodes i 0 ≡ k) → get_or new k 0 ≡ get_or new (get_or nodes 0 0) 0
      by_cases k (inl early) = as_first k early
      by_cases k (inr e) =
          ap (λ j. get_or new j 0) (sym e)
          ∙ sym (merged_one labels (get_or nodes 0 0) (get_or nodes i 0) new merged (in_labels 0 (omega arith)) (in_labels i lt))

      label_is : (k : ℕ) → Contains (take (i + 1) nodes) k → get_or new k 0 ≡ get_or new (get_or nodes 0 0) 0
      label_is k at = by_cases k (Contains-push_cases (take i nodes) (get_or nodes i 0) k (subst (λ ns. Contains ns k) (take_more nodes i 0 lt) at))

-- ---- the sets of one job
module _ (sets : List (List ℕ)) (numbers : List ℕ) (i : ℕ) (lt : i < length numbers) (start labels joined_labels : List ℕ) (earlier : Option ℕ)
    (there : All (λ k. All (λ n. n < length start) (get_or sets k [])) numbers)
    (node : IsOneOf (nodes_in sets (take i numbers)) earlier) (joined : AreJoined (nodes_in sets numbers) start labels) (one : HaveOneLabel labels (nodes_in sets (take i numbers)))
    (next : AreJoined (get_or sets (get_or numbers i 0) []) labels joined_labels) (next_one : HaveOneLabel joined_labels (get_or sets (get_or numbers i 0) [])) where
  abbrev all_nodes : List ℕ
  all_nodes = nodes_in sets numbers

  abbrev done : List ℕ
  done = nodes_in sets (take i numbers)

  abbrev nodes : List ℕ
  nodes = get_or sets (get_or numbers i 0) []

  done_all : All (Contains all_nodes) done
  done_all =
      nodes_all (Contains all_nodes) sets (take i numbers)
      (All-take (λ k. All (Contains all_nodes) (get_or sets k [])) i numbers (λ k d k_lt. nodes_of_one sets numbers (get_or numbers k d) (Contains-get_or numbers k d k_lt)))

  done_within : All (λ n. n < length labels) done
  done_within =
      subst (λ c. All (λ n. n < c) done) (sym joined.count)
      (nodes_all (λ n. n < length start) sets (take i numbers) (All-take (λ k. All (λ n. n < length start) (get_or sets k [])) i numbers there))

  nodes_within : All (λ n. n < length joined_labels) nodes
  nodes_within = subst (λ c. All (λ n. n < c) nodes) (sym (next.count ∙ joined.count)) (there i 0 lt)

  some_within : All (Contains all_nodes) nodes
  some_within = nodes_of_one sets numbers (get_or numbers i 0) (Contains-get_or numbers i 0 lt)

  pub set_joined : AreJoined all_nodes start joined_labels
  set_joined = joined_on all_nodes start labels joined_labels joined (joined_within nodes all_nodes labels joined_labels some_within next)

  set_kept : HaveOneLabel joined_labels done
  set_kept = one_label_kept labels joined_labels done next.keeps done_within one

  pub earlier_within : (n : ℕ) → earlier ≡ Some n → n < length joined_labels
  earlier_within n is =
      subst (λ c. n < c) (sym next.count) (All-contains (λ m. m < length labels) done n done_within (subst (IsOneOf done) is node))

  -- where the set has no node
  done_same : nodes ≡ [] → nodes_in sets (take (i + 1) numbers) ≡ done
  done_same empty = nodes_more sets numbers i lt ∙ ap (λ ns. done ++ ns) empty ∙ append-nil done

  pub none_node : nodes ≡ [] → IsOneOf (nodes_in sets (take (i + 1) numbers)) earlier
  none_node empty = subst (λ ns. IsOneOf ns earlier) (sym (done_same empty)) node

  pub none_one_label : nodes ≡ [] → HaveOneLabel joined_labels (nodes_in sets (take (i + 1) numbers))
  none_one_label empty = subst (HaveOneLabel joined_labels) (sym (done_same empty)) set_kept

  -- and where it has one
  module _ (new : List ℕ) (result : ℕ) (some : 0 < length nodes)
      (last : (r : List ℕ) → ((n : ℕ) → earlier ≡ Some n → Contains r n) → Contains r (get_or nodes 0 0) → AreJoined r joined_labels new)
      (fresh : earlier ≡ None → result ≡ get_or nodes 0 0) (old : (n : ℕ) → earlier ≡ Some n → (result ≡ n) × (get_or new n 0 ≡ get_or new (get_or nodes 0 0) 0)) where
    has_first : Contains nodes (get_or nodes 0 0)
    has_first = Contains-get_or nodes 0 0 some

    last_joined : AreJoined all_nodes joined_labels new
    last_joined =
        last all_nodes (λ n is. All-contains (Contains all_nodes) done n done_all (subst (IsOneOf done) is node)) (All-contains (Contains all_nodes) nodes (get_or nodes 0 0) some_within has_first)

    pub some_joined : AreJoined all_nodes start new
    some_joined = joined_on all_nodes start joined_labels new set_joined last_joined

    pub some_marked : (marks : List Bool) → AreMarked sets marks joined_labels → AreMarked sets marks new
    some_marked marks marked = marked_kept sets marks joined_labels new last_joined.count last_joined.keeps marked

    nodes_one : HaveOneLabel new nodes
    nodes_one = one_label_kept joined_labels new nodes last_joined.keeps nodes_within next_one

    done_one : HaveOneLabel new done
    done_one = one_label_kept joined_labels new done last_joined.keeps (subst (λ c. All (λ n. n < c) done) (sym next.count) done_within) set_kept

    by_earlier : (o : Option ℕ) → earlier ≡ o → IsOneOf done o → IsOneOf (done ++ nodes) (Some result) × HaveOneLabel new (done ++ nodes)
    by_earlier None is empty = (
      Contains-append_right done nodes result (subst (Contains nodes) (sym (fresh is)) has_first),
      subst (λ ns. HaveOneLabel new (ns ++ nodes)) (sym empty) nodes_one,
    )
    by_earlier (Some n) is has = (
      Contains-append_left done nodes result (subst (Contains done) (sym (old n is).0) has),
      one_label_append new done nodes n (get_or nodes 0 0) done_one nodes_one has has_first (old n is).1,
    )

    pub some_node : IsOneOf (nodes_in sets (take (i + 1) numbers)) (Some result)
    some_node = subst (λ ns. IsOneOf ns (Some result)) (sym (nodes_more sets numbers i lt)) (by_earlier earlier refl node).0

    pub some_one_label : HaveOneLabel new (nodes_in sets (take (i + 1) numbers))
    some_one_label = subst (HaveOneLabel new) (sym (nodes_more sets numbers i lt)) (by_earlier earlier refl node).1

-- no node in no set
pub empty_from : (ns : List ℕ) → (length ns == 0) ≡ true → ns ≡ []
empty_from [] e = refl
empty_from (n ∷ ns) e = absurd (true≢false (sym e ∙ test_from_ne (suc (length ns)) 0 (λ f. omega (arith, f))))

pub some_from : (ns : List ℕ) → (length ns == 0) ≡ false → 0 < length ns
some_from [] e = absurd (true≢false (sym (test_from_eq 0 0 refl) ∙ e))
some_from (n ∷ ns) e = omega arith
