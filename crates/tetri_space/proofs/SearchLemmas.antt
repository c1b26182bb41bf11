-- What a search for a job or for a leaf finds.
use Rattle.std.proofs.Common.{◌≡◌, ◌≢◌, ℕ, ◌<◌, ◌≤◌, List, [], ◌∷◌, ◌++◌, length, get_or, drop, map, All, AllPairs, Contains, Bool, true, false, cond, ◌==◌, Option, Some, None, Err, ◌+◌, refl, sym, ap, ◌∙◌, subst, arith, inl, inr}
use Rattle.std.specs.declared.cmp.Ordering.TheVariants.{Less, Equal, Greater}
use Rattle.std.specs.List.{find, AllWithin}
use Rattle.std.specs.List.Sorted.{IsNonDecreasingBy, IsBinarySearchResult}
use Rattle.std.specs.Option.{option_and_then}
use Rattle.std.specs.Ordering.{nat_cmp, ordering_index}
use Rattle.std.proofs.lemmas.Bool.{cases_lt}
use Rattle.std.proofs.lemmas.Bool.Decides.{nat_tests}
use Rattle.std.proofs.lemmas.Cmp.{ranked}
use Rattle.std.proofs.lemmas.List.{length-map, get_or-map, drop_more}
use Rattle.std.proofs.lemmas.List.Elements.{All-head, All-tail, All-map, All-nil, All-cons, All-contains, Contains-append_cases}
use Rattle.tetri_strl.specs.declared.expr.Leaf.{Leaf}
use Rattle.tetri_strl.specs.declared.expr.Expr.{Expr}
use Rattle.tetri_strl.specs.Tree.{Tree, one, join, scale, barrier, Trees, none, more, tree, trees, leaves, leaves_of}
use Rattle.tetri_strl.specs.Aligned.{EachLeaf, EachLeafOf}
use Rattle.tetri_strl.specs.WellMade.{IsGoodLeaf}
use Rattle.tetri_strl.proofs.ExprLaws.{each_good}
use Rattle.tetri_space.specs.declared.instance.Offer.{Offer}
use Rattle.tetri_space.specs.Space.{Bid, Space, bid, leaf_in}
use Rattle.tetri_space.specs.Sound.{HasKnownSet, IsSoundBid, IsSound}
use Rattle.tetri_space.proofs.LeafLemmas.{find-by_key, leaf_in-within}

module _ {X : Type 0} (p : X → Bool) where
  cond_found : (b : Bool) (y : X) (o : Option X) → b ≡ false → cond b (Some y) o ≡ o
  cond_found true y o e = absurd cc
  cond_found false y o e = refl

  -- where no element passes, none is found
  pub find-none : (xs : List X) → All (λ x. p x ≡ false) xs → find p xs ≡ None
  find-none [] fail = refl
  find-none (x ∷ xs) fail =
      cond_found (p x) x (find p xs) (All-head (λ y. p y ≡ false) x xs fail) ∙ find-none xs (All-tail (λ y. p y ≡ false) x xs fail)

  none_cases : (b : Bool) (y : X) (o : Option X) → cond b (Some y) o ≡ None → (b ≡ false) × (o ≡ None)
  none_cases true y o e = absurd cc
  none_cases false y o e = (refl, e)

  -- what is found in the front is found in the whole
  pub find-append_found : (xs ys : List X) (x : X) → find p xs ≡ Some x → find p (xs ++ ys) ≡ Some x
  find-append_found [] ys x e = absurd cc
  find-append_found (y ∷ xs) ys x e = by_test (p y) e (find-append_found xs ys x)
    where
      by_test : (b : Bool) → cond b (Some y) (find p xs) ≡ Some x → (find p xs ≡ Some x → find p (xs ++ ys) ≡ Some x) → cond b (Some y) (find p (xs ++ ys)) ≡ Some x
      by_test true found rest = found
      by_test false found rest = rest found

  -- where nothing is found in the front, the search goes on
  pub find-append_none : (xs ys : List X) → find p xs ≡ None → find p (xs ++ ys) ≡ find p ys
  find-append_none [] ys e = refl
  find-append_none (y ∷ xs) ys e =
      let none = none_cases (p y) y (find p xs) e in
      cond_found (p y) y (find p (xs ++ ys)) none.0 ∙ find-append_none xs ys none.1

-- a job that is not found has no bid
pub none_found : (bs : List Bid) (job : ℕ) → find (λ b. b.job == job) bs ≡ None → All (λ b. b.job ≢ job) bs
none_found [] job e = All-nil (λ (b : Bid). b.job ≢ job)
none_found (b ∷ bs) job e =
    let none = none_cases (λ (c : Bid). c.job == job) (b.job == job) b (find (λ c. c.job == job) bs) e in
    All-cons (λ (c : Bid). c.job ≢ job) b bs (differ none.0) (none_found bs job none.1)
  where
    differ : (b.job == job) ≡ false → b.job ≢ job
    differ other = grind (arith, nat_tests)

order_rises : (x y k : ℕ) → x ≤ y → ordering_index (nat_cmp x k) ≤ ordering_index (nat_cmp y k)
order_rises x y k le = grind (arith, nat_tests)

same_bid : (o : Offer) (job : ℕ) → o.job ≡ job → ◌≡◌ {A = Bid} (bid o) (record { job = job; expr = tree o.expr })
same_bid o job e = cc

module _ (os : List Offer) (ascending : AllPairs (λ (b c : Bid). b.job < c.job) (map bid os)) (job : ℕ) where
  jobs_rise : (i j : ℕ) (d : Offer) → i ≤ j → j < length os → (get_or os i d).job ≤ (get_or os j d).job
  jobs_rise i j d le lt = elim (cases_lt i j) [
    | inl before ↦
        let order : (get_or (map bid os) i (bid d)).job < (get_or (map bid os) j (bid d)).job = ascending i j (bid d) before (omega (arith, length-map os bid)) in
        let here = ap (λ (b : Bid). b.job) (get_or-map bid os i d (bid d) (omega arith)) in
        let there = ap (λ (b : Bid). b.job) (get_or-map bid os j d (bid d) lt) in
        omega (arith, here, there)
    | inr same ↦ let at : i ≡ j = omega arith in let same_job = ap (λ k. (get_or os k d).job) at in omega (arith, same_job)
  ]

  -- the comparisons with a job rise along the offers, as a binary search asks
  pub comparisons_rise : IsNonDecreasingBy (λ (o : Offer). ordering_index (nat_cmp o.job job)) os
  comparisons_rise i j d le lt = order_rises _ _ job (jobs_rise i j d le lt)

  -- the offer of the job is found among the bids
  pub found_bid : (at : ℕ) (o : Offer) → at < length os → o ≡ get_or os at o → nat_cmp o.job job ≡ Equal →
      find (λ b. b.job == job) (map bid os) ≡ Some (record { job = job; expr = tree o.expr })
  found_bid at o lt is equal =
      let same : o.job ≡ job = ranked o.job job _ (sym equal) in
      let apart : AllPairs (λ (b c : Bid). b.job ≢ c.job) (map bid os) = λ i j d before within. λ e. absurd (omega (arith, ascending i j d before within)) in
      let pending : Contains (map bid os) (bid o) = (at, omega (arith, length-map os bid), get_or-map bid os at o (bid o) lt ∙ ap bid (sym is)) in
      subst (λ j. find (λ (b : Bid). b.job == j) (map bid os) ≡ Some (bid o)) same (find-by_key (λ (b : Bid). b.job) (map bid os) (bid o) apart pending)
      ∙ ap Some (same_bid o job same)

  -- where all offers are of lesser or greater jobs, the job has no bid
  pub missing_bid : (at : ℕ) → AllWithin (λ (o : Offer). nat_cmp o.job job ≡ Less) os 0 at → AllWithin (λ (o : Offer). nat_cmp o.job job ≡ Greater) os at (length os) →
      find (λ b. b.job == job) (map bid os) ≡ None
  missing_bid at before behind = find-none (λ (b : Bid). b.job == job) (map bid os) other
    where
      test_false : (x : ℕ) → (x ≡ job → ⊥) → (x == job) ≡ false
      test_false x differ = grind (arith, nat_tests)

      differ : (k : ℕ) (d : Offer) → k < length os → (get_or os k d).job ≡ job → ⊥
      differ k d lt same = elim (cases_lt k at) [
        | inl less ↦ let order : (get_or os k d).job < job = ranked _ job _ (sym (before k d (omega arith) less)) in omega arith
        | inr past ↦ let order : job < (get_or os k d).job = ranked _ job _ (sym (behind k d past lt)) in omega arith
      ]

      other : All (λ (b : Bid). (b.job == job) ≡ false) (map bid os)
      other = All-map (λ (b : Bid). (b.job == job) ≡ false) bid os (λ k d lt. test_false (get_or os k d).job (differ k d lt))

  -- a binary search that finds no offer of the job
  pub searched_bid : (items : List Offer) (at : ℕ) → items ≡ os → IsBinarySearchResult (λ (o : Offer). nat_cmp o.job job) items (Err at) →
      find (λ b. b.job == job) (map bid os) ≡ None
  searched_bid items at same parted =
      let here = subst (λ xs. IsBinarySearchResult (λ (o : Offer). nat_cmp o.job job) xs (Err at)) same parted comparisons_rise in
      missing_bid at here.0 here.1

-- the leaves of the parts that are left begin with those of the next part
pub next_leaves : (es : List Expr) (i : ℕ) (e : Expr) → i < length es → e ≡ get_or es i e →
    leaves_of (trees (drop i es)) ≡ leaves (tree e) ++ leaves_of (trees (drop (i + 1) es))
next_leaves es i e lt is = ap (λ xs. leaves_of (trees xs)) (drop_more es i e lt ∙ ap (λ x. x ∷ drop (i + 1) es) (sym is))

module _ (P : Leaf → Type 0) where
  mutual
    -- a fact of each leaf, at one leaf
    pub EachLeaf-at : (t : Tree) (l : Leaf) → EachLeaf P t → Contains (leaves t) l → P l
    EachLeaf-at (one m) l each at = All-contains P (m ∷ []) l (All-cons P m [] each (All-nil P)) at
    EachLeaf-at (join op ts) l each at = EachLeafOf-at ts l each at
    EachLeaf-at (scale t n) l each at = EachLeaf-at t l each at
    EachLeaf-at (barrier t n) l each at = EachLeaf-at t l each at

    EachLeafOf-at : (ts : Trees) (l : Leaf) → EachLeafOf P ts → Contains (leaves_of ts) l → P l
    EachLeafOf-at none l each at = absurd (omega (arith, at.1))
    EachLeafOf-at (more t ts) l each at = elim (Contains-append_cases (leaves t) (leaves_of ts) l at) [
      | inl front ↦ EachLeaf-at t l each.0 front
      | inr rest ↦ EachLeafOf-at ts l each.1 rest
    ]

-- the leaf of a pending job is looked for among its leaves
pub leaf_found : (bids : List Bid) (job num : ℕ) (b : Bid) (o p : Option Leaf) → find (λ c. c.job == job) bids ≡ Some b →
    p ≡ find (λ l. l.num == num) (leaves b.expr) → p ≡ o → leaf_in bids job num ≡ o
leaf_found bids job num b o p found there is = ap (option_and_then (λ (c : Bid). find (λ l. l.num == num) (leaves c.expr))) found ∙ sym there ∙ is

-- a leaf that a job offers keeps its limits, and its set is known
pub offered_leaf : (s : Space) (job num : ℕ) (l : Leaf) → IsSound s → leaf_in s.bids job num ≡ Some l → IsGoodLeaf l × HasKnownSet s l
offered_leaf s job num l sound found =
    let offered = leaf_in-within s.bids job num l found in
    let good : IsSoundBid s offered.0 = All-contains (IsSoundBid s) s.bids offered.0 sound.sound_bids offered.1.pending in (
      EachLeaf-at IsGoodLeaf offered.0.expr l (each_good offered.0.expr good.well_made.sound) offered.1.below,
      All-contains (HasKnownSet s) (leaves offered.0.expr) l good.known_sets offered.1.below,
    )
