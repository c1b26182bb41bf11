-- The grants have exactly the counts, and are worth no less than the program earns.
use Rattle.std.proofs.Common.{◌≡◌, ℕ, ◌+◌, ◌≤◌, ◌==◌, ◌&&◌, ◌||◌, Bool, true, false, cond, List, [], ◌∷◌, length, Contains, refl, sym, ap, ◌∙◌, subst, arith, true≢false}
use Rattle.std.proofs.lemmas.Bool.{or_right, false_from_ne_true}
use Rattle.tetri_strl.specs.declared.expr.Leaf.{Leaf}
use Rattle.tetri_strl.specs.declared.grants.Grant.{Grant}
use Rattle.tetri_strl.specs.Aligned.{EachLeaf, EachLeafOf}
use Rattle.tetri_strl.specs.Tree.{Tree, one, join, scale, barrier, Trees, none, more, leaves}
use Rattle.tetri_strl.specs.WellMade.{IsSound}
use Rattle.tetri_strl.specs.Worth.{granted, worth_at, leaf_worth}
use Rattle.tetri_strl.proofs.ExprLaws.{AreApart}
use Rattle.tetri_base.specs.Lists.{sum_of, bit, has, Each, EachPair}
use Rattle.tetri_space.specs.Partitions.{part_at}
use Rattle.tetri_space.specs.Space.{Bid, Space}
use Rattle.tetri_space.proofs.InstanceLaws.{EachLeaf-at}
use Rattle.tetri_base.proofs.ListLaws.{eq_from_test, test_from_eq, test_from_ne, sum_of-eq, sum_of-zero, sum_of-one, sum_of-append, Each-map, Each-all, Each-append, Each-both, Each-at, Each-from}
use Rattle.tetri_compile.specs.declared.outline.Tally.{Tally}
use Rattle.tetri_compile.specs.Draft.{tallies, bid_uppers, objective, bid_rows, bid_tallies}
use Rattle.tetri_compile.specs.Forms.{at_point, run, AreMet, Within}
use Rattle.tetri_compile.specs.Walk.{own_uppers, uppers, width, form, rows}
use Rattle.tetri_compile.proofs.ProgramLaws.{AreMet-split, IsOf, Within-split, at_point-append, tallies_leaf, worth_of_bids}
use Rattle.tetri_assign.specs.Assigned.{Piece, piece, pieces, all_held, held_before, gathered}
use Rattle.tetri_base.specs.Order.{in_order}
use Rattle.tetri_assign.proofs.Counted.{AtLeaves, AtLeavesOf, IsCounted}
use Rattle.tetri_assign.proofs.FormBelow.{form_le}
use Rattle.tetri_assign.proofs.LeafSums.{AtLeaves-map, tree_sum, number_sum, few}
use Rattle.tetri_compile.specs.Allotted.{granted_in}
use Rattle.tetri_assign.proofs.HeldLemmas.{weigh_pieces, granted_weigh}
use Rattle.tetri_assign.proofs.Meeting.{parts, inside, usable, cs, IsMeeting, ordered, made_pieces, part_ascends, parts_differ, right, rows_met, zeros_vanish, cond_zero}
use Rattle.tetri_assign.proofs.Pieces.{IsExact}

module _ (inside : ℕ → List ℕ) (usable : ℕ → Leaf → ℕ) (P Q : Leaf → ℕ → Type 0) (C : Leaf → Type 0) (f : (l : Leaf) (m : ℕ) → P l m → Q l m → C l) where
  mutual
    -- two facts at each leaf give one of the leaf alone
    AtLeaves-join : (t : Tree) (n : ℕ) → AtLeaves inside usable P t n → AtLeaves inside usable Q t n → EachLeaf C t
    AtLeaves-join (one l) n p q = f l n p q
    AtLeaves-join (join op ts) n p q = AtLeavesOf-join ts (n + length (own_uppers inside usable op ts)) p q
    AtLeaves-join (scale t s) n p q = AtLeaves-join t n p q
    AtLeaves-join (barrier t v) n p q = AtLeaves-join t n p q

    AtLeavesOf-join : (ts : Trees) (n : ℕ) → AtLeavesOf inside usable P ts n → AtLeavesOf inside usable Q ts n → EachLeafOf C ts
    AtLeavesOf-join none n p q = tt
    AtLeavesOf-join (more t ts) n p q = (AtLeaves-join t n p.0 q.0, AtLeavesOf-join ts (n + width inside usable t) p.1 q.1)

module _ (i : Space) (os : List Bid) (asks marks : List (List ℕ)) (x : ℕ → ℕ) (meets : IsMeeting i os asks marks x) where
  abbrev pub made : List Grant
  made = gathered (in_order held_before (all_held (made_pieces i os asks marks x meets)))

  abbrev ins : ℕ → List ℕ
  ins = inside i os asks marks x

  abbrev rm : ℕ → Leaf → ℕ
  rm = usable i os asks marks x

  abbrev Exact : Piece → Type 0
  Exact q = IsExact i (parts i os asks marks x) x (part_ascends i os asks marks x meets) (parts_differ i os asks marks x meets) q

  -- the pieces are of the counts
  sum_of-pieces : (h : Tally → ℕ) (qs : List Piece) (ds : List Tally) → sum_of (λ q. h q.tally) (pieces i (parts i os asks marks x) x qs ds) ≡ sum_of h ds + sum_of (λ q. h q.tally) qs
  sum_of-pieces h qs [] = omega arith
  sum_of-pieces h qs (d ∷ ds) = omega (arith, sum_of-pieces h (piece i (parts i os asks marks x) x qs d ∷ qs) ds)

  pieces_sum : (h : Tally → ℕ) → ((c : Tally) → x c.column ≡ 0 → h c ≡ 0) → sum_of (λ q. h q.tally) (made_pieces i os asks marks x meets) ≡ sum_of h (cs i os asks marks x)
  pieces_sum h zero_at = omega (arith, sum_of-pieces h [] (ordered i os asks marks x meets), zeros_vanish i os asks marks x meets h zero_at)

  -- ---- a leaf's nodes
  abbrev of_leaf : ℕ → ℕ → Tally → Bool
  of_leaf job leaf d = d.job == job && d.leaf.num == leaf

  pub granted_sum : (job leaf : ℕ) → granted made job leaf ≡ sum_of (λ d. cond (of_leaf job leaf d) (x d.column) 0) (cs i os asks marks x)
  granted_sum job leaf =
      granted_weigh made job leaf
      ∙ weigh_pieces (λ n. 1) job leaf (made_pieces i os asks marks x meets)
      ∙ sum_of-eq (λ q. cond (of_leaf job leaf q.tally) (sum_of (λ n. 1) q.nodes) 0) (λ q. cond (of_leaf job leaf q.tally) (x q.tally.column) 0) (made_pieces i os asks marks x meets)
      (Each-map Exact (λ q. cond (of_leaf job leaf q.tally) (sum_of (λ n. 1) q.nodes) 0 ≡ cond (of_leaf job leaf q.tally) (x q.tally.column) 0)
      (λ q exact. ap (λ n. cond (of_leaf job leaf q.tally) n 0) (sum_of-one q.nodes ∙ exact.many)) (made_pieces i os asks marks x meets) (right i os asks marks x meets).0)
      ∙ pieces_sum (λ d. cond (of_leaf job leaf d) (x d.column) 0) (λ d e. cond_zero i os asks marks x meets (of_leaf job leaf d) (x d.column) e)

  -- ---- a leaf's nodes of one partition
  in_part : (q : Piece) → Exact q → (p : ℕ) → sum_of (λ n. bit (has (part_at (parts i os asks marks x) p) n)) q.nodes ≡ cond (q.tally.part == p) (x q.tally.column) 0
  in_part q exact p = by_part (q.tally.part == p) refl
    where
      own : List ℕ → Type 0
      own ns = Each (λ n. has q.nodes n ≡ true) ns

      nodes_own : own q.nodes
      nodes_own = has_own q.nodes
        where
          has_own : (ns : List ℕ) → Each (λ n. has ns n ≡ true) ns
          has_own [] = tt
          has_own (n ∷ ns) = (
            ap (λ b. b || has ns n) (test_from_eq n n refl),
            Each-map (λ m. has ns m ≡ true) (λ m. has (n ∷ ns) m ≡ true) (λ m e. or_right (n == m) (has ns m) e) ns (has_own ns),
          )

      by_part : (b : Bool) → (q.tally.part == p) ≡ b → sum_of (λ n. bit (has (part_at (parts i os asks marks x) p) n)) q.nodes ≡ cond b (x q.tally.column) 0
      by_part true e =
          sum_of-eq (λ n. bit (has (part_at (parts i os asks marks x) p) n)) (λ n. 1) q.nodes
          (Each-map (λ n. has q.nodes n ≡ true) (λ n. bit (has (part_at (parts i os asks marks x) p) n) ≡ 1)
          (λ n t. ap bit (subst (λ (r : ℕ). has (part_at (parts i os asks marks x) r) n ≡ true) (eq_from_test q.tally.part p e) (exact.in_part n t))) q.nodes nodes_own)
          ∙ sum_of-one q.nodes ∙ exact.many
      by_part false e =
          sum_of-eq (λ n. bit (has (part_at (parts i os asks marks x) p) n)) (λ n. 0) q.nodes
          (Each-map (λ n. has q.nodes n ≡ true) (λ n. bit (has (part_at (parts i os asks marks x) p) n) ≡ 0)
          (λ n t. ap bit (false_from_ne_true (has (part_at (parts i os asks marks x) p) n) (λ u.
          true≢false (sym (test_from_eq q.tally.part p (parts_differ i os asks marks x meets q.tally.part p n (exact.in_part n t) u)) ∙ e)))) q.nodes nodes_own)
          ∙ sum_of-zero q.nodes

  nested : (a b : Bool) (n : ℕ) → cond a (cond b n 0) 0 ≡ cond (a && b) n 0
  nested true b n = refl
  nested false b n = refl

  pub granted_parts : (job leaf p : ℕ) →
      granted_in made job leaf (part_at (parts i os asks marks x) p) ≡ sum_of (λ d. cond (of_leaf job leaf d && d.part == p) (x d.column) 0) (cs i os asks marks x)
  granted_parts job leaf p =
      weigh_pieces (λ n. bit (has (part_at (parts i os asks marks x) p) n)) job leaf (made_pieces i os asks marks x meets)
      ∙ sum_of-eq (λ q. cond (of_leaf job leaf q.tally) (sum_of (λ n. bit (has (part_at (parts i os asks marks x) p) n)) q.nodes) 0)
      (λ q. cond (of_leaf job leaf q.tally && q.tally.part == p) (x q.tally.column) 0) (made_pieces i os asks marks x meets)
      (Each-map Exact (λ q. cond (of_leaf job leaf q.tally) (sum_of (λ n. bit (has (part_at (parts i os asks marks x) p) n)) q.nodes) 0 ≡ cond (of_leaf job leaf q.tally && q.tally.part == p) (x q.tally.column) 0)
      (λ q exact. ap (λ n. cond (of_leaf job leaf q.tally) n 0) (in_part q exact p) ∙ nested (of_leaf job leaf q.tally) (q.tally.part == p) (x q.tally.column)) (made_pieces i os asks marks x meets) (right i os asks marks x meets).0)
      ∙ pieces_sum (λ d. cond (of_leaf job leaf d && d.part == p) (x d.column) 0) (λ d e. cond_zero i os asks marks x meets (of_leaf job leaf d && d.part == p) (x d.column) e)

  -- ---- the counts of one job
  abbrev pub job_sum : ℕ → ℕ → List Tally → ℕ
  job_sum job num ds = sum_of (λ d. cond (of_leaf job num d) (x d.column) 0) ds

  sum_here : (job num : ℕ) (ds : List Tally) → Each (λ d. d.job ≡ job) ds → job_sum job num ds ≡ number_sum ins rm x num ds
  sum_here job num ds h =
      sum_of-eq (λ d. cond (of_leaf job num d) (x d.column) 0) (λ d. cond (d.leaf.num == num) (x d.column) 0) ds
      (Each-map (λ d. d.job ≡ job) (λ d. cond (of_leaf job num d) (x d.column) 0 ≡ cond (d.leaf.num == num) (x d.column) 0)
      (λ d e. ap (λ b. cond (b && d.leaf.num == num) (x d.column) 0) (test_from_eq d.job job e)) ds h)

  sum_away : (job num : ℕ) (ds : List Tally) → Each (λ d. d.job ≡ job → ⊥) ds → job_sum job num ds ≡ 0
  sum_away job num ds h =
      sum_of-eq (λ d. cond (of_leaf job num d) (x d.column) 0) (λ d. 0) ds
      (Each-map (λ d. d.job ≡ job → ⊥) (λ d. cond (of_leaf job num d) (x d.column) 0 ≡ 0)
      (λ d e. ap (λ b. cond (b && d.leaf.num == num) (x d.column) 0) (test_from_ne d.job job e)) ds h)
      ∙ sum_of-zero ds

  tallies_job : (b : Bid) (n : ℕ) → Each (λ d. d.job ≡ b.job) (tallies ins rm b.job b.expr n)
  tallies_job b n = Each-map (IsOf ins rm b.job (leaves b.expr)) (λ d. d.job ≡ b.job) (λ d o. o.job) _ (tallies_leaf ins rm b.job b.expr n)

  job_away : (c : Bid) (ds : List Bid) (m : ℕ) → Each (λ d. c.job ≡ d.job → ⊥) ds → Each (λ d. d.job ≡ c.job → ⊥) (bid_tallies ins rm ds m)
  job_away c [] m h = tt
  job_away c (d ∷ ds) m h =
      Each-append (λ e. e.job ≡ c.job → ⊥) _ _
      (Each-map (λ e. e.job ≡ d.job) (λ e. e.job ≡ c.job → ⊥) (λ e p f. h.0 (sym f ∙ p)) _ (tallies_job d (m + 1))) (job_away c ds (m + 1 + width ins rm d.expr) h.1)

  -- the whole sum is the bid's own, for each of these bids
  abbrev IsOwn : List Bid → ℕ → Bid → Type 0
  IsOwn bs n b = (num : ℕ) → job_sum b.job num (cs i os asks marks x) ≡ job_sum b.job num (bid_tallies ins rm bs n)

  -- each leaf of the bid has what its columns from number n on say
  abbrev HasCounts : Bid → ℕ → Type 0
  HasCounts b n = AtLeaves ins rm (λ l m. granted made b.job l.num ≡ at_point x (run 1 m (ins l.set))) b.expr (n + 1)

  has_counts : (b : Bid) (bs : List Bid) (n : ℕ) → AreApart b.expr → Each (λ c. b.job ≡ c.job → ⊥) bs → IsOwn (b ∷ bs) n b → HasCounts b n
  has_counts b bs n apart jobs own =
      let mine = tallies ins rm b.job b.expr (n + 1) in
      let m = n + 1 + width ins rm b.expr in
      let rest = bid_tallies ins rm bs m in
      AtLeaves-map ins rm (λ l k. number_sum ins rm x l.num mine ≡ at_point x (run 1 k (ins l.set))) (λ l k. granted made b.job l.num ≡ at_point x (run 1 k (ins l.set))) b.expr (n + 1)
      (λ l k at e. omega (
        arith,
        e,
        granted_sum b.job l.num,
        own l.num,
        sum_of-append (λ d. cond (of_leaf b.job l.num d) (x d.column) 0) mine rest,
        sum_here b.job l.num mine (tallies_job b (n + 1)),
        sum_away b.job l.num rest (job_away b bs m jobs),
      ))
      (tree_sum ins rm x b.job b.expr (n + 1) apart)

  own_rest : (b : Bid) (bs : List Bid) (n : ℕ) → Each (λ c. b.job ≡ c.job → ⊥) bs → Each (IsOwn (b ∷ bs) n) bs → Each (IsOwn bs (n + 1 + width ins rm b.expr)) bs
  own_rest b bs n jobs own =
      let mine = tallies ins rm b.job b.expr (n + 1) in
      let rest = bid_tallies ins rm bs (n + 1 + width ins rm b.expr) in
      Each-both (IsOwn (b ∷ bs) n) (λ c. b.job ≡ c.job → ⊥) (IsOwn bs (n + 1 + width ins rm b.expr))
      (λ c o ne num. omega (
        arith,
        o num,
        sum_of-append (λ d. cond (of_leaf c.job num d) (x d.column) 0) mine rest,
        sum_away c.job num mine (Each-map (λ d. d.job ≡ b.job) (λ d. d.job ≡ c.job → ⊥) (λ d e f. ne (sym e ∙ f)) mine (tallies_job b (n + 1))),
      )) bs own jobs

  -- what holds of each bid at a point
  pub record HasBid (b : Bid) (n : ℕ) : Type 0 where
    pub good : IsSound b.expr × AreApart b.expr
    pub mark : x n ≤ 1
    pub box : Within x (n + 1) (uppers ins rm b.expr)
    pub met : AreMet x (rows ins rm b.expr n (n + 1))
    pub counts : HasCounts b n

  abbrev HaveBids : List Bid → ℕ → Type 0
  HaveBids [] n = Unit {0}
  HaveBids (b ∷ bs) n = HasBid b n × HaveBids bs (n + 1 + width ins rm b.expr)

  have_bids : (bs : List Bid) (n : ℕ) → Each (Contains os) bs → EachPair (λ b c. b.job ≡ c.job → ⊥) bs → Each (IsOwn bs n) bs →
      Within x n (bid_uppers ins rm bs) → AreMet x (bid_rows ins rm bs n) → HaveBids bs n
  have_bids [] n among jobs own box met = tt
  have_bids (b ∷ bs) n among jobs own box met =
      let good = Each-at (λ c. IsSound c.expr × AreApart c.expr) os b meets.sound among.0 in
      let m = n + 1 + width ins rm b.expr in
      let boxes = Within-split x (n + 1) (uppers ins rm b.expr) (bid_uppers ins rm bs) box.1 in
      let mets = AreMet-split x (rows ins rm b.expr n (n + 1)) (bid_rows ins rm bs m) met in (
        record { good = good; mark = box.0; box = boxes.0; met = mets.0; counts = has_counts b bs n good.1 jobs.0 own.0 },
        have_bids bs m among.1 jobs.1 (own_rest b bs n jobs.0 own.1) boxes.1 mets.1,
      )

  all_bids : HaveBids os 0
  all_bids = have_bids os 0 (Each-from (Contains os) os (λ b at. at)) meets.jobs (Each-all (IsOwn os 0) (λ b num. refl) os) meets.box (rows_met i os asks marks x meets).0

  -- the grants are worth at least the form
  bids_worth : (bs : List Bid) (n : ℕ) → HaveBids bs n → at_point x (objective ins rm bs n) ≤ worth_of_bids made bs
  bids_worth [] n have = omega arith
  bids_worth (b ∷ bs) n have =
      let h = have.0 in
      let counted : IsCounted ins rm x (leaf_worth made b.job) b.expr (n + 1) =
      AtLeaves-map ins rm (λ l m. granted made b.job l.num ≡ at_point x (run 1 m (ins l.set))) (λ l m. leaf_worth made b.job l ≡ worth_at l (at_point x (run 1 m (ins l.set)))) b.expr (n + 1)
      (λ l m at e. ap (worth_at l) e) h.counts in
      let here = form_le ins rm x (leaf_worth made b.job) b.expr h.good.0 n (n + 1) h.mark h.box h.met counted in
      let later = bids_worth bs (n + 1 + width ins rm b.expr) have.1 in
      omega (arith, here, later, at_point-append x (form ins rm b.expr n (n + 1)) (objective ins rm bs (n + 1 + width ins rm b.expr)))

  pub earns_no_less : at_point x (objective ins rm os 0) ≤ worth_of_bids made os
  earns_no_less = bids_worth os 0 all_bids

  -- no leaf is granted more than it asks for
  bids_few : (bs : List Bid) (n : ℕ) → HaveBids bs n → Each (λ b. EachLeaf (λ l. granted made b.job l.num ≤ l.k) b.expr) bs
  bids_few [] n have = tt
  bids_few (b ∷ bs) n have =
      let h = have.0 in (
        AtLeaves-join ins rm (λ l m. granted made b.job l.num ≡ at_point x (run 1 m (ins l.set))) (λ l m. at_point x (run 1 m (ins l.set)) ≤ l.k)
            (λ l. granted made b.job l.num ≤ l.k) (λ l m e le. omega (arith, e, le)) b.expr (n + 1) h.counts (few ins rm x b.expr n (n + 1) h.mark h.box h.met),
        bids_few bs (n + 1 + width ins rm b.expr) have.1,
      )

  pub granted_few : (b : Bid) (l : Leaf) → Contains os b → Contains (leaves b.expr) l → granted made b.job l.num ≤ l.k
  granted_few b l among below =
      EachLeaf-at (λ m. granted made b.job m.num ≤ m.k) b.expr l (Each-at (λ c. EachLeaf (λ m. granted made c.job m.num ≤ m.k) c.expr) os b (bids_few os 0 all_bids) among) below
