-- The marks and counts of fair grants meet every row, and their objective is at least what the grants are worth.
use Rattle.std.proofs.Common.{◌≡◌, ℕ, ◌+◌, ◌<◌, ◌≤◌, ◌==◌, ◌&&◌, not, Bool, true, false, cond, List, [], ◌∷◌, length, Contains, refl, sym, ap, ◌∙◌, subst, arith, le_trans}
use Rattle.std.specs.Prelude.{nat_lt, nat_le, slice_index_or}
use Rattle.std.specs.List.{list_any, list_all, filter, range_with_len}
use Rattle.std.proofs.lemmas.Bool.{and_parts}
use Rattle.std.proofs.lemmas.Bool.Decides.{nat_tests}
use Rattle.tetri_strl.specs.declared.expr.Leaf.{Leaf}
use Rattle.tetri_strl.specs.declared.grants.Grant.{Grant}
use Rattle.tetri_strl.specs.Aligned.{EachLeaf}
use Rattle.tetri_strl.specs.Thrifty.{IsThriftyFor, held_leaves}
use Rattle.tetri_strl.specs.Tree.{leaves}
use Rattle.tetri_strl.specs.WellMade.{IsGoodLeaf, IsSound}
use Rattle.tetri_strl.specs.Worth.{granted, worth_at, leaf_worth, worth_of}
use Rattle.tetri_strl.proofs.ExprLaws.{AreApart, ungranted, EachLeaf-from, EachLeaf-both, each_good}
use Rattle.tetri_base.specs.Lists.{sum_of, count, has, Each, EachPair, Ascends}
use Rattle.tetri_space.specs.Free.{is_idle, is_closed, is_free}
use Rattle.tetri_space.specs.Partitions.{set_at, part_at, parts_in, is_closed_part, available}
use Rattle.tetri_space.specs.Space.{Bid, Space}
use Rattle.tetri_base.proofs.ListLaws.{eq_from_test, Each-at, Each-from, Each-map, Each-all, Each-append, Each-filter, Each-passed, Each-across, Each-both, EachPair-append, EachPair-filter, EachPair-with, sum_of-le, sum_of-filter-le, filter-ascends, range-ascends}
use Rattle.tetri_compile.specs.Allotted.{suits, granted_in, values_of_bids}
use Rattle.tetri_compile.specs.declared.outline.Tally.{Tally}
use Rattle.tetri_compile.specs.Draft.{is_held, tally_form, supply_row, objective, bid_rows, bid_tallies, part_supply, supply, draft_of}
use Rattle.tetri_compile.specs.Marks.{mark, values}
use Rattle.tetri_compile.specs.Forms.{at_point, AreMet, Reads}
use Rattle.tetri_compile.specs.Usable.{usable_by}
use Rattle.tetri_compile.specs.Walk.{width, form, rows}
use Rattle.tetri_compile.proofs.WalkLemmas.{IsRight, hold, length-values}
use Rattle.tetri_compile.proofs.FormLemmas.{at_point-append, Reads-split, AreMet-append}
use Rattle.tetri_compile.proofs.GrantLemmas.{spread, IsSpread, at_most_one, any_which, held_le_free, IsOnRight, ShareNone, suits_some, shares_le}
use Rattle.tetri_compile.proofs.TallyLemmas.{IsRead, tallies_read, IsOf, tallies_leaf, CountsOther, tallies_other}

pub Each-has : (P : ℕ → Type 0) (ns : List ℕ) (n : ℕ) → Each P ns → has ns n ≡ true → P n
Each-has P ns n h e = any_which (λ m. m == n) P (P n) ns h (λ m p t. subst P (eq_from_test m n t) p) e

pub granted_total : (a : List Grant) (job leaf : ℕ) → granted a job leaf ≡ sum_of (λ g. cond (suits job leaf g) (length g.nodes) 0) a
granted_total [] job leaf = refl
granted_total (g ∷ gs) job leaf = ap (λ n. cond (suits job leaf g) (length g.nodes) 0 + n) (granted_total gs job leaf)

pub lt_from_test : (m n : ℕ) → nat_lt m n ≡ true → m < n
lt_from_test m n e = grind (arith, nat_tests)

pub le_from_test : (m n : ℕ) → nat_le m n ≡ true → m ≤ n
le_from_test m n e = grind (arith, nat_tests)

pub free_below : (i : Space) (n t : ℕ) → is_free i n t ≡ true → n < i.nodes
free_below i n t e =
    let idle = and_parts (is_idle i n t) (not (is_closed i n t)) e in
    let parts = and_parts (nat_lt n i.nodes && not (slice_index_or i.drained n true)) (nat_le (slice_index_or i.busy_until n 0) t) idle.0 in
    lt_from_test n i.nodes (and_parts (nat_lt n i.nodes) (not (slice_index_or i.drained n true)) parts.0).0

-- the nodes of a grant are right for the leaf
pub record IsRightFor (i : Space) (l : Leaf) (nodes : List ℕ) : Type 0 where
  pub ascending : Ascends nodes
  pub few : length nodes ≤ l.k
  pub in_set : Each (λ n. has (set_at i l.set) n ≡ true) nodes
  pub idle : Each (λ n. (slot : ℕ) → l.start ≤ slot → slot < l.start + l.dur → is_free i n slot ≡ true) nodes

-- what all bids together have of the grants
abbrev pub worth_of_bids : List Grant → List Bid → ℕ
worth_of_bids a bs = sum_of (λ b. worth_of a b.job b.expr) bs

-- `keep` gives the grants of a job that are kept
module _ (i : Space) (os : List Bid) (parts : List (List ℕ)) (a : List Grant) (keep : ℕ → List Grant) where
  abbrev pub inside : ℕ → List ℕ
  inside = parts_in i parts

  abbrev pub usable : ℕ → Leaf → ℕ
  usable = usable_by i parts

  abbrev pub room : ℕ → ℕ → ℕ
  room = available i parts

  -- two grants for these leaves hold no node at one slot
  abbrev pub HoldsApart : Grant → Grant → Type 0
  HoldsApart g h = (b c : Bid) (l m : Leaf) → Contains os b → Contains os c → Contains (leaves b.expr) l → Contains (leaves c.expr) m →
      suits b.job l.num g ≡ true → suits c.job m.num h ≡ true → (n slot : ℕ) → has g.nodes n ≡ true → has h.nodes n ≡ true →
      l.start ≤ slot → slot < l.start + l.dur → m.start ≤ slot → slot < m.start + m.dur → ⊥

  -- what is kept of a bid's grants is thrifty and worth no less
  pub record IsKept (b : Bid) : Type 0 where
    pub test : Grant → Bool
    pub filtered : keep b.job ≡ filter test a
    pub thrifty : IsThriftyFor (keep b.job) b.job b.expr
    pub worth : worth_of a b.job b.expr ≤ worth_of (keep b.job) b.job b.expr

  -- the bids are right, the grants are right for their leaves, and the partitions cover their sets and are closed as a whole
  pub record IsFair : Type 0 where
    pub sound : Each (λ b. IsSound b.expr × AreApart b.expr) os
    pub jobs : EachPair (λ b c. b.job ≡ c.job → ⊥) os
    pub right : (b : Bid) (l : Leaf) → Contains os b → Contains (leaves b.expr) l → Each (λ g. suits b.job l.num g ≡ true → IsRightFor i l g.nodes) a
    pub kept : Each IsKept os
    pub single : EachPair (λ g h. (job leaf : ℕ) → suits job leaf g ≡ true → suits job leaf h ≡ true → ⊥) a
    pub apart : EachPair HoldsApart a
    pub covers : (b : Bid) (l : Leaf) → Contains os b → Contains (leaves b.expr) l → (m : ℕ) → has (set_at i l.set) m ≡ true → m < i.nodes →
        count (λ p. has (part_at parts p) m) (inside l.set) ≡ 1
    pub early : (b : Bid) (l : Leaf) → Contains os b → Contains (leaves b.expr) l → i.now ≤ l.start
    pub closed_none : (p t : ℕ) → i.now ≤ t → is_closed_part i parts p t ≡ true → room p t ≡ 0

  module _ (fair : IsFair) where
    single_for : (job leaf : ℕ) → EachPair (λ g h. suits job leaf g ≡ true → suits job leaf h ≡ true → ⊥) a
    single_for job leaf =
        EachPair-with (λ g. Unit {0}) (λ g h. (j l : ℕ) → suits j l g ≡ true → suits j l h ≡ true → ⊥) (λ g h. suits job leaf g ≡ true → suits job leaf h ≡ true → ⊥)
        (λ g h u v f. f job leaf) a (Each-all (λ g. Unit {0}) (λ g. tt) a) fair.single

    module _ (b : Bid) (among : Contains os b) where
      abbrev pub kept : List Grant
      kept = keep b.job

      keeping : IsKept b
      keeping = Each-at IsKept os b fair.kept among

      abbrev pub taken : Leaf → ℕ → ℕ
      taken l p = granted_in kept b.job l.num (part_at parts p)

      abbrev pub value : Leaf → ℕ
      value = leaf_worth kept b.job

      pub good : IsSound b.expr × AreApart b.expr
      good = Each-at (λ c. IsSound c.expr × AreApart c.expr) os b fair.sound among

      -- the leaves of which something is kept
      abbrev pub held : List ℕ
      held = held_leaves kept b.job

      pub granted_few : (l : Leaf) → Contains (leaves b.expr) l → granted a b.job l.num ≤ l.k
      granted_few l below =
          subst (λ n. n ≤ l.k) (sym (granted_total a b.job l.num))
          (le_trans
          (sum_of-le (λ g. cond (suits b.job l.num g) (length g.nodes) 0) (λ g. cond (suits b.job l.num g) l.k 0) a
          (Each-map (λ g. suits b.job l.num g ≡ true → IsRightFor i l g.nodes) (λ g. cond (suits b.job l.num g) (length g.nodes) 0 ≤ cond (suits b.job l.num g) l.k 0)
          (λ g r. by_test (suits b.job l.num g) (length g.nodes) (λ e. (r e).few)) a (fair.right b l among below)))
          (le_trans (at_most_one (suits b.job l.num) l.k a (single_for b.job l.num)) (within (list_any (suits b.job l.num) a))))
        where
          by_test : (t : Bool) (n : ℕ) → (t ≡ true → n ≤ l.k) → cond t n 0 ≤ cond t l.k 0
          by_test true n f = f refl
          by_test false n f = omega arith

          within : (t : Bool) → cond t l.k 0 ≤ l.k
          within true = omega arith
          within false = omega arith

      pub kept-le : (f : Grant → ℕ) → sum_of f kept ≤ sum_of f a
      kept-le f = subst (λ gs. sum_of f gs ≤ sum_of f a) (sym keeping.filtered) (sum_of-filter-le f keeping.test a)

      pub granted_le : (leaf : ℕ) → granted kept b.job leaf ≤ granted a b.job leaf
      granted_le leaf =
          omega (arith, granted_total kept b.job leaf, granted_total a b.job leaf, kept-le (λ g. cond (suits b.job leaf g) (length g.nodes) 0))

      pub counted : (l : Leaf) → Contains (leaves b.expr) l → IsGoodLeaf l → sum_of (taken l) (inside l.set) ≡ granted kept b.job l.num
      counted l below leaf_good =
          spread b.job l.num (part_at parts) (inside l.set) kept
          (subst (Each (IsSpread b.job l.num (part_at parts) (inside l.set))) (sym keeping.filtered) (Each-filter (IsSpread b.job l.num (part_at parts) (inside l.set)) keeping.test a
          (Each-map (λ g. suits b.job l.num g ≡ true → IsRightFor i l g.nodes) (IsSpread b.job l.num (part_at parts) (inside l.set))
          (λ g r e. in_parts g (r e)) a (fair.right b l among below))))
        where
          in_parts : (g : Grant) → IsRightFor i l g.nodes → Each (λ m. count (λ p. has (part_at parts p) m) (inside l.set) ≡ 1) g.nodes
          in_parts g r =
              Each-both (λ m. has (set_at i l.set) m ≡ true) (λ m. (slot : ℕ) → l.start ≤ slot → slot < l.start + l.dur → is_free i m slot ≡ true)
              (λ m. count (λ p. has (part_at parts p) m) (inside l.set) ≡ 1)
              (λ m s f. fair.covers b l among below m s (free_below i m l.start (f l.start (omega arith) (omega (arith, leaf_good.some_slots))))) g.nodes r.in_set r.idle

      leaf_right : (l : Leaf) → Contains (leaves b.expr) l → IsGoodLeaf l → IsRight inside usable value taken held l
      leaf_right l below leaf_good = record {
        good = leaf_good;
        few = omega (arith, counted l below leaf_good, granted_le l.num, granted_few l below);
        worth = ap (worth_at l) (sym (counted l below leaf_good));
        bare = λ bare. counted l below leaf_good ∙ ungranted kept b.job l.num (λ at. bare l.num (0, omega arith, refl) at);
      }

      pub all_right : EachLeaf (IsRight inside usable value taken held) b.expr
      all_right =
          EachLeaf-both (λ l. IsGoodLeaf l → IsRight inside usable value taken held l) IsGoodLeaf (IsRight inside usable value taken held) (λ l f g. f g) b.expr
          (EachLeaf-from (λ l. IsGoodLeaf l → IsRight inside usable value taken held l) b.expr leaf_right) (each_good b.expr good.0)

      bid_holds : (x : ℕ → ℕ) (n : ℕ) → x n ≡ mark (worth_of kept b.job b.expr) → Reads x (n + 1) (values inside value taken b.expr) →
          AreMet x (rows inside usable b.expr n (n + 1)) × (worth_of a b.job b.expr ≤ at_point x (form inside usable b.expr n (n + 1)))
      bid_holds x n at reads =
          let below = hold inside usable value taken held x b.expr all_right keeping.thrifty n (n + 1) at reads in
          (below.0, omega (arith, below.1, keeping.worth))

    bids_hold : (x : ℕ → ℕ) (bs : List Bid) (n : ℕ) → Each (Contains os) bs → Reads x n (values_of_bids inside parts keep bs) →
        AreMet x (bid_rows inside usable bs n) × (worth_of_bids a bs ≤ at_point x (objective inside usable bs n))
    bids_hold x [] n among reads = (tt, omega arith)
    bids_hold x (b ∷ bs) n among reads =
        let split = Reads-split x (n + 1) (width inside usable b.expr) (values inside (value b among.0) (taken b among.0) b.expr) (values_of_bids inside parts keep bs)
        (length-values inside usable (value b among.0) (taken b among.0) [] b.expr) reads.1 in
        let here = bid_holds b among.0 x n reads.0 split.0 in
        let rest = bids_hold x bs (n + 1 + width inside usable b.expr) among.1 split.1 in (
          AreMet-append x _ _ here.0 rest.0,
          omega (arith, here.1, rest.1, at_point-append x (form inside usable b.expr n (n + 1)) (objective inside usable bs (n + 1 + width inside usable b.expr))),
        )

    -- what a count column has at the point
    pub record IsTold (x : ℕ → ℕ) (c : Tally) : Type 0 where
      pub bid : Bid
      pub among : Contains os bid
      pub of_bid : IsOf inside usable bid.job (leaves bid.expr) c
      pub reads : x c.column ≤ granted_in a c.job c.leaf.num (part_at parts c.part)

    bids_told : (x : ℕ → ℕ) (bs : List Bid) (n : ℕ) → Each (Contains os) bs → Reads x n (values_of_bids inside parts keep bs) → Each (IsTold x) (bid_tallies inside usable bs n)
    bids_told x [] n among reads = tt
    bids_told x (b ∷ bs) n among reads =
        let split = Reads-split x (n + 1) (width inside usable b.expr) (values inside (value b among.0) (taken b among.0) b.expr) (values_of_bids inside parts keep bs)
        (length-values inside usable (value b among.0) (taken b among.0) [] b.expr) reads.1 in
        Each-append (IsTold x) _ _
        (Each-both (IsOf inside usable b.job (leaves b.expr)) (IsRead inside usable x (value b among.0) (taken b among.0)) (IsTold x) (λ c o r. told c o r) _
        (tallies_leaf inside usable b.job b.expr (n + 1)) (tallies_read inside usable x (value b among.0) (taken b among.0) b.job b.expr (n + 1) split.0))
        (bids_told x bs (n + 1 + width inside usable b.expr) among.1 split.1)
      where
        told : (c : Tally) → IsOf inside usable b.job (leaves b.expr) c → x c.column ≡ granted_in (kept b among.0) b.job c.leaf.num (part_at parts c.part) → IsTold x c
        told c o r = record {
          bid = b;
          among = among.0;
          of_bid = o;
          reads =
              let f = λ (job : ℕ) (g : Grant). cond (suits job c.leaf.num g) (count (has (part_at parts c.part)) g.nodes) 0 in
              let e : granted_in a c.job c.leaf.num (part_at parts c.part) ≡ sum_of (f b.job) a = ap (λ j. sum_of (f j) a) o.job in
              omega (arith, r, e, kept-le b among.0 (f b.job));
        }

    -- no two count the same
    bids_other : (bs : List Bid) (n : ℕ) → Each (λ b. IsSound b.expr × AreApart b.expr) bs → EachPair (λ b c. b.job ≡ c.job → ⊥) bs →
        EachPair (CountsOther inside usable) (bid_tallies inside usable bs n)
    bids_other [] n fine jobs = tt
    bids_other (b ∷ bs) n fine jobs =
        EachPair-append (CountsOther inside usable) _ _
        (tallies_other inside usable (λ s. filter-ascends (λ p. list_all (has (set_at i s)) (part_at parts p)) (range_with_len 0 (length parts)) (range-ascends 0 (length parts))) b.job b.expr (n + 1) fine.0.1)
        (bids_other bs (n + 1 + width inside usable b.expr) fine.1 jobs.1)
        (Each-across (λ c. c.job ≡ b.job) (λ d. b.job ≡ d.job → ⊥) (CountsOther inside usable) (λ c d p q e f g. q (sym p ∙ e)) _ _
        (Each-map (IsOf inside usable b.job (leaves b.expr)) (λ c. c.job ≡ b.job) (λ c o. o.job) _ (tallies_leaf inside usable b.job b.expr (n + 1)))
        (of_others bs (n + 1 + width inside usable b.expr) jobs.0))
      where
        of_others : (cs : List Bid) (m : ℕ) → Each (λ c. b.job ≡ c.job → ⊥) cs → Each (λ d. b.job ≡ d.job → ⊥) (bid_tallies inside usable cs m)
        of_others [] m h = tt
        of_others (c ∷ cs) m h =
            Each-append (λ d. b.job ≡ d.job → ⊥) _ _
            (Each-map (IsOf inside usable c.job (leaves c.expr)) (λ d. b.job ≡ d.job → ⊥) (λ d o e. h.0 (e ∙ o.job)) _ (tallies_leaf inside usable c.job c.expr (m + 1)))
            (of_others cs (m + 1 + width inside usable c.expr) h.1)

    -- ---- the supply of a partition at a slot
    module _ (x : ℕ → ℕ) (p t : ℕ) where
      pub record IsHeldTally (c : Tally) : Type 0 where
        pub told : IsTold x c
        pub part : c.part ≡ p
        pub early : c.leaf.start ≤ t
        pub late : t < c.leaf.start + c.leaf.dur

      held_tally : (c : Tally) → IsTold x c → is_held p t c ≡ true → IsHeldTally c
      held_tally c told e =
          let one = and_parts (c.part == p && nat_le c.leaf.start t) (nat_lt t (c.leaf.start + c.leaf.dur)) e in
          let two = and_parts (c.part == p) (nat_le c.leaf.start t) one.0 in
          record { told = told; part = eq_from_test c.part p two.0; early = le_from_test c.leaf.start t two.1; late = lt_from_test t (c.leaf.start + c.leaf.dur) one.1 }

      abbrev on : List Tally → Grant → Bool
      on cs = suits_some (λ c. c.job) (λ c. c.leaf.num) cs

      -- which tally a grant is for
      which : (cs : List Tally) (g : Grant) (Q : Type 0) → Each IsHeldTally cs → ((c : Tally) (k : IsHeldTally c) → suits k.told.bid.job c.leaf.num g ≡ true → Q) → on cs g ≡ true → Q
      which cs g Q h f e =
          any_which (λ c. suits c.job c.leaf.num g) IsHeldTally Q cs h
          (λ c k s. f c k (ap (λ j. suits j c.leaf.num g) (sym k.told.of_bid.job) ∙ s)) e

      tally_sum : (cs : List Tally) → at_point x (tally_form cs) ≡ sum_of (λ c. x c.column) cs
      tally_sum [] = refl
      tally_sum (c ∷ cs) = omega (arith, tally_sum cs)

      on_right : (cs : List Tally) → Each IsHeldTally cs → Each (IsOnRight (on cs) (λ n. is_free i n t)) a
      on_right cs h = Each-from (IsOnRight (on cs) (λ n. is_free i n t)) a (λ g at e. which cs g _ h (λ c k s. right_one g at c k s) e)
        where
          right_one : (g : Grant) → Contains a g → (c : Tally) (k : IsHeldTally c) → suits k.told.bid.job c.leaf.num g ≡ true →
              Ascends g.nodes × ((n : ℕ) → has g.nodes n ≡ true → is_free i n t ≡ true)
          right_one g at c k s =
              let b = k.told.bid in
              let r = Each-at (λ h. suits b.job c.leaf.num h ≡ true → IsRightFor i c.leaf h.nodes) a g (fair.right b c.leaf k.told.among k.told.of_bid.leaf) at s in
              (r.ascending, λ n there. Each-has (λ m. (slot : ℕ) → c.leaf.start ≤ slot → slot < c.leaf.start + c.leaf.dur → is_free i m slot ≡ true) g.nodes n r.idle there t k.early k.late)

      on_apart : (cs : List Tally) → Each IsHeldTally cs → EachPair (ShareNone (on cs) (λ n. is_free i n t)) a
      on_apart cs h =
          EachPair-with (λ g. Unit {0}) HoldsApart (ShareNone (on cs) (λ n. is_free i n t))
          (λ g k u v apart e f n p q.
          which cs g ⊥ h (λ c j s. which cs k ⊥ h (λ d l r.
          apart j.told.bid l.told.bid c.leaf d.leaf j.told.among l.told.among j.told.of_bid.leaf l.told.of_bid.leaf s r n t p q j.early j.late l.early l.late) f) e)
          a (Each-all (λ g. Unit {0}) (λ g. tt) a) fair.apart

      pub supply_le : (cs : List Tally) → Each IsHeldTally cs → EachPair (CountsOther inside usable) cs → at_point x (tally_form cs) ≤ room p t
      supply_le cs h other =
          subst (λ n. n ≤ room p t) (sym (tally_sum cs))
          (le_trans
          (sum_of-le (λ c. x c.column) (λ c. granted_in a c.job c.leaf.num (part_at parts p)) cs
          (Each-map IsHeldTally (λ c. x c.column ≤ granted_in a c.job c.leaf.num (part_at parts p))
          (λ c k. subst (λ q. x c.column ≤ granted_in a c.job c.leaf.num (part_at parts q)) k.part k.told.reads) cs h))
          (le_trans
          (shares_le (λ c. c.job) (λ c. c.leaf.num) (part_at parts p) cs a (λ g. each_other g))
          (held_le_free (on cs) (λ n. is_free i n t) (part_at parts p) a (on_right cs h) (on_apart cs h))))
        where
          each_other : (g : Grant) → EachPair (λ c d. suits c.job c.leaf.num g ≡ true → suits d.job d.leaf.num g ≡ true → ⊥) cs
          each_other g =
              EachPair-with IsHeldTally (CountsOther inside usable) (λ c d. suits c.job c.leaf.num g ≡ true → suits d.job d.leaf.num g ≡ true → ⊥)
              (λ c d j k o s r.
              let one = and_parts (g.job == c.job) (g.leaf == c.leaf.num) s in
              let two = and_parts (g.job == d.job) (g.leaf == d.leaf.num) r in
              o (sym (eq_from_test g.job c.job one.0) ∙ eq_from_test g.job d.job two.0)
              (sym (eq_from_test g.leaf c.leaf.num one.1) ∙ eq_from_test g.leaf d.leaf.num two.1)
              (j.part ∙ sym k.part)) cs h other

    supply_met : (x : ℕ → ℕ) (cs : List Tally) (slots ps : List ℕ) → Each (IsTold x) cs → EachPair (CountsOther inside usable) cs → AreMet x (supply room cs slots ps)
    supply_met x cs slots [] told other = tt
    supply_met x cs slots (p ∷ ps) told other = AreMet-append x _ _ (part_met slots) (supply_met x cs slots ps told other)
      where
        one_met : (t : ℕ) (ds : List Tally) → at_point x (tally_form ds) ≤ room p t → AreMet x (supply_row ds (room p t))
        one_met t [] le = tt
        one_met t (d ∷ ds) le = (omega arith, tt)

        all_held : (t : ℕ) → Each (IsHeldTally x p t) (filter (is_held p t) cs)
        all_held t =
            Each-both (IsTold x) (λ c. is_held p t c ≡ true) (IsHeldTally x p t) (λ c k e. held_tally x p t c k e) (filter (is_held p t) cs)
            (Each-filter (IsTold x) (is_held p t) cs told) (Each-passed (λ c. is_held p t c ≡ true) (is_held p t) (λ c e. e) cs)

        part_met : (ts : List ℕ) → AreMet x (part_supply room cs p ts)
        part_met [] = tt
        part_met (t ∷ ts) = AreMet-append x _ _ (one_met t (filter (is_held p t) cs)
            (supply_le x p t (filter (is_held p t) cs) (all_held t) (EachPair-filter (CountsOther inside usable) (is_held p t) cs other))) (part_met ts)

    -- the point of the allotment meets every row of the program, and its objective is at least the sum_of
    pub first_law : (x : ℕ → ℕ) → Reads x 0 (values_of_bids inside parts keep os) →
        AreMet x (draft_of i os parts).rows × (worth_of_bids a os ≤ at_point x (draft_of i os parts).objective)
    first_law x reads =
        let all = Each-from (Contains os) os (λ b at. at) in
        let here = bids_hold x os 0 all reads in (
          AreMet-append x _ _ here.0
              (supply_met x (bid_tallies inside usable os 0) (range_with_len i.now i.window) (range_with_len 0 (length parts)) (bids_told x os 0 all reads) (bids_other os 0 fair.sound fair.jobs)),
          here.1,
        )
