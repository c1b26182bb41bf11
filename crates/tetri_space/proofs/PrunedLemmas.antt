-- What is left of bids in a range of slots keeps what the bids had.
use Rattle.std.proofs.Common.{◌≡◌, ℕ, zero, suc, ◌*◌, ◌≤◌, max, Bool, true, false, cond, List, [], ◌∷◌, ◌++◌, length, map, Option, Some, None, is_none, Contains, refl, sym, ap, ◌∙◌, subst, arith, ⊎_elim, le_trans}
use Rattle.std.proofs.Math.Nat.{mul-le-mul_left}
use Rattle.std.specs.List.{list_any}
use Rattle.std.proofs.lemmas.List.{length-append}
use Rattle.std.proofs.lemmas.List.Elements.{Contains-append_left, Contains-append_right, Contains-append_cases}
use Rattle.tetri_strl.specs.declared.expr.Leaf.{Leaf}
use Rattle.tetri_strl.specs.Prune.{starts_in, kept, join_kept, pruned_join, pruned_scale, pruned_barrier, pruned, pruned_of}
use Rattle.tetri_strl.specs.Tree.{Operator, greatest, least, added, Tree, one, join, scale, barrier, Trees, none, more, row, leaves, leaves_of, numbers, numbers_of}
use Rattle.tetri_strl.specs.WellMade.{peak, peaks, peak_joined, PEAK, HasChild, IsSound, AreSound, depth, depth_of}
use Rattle.tetri_strl.specs.Worth.{greatest_of, added_of}
use Rattle.tetri_strl.proofs.ExprLaws.{AreApart, AreApartOf}
use Rattle.tetri_base.specs.Lists.{Each, EachPair}
use Rattle.tetri_space.specs.Partitions.{with_left, bids_left, set_at, sets_in, asked}
use Rattle.tetri_space.specs.Space.{Bid, Space}
use Rattle.tetri_base.proofs.ListLaws.{Each-map}

-- a fact of what is left, if anything is
abbrev pub OfLeft : (Tree → Type 0) → Option Tree → Type 0
OfLeft P None = Unit {0}
OfLeft P (Some t) = P t

of_join_some : (P : Tree → Type 0) (op : Operator) (ts : List Tree) → (HasChild (row ts) → P (join op (row ts))) → OfLeft P (join_kept op ts)
of_join_some P op [] f = tt
of_join_some P op (t ∷ ts) f = f tt

pub of_join : (P : Tree → Type 0) (op : Operator) (os : List (Option Tree)) → (HasChild (row (kept os)) → P (join op (row (kept os)))) → OfLeft P (pruned_join op os)
of_join P greatest os f = of_join_some P greatest (kept os) f
of_join P least os f = by_lost (list_any is_none os)
  where
    by_lost : (b : Bool) → OfLeft P (cond b None (join_kept least (kept os)))
    by_lost true = tt
    by_lost false = of_join_some P least (kept os) f
of_join P added os f = of_join_some P added (kept os) f

pub of_scale : (P Q : Tree → Type 0) (s : ℕ) (o : Option Tree) → ((t : Tree) → Q t → P (scale t s)) → OfLeft Q o → OfLeft P (pruned_scale o s)
of_scale P Q s None f h = tt
of_scale P Q s (Some t) f h = f t h

pub of_bar : (P Q : Tree → Type 0) (v : ℕ) (o : Option Tree) → ((t : Tree) → Q t → P (barrier t v)) → OfLeft Q o → OfLeft P (pruned_barrier o v)
of_bar P Q v None f h = tt
of_bar P Q v (Some t) f h = f t h

module _ (from to : ℕ) where
  -- the leaves are among these, and count
  abbrev pub AreFrom : List Leaf → List Leaf → Type 0
  AreFrom ls ms = (l : Leaf) → Contains ms l → Contains ls l × (starts_in from to l ≡ true)

  cons_from : (ls ms : List Leaf) (o : Option Tree) (os : List (Option Tree)) → OfLeft (λ u. AreFrom ls (leaves u)) o → AreFrom ms (leaves_of (row (kept os))) → AreFrom (ls ++ ms) (leaves_of (row (kept (o ∷ os))))
  cons_from ls ms None os h k l at = let rest = k l at in (Contains-append_right ls ms l rest.0, rest.1)
  cons_from ls ms (Some u) os h k l at =
      ⊎_elim (λ p. let here = h l p in (Contains-append_left ls ms l here.0, here.1)) (λ p. let rest = k l p in (Contains-append_right ls ms l rest.0, rest.1))
      (Contains-append_cases (leaves u) (leaves_of (row (kept os))) l at)

  mutual
    pub left_leaves : (t : Tree) → OfLeft (λ u. AreFrom (leaves t) (leaves u)) (pruned from to t)
    left_leaves (one l) = by_count l (starts_in from to l) (λ e. e)
      where
        by_count : (m : Leaf) (b : Bool) → (b ≡ true → starts_in from to m ≡ true) → OfLeft (λ u. AreFrom (m ∷ []) (leaves u)) (cond b (Some (one m)) None)
        by_count m true f = λ j at. (at, only m j (f refl) at)
          where
            only : (n k : Leaf) → starts_in from to n ≡ true → Contains (n ∷ []) k → starts_in from to k ≡ true
            only n k e (zero, lt, same) = sym (ap (starts_in from to) same) ∙ e
            only n k e (suc p, lt, same) = absurd (omega (arith, lt))
        by_count m false f = tt
    left_leaves (join op ts) = of_join (λ u. AreFrom (leaves_of ts) (leaves u)) op (pruned_of from to ts) (λ some. left_leaves_of ts)
    left_leaves (scale t s) = of_scale (λ u. AreFrom (leaves t) (leaves u)) (λ u. AreFrom (leaves t) (leaves u)) s (pruned from to t) (λ u h. h) (left_leaves t)
    left_leaves (barrier t v) = of_bar (λ u. AreFrom (leaves t) (leaves u)) (λ u. AreFrom (leaves t) (leaves u)) v (pruned from to t) (λ u h. h) (left_leaves t)

    left_leaves_of : (ts : Trees) → AreFrom (leaves_of ts) (leaves_of (row (kept (pruned_of from to ts))))
    left_leaves_of none = λ l at. absurd (omega (arith, at.1))
    left_leaves_of (more t ts) = cons_from (leaves t) (leaves_of ts) (pruned from to t) (pruned_of from to ts) (left_leaves t) (left_leaves_of ts)

  -- the numbers are among these
  abbrev pub AreIn : List ℕ → List ℕ → Type 0
  AreIn ns ms = (n : ℕ) → Contains ms n → Contains ns n

  cons_in : (ns ms : List ℕ) (o : Option Tree) (os : List (Option Tree)) → OfLeft (λ u. AreIn ns (numbers u)) o → AreIn ms (numbers_of (row (kept os))) → AreIn (ns ++ ms) (numbers_of (row (kept (o ∷ os))))
  cons_in ns ms None os h k n at = Contains-append_right ns ms n (k n at)
  cons_in ns ms (Some u) os h k n at =
      ⊎_elim (λ p. Contains-append_left ns ms n (h n p)) (λ p. Contains-append_right ns ms n (k n p)) (Contains-append_cases (numbers u) (numbers_of (row (kept os))) n at)

  mutual
    pub left_numbers : (t : Tree) → OfLeft (λ u. AreIn (numbers t) (numbers u)) (pruned from to t)
    left_numbers (one l) = by_count (starts_in from to l)
      where
        by_count : (b : Bool) → OfLeft (λ u. AreIn (l.num ∷ []) (numbers u)) (cond b (Some (one l)) None)
        by_count true = λ n at. at
        by_count false = tt
    left_numbers (join op ts) = of_join (λ u. AreIn (numbers_of ts) (numbers u)) op (pruned_of from to ts) (λ some. left_numbers_of ts)
    left_numbers (scale t s) = of_scale (λ u. AreIn (numbers t) (numbers u)) (λ u. AreIn (numbers t) (numbers u)) s (pruned from to t) (λ u h. h) (left_numbers t)
    left_numbers (barrier t v) = of_bar (λ u. AreIn (numbers t) (numbers u)) (λ u. AreIn (numbers t) (numbers u)) v (pruned from to t) (λ u h. h) (left_numbers t)

    pub left_numbers_of : (ts : Trees) → AreIn (numbers_of ts) (numbers_of (row (kept (pruned_of from to ts))))
    left_numbers_of none = λ n at. at
    left_numbers_of (more t ts) = cons_in (numbers t) (numbers_of ts) (pruned from to t) (pruned_of from to ts) (left_numbers t) (left_numbers_of ts)

  cons_apart : (ns ms : List ℕ) (o : Option Tree) (os : List (Option Tree)) → ((n : ℕ) → Contains ns n → Contains ms n → ⊥) → OfLeft (λ u. AreIn ns (numbers u)) o → AreIn ms (numbers_of (row (kept os))) →
      OfLeft AreApart o → AreApartOf (row (kept os)) → AreApartOf (row (kept (o ∷ os)))
  cons_apart ns ms None os apart h k a b = b
  cons_apart ns ms (Some u) os apart h k a b = (a, b, λ n p q. apart n (h n p) (k n q))

  mutual
    pub left_apart : (t : Tree) → AreApart t → OfLeft AreApart (pruned from to t)
    left_apart (one l) apart = by_count (starts_in from to l)
      where
        by_count : (b : Bool) → OfLeft AreApart (cond b (Some (one l)) None)
        by_count true = tt
        by_count false = tt
    left_apart (join op ts) apart = of_join AreApart op (pruned_of from to ts) (λ some. left_apart_of ts apart)
    left_apart (scale t s) apart = of_scale AreApart AreApart s (pruned from to t) (λ u h. h) (left_apart t apart)
    left_apart (barrier t v) apart = of_bar AreApart AreApart v (pruned from to t) (λ u h. h) (left_apart t apart)

    left_apart_of : (ts : Trees) → AreApartOf ts → AreApartOf (row (kept (pruned_of from to ts)))
    left_apart_of none apart = tt
    left_apart_of (more t ts) apart =
        cons_apart (numbers t) (numbers_of ts) (pruned from to t) (pruned_of from to ts) apart.2 (left_numbers t) (left_numbers_of ts) (left_apart t apart.0) (left_apart_of ts apart.1)

  -- sound, with a peak that is no greater
  abbrev pub IsLess : ℕ → Tree → Type 0
  IsLess p u = IsSound u × (peak u ≤ p)

  pub record AreLess (ps : List ℕ) (us : Trees) : Type 0 where
    pub sound : AreSound us
    pub greatest_peak : greatest_of (peaks us) ≤ greatest_of ps
    pub added_peak : added_of (peaks us) ≤ added_of ps

  cons_less : (p : ℕ) (ps : List ℕ) (o : Option Tree) (os : List (Option Tree)) → OfLeft (IsLess p) o → AreLess ps (row (kept os)) → AreLess (p ∷ ps) (row (kept (o ∷ os)))
  cons_less p ps None os h k = record { sound = k.sound; greatest_peak = omega (arith, k.greatest_peak); added_peak = omega (arith, k.added_peak) }
  cons_less p ps (Some u) os h k =
      record { sound = (h.0, k.sound); greatest_peak = omega (arith, h.1, k.greatest_peak); added_peak = omega (arith, h.1, k.added_peak) }

  join_less : (op : Operator) (ts us : Trees) → HasChild us → AreLess (peaks ts) us → peak_joined op (peaks ts) ≤ PEAK → IsLess (peak_joined op (peaks ts)) (join op us)
  join_less greatest ts us some h le = ((some, h.sound, le_trans h.greatest_peak le), h.greatest_peak)
  join_less least ts us some h le = ((some, h.sound, le_trans h.greatest_peak le), h.greatest_peak)
  join_less added ts us some h le = ((some, h.sound, le_trans h.added_peak le), h.added_peak)

  mutual
    pub left_sound : (t : Tree) → IsSound t → OfLeft (IsLess (peak t)) (pruned from to t)
    left_sound (one l) sound = by_count (starts_in from to l)
      where
        by_count : (b : Bool) → OfLeft (IsLess l.v) (cond b (Some (one l)) None)
        by_count true = (sound, omega arith)
        by_count false = tt
    left_sound (join op ts) sound =
        of_join (IsLess (peak_joined op (peaks ts))) op (pruned_of from to ts) (λ some. join_less op ts (row (kept (pruned_of from to ts))) some (left_sound_of ts sound.1) sound.2)
    left_sound (scale t s) sound =
        of_scale (IsLess (s * peak t)) (IsLess (peak t)) s (pruned from to t) (λ u h. ((h.0, sound.1, le_trans (mul-le-mul_left s h.1) sound.2), mul-le-mul_left s h.1)) (left_sound t sound.0)
    left_sound (barrier t v) sound =
        of_bar (IsLess (max v (peak t))) (IsLess (peak t)) v (pruned from to t) (λ u h. ((h.0, sound.1), omega (arith, h.1))) (left_sound t sound.0)

    left_sound_of : (ts : Trees) → AreSound ts → AreLess (peaks ts) (row (kept (pruned_of from to ts)))
    left_sound_of none sound = record { sound = tt; greatest_peak = omega arith; added_peak = omega arith }
    left_sound_of (more t ts) sound = cons_less (peak t) (peaks ts) (pruned from to t) (pruned_of from to ts) (left_sound t sound.0) (left_sound_of ts sound.1)

pub Each-left : (P : Bid → Type 0) (job : ℕ) (o : Option Tree) (bs : List Bid) → OfLeft (λ u. P (record { job = job; expr = u })) o → Each P bs → Each P (with_left job o bs)
Each-left P job None bs h k = k
Each-left P job (Some t) bs h k = (h, k)

-- a leaf of what is left is a leaf of a bid of the same job, and starts_in
pub record IsLeafOf (from to : ℕ) (bs : List Bid) (owner : ℕ) (l : Leaf) : Type 0 where
  pub bid : Bid
  pub among : Contains bs bid
  pub job : bid.job ≡ owner
  pub below : Contains (leaves bid.expr) l
  pub in_range : starts_in from to l ≡ true

module _ (from to : ℕ) where
  abbrev pub IsGood : Bid → Type 0
  IsGood b = IsSound b.expr × AreApart b.expr

  good_left : (b : Bid) (o : Option Tree) → OfLeft (λ u. IsSound u × (peak u ≤ peak b.expr)) o → OfLeft AreApart o → OfLeft (λ u. IsGood (record { job = b.job; expr = u })) o
  good_left b None h k = tt
  good_left b (Some t) h k = (h.0, k)

  pub lefts_good : (bs : List Bid) → Each IsGood bs → Each IsGood (bids_left from to bs)
  lefts_good [] h = tt
  lefts_good (b ∷ bs) h =
      Each-left IsGood b.job (pruned from to b.expr) (bids_left from to bs) (good_left b (pruned from to b.expr) (left_sound from to b.expr h.0.0) (left_apart from to b.expr h.0.1)) (lefts_good bs h.1)

  any_left : (P : ℕ → Type 0) (job : ℕ) (o : Option Tree) → P job → OfLeft (λ u. P job) o
  any_left P job None p = tt
  any_left P job (Some t) p = p

  lefts_jobs_each : (P : ℕ → Type 0) (bs : List Bid) → Each (λ b. P b.job) bs → Each (λ b. P b.job) (bids_left from to bs)
  lefts_jobs_each P [] h = tt
  lefts_jobs_each P (b ∷ bs) h = Each-left (λ c. P c.job) b.job (pruned from to b.expr) (bids_left from to bs) (any_left P b.job (pruned from to b.expr) h.0) (lefts_jobs_each P bs h.1)

  abbrev pub OtherJob : Bid → Bid → Type 0
  OtherJob b c = b.job ≡ c.job → ⊥

  pair_left : (job : ℕ) (o : Option Tree) (bs : List Bid) → Each (λ c. job ≡ c.job → ⊥) bs → EachPair OtherJob bs → EachPair OtherJob (with_left job o bs)
  pair_left job None bs h k = k
  pair_left job (Some t) bs h k = (h, k)

  pub lefts_jobs : (bs : List Bid) → EachPair OtherJob bs → EachPair OtherJob (bids_left from to bs)
  lefts_jobs [] h = tt
  lefts_jobs (b ∷ bs) h = pair_left b.job (pruned from to b.expr) (bids_left from to bs) (lefts_jobs_each (λ j. b.job ≡ j → ⊥) bs h.0) (lefts_jobs bs h.1)

  abbrev pub AllLeavesOf : List Bid → Bid → Type 0
  AllLeavesOf bs b = (l : Leaf) → Contains (leaves b.expr) l → IsLeafOf from to bs b.job l

  wider : (c : Bid) (bs : List Bid) (job : ℕ) (l : Leaf) → IsLeafOf from to bs job l → IsLeafOf from to (c ∷ bs) job l
  wider c bs job l h = record { bid = h.bid; among = (suc h.among.0, omega (arith, h.among.1), h.among.2); job = h.job; below = h.below; in_range = h.in_range }

  leaves_left : (b : Bid) (bs : List Bid) (o : Option Tree) → OfLeft (λ u. AreFrom from to (leaves b.expr) (leaves u)) o → OfLeft (λ u. AllLeavesOf (b ∷ bs) (record { job = b.job; expr = u })) o
  leaves_left b bs None h = tt
  leaves_left b bs (Some t) h = λ l at. let here = h l at in record { bid = b; among = (0, omega arith, refl); job = refl; below = here.0; in_range = here.1 }

  pub lefts_leaves : (bs : List Bid) → Each (AllLeavesOf bs) (bids_left from to bs)
  lefts_leaves [] = tt
  lefts_leaves (b ∷ bs) =
      Each-left (AllLeavesOf (b ∷ bs)) b.job (pruned from to b.expr) (bids_left from to bs) (leaves_left b bs (pruned from to b.expr) (left_leaves from to b.expr))
      (Each-map (AllLeavesOf bs) (AllLeavesOf (b ∷ bs)) (λ c h l at. wider b bs c.job l (h l at)) (bids_left from to bs) (lefts_leaves bs))

pub in_map : {X Y : Type 0} (f : X → Y) (xs : List X) (x : X) → Contains xs x → Contains (map f xs) (f x)
in_map f [] x at = absurd (omega (arith, at.1))
in_map f (y ∷ xs) x (zero, lt, e) = (0, omega arith, ap f e)
in_map f (y ∷ xs) x (suc k, lt, e) = let rest = in_map f xs x (k, omega (arith, lt), e) in (suc rest.0, omega (arith, rest.1), rest.2)

-- the set of a leaf is among those that the bids name
pub sets_in_has : (bs : List Bid) (b : Bid) (l : Leaf) → Contains bs b → Contains (leaves b.expr) l → Contains (sets_in bs) l.set
sets_in_has [] b l at below = absurd (omega (arith, at.1))
sets_in_has (c ∷ bs) b l (zero, lt, e) below =
    Contains-append_left (map (λ m. m.set) (leaves c.expr)) (sets_in bs) l.set
    (in_map (λ m. m.set) (leaves c.expr) l (subst (λ (d : Bid). Contains (leaves d.expr) l) (sym e) below))
sets_in_has (c ∷ bs) b l (suc k, lt, e) below =
    Contains-append_right (map (λ m. m.set) (leaves c.expr)) (sets_in bs) l.set (sets_in_has bs b l (k, omega (arith, lt), e) below)

pub asked_has : (s : Space) (bs : List Bid) (b : Bid) (l : Leaf) → Contains bs b → Contains (leaves b.expr) l → Contains (asked s bs) (set_at s l.set)
asked_has s bs b l at below = in_map (set_at s) (sets_in bs) l.set (sets_in_has bs b l at below)

-- ---- what is left is no larger
pub record IsSmaller (t u : Tree) : Type 0 where
  pub leaves_le : length (leaves u) ≤ length (leaves t)
  pub depth_le : depth u ≤ depth t

record AreSmaller (ts us : Trees) : Type 0 where
  leaves_le : length (leaves_of us) ≤ length (leaves_of ts)
  depth_le : depth_of us ≤ depth_of ts

cons_smaller : (t : Tree) (ts : Trees) (o : Option Tree) (os : List (Option Tree)) → OfLeft (IsSmaller t) o → AreSmaller ts (row (kept os)) → AreSmaller (more t ts) (row (kept (o ∷ os)))
cons_smaller t ts None os h k = record { leaves_le = omega (arith, k.leaves_le, length-append (leaves t) (leaves_of ts)); depth_le = omega (arith, k.depth_le) }
cons_smaller t ts (Some u) os h k = record {
  leaves_le = omega (arith, h.leaves_le, k.leaves_le, length-append (leaves t) (leaves_of ts), length-append (leaves u) (leaves_of (row (kept os))));
  depth_le = omega (arith, h.depth_le, k.depth_le);
}

module _ (from to : ℕ) where
  mutual
    pub left_smaller : (t : Tree) → OfLeft (IsSmaller t) (pruned from to t)
    left_smaller (one l) = by_count (starts_in from to l)
      where
        by_count : (b : Bool) → OfLeft (IsSmaller (one l)) (cond b (Some (one l)) None)
        by_count true = record { leaves_le = omega arith; depth_le = omega arith }
        by_count false = tt
    left_smaller (join op ts) =
        of_join (IsSmaller (join op ts)) op (pruned_of from to ts) (λ some. let below = left_smaller_of ts in record { leaves_le = below.leaves_le; depth_le = omega (arith, below.depth_le) })
    left_smaller (scale t s) =
        of_scale (IsSmaller (scale t s)) (IsSmaller t) s (pruned from to t) (λ u h. record { leaves_le = h.leaves_le; depth_le = omega (arith, h.depth_le) }) (left_smaller t)
    left_smaller (barrier t v) =
        of_bar (IsSmaller (barrier t v)) (IsSmaller t) v (pruned from to t) (λ u h. record { leaves_le = h.leaves_le; depth_le = omega (arith, h.depth_le) }) (left_smaller t)

    left_smaller_of : (ts : Trees) → AreSmaller ts (row (kept (pruned_of from to ts)))
    left_smaller_of none = record { leaves_le = omega arith; depth_le = omega arith }
    left_smaller_of (more t ts) = cons_smaller t ts (pruned from to t) (pruned_of from to ts) (left_smaller t) (left_smaller_of ts)

-- ---- what is left of a bid comes from the bid
pub record IsLeftOf (from to : ℕ) (bs : List Bid) (b : Bid) : Type 0 where
  pub whole : Bid
  pub among : Contains bs whole
  pub job : whole.job ≡ b.job
  pub left : pruned from to whole.expr ≡ Some b.expr

module _ (from to : ℕ) where
  among_more : (c : Bid) (bs : List Bid) (b : Bid) → IsLeftOf from to bs b → IsLeftOf from to (c ∷ bs) b
  among_more c bs b h = record { whole = h.whole; among = (suc h.among.0, omega (arith, h.among.1), h.among.2); job = h.job; left = h.left }

  first_left : (b : Bid) (bs : List Bid) (o : Option Tree) → pruned from to b.expr ≡ o →
      OfLeft (λ u. IsLeftOf from to (b ∷ bs) (record { job = b.job; expr = u })) o
  first_left b bs None e = tt
  first_left b bs (Some u) e = record { whole = b; among = (0, omega arith, refl); job = refl; left = e }

  pub each_left_of : (bs : List Bid) → Each (IsLeftOf from to bs) (bids_left from to bs)
  each_left_of [] = tt
  each_left_of (b ∷ bs) =
      Each-left (IsLeftOf from to (b ∷ bs)) b.job (pruned from to b.expr) (bids_left from to bs) (first_left b bs (pruned from to b.expr) refl)
      (Each-map (IsLeftOf from to bs) (IsLeftOf from to (b ∷ bs)) (λ c h. among_more b bs c h) (bids_left from to bs) (each_left_of bs))

  pub bids_left-shorter : (bs : List Bid) → length (bids_left from to bs) ≤ length bs
  bids_left-shorter [] = omega arith
  bids_left-shorter (b ∷ bs) = by_left (pruned from to b.expr) (bids_left-shorter bs)
    where
      by_left : (o : Option Tree) → length (bids_left from to bs) ≤ length bs → length (with_left b.job o (bids_left from to bs)) ≤ suc (length bs)
      by_left None le = omega arith
      by_left (Some t) le = omega arith
