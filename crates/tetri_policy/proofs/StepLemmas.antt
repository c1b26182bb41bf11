-- A job's placements beside what is held, and then lawful grants of later jobs, are lawful together.
use Rattle.std.proofs.Common.{◌≡◌, ◌≢◌, ℕ, ◌+◌, ◌==◌, ◌&&◌, ◌||◌, inl, inr, Bool, true, false, List, [], ◌∷◌, ◌++◌, map, get_or, suc, All, AllPairs, Contains, refl, sym, ap, ◌∙◌, subst, arith, nat_le, nat_lt}
use Rattle.std.specs.Prelude.{Option, None, Some}
use Rattle.std.specs.List.{list_any}
use Rattle.std.specs.Option.{IsSomeAnd}
use Rattle.std.proofs.lemmas.Bool.{true≢false}
use Rattle.std.proofs.lemmas.Bool.Decides.{nat_tests}
use Rattle.std.proofs.lemmas.List.Elements.{All-nil, All-head, All-tail, All-append, All-contains, All-map, All-weaker, Contains-append_cases}
use Rattle.std.proofs.lemmas.List.Folds.{list_any-append, list_any_at}
use Rattle.std.proofs.lemmas.List.Kept.{AllPairs-cons}
use Rattle.tetri_strl.specs.declared.expr.Leaf.{Leaf}
use Rattle.tetri_strl.specs.declared.grants.Grant.{Grant}
use Rattle.tetri_strl.specs.Tree.{leaves}
use Rattle.tetri_strl.proofs.ExprLaws.{the_one}
use Rattle.tetri_space.specs.Free.{IsFreeThroughout, is_free_throughout}
use Rattle.tetri_space.specs.Space.{Bid, Space, Covers, IsLive, leaf_in}
use Rattle.tetri_space.specs.Lawful.{AreApart, IsLawful, IsLawfulGrant, MayBeGranted, NoCommonSlot}
use Rattle.tetri_space.specs.Sound.{IsSound}
use Rattle.tetri_space.proofs.InstanceLaws.{AllPairs-append, leaf_in-found, throughout_decides}
use Rattle.tetri_advice.specs.Fit.{Placement, grant_of, grants_of, is_held, is_held_by, is_live, overlap}
use Rattle.tetri_advice.proofs.FitLemmas.{AreFit, Follows, IsRight, none_any}
use Rattle.tetri_policy.proofs.LeftLemmas.{Differ}

AllPairs-map : {X Y : Type 0} (f : X → Y) (Q : X → Type 0) (R : X → X → Type 0) (S : Y → Y → Type 0) → ((x y : X) → Q x → Q y → R x y → S (f x) (f y)) →
    (xs : List X) → All Q xs → AllPairs R xs → AllPairs S (map f xs)
AllPairs-map f Q R S each [] all pairs = λ i j d lt within. absurd (omega (arith, within))
AllPairs-map f Q R S each (x ∷ xs) all pairs =
    let here = All-head Q x xs all in
    let rest = All-tail Q x xs all in
    let later : All (R x) xs = λ k d lt. pairs 0 (suc k) d (omega arith) (omega (arith, lt)) in
    AllPairs-cons S (f x) (map f xs) (All-map (S (f x)) f xs (λ k d lt. each x (get_or xs k d) here (rest k d lt) (later k d lt)))
    (AllPairs-map f Q R S each xs rest (λ i j d lt within. pairs (suc i) (suc j) d (omega (arith, lt)) (omega (arith, within))))

same_number : (x : ℕ) → (x == x) ≡ true
same_number x = grind (arith, nat_tests)

and_true : (a b : Bool) → (a && b) ≡ true → (a ≡ true) × (b ≡ true)
and_true true true e = (refl, refl)
and_true true false e = absurd (true≢false (sym e))
and_true false b e = absurd (true≢false (sym e))

not_both : (a b : Bool) → a ≡ true → (a && b) ≡ false → b ≡ false
not_both true b e f = f
not_both false b e f = absurd (true≢false (sym e))

or_false : (a b : Bool) → (a || b) ≡ false → (a ≡ false) × (b ≡ false)
or_false true b e = absurd (true≢false e)
or_false false b e = (refl, e)

live_from : (s : Space) (l : Leaf) → is_live s l ≡ true → IsLive s l
live_from s l e =
    let both = and_true (nat_le s.now l.start) (nat_lt l.start (s.now + s.window)) e in
    record { not_early = grind (arith, nat_tests, both.0); not_late = grind (arith, nat_tests, both.1) }

-- leaves that share a slot overlap
overlap_from : (l m : Leaf) (slot : ℕ) → Covers m slot → Covers l slot → overlap l m ≡ true
overlap_from l m slot p q =
    let first : nat_lt l.start (m.start + m.dur) ≡ true = grind (arith, nat_tests, p.not_over, q.begun) in
    let second : nat_lt m.start (l.start + l.dur) ≡ true = grind (arith, nat_tests, p.begun, q.not_over) in
    rw (first, second) refl

-- where a placement does not hold one of its nodes in the leaf's slots, it has no slot in common with it
no_common : (p : Placement) (l : Leaf) (n : ℕ) → Contains p.nodes n → is_held_by l n p ≡ false → NoCommonSlot p.leaf l
no_common p l n at free slot own theirs =
    let has : list_any (λ m. m == n) p.nodes ≡ true = list_any_at (λ m. m == n) p.nodes at.0 n at.1 (ap (λ m. m == n) at.2 ∙ same_number n) in
    true≢false (sym (overlap_from l p.leaf slot own theirs) ∙ not_both (list_any (λ m. m == n) p.nodes) (overlap l p.leaf) has free)

some_is : {X : Type 0} (P : X → Type 0) (o : Option X) (x : X) → o ≡ Some x → IsSomeAnd o P → P x
some_is P o x e h = subst (λ q. IsSomeAnd q P) e h

some_from : {X : Type 0} (P : X → Type 0) (o : Option X) (x : X) → o ≡ Some x → P x → IsSomeAnd o P
some_from P o x e h = subst (λ q. IsSomeAnd q P) (sym e) h

same_some : {X : Type 0} (o : Option X) (x y : X) → o ≡ Some x → o ≡ Some y → x ≡ y
same_some o x y e f = cc

-- no node of the grant is held in the slots of its leaf
abbrev pub IsBesideHeld : Space → List Placement → Grant → Type 0
IsBesideHeld s held g = IsSomeAnd (leaf_in s.bids g.job g.leaf) (λ l. All (λ n. is_held held l n ≡ false) g.nodes)

abbrev pub NotOf : ℕ → Grant → Type 0
NotOf job g = g.job ≢ job

abbrev pub IsOther : ℕ → Bid → Type 0
IsOther job b = b.job ≢ job

-- the grants of these jobs beside what is held: lawful, apart from it and from each other
pub record IsRun (s : Space) (held : List Placement) (bs : List Bid) (a : List Grant) : Type 0 where
  pub grants : All (IsLawfulGrant s) a
  pub apart : AllPairs (AreApart s) a
  pub beside : All (IsBesideHeld s held) a
  pub of_jobs : (job : ℕ) → All (IsOther job) bs → All (NotOf job) a

-- no grants
pub run_nothing : (s : Space) (held : List Placement) (bs : List Bid) → IsRun s held bs []
run_nothing s held bs = record {
  grants = All-nil (IsLawfulGrant s);
  apart = λ i j d lt within. absurd (omega (arith, within));
  beside = All-nil (IsBesideHeld s held);
  of_jobs = λ job away. All-nil (NotOf job);
}

beside_less : (held more : List Placement) (g : Grant) (o : Option Leaf) → IsSomeAnd o (λ l. All (λ n. is_held (held ++ more) l n ≡ false) g.nodes) →
    IsSomeAnd o (λ l. All (λ n. is_held held l n ≡ false) g.nodes)
beside_less held more g None beside = beside
beside_less held more g (Some l) beside =
    All-weaker (λ n. is_held (held ++ more) l n ≡ false) (λ n. is_held held l n ≡ false)
    (λ n e. (or_false (is_held held l n) (is_held more l n) (sym (list_any-append (is_held_by l n) held more) ∙ e)).0) g.nodes beside

-- grants beside more, and of later jobs alone
pub run_less : (s : Space) (held more : List Placement) (b : Bid) (bs : List Bid) (a : List Grant) → IsRun s (held ++ more) bs a → IsRun s held (b ∷ bs) a
run_less s held more b bs a run = record {
  grants = run.grants;
  apart = run.apart;
  beside = All-weaker (IsBesideHeld s (held ++ more)) (IsBesideHeld s held) (λ g. beside_less held more g (leaf_in s.bids g.job g.leaf)) a run.beside;
  of_jobs = λ job away. run.of_jobs job (All-tail (IsOther job) b bs away);
}

-- a grant of a placement
of_placement : (job : ℕ) (ps : List Placement) (g : Grant) → Contains (grants_of job ps) g → (p : Placement) × Contains ps p × (g ≡ grant_of job p)
of_placement job [] g at = absurd (omega (arith, at.1))
of_placement job (p ∷ ps) g at =
    elim (Contains-append_cases (grant_of job p ∷ []) (grants_of job ps) g at) [
      | inl here ↦ (p, (0, omega arith, refl), sym (the_one (grant_of job p) g here))
      | inr later ↦ let w = of_placement job ps g later in (w.0, (suc w.1.0, omega (arith, w.1.1), w.1.2), w.2)
    ]

module _ (s : Space) (sound : IsSound s) (held : List Placement) (b : Bid) (pending : Contains s.bids b) (placed : List Placement) (fit_is : AreFit s b.job (is_held held) Differ [] (leaves b.expr) placed) where
  -- a placement of one of the job's leaves
  record IsOwn (p : Placement) : Type 0 where
    pub right : IsRight s b.job (is_held held) p
    pub within : Contains (leaves b.expr) p.leaf

  owns : All IsOwn placed
  owns k d lt = record { right = fit_is.right k d lt; within = fit_is.within k d lt }

  its_leaf : (p : Placement) → Contains (leaves b.expr) p.leaf → leaf_in s.bids b.job p.leaf.num ≡ Some p.leaf
  its_leaf p within = leaf_in-found s b p.leaf sound pending within

  own_lawful : (p : Placement) → IsOwn p → IsLawfulGrant s (grant_of b.job p)
  own_lawful p own =
      some_from (λ l. MayBeGranted s l p.nodes) (leaf_in s.bids b.job p.leaf.num) p.leaf (its_leaf p own.within)
      (record {
        live = live_from s p.leaf own.right.live;
        nodes_right = record {
          some = own.right.some;
          ascending = own.right.ascending;
          few = own.right.few;
          in_set = own.right.in_set;
          free =
              All-weaker (λ n. is_free_throughout s p.leaf n ≡ true) (IsFreeThroughout s p.leaf)
              (λ n e. (throughout_decides s p.leaf n own.right.good.some_slots).0 e) p.nodes own.right.free;
        };
      })

  own_apart : (p q : Placement) → IsOwn p → IsOwn q → Follows s b.job (is_held held) Differ p q → AreApart s (grant_of b.job p) (grant_of b.job q)
  own_apart p q own_p own_q follows = record {
    other_leaf = λ same_job same_leaf. follows.0 same_leaf;
    other_slots = λ n mine theirs l found m found_too.
        subst (λ x. NoCommonSlot x m) (same_some (leaf_in s.bids b.job p.leaf.num) p.leaf l (its_leaf p own_p.within) found)
        (subst (NoCommonSlot p.leaf) (same_some (leaf_in s.bids b.job q.leaf.num) q.leaf m (its_leaf q own_q.within) found_too)
        (no_common p q.leaf n mine
        (or_false (is_held_by q.leaf n p) false (All-contains (λ k. is_held (p ∷ []) q.leaf k ≡ false) q.nodes n follows.1 theirs)).0));
  }

  own_beside : (p : Placement) → IsOwn p → IsBesideHeld s held (grant_of b.job p)
  own_beside p own =
      some_from (λ l. All (λ n. is_held held l n ≡ false) p.nodes) (leaf_in s.bids b.job p.leaf.num) p.leaf (its_leaf p own.within) own.right.not_taken

  -- another job's grant beside these placements too is apart from each of them
  own_apart_later : (p : Placement) → Contains placed p → IsOwn p → (h : Grant) → NotOf b.job h → IsBesideHeld s (held ++ placed) h →
      AreApart s (grant_of b.job p) h
  own_apart_later p at own h other beside = record {
    other_leaf = λ same_job same_leaf. other (sym same_job);
    other_slots = λ n mine theirs l found m found_too.
        let free = some_is (λ x. All (λ k. is_held (held ++ placed) x k ≡ false) h.nodes) (leaf_in s.bids h.job h.leaf) m found_too beside in
        let here : is_held (held ++ placed) m n ≡ false = All-contains (λ k. is_held (held ++ placed) m k ≡ false) h.nodes n free theirs in
        let split = or_false (is_held held m n) (is_held placed m n) (sym (list_any-append (is_held_by m n) held placed) ∙ here) in
        let not_by = All-contains (λ q. is_held_by m n q ≡ false) placed p (none_any (is_held_by m n) placed split.1) at in
        subst (λ x. NoCommonSlot x m) (same_some (leaf_in s.bids b.job p.leaf.num) p.leaf l (its_leaf p own.within) found) (no_common p m n mine not_by);
  }

  -- a job and then the later ones
  pub run_step : (bs : List Bid) → All (IsOther b.job) bs → (a : List Grant) → IsRun s (held ++ placed) bs a → IsRun s held (b ∷ bs) (grants_of b.job placed ++ a)
  run_step bs others a run = record {
    grants = All-append (IsLawfulGrant s) (grants_of b.job placed) a
        (All-map (IsLawfulGrant s) (grant_of b.job) placed (λ k d lt. own_lawful (get_or placed k d) (owns k d lt))) run.grants;
    apart =
        AllPairs-append (AreApart s) (grants_of b.job placed) a
        (AllPairs-map (grant_of b.job) IsOwn (Follows s b.job (is_held held) Differ) (AreApart s) own_apart placed owns fit_is.pairs) run.apart
        (λ g h at bt.
        let w = of_placement b.job placed g at in
        subst (λ x. AreApart s x h) (sym w.2)
        (own_apart_later w.0 w.1 (All-contains IsOwn placed w.0 owns w.1) h
        (All-contains (NotOf b.job) a h (run.of_jobs b.job others) bt) (All-contains (IsBesideHeld s (held ++ placed)) a h run.beside bt)));
    beside =
        All-append (IsBesideHeld s held) (grants_of b.job placed) a
        (All-map (IsBesideHeld s held) (grant_of b.job) placed (λ k d lt. own_beside (get_or placed k d) (owns k d lt)))
        (run_less s held placed b bs a run).beside;
    of_jobs = λ job away.
        All-append (NotOf job) (grants_of b.job placed) a (All-map (NotOf job) (grant_of b.job) placed (λ k d lt. All-head (IsOther job) b bs away))
        (run.of_jobs job (All-tail (IsOther job) b bs away));
  }
