-- The instance of a state whose slot has begun.
use Rattle.std.proofs.Common.{◌≡◌, ℕ, ◌+◌, ◌<◌, ◌≤◌, ◌==◌, Bool, true, false, cond, List, [], ◌∷◌, length, get_or, map, All, AllPairs, Contains, Some, sym, subst, arith, zero, suc}
use Rattle.std.specs.List.{find}
use Rattle.std.proofs.lemmas.List.{length-map, get_or-map}
use Rattle.std.proofs.lemmas.List.Elements.{All-map}
use Rattle.std.proofs.lemmas.List.FromFn.{get_or-map-range_with_len, length-map-range_with_len}
use Rattle.std.proofs.lemmas.List.Folds.{list_any_at}
use Rattle.std.proofs.lemmas.Bool.Decides.{nat_tests}
use Rattle.tetri_base.specs.Lists.{Ascends, Each, has}
use Rattle.tetri_base.proofs.ListLaws.{Each-both, Each-get, Each-map}
use Rattle.tetri_state.proofs.Ascending.{all_each}
use Rattle.tetri_strl.specs.declared.expr.Leaf.{Leaf}
use Rattle.tetri_strl.specs.Tree.{leaves}
use Rattle.tetri_space.specs.Free.{IsFree}
use Rattle.tetri_space.specs.Space.{Bid, Space}
use Rattle.tetri_space.specs.Sound.{HasKnownSet, IsSoundBid, IsSound as IsSoundSpace}
use Rattle.tetri_trace.specs.Scenario.{Scenario}
use Rattle.tetri_trace.specs.Sound.{IsSound}
use Rattle.tetri_state.specs.declared.pieces.Piece.{Piece}
use Rattle.tetri_state.specs.Begin.{has_expired}
use Rattle.tetri_state.specs.Planning.{bid_of, busy_until, expected_or, instance_of}
use Rattle.tetri_state.specs.Snapshot.{ArrivedBefore, Snapshot, offered}
use Rattle.tetri_state.proofs.OfferedLemmas.{IsGoodOffer, good_offer}
use Rattle.tetri_state.proofs.StandLemmas.{KeepsToTrace, Stands}

-- numbers that ascend within a range are no more than it has
ascend_length : (ns : List ℕ) (low high : ℕ) → low ≤ high → Ascends ns → Each (λ n. low ≤ n) ns → Each (λ n. n < high) ns → length ns + low ≤ high
ascend_length [] low high le up above below = omega arith
ascend_length (n ∷ ns) low high le up above below =
    let rest = ascend_length ns (n + 1) high (omega (arith, below.0)) up.1 (Each-map (λ m. n < m) (λ m. n + 1 ≤ m) (λ m lt. omega arith) ns up.0) below.1 in
    omega (arith, rest, above.0)

any_low : (ns : List ℕ) → Each (λ n. 0 ≤ n) ns
any_low [] = tt
any_low (n ∷ ns) = (omega arith, any_low ns)

expected_within : (now : ℕ) (ps : List Piece) (node : ℕ) → now ≤ 30000 → Each (λ p. p.expected ≤ 30000) ps → busy_until now ps node ≤ 30000
expected_within now [] node early within = early
expected_within now (p ∷ ps) node early within = by_test (has p.nodes node) (expected_within now ps node early within.1)
  where
    by_test : (b : Bool) → busy_until now ps node ≤ 30000 → expected_or now (cond b (Some p) (find (λ q. has q.nodes node) ps)) ≤ 30000
    by_test true rest = within.0
    by_test false rest = rest

bids_ascend : (t : Scenario) (now : ℕ) (ns : List ℕ) → Ascends ns → AllPairs (λ (a b : Bid). a.job < b.job) (map (bid_of t now) ns)
bids_ascend t now [] up i j d before within = absurd (omega arith)
bids_ascend t now (n ∷ ns) up i zero d before within = absurd (omega arith)
bids_ascend t now (n ∷ ns) up zero (suc j) d before within =
    let lt : j < length ns = omega (arith, length-map ns (bid_of t now)) in
    subst (λ (b : Bid). n < b.job) (sym (get_or-map (bid_of t now) ns j 0 d lt)) (Each-get (λ m. n < m) ns j 0 up.0 lt)
bids_ascend t now (n ∷ ns) up (suc i) (suc j) d before within = bids_ascend t now ns up.1 i j d (omega arith) (omega arith)

module _ (t : Scenario) (s : Snapshot) (sound : IsSound t) (stands : Stands t (s.now + 1) s) (early : s.now < 10000) where
  abbrev i : Space
  i = instance_of t s

  -- what a pending job offers
  abbrev pub OffersGood : ℕ → Type 0
  OffersGood job = IsGoodOffer (length t.sets) (offered t s.now job)

  pub pending_good : Each OffersGood s.pending
  pending_good =
      Each-both (ArrivedBefore t (s.now + 1)) (λ j. has_expired t s.now j ≡ false) OffersGood
      (λ job arrived alive. good_offer t sound job s.now arrived (omega (arith, early)) alive) s.pending stands.arrived (stands.alive (omega arith))

  sets_known : (l : Leaf) → l.set < length t.sets → HasKnownSet i l
  sets_known l known = record { known = known; there = sound.known_nodes l.set [] known }

  good_bid : (job : ℕ) → OffersGood job → IsSoundBid i (bid_of t s.now job)
  good_bid job good = record {
    well_made = good.well_made;
    known_sets = λ k d lt. sets_known (get_or (leaves (offered t s.now job)) k d) (good.known_sets k d lt);
  }

  pub instance_sound : IsSoundSpace i
  instance_sound = record {
    early = omega arith;
    some_slots = sound.header.some_slots;
    few_slots = sound.header.few_slots;
    some_nodes = sound.some_nodes;
    few_nodes = sound.few_nodes;
    all_known = length-map-range_with_len (busy_until s.now s.pieces) 0 (length t.nodes);
    all_marked = stands.drained;
    busy_within = λ k d lt.
        let within : k < length t.nodes = omega (arith, length-map-range_with_len (busy_until s.now s.pieces) 0 (length t.nodes)) in
        subst (λ n. n ≤ 30000) (sym (get_or-map-range_with_len (busy_until s.now s.pieces) 0 (length t.nodes) k k d within (omega arith)))
        (expected_within s.now s.pieces k (omega arith) (Each-map (KeepsToTrace t) (λ p. p.expected ≤ 30000) (λ p known. known.expected) s.pieces stands.pieces));
    sound_closures = sound.closures;
    few_jobs =
        omega (
          arith,
          length-map s.pending (bid_of t s.now),
          sound.few_jobs,
          ascend_length s.pending 0 (length t.submissions) (omega arith) stands.ascending (any_low s.pending)
              (Each-map (ArrivedBefore t (s.now + 1)) (λ n. n < length t.submissions) (λ n known. known.0) s.pending stands.arrived),
        );
    ascending = bids_ascend t s.now s.pending stands.ascending;
    sound_bids =
        All-map (IsSoundBid i) (bid_of t s.now) s.pending
        (all_each (λ job. IsSoundBid i (bid_of t s.now job)) s.pending (Each-map OffersGood (λ job. IsSoundBid i (bid_of t s.now job)) good_bid s.pending pending_good));
  }

  pub jobs_arrived : All (ArrivedBefore t (s.now + 1)) s.pending
  jobs_arrived = all_each (ArrivedBefore t (s.now + 1)) s.pending stands.arrived

  pub nodes_there : All (λ p. All (λ n. n < length t.nodes) p.nodes) s.pieces
  nodes_there =
      all_each (λ p. All (λ n. n < length t.nodes) p.nodes) s.pieces
      (Each-map (KeepsToTrace t) (λ p. All (λ n. n < length t.nodes) p.nodes) (λ p known. known.nodes) s.pieces stands.pieces)

has_it : (ns : List ℕ) (n : ℕ) → Contains ns n → has ns n ≡ true
has_it ns n at = list_any_at (λ m. m == n) ns at.0 n at.1 (same _ at.2)
  where
    same : (m : ℕ) → m ≡ n → (m == n) ≡ true
    same m e = grind (arith, nat_tests)

-- the node of a piece is busy until later than now
busy_ahead : (now : ℕ) (ps : List Piece) (k : ℕ) (d : Piece) (node : ℕ) → k < length ps → Each (λ p. now < p.expected) ps → has (get_or ps k d).nodes node ≡ true →
    now < busy_until now ps node
busy_ahead now [] k d node lt ahead on = absurd (omega arith)
busy_ahead now (p ∷ ps) zero d node lt ahead on = by_test (has p.nodes node) on
  where
    by_test : (b : Bool) → b ≡ true → now < expected_or now (cond b (Some p) (find (λ q. has q.nodes node) ps))
    by_test true e = ahead.0
    by_test false e = absurd cc
busy_ahead now (p ∷ ps) (suc k) d node lt ahead on = by_test (has p.nodes node) (busy_ahead now ps k d node (omega arith) ahead.1 on)
  where
    by_test : (b : Bool) → now < busy_until now ps node → now < expected_or now (cond b (Some p) (find (λ q. has q.nodes node) ps))
    by_test true rest = ahead.0
    by_test false rest = rest

-- a node of a running piece is free to nobody now
pub not_free : (t : Scenario) (s : Snapshot) → Each (λ p. s.now < p.expected) s.pieces → (p : Piece) (node : ℕ) → Contains s.pieces p → Contains p.nodes node → IsFree (instance_of t s) node s.now → ⊥
not_free t s ahead p node running on free =
    let at : get_or s.pieces running.0 p ≡ p = running.2 in
    let busy : s.now < busy_until s.now s.pieces node =
    busy_ahead s.now s.pieces running.0 p node running.1 ahead (subst (λ (q : Piece). has q.nodes node ≡ true) (sym at) (has_it p.nodes node on)) in
    let row = get_or-map-range_with_len (busy_until s.now s.pieces) 0 (length t.nodes) node node 0 free.there (omega arith) in
    absurd (omega (arith, row, free.idle))
