-- What holds in each state that a run reaches.
use Rattle.std.proofs.Common.{◌≡◌, ◌⊎◌, ℕ, ◌+◌, ◌<◌, ◌≤◌, ◌==◌, Bool, true, false, List, Some, length, map, not, All, Contains, refl, sym, subst, arith}
use Rattle.std.specs.List.{find}
use Rattle.std.specs.List.Sorted.{IsStrictlyIncreasing}
use Rattle.tetri_base.specs.Lists.{Ascends, Each}
use Rattle.tetri_base.proofs.ListLaws.{Each-all, Each-filter, Each-map, Each-passed, EachPair-filter, filter-ascends}
use Rattle.tetri_state.specs.Pieces.{ShareNoNode}
use Rattle.tetri_strl.specs.declared.expr.Leaf.{Leaf}
use Rattle.tetri_strl.specs.declared.grants.Grant.{Grant}
use Rattle.tetri_strl.specs.Tree.{Tree, leaves}
use Rattle.tetri_strl.specs.Thrifty.{IsThriftyFor}
use Rattle.tetri_strl.proofs.ExprLaws.{NamesNot}
use Rattle.tetri_trace.specs.Scenario.{Scenario}
use Rattle.tetri_trace.specs.Sound.{IsSound}
use Rattle.tetri_state.specs.declared.pieces.Piece.{Piece}
use Rattle.tetri_state.specs.Begin.{begin, events_at, has_ended, has_expired, holder_in, named, occurring, prolonged, running_on, runs, staying, turn, unturned}
use Rattle.tetri_state.specs.Snapshot.{ArrivedBefore, Snapshot, offered}
use Rattle.tetri_state.proofs.ArrivalLemmas.{arrivals_before, arrived_later}
use Rattle.tetri_state.proofs.Ascending.{ascend_to}
use Rattle.tetri_state.proofs.PieceLemmas.{NoneShare, each_mapped, prolonged-ahead, prolonged-job, prolonged-nodes, prolonged-within, share_prolonged}
use Rattle.tetri_state.proofs.SoundLemmas.{happen_all-pending, held_of}
use Rattle.tetri_state.proofs.ToldLemmas.{in_order-rises}
use Rattle.tetri_state.proofs.TurnLemmas.{Keeps, happen_all_keeps}

-- the piece runs on nodes that are there, and is expected to end in time
pub record KeepsToTrace (t : Scenario) (p : Piece) : Type 0 where
  pub nodes : All (λ n. n < length t.nodes) p.nodes
  pub expected : p.expected ≤ 30000

-- the grant names a leaf of this expression
abbrev pub NamesLeaf : Tree → Grant → Type 0
NamesLeaf e g = (l : Leaf) × (find (λ l. l.num == g.leaf) (leaves e) ≡ Some l)

-- The job's grants were planned in the slot before this one: they name leaves of what it offered then, and are thrifty for
-- that.
pub record WasPlanned (t : Scenario) (now : ℕ) (plan : List Grant) (job last : ℕ) : Type 0 where
  pub before : last + 1 ≡ now
  pub arrived : ArrivedBefore t (last + 1) job
  pub alive : has_expired t last job ≡ false
  pub named : (g : Grant) → Contains plan g → g.job ≡ job → NamesLeaf (offered t last job) g
  pub thrifty : IsThriftyFor plan job (offered t last job)

-- what holds of a state in which all jobs that arrived before this slot have been taken
pub record Stands (t : Scenario) (slot : ℕ) (s : Snapshot) : Type 0 where
  pub ascending : Ascends s.pending
  pub arrived : Each (ArrivedBefore t slot) s.pending
  pub ran : Each (λ p. ArrivedBefore t slot p.job) s.pieces
  pub drained : length s.drained ≡ length t.nodes
  pub pieces : Each (KeepsToTrace t) s.pieces
  pub apart : NoneShare s.pieces
  pub planned : (job : ℕ) → NamesNot job s.plan ⊎ ((last : ℕ) × WasPlanned t s.now s.plan job last)
  -- once the slot of the state has begun
  pub alive : s.now < slot → Each (λ j. has_expired t s.now j ≡ false) s.pending

module _ (t : Scenario) (s : Snapshot) (sound : IsSound t) (stands : Stands t s.now s) where
  turn_keeps : Keeps (length t.nodes) (turn t s)
  turn_keeps =
      happen_all_keeps (length t.nodes) (holder_in (running_on s)) (events_at t s.now) (unturned s)
      (record { pending = stands.ascending; running = in_order-rises (map named (running_on s)); drained = stands.drained })

  ran_later : Each (λ p. ArrivedBefore t (s.now + 1) p.job) (running_on s)
  ran_later =
      Each-filter (λ p. ArrivedBefore t (s.now + 1) p.job) (λ p. not (has_ended s.now p)) s.pieces
      (Each-map (λ (p : Piece). ArrivedBefore t s.now p.job) (λ p. ArrivedBefore t (s.now + 1) p.job) (λ p known. arrived_later t s.now p.job known) s.pieces stands.ran)

  pub turn_arrived : Each (ArrivedBefore t (s.now + 1)) (turn t s).pending
  turn_arrived =
      happen_all-pending (ArrivedBefore t (s.now + 1)) (holder_in (running_on s)) (held_of (ArrivedBefore t (s.now + 1)) (running_on s) ran_later)
      (events_at t s.now) (unturned s) (arrivals_before t sound s.now)
      (Each-map (ArrivedBefore t s.now) (ArrivedBefore t (s.now + 1)) (arrived_later t s.now) s.pending stands.arrived)

  pub expired_ascends : IsStrictlyIncreasing (occurring t s).expired
  expired_ascends = ascend_to (occurring t s).expired (filter-ascends (has_expired t s.now) (turn t s).pending turn_keeps.pending)

  -- once its slot has begun
  pub begin_stands : s.now < 10000 → Stands t (s.now + 1) (begin t s)
  begin_stands early = record {
    ascending = filter-ascends (λ j. not (has_expired t s.now j)) (turn t s).pending turn_keeps.pending;
    arrived = Each-filter (ArrivedBefore t (s.now + 1)) (λ j. not (has_expired t s.now j)) (turn t s).pending turn_arrived;
    ran =
        each_mapped (λ p. ArrivedBefore t (s.now + 1) p.job) (λ p. ArrivedBefore t (s.now + 1) p.job) (prolonged s.now)
        (λ p known. subst (ArrivedBefore t (s.now + 1)) (sym (prolonged-job s.now p)) known) (staying t s)
        (Each-filter (λ p. ArrivedBefore t (s.now + 1) p.job) (λ p. runs (turn t s).running p.job) (running_on s) ran_later);
    drained = turn_keeps.drained;
    pieces =
        each_mapped (KeepsToTrace t) (KeepsToTrace t) (prolonged s.now)
        (λ p within. record {
          nodes = subst (All (λ n. n < length t.nodes)) (sym (prolonged-nodes s.now p)) within.nodes;
          expected = prolonged-within s.now p (omega arith) within.expected;
        }) (staying t s)
        (Each-filter (KeepsToTrace t) (λ p. runs (turn t s).running p.job) (running_on s)
        (Each-filter (KeepsToTrace t) (λ p. not (has_ended s.now p)) s.pieces stands.pieces));
    apart =
        share_prolonged s.now (staying t s)
        (EachPair-filter ShareNoNode (λ p. runs (turn t s).running p.job) (running_on s) (EachPair-filter ShareNoNode (λ p. not (has_ended s.now p)) s.pieces stands.apart));
    planned = stands.planned;
    alive = λ after. Each-passed (λ j. has_expired t s.now j ≡ false) (λ j. not (has_expired t s.now j)) (λ j passes. by_test (has_expired t s.now j) passes) (turn t s).pending;
  }
    where
      by_test : (b : Bool) → not b ≡ true → b ≡ false
      by_test true e = absurd cc
      by_test false e = refl

-- each piece is expected to end later than now
pub begin_ahead : (t : Scenario) (s : Snapshot) → Each (λ p. s.now < p.expected) (begin t s).pieces
begin_ahead t s =
    each_mapped (λ p. Unit {0}) (λ p. s.now < p.expected) (prolonged s.now) (λ p u. prolonged-ahead s.now p) (staying t s) (Each-all (λ p. Unit {0}) (λ p. tt) (staying t s))
