-- Jobs that run, wait or are told of are the trace's.
use Rattle.std.proofs.Common.{◌≡◌, ℕ, ◌+◌, ◌<◌, List, [], ◌∷◌, ◌++◌, length, map, cond, Bool, true, false, All, not, set, refl}
use Rattle.std.specs.Prelude.{Option, Some, None, filter, ◌||◌, ◌==◌}
use Rattle.tetri_base.specs.Lists.{Each, has}
use Rattle.tetri_base.proofs.ListLaws.{Each-append, Each-filter, Each-map}
use Rattle.tetri_base.proofs.OrderLaws.{Each-in_order}
use Rattle.tetri_state.proofs.Ascending.{all_each, each_from}
use Rattle.tetri_space.specs.Space.{Bid}
use Rattle.tetri_trace.specs.declared.trace.Event.{Event}
use Rattle.tetri_trace.specs.declared.trace.Happening.{Happening}
use Rattle.tetri_trace.specs.declared.trace.Happening.TheVariants.{Arrive, Cancel, Drain, Undrain, Fail}
use Rattle.tetri_trace.specs.Scenario.{Scenario}
use Rattle.tetri_trace.specs.Sound.{IsSound, NamesKnown}
use Rattle.tetri_state.specs.declared.happened.PieceId.{PieceId}
use Rattle.tetri_state.specs.declared.pieces.Piece.{Piece}
use Rattle.tetri_state.specs.Begin.{Turn, but_of, cancel, comes_before, ending, events_at, fail, fail_on, happen, happen_all, has_ended, has_expired, holder_in, is_over, named, occurring, put_number, running_on, runs, staying, told, turn, unturned, without}
use Rattle.tetri_state.specs.Known.{AreOfJobs}
use Rattle.tetri_state.specs.Planning.{bid_of, instance_of}
use Rattle.tetri_state.specs.Reached.{IsReached, between, begun}
use Rattle.tetri_state.specs.Snapshot.{ArrivedBefore, Snapshot}
use Rattle.tetri_state.proofs.PieceLemmas.{each_mapped}
use Rattle.tetri_state.proofs.ReachedLemmas.{stands_begun, stands_between}
use Rattle.tetri_state.proofs.SoundLemmas.{held_of}
use Rattle.tetri_state.proofs.StandLemmas.{Stands, turn_arrived}

module _ (t : Scenario) where
  abbrev IsJob : ℕ → Type 0
  IsJob job = job < length t.submissions

  abbrev IsOfJob : Piece → Type 0
  IsOfJob p = p.job < length t.submissions

  abbrev IsToldOfJob : PieceId → Type 0
  IsToldOfJob a = a.job < length t.submissions

  told_known : (ps : List Piece) → Each IsOfJob ps → Each IsToldOfJob (told ps)
  told_known ps each = Each-in_order comes_before IsToldOfJob (map named ps) (each_mapped IsOfJob IsToldOfJob named (λ p h. h) ps each)

  running_known : (s : Snapshot) → Each IsOfJob s.pieces → Each IsOfJob (running_on s)
  running_known s each = Each-filter IsOfJob (λ p. not (has_ended s.now p)) s.pieces each

  staying_known : (s : Snapshot) → Each IsOfJob s.pieces → Each IsOfJob (staying t s)
  staying_known s each = Each-filter IsOfJob (λ p. runs (turn t s).running p.job) (running_on s) (running_known s each)

  bids_known : (s : Snapshot) → Each IsJob s.pending → All (λ b. b.job < length t.submissions) (instance_of t s).bids
  bids_known s each = all_each (λ (b : Bid). b.job < length t.submissions) (map (bid_of t s.now) s.pending) (each_mapped IsJob (λ (b : Bid). b.job < length t.submissions) (bid_of t s.now) (λ j h. h) s.pending each)

  pending_known : (slot : ℕ) (s : Snapshot) → Stands t slot s → Each IsJob s.pending
  pending_known slot s stands = Each-map (ArrivedBefore t slot) IsJob (λ j h. h.0) s.pending stands.arrived

  -- once the slot has begun
  module _ (sound : IsSound t) where
    pub begun_bids : (s : Snapshot) → IsReached t begun s → All (λ b. b.job < length t.submissions) (instance_of t s).bids
    begun_bids s reached = bids_known s (pending_known (s.now + 1) s (stands_begun t s sound reached))

    -- what events change is told of jobs of the trace
    pub record TurnIsKnown (v : Turn) : Type 0 where
      pub cancelled : Each IsJob v.cancelled
      pub failed : Each IsJob v.failed

    cancel_known : (job : ℕ) (v : Turn) → IsJob job → TurnIsKnown v → TurnIsKnown (cancel job v)
    cancel_known job v here known = by_test (has v.pending job || runs v.running job)
      where
        by_test : (x : Bool) → TurnIsKnown (cond x (record v { pending = without job v.pending; running = but_of job v.running; cancelled = v.cancelled ++ job ∷ [] }) v)
        by_test true = record { cancelled = Each-append IsJob v.cancelled (job ∷ []) known.cancelled (here, tt); failed = known.failed }
        by_test false = known

    fail_known : (job : ℕ) (v : Turn) → IsJob job → TurnIsKnown v → TurnIsKnown (fail job v)
    fail_known job v here known = by_test (runs v.running job)
      where
        by_test : (x : Bool) → TurnIsKnown (cond x (record v { pending = put_number job v.pending; running = but_of job v.running; failed = v.failed ++ job ∷ [] }) v)
        by_test true = record { cancelled = known.cancelled; failed = Each-append IsJob v.failed (job ∷ []) known.failed (here, tt) }
        by_test false = known

    fail_on_known : (o : Option ℕ) (v : Turn) → ((job : ℕ) → o ≡ Some job → IsJob job) → TurnIsKnown v → TurnIsKnown (fail_on o v)
    fail_on_known None v held known = known
    fail_on_known (Some job) v held known = fail_known job v (held job refl) known

    module _ (holder : ℕ → Option ℕ) (held : (node job : ℕ) → holder node ≡ Some job → IsJob job) where
      happen_known : (what : Happening) (v : Turn) → NamesKnown t what → TurnIsKnown v → TurnIsKnown (happen holder what v)
      happen_known (Arrive job) v here known = record { cancelled = known.cancelled; failed = known.failed }
      happen_known (Cancel job) v here known = cancel_known job v here known
      happen_known (Drain node) v here known = record { cancelled = known.cancelled; failed = known.failed }
      happen_known (Undrain node) v here known = record { cancelled = known.cancelled; failed = known.failed }
      happen_known (Fail node) v here known =
          fail_on_known (holder node) (record v { drained = set v.drained node true }) (held node) (record { cancelled = known.cancelled; failed = known.failed })

      happen_all_known : (es : List Event) (v : Turn) → Each (λ e. NamesKnown t e.what) es → TurnIsKnown v → TurnIsKnown (happen_all holder es v)
      happen_all_known [] v names known = known
      happen_all_known (e ∷ es) v names known = happen_all_known es (happen holder e.what v) names.1 (happen_known e.what v names.0 known)

    pub occurring_known : (s : Snapshot) → IsReached t between s → AreOfJobs t (occurring t s)
    occurring_known s reached =
        let stands = stands_between t s sound reached in
        let pieces : Each IsOfJob s.pieces = Each-map (λ (p : Piece). ArrivedBefore t s.now p.job) IsOfJob (λ p h. h.0) s.pieces stands.ran in
        let names : Each (λ e. NamesKnown t e.what) (events_at t s.now) = Each-filter (λ (e : Event). NamesKnown t e.what) (λ e. e.at == s.now) t.events (each_from (λ (e : Event). NamesKnown t e.what) t.events sound.known) in
        let turned = happen_all_known (holder_in (running_on s)) (held_of IsJob (running_on s) (running_known s pieces)) (events_at t s.now) (unturned s) names (record { cancelled = tt; failed = tt }) in
        let pending = Each-map (ArrivedBefore t (s.now + 1)) IsJob (λ j h. h.0) (turn t s).pending (turn_arrived t s sound stands) in
        record {
          ended = all_each IsToldOfJob (told (ending s)) (told_known (ending s) (Each-filter IsOfJob (has_ended s.now) s.pieces pieces));
          cancelled = all_each IsJob (turn t s).cancelled turned.cancelled;
          failed = all_each IsJob (turn t s).failed turned.failed;
          over = all_each IsToldOfJob (told (filter (is_over s.now) (staying t s))) (told_known (filter (is_over s.now) (staying t s)) (Each-filter IsOfJob (is_over s.now) (staying t s) (staying_known s pieces)));
          expired = all_each IsJob (filter (has_expired t s.now) (turn t s).pending) (Each-filter IsJob (has_expired t s.now) (turn t s).pending pending);
        }
