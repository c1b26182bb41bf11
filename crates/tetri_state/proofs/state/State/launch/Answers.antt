use Rattle.std.proofs.Common.{◌≡◌, ◌∙◌, ◌+◌, ◌≤◌, ◌++◌, ℕ, [], filter, length, not, ap, subst, sym, arith, is_ok, true, cond, vec_len, vec_capacity}
use Rattle.std.specs.List.Sorted.{IsNonDecreasingBy}
use Rattle.tetri_base.specs.Lists.{has}
use Rattle.tetri_state.specs.Readied.{Readied}
use Rattle.tetri_state.specs.Snapshot.{Snapshot}
use Rattle.tetri_state.proofs.BeginLemmas.{appended, len_is, same_state}
use Rattle.tetri_state.proofs.ReadyLemmas.{parts_count}
use Rattle.tetri_state.proofs.SearchLemmas.{never_fall}
use Rattle.tetri_state.proofs.state.State.launch.Goals as goal
use Rattle.tetri_state.proofs.state.State.launch.Goals.{After-drop-jobs}

pub leave-requires : goal.leave-requires
leave-requires c =
    subst (IsNonDecreasingBy (λ (n : ℕ). n)) (sym c.deref.ensures.value) (never_fall c.prepared.inside.jobs.items c.prepared.invariant.0)

module _ (c : After-drop-jobs) where
  abbrev s : Snapshot
  s = c.args.self.now

  abbrev r : Readied
  r = c.args.prepared

  jobs_are : c.prepared.inside.jobs.items ≡ r.jobs
  jobs_are = ap (λ (p : Readied). p.jobs) c.prepared.view_is

  pending_is : c.self.inside.pending.items ≡ s.pending
  pending_is = ap (λ (p : Snapshot). p.pending) c.self.view_is

  left_is : c.leave.new.jobs.items ≡ filter (λ j. not (has r.jobs j)) s.pending
  left_is =
      c.leave.ensures
      ∙ ap (λ js. filter (λ j. not (has js j)) c.self.inside.pending.items) (c.deref.ensures.value ∙ jobs_are)
      ∙ ap (filter (λ j. not (has r.jobs j))) pending_is

  count : length c.leave.new.jobs.items + length c.prepared.inside.jobs.items ≡ length c.self.inside.pending.items
  count =
      omega
      (arith, ap length left_is, ap length jobs_are, ap length c.requires.pending, ap length pending_is, parts_count (has r.jobs) s.pending)

  fits_launched : vec_len c.self.inside.launched + vec_len c.prepared.inside.jobs ≤ vec_capacity c.self.inside.launched
  fits_launched = omega (arith, count, c.self.invariant, len_is c.prepared.inside.jobs, len_is c.self.inside.pending)

  first : is_ok c.append.result ≡ true
  first = c.append.ensures.succeeds fits_launched

  pieces_are : c.self.inside.pieces.items ≡ s.pieces
  pieces_are = ap (λ (p : Snapshot). p.pieces) c.self.view_is

  new_are : c.prepared.inside.pieces.items ≡ r.pieces
  new_are = ap (λ (p : Readied). p.pieces) c.prepared.view_is

  room_is : vec_capacity c.prepared.inside.room ≡ r.room
  room_is = ap (λ (p : Readied). p.room) c.prepared.view_is

  empty : vec_len c.prepared.inside.room ≡ 0
  empty = len_is c.prepared.inside.room ∙ ap length c.prepared.invariant.1

  second : is_ok c.append-2.result ≡ true
  second =
      c.append-2.ensures.succeeds
      (omega (arith, empty, room_is, c.requires.room, len_is c.self.inside.pieces, ap length pieces_are))

  moved : vec_len c.append-2.new.self ≡ vec_len c.self.inside.pieces
  moved =
      c.append-2.ensures.len ∙ ap (λ b. cond b (vec_len c.prepared.inside.room + vec_len c.self.inside.pieces) (vec_len c.prepared.inside.room)) second
      ∙ omega (arith, empty)

  third : is_ok c.append-3.result ≡ true
  third =
      c.append-3.ensures.succeeds
      (omega (
        arith,
        moved,
        room_is,
        c.requires.room,
        c.append-2.ensures.capacity,
        len_is c.self.inside.pieces,
        ap length pieces_are,
        len_is c.prepared.inside.pieces,
        ap length new_are,
      ))

pub invariant_of-self : goal.invariant_of-self
invariant_of-self c =
    let len = c.append.ensures.len ∙ ap (λ b. cond b (vec_len c.self.inside.launched + vec_len c.prepared.inside.jobs) (vec_len c.self.inside.launched)) (first c) in
    omega
    (arith, len, count c, c.self.invariant, c.append.ensures.capacity, len_is c.leave.new.jobs, len_is c.prepared.inside.jobs, len_is c.self.inside.pending)

pub returns : goal.returns
returns c =
    let pieces : c.append-2.new.self.items ≡ [] ++ (s c).pieces = appended c.append-2.ensures.items (second c) c.prepared.invariant.1 (pieces_are c) in
    same_state (ap (λ (p : Snapshot). p.now + 1) c.self.view_is) (ap (λ (p : Readied). p.grants) c.prepared.view_is)
    (ap (λ (p : Snapshot). p.drained) c.self.view_is) (left_is c)
    (appended c.append-3.ensures.items (third c) pieces (new_are c))
    (appended c.append.ensures.items (first c) (ap (λ (p : Snapshot). p.launched) c.self.view_is) (jobs_are c))
    (ap (λ (p : Snapshot). p.ended) c.self.view_is) (ap (λ (p : Snapshot). p.cancelled) c.self.view_is) (ap (λ (p : Snapshot). p.expired) c.self.view_is)
