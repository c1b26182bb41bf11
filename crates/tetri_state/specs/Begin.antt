-- The beginning of a cycle: pieces end, the events of the slot happen, pieces run over, and jobs expire.
use Rattle.std.specs.Prelude.{ℕ, ◌+◌, ◌==◌, ◌||◌, Bool, true, false, not, nat_lt, nat_le, ◌<◌, if◌then◌else◌, List, [], ◌∷◌, ◌++◌, find, map, filter, slice_set, Option, Some, None, option_map}
use Rattle.std.specs.List.{list_any}
use Rattle.tetri_base.specs.Lists.{has}
use Rattle.tetri_base.specs.Order.{by_then, in_order}
use Rattle.tetri_strl.specs.Worth.{top_of}
use Rattle.tetri_request.specs.Options.{has_expired as ask_has_expired}
use Rattle.tetri_trace.specs.declared.trace.Event.{Event}
use Rattle.tetri_trace.specs.declared.trace.Happening.{Happening}
use Rattle.tetri_trace.specs.declared.trace.Happening.TheVariants.{Arrive, Cancel, Drain, Undrain, Fail}
use Rattle.tetri_trace.specs.Scenario.{Demand, Scenario, strl, asks, submission_of}
use Rattle.tetri_state.specs.declared.happened.PieceId.{PieceId}
use Rattle.tetri_state.specs.declared.happened.Happened.{Happened}
use Rattle.tetri_state.specs.declared.pieces.Piece.{Piece}
use Rattle.tetri_state.specs.Snapshot.{Snapshot}

abbrev pub without : ℕ → List ℕ → List ℕ
without n ns = filter (λ m. not (m == n)) ns

-- the number among those that ascend, where it stays alone if it is there
abbrev pub put_number : ℕ → List ℕ → List ℕ
put_number n [] = n ∷ []
put_number n (m ∷ ms) = if nat_lt m n then m ∷ put_number n ms else if m == n then m ∷ ms else n ∷ m ∷ ms

-- one of the pieces is the job's
abbrev pub runs : List PieceId → ℕ → Bool
runs ids job = list_any (λ a. a.job == job) ids

abbrev pub comes_before : PieceId → PieceId → Bool
comes_before = by_then (λ (a : PieceId). a.job) (λ a b. nat_lt a.leaf b.leaf)

abbrev pub named : Piece → PieceId
named p = record { job = p.job; leaf = p.leaf }

-- what pieces are told by, by job and then leaf
abbrev pub told : List Piece → List PieceId
told pieces = in_order comes_before (map named pieces)

-- A state in this slot, by all of it that the beginning of a cycle looks at.
abbrev pub standing : ℕ → List Bool → List ℕ → List Piece → Snapshot
standing now drained pending pieces = record {
  now = now;
  drained = drained;
  pending = pending;
  pieces = pieces;
  launched = [];
  ended = [];
  cancelled = [];
  expired = [];
  plan = [];
}

-- First, pieces end.

abbrev pub has_ended : ℕ → Piece → Bool
has_ended now p = nat_le p.real now

abbrev pub ending : Snapshot → List Piece
ending s = filter (has_ended s.now) s.pieces

abbrev pub running_on : Snapshot → List Piece
running_on s = filter (λ p. not (has_ended s.now p)) s.pieces

-- the jobs of ended pieces of which none runs on, each once
abbrev pub finished : List PieceId → List PieceId → List ℕ
finished running [] = []
finished running (a ∷ ended) = if runs ended a.job || runs running a.job then finished running ended else a.job ∷ finished running ended

-- Then the events of the slot happen, in the order of their lines.

abbrev pub events_at : Scenario → ℕ → List Event
events_at t now = filter (λ e. e.at == now) t.events

-- what events change: the drained nodes, the pending jobs, the pieces that still run, the jobs that were cancelled, and those
-- that failed
pub record Turn : Type 0 where
  pub drained : List Bool
  pub pending : List ℕ
  pub running : List PieceId
  pub cancelled : List ℕ
  pub failed : List ℕ

-- the pieces of all other jobs
abbrev pub but_of : ℕ → List PieceId → List PieceId
but_of job ids = filter (λ a. not (a.job == job)) ids

-- a pending job leaves, and all pieces of a running job end; to any other job nothing happens
abbrev pub cancel : ℕ → Turn → Turn
cancel job v = if has v.pending job || runs v.running job
    then record v { pending = without job v.pending; running = but_of job v.running; cancelled = v.cancelled ++ job ∷ [] }
    else v

-- all pieces of a running job end, and it is pending again; to any other job nothing happens
abbrev pub fail : ℕ → Turn → Turn
fail job v = if runs v.running job
    then record v { pending = put_number job v.pending; running = but_of job v.running; failed = v.failed ++ job ∷ [] }
    else v

-- the job whose piece is on a failed node fails
abbrev pub fail_on : Option ℕ → Turn → Turn
fail_on None v = v
fail_on (Some job) v = fail job v

-- what an event does, where these are the jobs whose pieces are on the nodes
abbrev pub happen : (ℕ → Option ℕ) → Happening → Turn → Turn
happen holder (Arrive job) v = record v { pending = put_number job v.pending }
happen holder (Cancel job) v = cancel job v
happen holder (Drain node) v = record v { drained = slice_set v.drained node true }
happen holder (Undrain node) v = record v { drained = slice_set v.drained node false }
happen holder (Fail node) v = fail_on (holder node) (record v { drained = slice_set v.drained node true })

abbrev pub happen_all : (ℕ → Option ℕ) → List Event → Turn → Turn
happen_all holder [] v = v
happen_all holder (e ∷ es) v = happen_all holder es (happen holder e.what v)

-- the job whose piece is on a node
abbrev pub holder_in : List Piece → ℕ → Option ℕ
holder_in pieces node = option_map (λ p. p.job) (find (λ p. has p.nodes node) pieces)

-- before the events of the slot
abbrev pub unturned : Snapshot → Turn
unturned s = record { drained = s.drained; pending = s.pending; running = told (running_on s); cancelled = []; failed = [] }

abbrev pub turn : Scenario → Snapshot → Turn
turn t s = happen_all (holder_in (running_on s)) (events_at t s.now) (unturned s)

-- the pieces whose jobs were not cancelled and did not fail
abbrev pub staying : Scenario → Snapshot → List Piece
staying t s = filter (λ p. runs (turn t s).running p.job) (running_on s)

-- Then pieces that run longer than expected are expected to end in the next slot.

abbrev pub is_over : ℕ → Piece → Bool
is_over now p = nat_le p.expected now

abbrev pub prolonged : ℕ → Piece → Piece
prolonged now p = if is_over now p
    then record p { expected = now + 1 }
    else p

-- Last, jobs expire.

-- An expression whose leaves that start from now on are worth nothing, where no leaf starts after slot 20,000; and an ask
-- none of whose options that start from now on is worth anything.
abbrev pub is_spent : Demand → ℕ → ℕ → Bool
is_spent (strl e) arrival now = top_of now 20001 e == 0
is_spent (asks a) arrival now = ask_has_expired a arrival now

abbrev pub has_expired : Scenario → ℕ → ℕ → Bool
has_expired t now job = is_spent (submission_of t job).demand (submission_of t job).arrival now

-- the state once its slot has begun
abbrev pub begin : Scenario → Snapshot → Snapshot
begin t s = record {
  now = s.now;
  drained = (turn t s).drained;
  pending = filter (λ j. not (has_expired t s.now j)) (turn t s).pending;
  pieces = map (prolonged s.now) (staying t s);
  launched = s.launched;
  ended = s.ended ++ finished (told (running_on s)) (told (ending s));
  cancelled = s.cancelled ++ (turn t s).cancelled;
  expired = s.expired ++ filter (has_expired t s.now) (turn t s).pending;
  plan = s.plan;
}

-- What happens at the beginning of a cycle: pieces by job and then leaf, cancelled jobs and failed jobs each in the order of
-- their lines, and expired jobs by number.
pub record Occurrences : Type 0 where
  pub ended : List PieceId
  pub cancelled : List ℕ
  pub failed : List ℕ
  pub over : List PieceId
  pub expired : List ℕ

abbrev pub occurring : Scenario → Snapshot → Occurrences
occurring t s = record {
  ended = told (ending s);
  cancelled = (turn t s).cancelled;
  failed = (turn t s).failed;
  over = told (filter (is_over s.now) (staying t s));
  expired = filter (has_expired t s.now) (turn t s).pending;
}

-- what is told of it
abbrev pub occurrences : Happened → Occurrences
occurrences h = record {
  ended = h.ended.items;
  cancelled = h.cancelled.items;
  failed = h.failed.items;
  over = h.over.items;
  expired = h.expired.items;
}

-- an event of a node is of one below this number
abbrev pub IsOfNodeBelow : ℕ → Happening → Type 0
IsOfNodeBelow nodes (Arrive job) = Unit {0}
IsOfNodeBelow nodes (Cancel job) = Unit {0}
IsOfNodeBelow nodes (Drain node) = node < nodes
IsOfNodeBelow nodes (Undrain node) = node < nodes
IsOfNodeBelow nodes (Fail node) = node < nodes
