-- The numbers that figures tell of the rows and cycles of an account.
use Rattle.std.specs.Prelude.{◌≡◌, ℕ, ◌+◌, ◌-◌, ◌*◌, ◌/◌, ◌^◌, ◌==◌, Bool, true, false, if◌then◌else◌, List, [], ◌∷◌, Option, Some, None, length, max, min, slice_index_or, unwrap_or}
use Rattle.tetri_base.specs.Lists.{bit, count, sum_of}
use Rattle.tetri_state.specs.declared.pieces.Piece.{Piece}
use Rattle.tetri_trace.specs.Scenario.{Scenario}
use Rattle.tetri_accounts.specs.Text.{wait_of}
use Rattle.tetri_accounts.specs.declared.row.CycleNote.{CycleNote}
use Rattle.tetri_accounts.specs.declared.row.Outcome.{Outcome}
use Rattle.tetri_accounts.specs.declared.row.Outcome.TheVariants.{Ran, Overran, Failed, Cancelled, Expired, Waiting, Running}
use Rattle.tetri_accounts.specs.declared.row.Row.{Row}
use Rattle.tetri_figures.specs.declared.figures.Counts.{Counts}
use Rattle.tetri_figures.specs.declared.sums.Part.{Part}
use Rattle.tetri_figures.specs.declared.sums.Part.TheVariants.{With, Launches, Waits, Waiters, WholeWaits, Worth, Kept, Ended, Slowdowns, Bounded}

-- what stands at the places that are picked
abbrev pub picked : {X : Type 0} → List Bool → List X → List X
picked marks [] = []
picked [] (x ∷ xs) = []
picked (true ∷ marks) (x ∷ xs) = x ∷ picked marks xs
picked (false ∷ marks) (x ∷ xs) = picked marks xs

-- the place of an outcome among the figures
abbrev pub outcome_place : Outcome → ℕ
outcome_place Ran = 0
outcome_place Overran = 1
outcome_place Failed = 2
outcome_place Cancelled = 3
outcome_place Expired = 4
outcome_place Waiting = 5
outcome_place Running = 6

-- all pieces of the launch ended
abbrev pub is_done : Outcome → Bool
is_done Ran = true
is_done Overran = true
is_done _ = false

-- they ended, or run as the run ends
abbrev pub is_kept : Outcome → Bool
is_kept Ran = true
is_kept Overran = true
is_kept Running = true
is_kept _ = false

-- a number of a launch, and nothing of a job without one
abbrev pub of_launch : Option ℕ → ℕ → ℕ
of_launch None n = 0
of_launch (Some start) n = n

-- it was cancelled
abbrev pub is_cancelled : Outcome → Bool
is_cancelled Cancelled = true
is_cancelled _ = false

-- a number of a launch, and of a job without one that was not cancelled: it expired, or waits as the run ends
abbrev pub of_waiter : Option ℕ → Outcome → ℕ → ℕ
of_waiter (Some start) o n = n
of_waiter None o n = if is_cancelled o then 0 else n

-- How many times as long as it ran a launch took from its arrival to its end, in thousandths, rounded down: at least once, and as if it had run
-- for so many slots at least, and for one.
abbrev pub slowdown_by : ℕ → ℕ → ℕ → ℕ
slowdown_by bound wait ran = max 1000 ((wait + ran) * 1000 / max (max bound 1) ran)

-- how many of the nodes are counted: those that are marked, and all without marks
abbrev pub nodes_counted : Option (List Bool) → List ℕ → ℕ
nodes_counted None nodes = length nodes
nodes_counted (Some marks) nodes = count (λ n. slice_index_or marks n false) nodes

-- the slots that a piece took on these nodes up to an end
abbrev pub piece_slots : Option (List Bool) → ℕ → Piece → ℕ
piece_slots counted end p = nodes_counted counted p.nodes * (min p.real end - p.started)

-- numbers are told up to this one
abbrev pub most : ℕ
most = 2 ^ 128 - 1

module _ (t : Scenario) where
  -- how many slots a launch ran, up to the end of the run where it runs on
  abbrev pub ran_of : Row → ℕ
  ran_of r = unwrap_or r.end t.header.until - unwrap_or r.start 0

  -- the number of a row that is added up
  abbrev pub part_of : Part → Row → ℕ
  part_of (With o) r = bit (outcome_place r.outcome == outcome_place o)
  part_of Launches r = of_launch r.start 1
  part_of Waits r = of_launch r.start (wait_of t r)
  part_of Waiters r = of_waiter r.start r.outcome 1
  part_of WholeWaits r = of_waiter r.start r.outcome (wait_of t r)
  part_of Worth r = of_launch r.start r.worth
  part_of Kept r = of_launch r.start (if is_kept r.outcome then r.worth else 0)
  part_of Ended r = of_launch r.start (bit (is_done r.outcome))
  part_of Slowdowns r = of_launch r.start (if is_done r.outcome then slowdown_by 10 (wait_of t r) (ran_of r) else 0)
  part_of (Bounded bound) r = of_launch r.start (slowdown_by bound (wait_of t r) (ran_of r))

  -- the slots that a row's pieces took on these nodes
  abbrev pub row_slots : Option (List Bool) → Row → ℕ
  row_slots counted r = sum_of (piece_slots counted (unwrap_or r.end t.header.until)) r.pieces

-- the greatest of these numbers, 0 where there is none
abbrev pub greatest_of : {X : Type 0} → (X → ℕ) → List X → ℕ
greatest_of f [] = 0
greatest_of f (x ∷ xs) = max (f x) (greatest_of f xs)

-- the tops of the jobs that are picked, together
abbrev pub offered : List Bool → List ℕ → ℕ
offered jobs tops = sum_of (λ top. top) (picked jobs tops)

-- by how much the values of cycles fall short of their bounds, together
abbrev pub gaps : List CycleNote → ℕ
gaps cycles = sum_of (λ (c : CycleNote). c.bound - c.value) cycles

-- These are the counts of the rows that are picked, of those that are picked as wide, of these jobs and, where nodes are marked, on these nodes alone,
-- with slowdowns bounded at so many slots. Each is the number itself, but for the node slots, which are told up to the most.
module _ (t : Scenario) (marks wide_marks jobs : List Bool) (counted : Option (List Bool)) (rows : List Row) (tops : List ℕ) (bound : ℕ) where
  abbrev pub over : Part → ℕ
  over part = sum_of (part_of t part) (picked marks rows)

  abbrev pub over_wide : Part → ℕ
  over_wide part = sum_of (part_of t part) (picked wide_marks rows)

  pub record AreCounts (c : Counts) : Type 0 where
    pub outcomes : c.outcomes ≡ over (With Ran) ∷ over (With Overran) ∷ over (With Failed) ∷ over (With Cancelled) ∷ over (With Expired) ∷ over (With Waiting)
        ∷ over (With Running) ∷ []
    pub launches : c.launches ≡ over Launches
    pub waited : c.waited ≡ over Waits
    pub greatest : c.greatest ≡ greatest_of (part_of t Waits) (picked marks rows)
    pub waiters : c.waiters ≡ over Waiters
    pub waited_whole : c.waited_whole ≡ over WholeWaits
    pub greatest_whole : c.greatest_whole ≡ greatest_of (part_of t WholeWaits) (picked marks rows)
    pub wide : c.wide ≡ over_wide Waiters
    pub waited_wide : c.waited_wide ≡ over_wide WholeWaits
    pub ended : c.ended ≡ over Ended
    pub slowdowns : c.slowdowns ≡ over Slowdowns
    pub bounded : c.bounded ≡ over (Bounded bound)
    pub used : c.used ≡ min (sum_of (row_slots t counted) (picked marks rows)) most
    pub launched : c.launched ≡ over Worth
    pub kept : c.kept ≡ over Kept
    pub offered : c.offered ≡ offered jobs tops
