-- The trace that is read so far.
use Rattle.std.specs.Prelude.{◌<◌, ◌≤◌, ℕ, List, All, map}
use Rattle.tetri_trace.specs.declared.draft.Draft.{Draft}
use Rattle.tetri_trace.specs.declared.trace.Happening.{Happening}
use Rattle.tetri_trace.specs.declared.trace.Happening.TheVariants.{Arrive, Cancel, Drain, Undrain, Fail}
use Rattle.tetri_trace.specs.Scenario.{Scenario, submission}
use Rattle.tetri_trace.specs.Sound.{IsSound}

-- what a draft says
abbrev pub so_far : Draft → Scenario
so_far d = record {
  header = d.header;
  nodes = d.reader.nodes;
  sets = d.reader.sets;
  closures = d.closures;
  submissions = map submission d.jobs;
  events = d.events.items;
}

abbrev pub IsSoundDraft : Draft → Type 0
IsSoundDraft d = IsSound (so_far d)

abbrev pub with_sets : Scenario → List (List ℕ) → Scenario
with_sets s sets = record s { sets = sets }

-- in the run, and no event comes after it
pub record IsNextSlot (s : Scenario) (at : ℕ) : Type 0 where
  pub in_run : at < s.header.until
  pub not_before : All (λ e. e.at ≤ at) s.events

-- it brings no job
abbrev pub BringsNone : Happening → Type 0
BringsNone (Arrive job) = ⊥
BringsNone (Cancel job) = Unit {0}
BringsNone (Drain node) = Unit {0}
BringsNone (Undrain node) = Unit {0}
BringsNone (Fail node) = Unit {0}
