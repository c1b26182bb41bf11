-- What is shown of a run's cycles, one after another, and what becomes of an observer of them. Lists of cycles have the first one first.
use Rattle.std.specs.Prelude.{◌≡◌, ◌<◌, List, [], ◌∷◌, length, map}
use Rattle.tetri_report.specs.Block.{Block}
use Rattle.tetri_report.specs.BlockLines.{occurrences_in}
use Rattle.tetri_space.specs.Sound.{IsSound as IsSoundSpace}
use Rattle.tetri_space.specs.Space.{space}
use Rattle.tetri_space.specs.Total.{total_in}
use Rattle.tetri_state.specs.After.{after}
use Rattle.tetri_state.specs.Begin.{begin, occurring}
use Rattle.tetri_state.specs.Launch.{launched_in, start_of, worth_launched}
use Rattle.tetri_state.specs.Planning.{instance_at}
use Rattle.tetri_state.specs.Reached.{IsPlan, IsReached, between}
use Rattle.tetri_state.specs.Snapshot.{Snapshot}
use Rattle.tetri_strl.specs.declared.grants.Grant.{Grant}
use Rattle.tetri_trace.specs.Scenario.{Scenario}
use Rattle.tetri_cycles.specs.declared.observer.SeenSlot.{SeenSlot}

-- the slot behind this state is one of the run, and may have these grants
pub record MayRun (t : Scenario) (s : Snapshot) (a : List Grant) : Type 0 where
  pub in_run : s.now < t.header.until
  pub plan : IsPlan t (begin t s) a

-- A cycle is right that begins in this state: it is one of the run and may have its grants, and what it tells beside its bound and its
-- certificate is so.
pub record IsRightCycle (t : Scenario) (s : Snapshot) (b : Block) : Type 0 where
  pub may_run : MayRun t s b.grants
  pub number : b.number ≡ s.now
  pub happened : occurrences_in b ≡ occurring t s
  pub attained : total_in (instance_at t s) b.grants ≡ b.value
  pub starts : b.starts ≡ map (start_of (instance_at t s)) b.grants
  pub launched : b.launched ≡ launched_in (instance_at t s) b.grants

-- the state behind a cycle
abbrev pub next : Scenario → Snapshot → Block → Snapshot
next t s b = after t (begin t s) b.grants

-- the state behind some cycles from this one on
abbrev pub behind : Scenario → Snapshot → List Block → Snapshot
behind t s [] = s
behind t s (b ∷ bs) = behind t (next t s b) bs

-- A cycle that begins in this state, which a run reaches, is right and is shown with the state behind it and with its slot.
pub record IsShown (t : Scenario) (s : Snapshot) (b : Block) (now : Snapshot) (slot : SeenSlot) : Type 0 where
  pub reached : IsReached t between s
  pub right : IsRightCycle t s b
  pub state : now ≡ next t s b
  pub instance : space slot.inst.now ≡ instance_at t s
  pub sound : IsSoundSpace (space slot.inst.now)
  pub held : slot.held ≡ length (begin t s).pieces
  pub worth : slot.worth ≡ worth_launched (instance_at t s) b.grants

-- An observer saw these cycles one after another, of which the first begins in this state: as it stood before them, and as it stands behind
-- them. `saw t s b old new` says what one cycle may make of it.
module _ {Observer : Type 0} (saw : Scenario → Snapshot → Block → Observer → Observer → Type 0) (t : Scenario) where
  abbrev pub Observed : Snapshot → List Block → Observer → Observer → Type 0
  Observed s [] old new = new ≡ old
  Observed s (b ∷ bs) old new = (middle : Observer) × (saw t s b old middle × Observed (next t s b) bs middle new)
