-- How far a run has come: the values that are kept between cycles, the planner, and the written bytes.
use Rattle.std.specs.Prelude.{◌≡◌, ◌⊎◌, ◌<◌, ℕ, List, [], ◌∷◌, Option, length}
use Rattle.std.specs.Io.KnownBytes.{append_known}
use Rattle.tetri_io.specs.Sink.{AppendsPart}
use Rattle.tetri_report.specs.declared.cycle.Summary.{Summary}
use Rattle.tetri_state.specs.After.{after}
use Rattle.tetri_state.specs.Begin.{begin}
use Rattle.tetri_state.specs.Launch.{worth_launched}
use Rattle.tetri_state.specs.Planning.{instance_at}
use Rattle.tetri_state.specs.Reached.{IsPlan}
use Rattle.tetri_state.specs.Snapshot.{Snapshot}
use Rattle.tetri_trace.specs.Scenario.{Scenario}
use Rattle.tetri_cycles.specs.Cycles.{optimal_in, state_behind_cycles, summary_of_cycles, worth_of_cycles}
use Rattle.tetri_cycles.specs.Planning.{Planning}
use Rattle.tetri_cycles.specs.Told.{AreTold}
use Rattle.tetri_cycles.specs.declared.planner.SlotTally.{SlotTally}
use Rattle.tetri_cycles.specs.declared.tally.RunTally.{RunTally}

module _ {Planner Telling : Type 0} (p : Planning Planner Telling) where
  -- The planner plans this cycle in a state before the end of the trace: its grants are lawful and thrifty there.
  pub record IsNextCycle (before now : Planner) (t : Scenario) (old : Snapshot) (c : p.kind.Cycle) : Type 0 where
    pub in_run : old.now < t.header.until
    pub planned : p.Plans before now t old c
    pub plan : IsPlan t (begin t old) (p.kind.grants c)
    pub follows : p.Follows before now

  -- a planner planned these cycles one after another: as it stood before the first and as it stands behind the last
  abbrev pub ArePlanned : Planner → Planner → Scenario → List p.kind.Cycle → Type 0
  ArePlanned first now t [] = now ≡ first
  ArePlanned first now t (c ∷ past) =
      (before : Planner) × (IsNextCycle before now t (state_behind_cycles p.kind t past) c × ArePlanned first before t past)

  -- A planner planned these cycles, a run: as it stood before the first, and as it stands now, when it may have been asked once more
  -- behind the last.
  pub record IsRunBy (first now : Planner) (t : Scenario) (past : List p.kind.Cycle) : Type 0 where
    pub last : Planner
    pub planned : ArePlanned first last t past
    pub left : (now ≡ last) ⊎ p.Follows last now

  -- it planned some cycles
  abbrev pub RanSome : Planner → Planner → Scenario → Type 0
  RanSome first now t = (past : List p.kind.Cycle) × IsRunBy first now t past

  module _ (telling : Telling) where
    -- A slot was run: a cycle was planned, told and applied.
    pub record RanSlot (first now : Planner) (t : Scenario) (old new : Snapshot) (tally : SlotTally) (before after_it : Option (List ℕ)) : Type 0 where
      pub cycle : p.kind.Cycle
      pub planned : IsNextCycle first now t old cycle
      pub state : new ≡ after t (begin t old) (p.kind.grants cycle)
      pub worth : tally.worth ≡ worth_launched (instance_at t old) (p.kind.grants cycle)
      pub optimal : tally.optimal ≡ p.kind.optimal cycle
      pub text : List ℕ
      pub told : p.kind.Tells telling t old cycle text
      pub written : after_it ≡ append_known before text

    -- A write failed in the text of a planned cycle.
    pub record StoppedInSlot (first now : Planner) (t : Scenario) (old : Snapshot) (before after_it : Option (List ℕ)) : Type 0 where
      pub cycle : p.kind.Cycle
      pub planned : IsNextCycle first now t old cycle
      pub text : List ℕ
      pub told : p.kind.Tells telling t old cycle text
      pub written : AppendsPart before after_it text

    -- So many slots were run from the opening state on.
    pub record RanSlots (first now : Planner) (t : Scenario) (slots : ℕ) (new : Snapshot) (tally : RunTally) (before after_it : Option (List ℕ)) : Type 0 where
      pub past : List p.kind.Cycle
      pub planned : ArePlanned first now t past
      pub as_many : length past ≡ slots
      pub state : new ≡ state_behind_cycles p.kind t past
      pub worth : tally.worth ≡ worth_of_cycles p.kind t past
      pub optimal : tally.optimal ≡ optimal_in p.kind past
      pub text : List ℕ
      pub told : AreTold p.kind telling t past text
      pub written : after_it ≡ append_known before text

    -- All slots were run, and the summary is theirs.
    pub record RanAll (first now : Planner) (t : Scenario) (summary : Summary) (before after_it : Option (List ℕ)) : Type 0 where
      pub past : List p.kind.Cycle
      pub planned : ArePlanned first now t past
      pub whole : length past ≡ t.header.until
      pub counted : summary ≡ summary_of_cycles p.kind t past
      pub text : List ℕ
      pub told : AreTold p.kind telling t past text
      pub written : after_it ≡ append_known before text
