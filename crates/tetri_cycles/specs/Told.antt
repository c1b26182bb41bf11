-- How the cycles of a run are told. Lists of cycles have the last one first.
use Rattle.std.specs.Prelude.{◌≡◌, ℕ, List, [], ◌∷◌, ◌++◌, Option, length}
use Rattle.std.specs.Io.KnownBytes.{append_known}
use Rattle.tetri_report.specs.Printable.{IsSummaryInRange}
use Rattle.tetri_report.specs.Text.{summary_text}
use Rattle.tetri_trace.specs.Scenario.{Scenario}
use Rattle.tetri_cycles.specs.Cycles.{state_behind_cycles, summary_of_cycles}
use Rattle.tetri_cycles.specs.Planning.{Kind}
use Rattle.tetri_cycles.specs.Texts.{StoppedBehind, StoppedInNext}

-- the texts of the cycles of a run, one behind another
abbrev pub AreTold : {Telling : Type 0} (k : Kind Telling) → Telling → Scenario → List k.Cycle → List ℕ → Type 0
AreTold k telling t [] text = text ≡ []
AreTold k telling t (c ∷ past) text =
    (front : List ℕ) × ((own : List ℕ) × ((text ≡ front ++ own) × (AreTold k telling t past front × k.Tells telling t (state_behind_cycles k t past) c own)))

-- The next text of such a run: that of the cycle that follows, or the summary behind the last one.
pub data NextText {Telling : Type 0} (k : Kind Telling) (telling : Telling) (IsSuch : Scenario → List k.Cycle → Type 0) (t : Scenario) (past : List k.Cycle) : List ℕ → Type 0 where
  cycle : (c : k.Cycle) (text : List ℕ) → IsSuch t (c ∷ past) → k.Tells telling t (state_behind_cycles k t past) c text → NextText k telling IsSuch t past text
  summary : length past ≡ t.header.until → NextText k telling IsSuch t past (summary_text (summary_of_cycles k t past))

module _ {Telling : Type 0} (k : Kind Telling) (telling : Telling) (IsSuch : Scenario → List k.Cycle → Type 0) (t : Scenario) where
  -- the cycles of such a run are told
  pub record IsToldRun (past : List k.Cycle) (text : List ℕ) : Type 0 where
    pub run : IsSuch t past
    pub told : AreTold k telling t past text

  -- such a run stopped behind some cycles, in their next text
  abbrev pub StoppedInText : Option (List ℕ) → Option (List ℕ) → Type 0
  StoppedInText = StoppedInNext (List k.Cycle) IsToldRun (NextText k telling IsSuch t)

  -- such a run stopped between two texts
  abbrev pub StoppedBetween : Option (List ℕ) → Option (List ℕ) → Type 0
  StoppedBetween = StoppedBehind (List k.Cycle) IsToldRun

  -- the cycles of such a run, a whole one, were told, and then its summary
  pub record WroteRun (before now : Option (List ℕ)) : Type 0 where
    pub past : List k.Cycle
    pub text : List ℕ
    pub told : IsToldRun past text
    pub whole : length past ≡ t.header.until
    pub in_range : IsSummaryInRange (summary_of_cycles k t past)
    pub written : now ≡ append_known before (text ++ summary_text (summary_of_cycles k t past))
