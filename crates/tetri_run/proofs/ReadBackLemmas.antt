-- The report of a run reads back as the run.
use Rattle.std.proofs.Common.{◌≡◌, ◌<◌, ◌≤◌, List, [], ◌∷◌, ◌++◌, length, All, refl, sym, ap, ◌∙◌, subst}
use Rattle.std.specs.Prelude.{ℕ, Ok, Option, flat_map}
use Rattle.std.specs.Io.KnownBytes.{append_known}
use Rattle.std.proofs.lemmas.Grind.{flat_map-append}
use Rattle.std.proofs.lemmas.List.{append-nil}
use Rattle.std.proofs.lemmas.List.Elements.{All-append, All-cons, All-map, All-nil}
use Rattle.tetri_report.specs.Block.{Block}
use Rattle.tetri_report.specs.Printable.{IsInRange, IsPrintable, IsSummaryInRange}
use Rattle.tetri_report.specs.Reading.{report_in}
use Rattle.tetri_cycles.specs.Told.{AreTold, WroteRun}
use Rattle.tetri_run.specs.Progress.{WroteReport}
use Rattle.tetri_run.specs.Telling.{block_cycles}
use Rattle.tetri_run.specs.declared.telling.Telling.TheVariants.{Report}
use Rattle.tetri_report.specs.Text.{cycle_text, summary_text}
use Rattle.tetri_report.proofs.ReportLaws.{printed_is_short, printed_reads_back}
use Rattle.tetri_space.specs.Space.{Space}
use Rattle.tetri_state.specs.Begin.{begin}
use Rattle.tetri_state.specs.Known.{AreOfJobs}
use Rattle.tetri_state.specs.Reached.{IsReached, between}
use Rattle.tetri_state.specs.Snapshot.{Snapshot}
use Rattle.tetri_state.proofs.StateLaws.{begin_reached, begun_bids, early_begun, instance_sound, occurring_known, stands_begun}
use Rattle.tetri_strl.specs.declared.grants.Grant.{Grant}
use Rattle.tetri_trace.specs.Scenario.{Scenario}
use Rattle.tetri_trace.specs.Sound.{IsSound}
use Rattle.tetri_io.specs.Lines.{lines_from}
use Rattle.tetri_run.specs.Check.{IsAccepted, IsShort, lines_in}
use Rattle.tetri_run.specs.Chosen.{IsChosenRun, IsToldCycle}
use Rattle.tetri_run.specs.Run.{IsPlannedRun, IsRun, cycles_text, in_order, report_text, state_behind, summary_of}
use Rattle.tetri_run.proofs.PrintLemmas.{cycle_printable}
use Rattle.tetri_run.proofs.RunLemmas.{run_reaches}
use Rattle.tetri_state.specs.Planning.{instance_at}

cycles_text-in_order : (t : Scenario) (past : List Block) → cycles_text t past ≡ flat_map (cycle_text t) (in_order past)
cycles_text-in_order t [] = refl
cycles_text-in_order t (b ∷ past) =
    ap (λ l. l ++ cycle_text t b) (cycles_text-in_order t past)
    ∙ ap (λ l. flat_map (cycle_text t) (in_order past) ++ l) (sym (append-nil (cycle_text t b)))
    ∙ sym (flat_map-append (cycle_text t) (in_order past) (b ∷ []))

-- a run of cycles that can be told is a run
told_is_run : (t : Scenario) (past : List Block) → IsChosenRun t past → IsRun t past
told_is_run t [] run = tt
told_is_run t (b ∷ past) run = (run.0, run.1.cycle, told_is_run t past run.2)

-- the cycles of a planned run can be told
pub planned_is_told : (M : Space → List (List Grant) → Type 0) (t : Scenario) (past : List Block) → IsPlannedRun M t past → IsChosenRun t past
planned_is_told M t [] run = tt
planned_is_told M t (b ∷ past) run = (
  run.0,
  record { cycle = run.1.cycle; bounded = run.1.bounded; ordered = run.1.ordered; printable = run.1.printable; in_range = run.1.in_range },
  planned_is_told M t past run.2,
)

module _ (t : Scenario) (sound : IsSound t) where
  run_cycle_printable : (s : Snapshot) (b : Block) → IsReached t between s → s.now < t.header.until → IsToldCycle t s b → IsPrintable t b
  run_cycle_printable s b reached more planned =
      let there = begin_reached t s reached more in
      cycle_printable t (instance_at t s) planned.cycle.carry b t.header.budget
      (record { sound = instance_sound t (begin t s) sound (stands_begun t (begin t s) sound there) (early_begun t (begin t s) sound there); nodes = refl; jobs = begun_bids t sound (begin t s) there })
      (subst (AreOfJobs t) (sym planned.cycle.happened) (occurring_known t sound s reached)) planned.cycle.plan planned.printable

  run_printable : (past : List Block) → IsChosenRun t past → All (IsPrintable t) (in_order past)
  run_printable [] run = All-nil (IsPrintable t)
  run_printable (b ∷ past) run =
      All-append (IsPrintable t) (in_order past) (b ∷ []) (run_printable past run.2)
      (All-cons (IsPrintable t) b [] (run_cycle_printable (state_behind t past) b (run_reaches t past (told_is_run t past run.2)) run.0 run.1) (All-nil (IsPrintable t)))

  run_in_range : (past : List Block) → IsChosenRun t past → All IsInRange (in_order past)
  run_in_range [] run = All-nil IsInRange
  run_in_range (b ∷ past) run = All-append IsInRange (in_order past) (b ∷ []) (run_in_range past run.2) (All-cons IsInRange b [] run.1.in_range (All-nil IsInRange))

  pub run_reads_back : (past : List Block) → IsChosenRun t past → IsSummaryInRange (summary_of t past) → report_in t (report_text t past) ≡ Ok (in_order past, summary_of t past)
  run_reads_back past run small =
      ap (λ l. report_in t (l ++ summary_text (summary_of t past))) (cycles_text-in_order t past)
      ∙ printed_reads_back t sound (in_order past) (summary_of t past) (run_printable past run) (run_in_range past run) small

  run_lines_short : (past : List Block) → IsChosenRun t past → IsSummaryInRange (summary_of t past) → All IsShort (lines_in (report_text t past))
  run_lines_short past run small =
      All-map IsShort (λ (l : List ℕ × ℕ). l.0) (lines_from 0 (report_text t past))
      (subst (λ bytes. All (λ (l : List ℕ × ℕ). length l.0 ≤ 1048576) (lines_from 0 bytes)) (ap (λ l. l ++ summary_text (summary_of t past)) (sym (cycles_text-in_order t past)))
      (printed_is_short t sound (in_order past) (summary_of t past) (run_printable past run) (run_in_range past run) small))

  -- what this planner writes is accepted
  pub run_accepted : (past : List Block) → IsChosenRun t past → length past ≡ t.header.until → IsSummaryInRange (summary_of t past) → IsAccepted t (report_text t past)
  run_accepted past run whole small = record {
    past = past;
    reads = run_reads_back past run small;
    run = told_is_run t past run;
    whole = whole;
    short = run_lines_short past run small;
  }

-- the texts of cycles that are told by their blocks are the lines of all cycles
cycles_told : (t : Scenario) (past : List Block) (text : List ℕ) → AreTold block_cycles Report t past text → text ≡ cycles_text t past
cycles_told t [] text told = told
cycles_told t (b ∷ past) text (front, (own, (e, (told, is)))) = e ∙ ap (λ l. l ++ own) (cycles_told t past front told) ∙ ap (λ l. cycles_text t past ++ l) is

-- the report of such a run
pub wrote_report : (IsSuch : Scenario → List Block → Type 0) (t : Scenario) → IsSound t → ((past : List Block) → IsSuch t past → IsChosenRun t past) →
    (before now : Option (List ℕ)) → WroteRun block_cycles Report IsSuch t before now → WroteReport IsSuch t before now
wrote_report IsSuch t sound told before now ran =
    let run = told ran.past ran.told.run in
    record {
      past = ran.past;
      run = ran.told.run;
      whole = ran.whole;
      written = ran.written ∙ ap (λ l. append_known before (l ++ summary_text (summary_of t ran.past))) (cycles_told t ran.past ran.text ran.told.told);
      reads = run_reads_back t sound ran.past run ran.in_range;
      accepted = run_accepted t sound ran.past run ran.whole ran.in_range;
    }
