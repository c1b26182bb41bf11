-- How a run grows by a slot, and where it stops.
use Rattle.std.proofs.Common.{◌≡◌, ℕ, ◌+◌, List, [], ◌∷◌, ◌++◌, length, map, take, refl, sym, ap, ◌∙◌, subst, arith, inl, inr}
use Rattle.std.specs.Prelude.{Option, Some, None}
use Rattle.std.proofs.lemmas.List.{append-nil}
use Rattle.std.specs.Io.KnownBytes.{append_known}
use Rattle.tetri_io.specs.Sink.{AppendsPart}
use Rattle.tetri_io.proofs.TextLaws.{append_known-append}
use Rattle.tetri_report.specs.Printable.{IsSummaryInRange}
use Rattle.tetri_report.specs.Text.{summary_text}
use Rattle.tetri_report.specs.declared.cycle.Summary.{Summary}
use Rattle.tetri_state.specs.After.{after}
use Rattle.tetri_state.specs.Begin.{begin}
use Rattle.tetri_state.specs.Launch.{worth_launched}
use Rattle.tetri_state.specs.Planning.{instance_at}
use Rattle.tetri_state.specs.Reached.{ArePlans, IsReached, between}
use Rattle.tetri_state.specs.Snapshot.{Snapshot}
use Rattle.tetri_trace.specs.Scenario.{Scenario}
use Rattle.tetri_cycles.specs.Cycles.{optimal_in, state_behind_cycles, summary_of_cycles, worth_of_cycles}
use Rattle.tetri_cycles.specs.Planning.{Kind, Planning}
use Rattle.tetri_cycles.specs.Progress.{ArePlanned, IsNextCycle, IsRunBy, RanAll, RanSlot, RanSlots, StoppedInSlot}
use Rattle.tetri_cycles.specs.Tally.{summary_at}
use Rattle.tetri_cycles.specs.Told.{cycle, summary, StoppedBetween, StoppedInText, WroteRun}
use Rattle.tetri_cycles.specs.declared.planner.SlotTally.{SlotTally}
use Rattle.tetri_cycles.specs.declared.tally.RunTally.{RunTally}

pub append_known-nil : (known : Option (List ℕ)) → append_known known [] ≡ known
append_known-nil None = refl
append_known-nil (Some bytes) = ap Some (append-nil bytes)

module _ {Telling : Type 0} (k : Kind Telling) (t : Scenario) where
  -- the slot behind some cycles
  pub now_behind : (past : List k.Cycle) → (state_behind_cycles k t past).now ≡ length past
  now_behind [] = refl
  now_behind (c ∷ past) = omega (arith, now_behind past)

  -- what is added up over a run are its numbers
  pub summary_is : (past : List k.Cycle) (s : Snapshot) (tally : RunTally) → s ≡ state_behind_cycles k t past → tally.worth ≡ worth_of_cycles k t past → tally.optimal ≡ optimal_in k past →
      summary_at s tally ≡ summary_of_cycles k t past
  summary_is past s tally state worth optimal = ap (λ q. summary_at q tally) state ∙ counted (now_behind past) worth optimal
    where
      counted : (state_behind_cycles k t past).now ≡ length past → tally.worth ≡ worth_of_cycles k t past → tally.optimal ≡ optimal_in k past →
          summary_at (state_behind_cycles k t past) tally ≡ summary_of_cycles k t past
      counted a b c = cc

module _ {Planner Telling : Type 0} (p : Planning Planner Telling) (t : Scenario) where
  run_plans : (first now : Planner) (past : List p.kind.Cycle) → ArePlanned p first now t past → ArePlans t (map p.kind.grants past)
  run_plans first now [] run = tt
  run_plans first now (c ∷ past) run = (run.1.0.in_run, run.1.0.plan, run_plans first run.0 past run.1.1)

  -- the states of a run are reached
  pub run_reaches : (first now : Planner) (past : List p.kind.Cycle) → ArePlanned p first now t past → IsReached t between (state_behind_cycles p.kind t past)
  run_reaches first now past run = record { plans = map p.kind.grants past; are_plans = run_plans first now past run; is = refl }

  -- a run whose planner planned its last cycle
  pub run_by : (first now : Planner) (past : List p.kind.Cycle) → ArePlanned p first now t past → IsRunBy p first now t past
  run_by first now past run = record { last = now; planned = run; left = inl refl }

  -- a run whose planner was asked once more
  pub run_left : (first last now : Planner) (past : List p.kind.Cycle) → ArePlanned p first last t past → p.Follows last now → IsRunBy p first now t past
  run_left first last now past run left = record { last = last; planned = run; left = inr left }

  module _ (telling : Telling) where
    pub no_slots : (first : Planner) (tally : RunTally) (before : Option (List ℕ)) (s : Snapshot) → s ≡ state_behind_cycles p.kind t [] → tally.worth ≡ 0 → tally.optimal ≡ 0 →
        RanSlots p telling first first t 0 s tally before before
    no_slots first tally before s e w o = record {
      past = [];
      planned = refl;
      as_many = refl;
      state = e;
      worth = w;
      optimal = o;
      text = [];
      told = refl;
      written = sym (append_known-nil before);
    }

    module _ (first last : Planner) (i : ℕ) (old : Snapshot) (tally : RunTally) (before middle : Option (List ℕ)) (ran : RanSlots p telling first last t i old tally before middle) where
      pub number_is : old.now ≡ i
      number_is = ap (λ (s : Snapshot). s.now) ran.state ∙ now_behind p.kind t ran.past ∙ ran.as_many

      pub slot_reached : IsReached t between old
      slot_reached = subst (λ (s : Snapshot). IsReached t between s) (sym ran.state) (run_reaches first last ran.past ran.planned)

      pub one_more_slot : (next : Planner) (new : Snapshot) (more : RunTally) (slot : SlotTally) (now : Option (List ℕ)) → RanSlot p telling last next t old new slot middle now →
          more.worth ≡ tally.worth + slot.worth → more.optimal ≡ tally.optimal + slot.optimal → RanSlots p telling first next t (i + 1) new more before now
      one_more_slot next new more slot now step w o =
          let c = step.cycle in
          record {
            past = c ∷ ran.past;
            planned = (last, (subst (λ (s : Snapshot). IsNextCycle p last next t s c) ran.state step.planned, ran.planned));
            as_many = omega (arith, ran.as_many);
            state = step.state ∙ ap (λ (s : Snapshot). after t (begin t s) (p.kind.grants c)) ran.state;
            worth = w ∙ ap (λ n. n + slot.worth) ran.worth
                ∙ ap (λ n. worth_of_cycles p.kind t ran.past + n) (step.worth ∙ ap (λ (s : Snapshot). worth_launched (instance_at t s) (p.kind.grants c)) ran.state);
            optimal = o ∙ ap (λ n. n + slot.optimal) ran.optimal ∙ ap (λ n. optimal_in p.kind ran.past + n) step.optimal;
            text = ran.text ++ step.text;
            told = (ran.text, (step.text, (refl, (ran.told, subst (λ (s : Snapshot). p.kind.Tells telling t s c step.text) ran.state step.told))));
            written = step.written ∙ ap (λ k. append_known k step.text) ran.written ∙ append_known-append before ran.text step.text;
          }

      pub stopped_in_slot : (next : Planner) (now : Option (List ℕ)) → StoppedInSlot p telling last next t old middle now → StoppedInText p.kind telling (IsRunBy p first next) t before now
      stopped_in_slot next now stop =
          let c = stop.cycle in
          let planned : IsNextCycle p last next t (state_behind_cycles p.kind t ran.past) c = subst (λ (s : Snapshot). IsNextCycle p last next t s c) ran.state stop.planned in
          let told = subst (λ (s : Snapshot). p.kind.Tells telling t s c stop.text) ran.state stop.told in
          record {
            past = ran.past;
            front = ran.text;
            told = record { run = run_left first last next ran.past ran.planned stop.planned.follows; told = ran.told };
            text = stop.text;
            next = cycle c stop.text (run_by first next (c ∷ ran.past) (last, (planned, ran.planned))) told;
            part = stop.written.0;
            proper = stop.written.1;
            written = stop.written.2 ∙ ap (λ k. append_known k (take stop.written.0 stop.text)) ran.written ∙ append_known-append before ran.text (take stop.written.0 stop.text);
          }

      pub stopped_between : (next : Planner) (now : Option (List ℕ)) → p.Follows last next → now ≡ middle → StoppedBetween p.kind telling (IsRunBy p first next) t before now
      stopped_between next now left e = record {
        past = ran.past;
        front = ran.text;
        told = record { run = run_left first last next ran.past ran.planned left; told = ran.told };
        written = e ∙ ran.written;
      }

    pub stopped_first : (first : Planner) (before : Option (List ℕ)) → StoppedBetween p.kind telling (IsRunBy p first first) t before before
    stopped_first first before = record {
      past = [];
      front = [];
      told = record { run = run_by first first [] refl; told = refl };
      written = sym (append_known-nil before);
    }

    module _ (first now : Planner) (m : Summary) (before middle last : Option (List ℕ)) (ran : RanAll p telling first now t m before middle) where
      pub stopped_before_summary : last ≡ middle → StoppedBetween p.kind telling (IsRunBy p first now) t before last
      stopped_before_summary e = record {
        past = ran.past;
        front = ran.text;
        told = record { run = run_by first now ran.past ran.planned; told = ran.told };
        written = e ∙ ran.written;
      }

      pub stopped_in_summary : AppendsPart middle last (summary_text m) → StoppedInText p.kind telling (IsRunBy p first now) t before last
      stopped_in_summary part =
          let own = subst (λ (s : Summary). AppendsPart middle last (summary_text s)) ran.counted part in
          record {
            past = ran.past;
            front = ran.text;
            told = record { run = run_by first now ran.past ran.planned; told = ran.told };
            text = summary_text (summary_of_cycles p.kind t ran.past);
            next = summary ran.whole;
            part = own.0;
            proper = own.1;
            written = own.2 ∙ ap (λ k. append_known k (take own.0 (summary_text (summary_of_cycles p.kind t ran.past)))) ran.written
                ∙ append_known-append before ran.text (take own.0 (summary_text (summary_of_cycles p.kind t ran.past)));
          }

      pub wrote_run : IsSummaryInRange m → last ≡ append_known middle (summary_text m) → WroteRun p.kind telling (IsRunBy p first now) t before last
      wrote_run small e = record {
        past = ran.past;
        text = ran.text;
        told = record { run = run_by first now ran.past ran.planned; told = ran.told };
        whole = ran.whole;
        in_range = subst IsSummaryInRange ran.counted small;
        written = e ∙ ap (λ k. append_known k (summary_text m)) ran.written ∙ append_known-append before ran.text (summary_text m)
            ∙ ap (λ (s : Summary). append_known before (ran.text ++ summary_text s)) ran.counted;
      }
