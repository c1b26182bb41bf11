-- What drawing says of a report that is checked.
use Rattle.std.proofs.Common.{◌≡◌, ◌⊎◌, ℕ, List, [], refl, sym, ◌∙◌, subst, inl, inr, arith}
use Rattle.std.specs.Prelude.{Option, Result, Ok}
use Rattle.tetri_chart.specs.Charted.{IsChartPromised, IsDrawn, IsDrawnOf, IsTextDrawn, TellsRun, picture_in}
use Rattle.tetri_chart.specs.Gathered.{IsTaken, picture_with}
use Rattle.tetri_chart.specs.Picture.{Picture, picture_of}
use Rattle.tetri_chart.specs.Slots.{HasSlots}
use Rattle.tetri_chart.specs.Svg.{svg_text}
use Rattle.tetri_chart.specs.declared.gathering.Gathering.{Gathering}
use Rattle.tetri_chart.specs.declared.view.View.{View}
use Rattle.tetri_chart.proofs.GatherLemmas.{behind_now, seen_shows}
use Rattle.tetri_chart.proofs.SpanLemmas.{tells_pieces}
use Rattle.tetri_cycles.specs.Observed.{behind}
use Rattle.tetri_notice.specs.declared.fault.TraceWhy.{TraceWhy}
use Rattle.tetri_report.specs.Block.{Block}
use Rattle.tetri_run.proofs.RunLaws.{cycles_in_order}
use Rattle.tetri_run.specs.Check.{IsAccepted}
use Rattle.tetri_run.specs.CheckEnds.{HasSeen, IsHalt, IsHaltOf}
use Rattle.tetri_run.specs.Run.{in_order}
use Rattle.tetri_run.specs.declared.status.Status.{Status}
use Rattle.tetri_run.specs.declared.status.Status.TheVariants.{Done, Refused, Usage, ReadFault, WriteFault, BadTrace, NoMemory}
use Rattle.tetri_state.specs.Snapshot.{Snapshot, opening_state}
use Rattle.tetri_trace.specs.Scenario.{Scenario}

module _ (t : Scenario) (report : List ℕ) (cycle : Option ℕ) (v : View) (first last : Gathering)
    (none : (u : Scenario) (blocks : List Block) → picture_with u (opening_state u) first blocks ≡ picture_of u cycle blocks) (seen : HasSeen IsTaken t report first last) where
  accepted : IsAccepted t report
  accepted = seen.assured.accepted

  last_state : Snapshot
  last_state = behind t (opening_state t) (in_order accepted.past)

  last_now : last_state.now ≡ t.header.until
  unfolding accepted last_state
  last_now = omega (arith, behind_now t (opening_state t) (in_order accepted.past), cycles_in_order accepted.past, accepted.whole)

  -- the picture of what was gathered is the one of the report
  gathered : picture_with t last_state last [] ≡ picture_of t cycle (in_order accepted.past)
  unfolding accepted last_state
  gathered = sym (seen_shows t (opening_state t) (in_order accepted.past) first last seen.observed) ∙ none t (in_order accepted.past)

  -- the report is accepted, and what was gathered shows the pieces of its run
  pub gathered_of : (a : IsAccepted t report) × (TellsRun t report cycle a × ((s : Snapshot) × ((s.now ≡ t.header.until) × (picture_with t s last [] ≡ picture_in t report cycle a))))
  unfolding accepted last_state
  gathered_of = (accepted, (tells_pieces t (in_order accepted.past), (last_state, (last_now, gathered))))

  pub drawn_of : (status : Status) (before after : Option (List ℕ)) → ((s : Snapshot) → s.now ≡ t.header.until → IsDrawn t v (picture_with t s last []) status before after) →
      IsDrawnOf cycle v status t report before after
  unfolding accepted last_state
  drawn_of status before after drawn =
      (accepted, (tells_pieces t (in_order accepted.past), subst (λ (p : Picture). IsDrawn t v p status before after) gathered (drawn last_state last_now)))

-- what drawing the report answers that was accepted
pub drawn_promised : (cycle : Option ℕ) (v : View) (status : Status) (trace : Result Scenario (ℕ × TraceWhy)) (t : Scenario) (report : List ℕ) (before after : Option (List ℕ)) →
    trace ≡ Ok t → IsDrawnOf cycle v status t report before after → IsChartPromised cycle v status trace report before after
drawn_promised cycle v Done trace t report before after is drawn = (t, (is, drawn))
drawn_promised cycle v (Refused line why) trace t report before after is drawn = absurd drawn.1.1
drawn_promised cycle v Usage trace t report before after is drawn = (t, (is, drawn))
drawn_promised cycle v ReadFault trace t report before after is drawn = absurd drawn.1.1
drawn_promised cycle v WriteFault trace t report before after is drawn = (t, (is, drawn))
drawn_promised cycle v (BadTrace line why) trace t report before after is drawn = absurd drawn.1.1
drawn_promised cycle v NoMemory trace t report before after is drawn = inr (t, (is, inr drawn))

-- what a check answers that accepts no report, where nothing is drawn
pub halted_promised : (cycle : Option ℕ) (v : View) (status : Status) (trace : Result Scenario (ℕ × TraceWhy)) (report : List ℕ) (before : Option (List ℕ)) → IsHaltOf status trace report →
    IsChartPromised cycle v status trace report before before
halted_promised cycle v Done trace report before halted = absurd halted
halted_promised cycle v (Refused line why) trace report before halted = (halted.0, (halted.1, (halted.2, (halted.3, refl))))
halted_promised cycle v Usage trace report before halted = absurd halted
halted_promised cycle v ReadFault trace report before halted = refl
halted_promised cycle v WriteFault trace report before halted = absurd halted
halted_promised cycle v (BadTrace line why) trace report before halted = (halted, refl)
halted_promised cycle v NoMemory trace report before halted = inl refl

-- a check that accepts no report, and ends so that only memory was wanting
pub wants_memory : (status : Status) → IsHalt status → (status ≡ Done) ⊎ (status ≡ NoMemory) → status ≡ NoMemory
wants_memory status halts (inl done) = absurd (subst IsHalt done halts)
wants_memory status halts (inr memory) = memory

pub only_memory : (status : Status) → IsHalt status → (status ≡ Done) ⊎ (status ≡ NoMemory) → (status ≡ Usage) ⊎ (status ≡ NoMemory)
only_memory status halts ends = inr (wants_memory status halts ends)

-- what drawing a text ends with
module _ (Has : Type 0) (text : List ℕ) (before after : Option (List ℕ)) where
  pub text_where_asked : (status : Status) → IsTextDrawn Has text status before after → Has → (status ≡ WriteFault → ⊥) → (status ≡ Done) ⊎ (status ≡ NoMemory)
  text_where_asked Done drawn has write = inl refl
  text_where_asked (Refused line why) drawn has write = absurd drawn
  text_where_asked Usage drawn has write = absurd (drawn.0 has)
  text_where_asked ReadFault drawn has write = absurd drawn
  text_where_asked WriteFault drawn has write = absurd (write refl)
  text_where_asked (BadTrace line why) drawn has write = absurd drawn
  text_where_asked NoMemory drawn has write = inr refl

  pub text_usage : (status : Status) → IsTextDrawn Has text status before after → (Has → ⊥) → (status ≡ Usage) ⊎ (status ≡ NoMemory)
  text_usage Done drawn lacks = absurd (lacks drawn.0)
  text_usage (Refused line why) drawn lacks = absurd drawn
  text_usage Usage drawn lacks = inl refl
  text_usage ReadFault drawn lacks = absurd drawn
  text_usage WriteFault drawn lacks = absurd (lacks drawn.0)
  text_usage (BadTrace line why) drawn lacks = absurd drawn
  text_usage NoMemory drawn lacks = inr refl

  pub text_never_bad : (status : Status) → IsTextDrawn Has text status before after → (line : ℕ) (why : TraceWhy) → status ≡ BadTrace line why → ⊥
  text_never_bad status drawn line why is = subst (λ (u : Status). IsTextDrawn Has text u before after) is drawn

  pub text_silent : (status : Status) → IsTextDrawn Has text status before after → (status ≡ Done → ⊥) → (status ≡ WriteFault → ⊥) → (status ≡ NoMemory → ⊥) → after ≡ before
  text_silent Done drawn done write memory = absurd (done refl)
  text_silent (Refused line why) drawn done write memory = absurd drawn
  text_silent Usage drawn done write memory = drawn.1
  text_silent ReadFault drawn done write memory = absurd drawn
  text_silent WriteFault drawn done write memory = absurd (write refl)
  text_silent (BadTrace line why) drawn done write memory = absurd drawn
  text_silent NoMemory drawn done write memory = absurd (memory refl)

  pub text_never_read : (status : Status) → IsTextDrawn Has text status before after → status ≡ ReadFault → ⊥
  text_never_read status drawn is = subst (λ (u : Status). IsTextDrawn Has text u before after) is drawn

-- what drawing an accepted report ends with, by whether its run has what is asked for, and whether a write failed
module _ (cycle : Option ℕ) (v : View) (t : Scenario) (report : List ℕ) (before after : Option (List ℕ)) where
  pub drawn_where_asked : (status : Status) → IsDrawnOf cycle v status t report before after → HasSlots t cycle v → (status ≡ WriteFault → ⊥) → (status ≡ Done) ⊎ (status ≡ NoMemory)
  drawn_where_asked status drawn has write =
      text_where_asked (HasSlots t cycle v) (svg_text t v (picture_in t report cycle drawn.0)) before after status drawn.1.1 has write

  pub usage_where_not : (status : Status) → IsDrawnOf cycle v status t report before after → (HasSlots t cycle v → ⊥) → (status ≡ Usage) ⊎ (status ≡ NoMemory)
  usage_where_not status drawn lacks =
      text_usage (HasSlots t cycle v) (svg_text t v (picture_in t report cycle drawn.0)) before after status drawn.1.1 lacks

-- what every drawing ends with
module _ (t : Scenario) (v : View) (last : Gathering) (before after : Option (List ℕ)) where
  -- some picture is drawn
  pub some_drawn : (status : Status) → ((s : Snapshot) → s.now ≡ t.header.until → IsDrawn t v (picture_with t s last []) status before after) →
      (p : Picture) × IsDrawn t v p status before after
  some_drawn status drawn =
      let s = record (opening_state t) { now = t.header.until } in
      (picture_with t s last [], drawn s refl)

  pub never_bad : (status : Status) → (p : Picture) × IsDrawn t v p status before after → (line : ℕ) (why : TraceWhy) → status ≡ BadTrace line why → ⊥
  never_bad status drawn = text_never_bad (HasSlots t drawn.0.asked v) (svg_text t v drawn.0) before after status drawn.1

  pub never_read : (status : Status) → (p : Picture) × IsDrawn t v p status before after → status ≡ ReadFault → ⊥
  never_read status drawn = text_never_read (HasSlots t drawn.0.asked v) (svg_text t v drawn.0) before after status drawn.1

  pub silent : (status : Status) → (p : Picture) × IsDrawn t v p status before after → (status ≡ Done → ⊥) → (status ≡ WriteFault → ⊥) → (status ≡ NoMemory → ⊥) → after ≡ before
  silent status drawn = text_silent (HasSlots t drawn.0.asked v) (svg_text t v drawn.0) before after status drawn.1
