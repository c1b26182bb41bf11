-- What drawing says of two reports that are checked.
use Rattle.std.proofs.Common.{◌≡◌, ◌≤◌, ◌⊎◌, ⊎_elim, ℕ, List, [], refl, ap, ◌∙◌, subst, inl, inr, arith}
use Rattle.std.specs.Prelude.{Option, Ok, Err}
use Rattle.tetri_chart.specs.Charted.{IsTextDrawn, picture_in}
use Rattle.tetri_chart.specs.Gathered.{IsTaken, picture_with}
use Rattle.tetri_chart.specs.Pair.{pair_text}
use Rattle.tetri_chart.specs.PairCharted.{ArePairDrawn, status_in}
use Rattle.tetri_chart.specs.Picture.{Picture, picture_of}
use Rattle.tetri_chart.specs.Slots.{HasSlots}
use Rattle.tetri_chart.specs.declared.gathering.Gathering.{Gathering}
use Rattle.tetri_chart.specs.declared.pair_status.PairStatus.TheVariants.{Both}
use Rattle.tetri_chart.specs.declared.view.View.{View}
use Rattle.tetri_chart.proofs.ChartLemmas.{gathered_of, text_never_bad, text_silent, text_usage, text_where_asked}
use Rattle.tetri_notice.specs.declared.fault.TraceWhy.{TraceWhy}
use Rattle.tetri_report.specs.Block.{Block}
use Rattle.tetri_run.proofs.RunLaws.{same_scenario}
use Rattle.tetri_run.specs.Check.{IsAccepted}
use Rattle.tetri_run.specs.CheckEnds.{HasSeen, IsHalt}
use Rattle.tetri_run.specs.Status.{RoseOf}
use Rattle.tetri_run.specs.Words.{to_check}
use Rattle.tetri_run.specs.declared.status.Status.{Status}
use Rattle.tetri_run.specs.declared.status.Status.TheVariants.{Done, Usage, WriteFault, BadTrace, NoMemory}
use Rattle.tetri_state.specs.Snapshot.{Snapshot, opening_state}
use Rattle.tetri_trace.specs.Lines.{scenario_in}
use Rattle.tetri_trace.specs.Scenario.{Scenario}

-- ---- counters of reads that go on rising

-- a fault that was counted in a part of a call was counted in the call
module _ (before between behind : List ℕ → ℕ) (trace report : List ℕ) where
  pub rose_first : ((other : List ℕ) → between other ≤ behind other) → RoseOf (to_check trace report) before between → RoseOf (to_check trace report) before behind
  rose_first later rose = ⊎_elim (λ r. inl (omega (arith, r, later trace))) (λ r. inr (omega (arith, r, later report))) rose

  pub rose_second : ((other : List ℕ) → before other ≤ between other) → RoseOf (to_check trace report) between behind → RoseOf (to_check trace report) before behind
  rose_second earlier rose = ⊎_elim (λ r. inl (omega (arith, r, earlier trace))) (λ r. inr (omega (arith, r, earlier report))) rose

-- ---- a check that accepts no report

-- no write failed in it
pub never_write : (status : Status) → IsHalt status → status ≡ WriteFault → ⊥
never_write status halts is = subst IsHalt is halts

-- ---- a trace that is read with each report

module _ (content report : List ℕ) (t u : Scenario) (is : scenario_in content ≡ Ok t) (kept : scenario_in content ≡ Ok u) where
  pub accepted_here : IsAccepted u report → IsAccepted t report
  accepted_here accepted = subst (λ (s : Scenario). IsAccepted s report) (same_scenario content u t kept is) accepted

pub never_refused : (content : List ℕ) (t : Scenario) (line : ℕ) (why : TraceWhy) → scenario_in content ≡ Ok t → scenario_in content ≡ Err (line, why) → ⊥
never_refused content t line why is bad = absurd cc

-- ---- pictures of what was gathered of two runs

pub same_pair : (t : Scenario) (v : View) {p p' q q' : Picture} → p ≡ p' → q ≡ q' → pair_text t v p q ≡ pair_text t v p' q'
same_pair t v {p} {p'} {q} {q'} upper lower = ap (λ (x : Picture). pair_text t v x q) upper ∙ ap (λ (y : Picture). pair_text t v p' y) lower

module _ (t : Scenario) (first second : List ℕ) (cycle : Option ℕ) (v : View) (one one_last two two_last : Gathering)
    (one_none : (u : Scenario) (blocks : List Block) → picture_with u (opening_state u) one blocks ≡ picture_of u cycle blocks) (one_seen : HasSeen IsTaken t first one one_last)
    (two_none : (u : Scenario) (blocks : List Block) → picture_with u (opening_state u) two blocks ≡ picture_of u cycle blocks) (two_seen : HasSeen IsTaken t second two two_last) where
  pub pair_drawn_of : (status : Status) (before after : Option (List ℕ)) →
      ((r s : Snapshot) → r.now ≡ t.header.until → s.now ≡ t.header.until →
      IsTextDrawn (HasSlots t cycle v) (pair_text t v (picture_with t r one_last []) (picture_with t s two_last [])) status before after) →
      ArePairDrawn cycle v status t first second before after
  pair_drawn_of status before after drawn =
      let a = gathered_of t first cycle v one one_last one_none one_seen in
      let b = gathered_of t second cycle v two two_last two_none two_seen in
      let r = a.1.1.0 in
      let s = b.1.1.0 in
      let upper =
      subst (λ (p : Picture). IsTextDrawn (HasSlots t cycle v) (pair_text t v p (picture_with t s two_last [])) status before after) a.1.1.1.1 (drawn r s a.1.1.1.0 b.1.1.1.0) in (
        a.0,
        b.0,
        a.1.0,
        b.1.0,
        subst (λ (q : Picture). IsTextDrawn (HasSlots t cycle v) (pair_text t v (picture_in t first cycle a.0) q) status before after) b.1.1.1.1 upper,
      )

-- what drawing them ends with
module _ (t : Scenario) (v : View) (cycle : Option ℕ) (one two : Gathering) (before after : Option (List ℕ)) (status : Status)
    (drawn : (r s : Snapshot) → r.now ≡ t.header.until → s.now ≡ t.header.until →
    IsTextDrawn (HasSlots t cycle v) (pair_text t v (picture_with t r one []) (picture_with t s two [])) status before after) where
  abbrev last : Snapshot
  last = record (opening_state t) { now = t.header.until }

  abbrev text : List ℕ
  text = pair_text t v (picture_with t last one []) (picture_with t last two [])

  pub pair_never_bad : (line : ℕ) (why : TraceWhy) → status ≡ BadTrace line why → ⊥
  pair_never_bad = text_never_bad (HasSlots t cycle v) text before after status (drawn last last refl refl)

  pub pair_silent : (status ≡ Done → ⊥) → (status ≡ WriteFault → ⊥) → (status ≡ NoMemory → ⊥) → after ≡ before
  pair_silent = text_silent (HasSlots t cycle v) text before after status (drawn last last refl refl)

  pub pair_where_asked : HasSlots t cycle v → (status ≡ WriteFault → ⊥) → (Both status ≡ Both Done) ⊎ (status_in (Both status) ≡ NoMemory)
  pair_where_asked has write =
      ⊎_elim (λ (e : status ≡ Done). inl (ap (λ (u : Status). Both u) e)) (λ (e : status ≡ NoMemory). inr e)
      (text_where_asked (HasSlots t cycle v) text before after status (drawn last last refl refl) has write)

  pub pair_usage : (HasSlots t cycle v → ⊥) → (Both status ≡ Both Usage) ⊎ (status_in (Both status) ≡ NoMemory)
  pair_usage lacks =
      ⊎_elim (λ (e : status ≡ Usage). inl (ap (λ (u : Status). Both u) e)) (λ (e : status ≡ NoMemory). inr e)
      (text_usage (HasSlots t cycle v) text before after status (drawn last last refl refl) lacks)
