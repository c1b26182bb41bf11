use Rattle.std.proofs.Common.{◌≡◌, ◌+◌, ◌∷◌, ◌∙◌, ℕ, Option, None, sym, ap, subst, refl, drop, get_or, length}
use Rattle.std.proofs.lemmas.List.{drop_more}
use Rattle.tetri_trace.specs.declared.trace.Event.{Event}
use Rattle.tetri_trace.specs.declared.trace.Happening.TheVariants.{Arrive}
use Rattle.tetri_state.specs.Begin.{happen_all}
use Rattle.tetri_state.proofs.Ascending.{ascend_from, ascend_to}
use Rattle.tetri_state.proofs.TurnLemmas.{Keeps, happen_keeps}
use Rattle.tetri_state.proofs.events.take_all.Goals as goal

pub loop-event-init : goal.loop-event-init
loop-event-init c =
    rw (c.in_ok-from_slice.ensures.items, c.in_ok-from_slice-2.ensures.items, c.in_ok-from_slice-3.ensures.items, c.new.ensures.items, c.new-2.ensures.items)
    (record {
      turn = refl;
      keeps = record { pending = ascend_from c.args.pending.now c.requires.pending; running = c.requires.running; drained = refl };
    })

pub take-requires-clause-pending : goal.take-requires-clause-pending
take-requires-clause-pending c = ascend_to _ c.loop-event.invariant.keeps.pending

pub take-requires-clause-holders : goal.take-requires-clause-holders
take-requires-clause-holders c = c.requires.holders ∙ sym c.loop-event.invariant.keeps.drained

pub loop-event-preserved : goal.loop-event-preserved
loop-event-preserved c =
    let d : Event = record { at = 0; what = Arrive 0 } in
    let es = c.args.events.now in
    let i = c.loop-event.event-index in
    let e = get_or es i d in
    let n = length c.args.drained.now in
    let v = c.loop-event.turn in
    let holder : ℕ → Option ℕ = λ k. get_or c.args.holders.now k None in
    let here : drop i es ≡ e ∷ drop (i + 1) es = drop_more es i d c.loop-event-test.true in
    let taken = c.in_ok-take.ensures in
    record {
      turn =
          ap (happen_all holder (drop (i + 1) es)) taken
          ∙ sym (ap (λ xs. happen_all holder xs v) here) ∙ c.loop-event.invariant.turn;
      keeps = subst (Keeps n) (sym taken) (happen_keeps n holder e.what v c.loop-event.invariant.keeps);
    }

pub returns-clause-pending : goal.returns-clause-pending
returns-clause-pending c = ascend_to _ c.loop-event.invariant.keeps.pending
