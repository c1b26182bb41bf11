use Rattle.std.proofs.Common.{◌≡◌, [], None, drop, get_or, length}
use Rattle.tetri_state.specs.Begin.{happen_all}
use Rattle.tetri_state.proofs.TurnLemmas.{Keeps}
use Rattle.tetri_state.proofs.events.take_all.Given as goal

abbrev pub invariant-loop-event : goal.invariant-loop-event
invariant-loop-event l = record {
  turn : happen_all (λ n. get_or l.holders n None) (drop l.event-index l.events) l.turn
      ≡ happen_all (λ n. get_or l.holders n None) l.events (record { drained = l.fn.drained; pending = l.fn.pending; running = l.fn.running; cancelled = []; failed = [] });
  keeps : Keeps (length l.fn.drained) l.turn;
}
