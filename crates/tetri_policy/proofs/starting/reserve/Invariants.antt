use Rattle.std.proofs.Common.{◌≡◌, ◌+◌, List, length}
use Rattle.tetri_advice.specs.Fit.{Placement}
use Rattle.tetri_greedy.specs.Held.{TellsOf}
use Rattle.tetri_space.specs.Space.{bid, space}
use Rattle.tetri_policy.specs.Start.{reserved}
use Rattle.tetri_policy.proofs.StartLemmas.{from_slot}
use Rattle.tetri_policy.proofs.starting.reserve.Given as goal

abbrev pub invariant-loop-slot : goal.invariant-loop-slot
invariant-loop-slot l =
    let s = space l.inst in
    let b = bid l.offer in
    record {
      as_many : length l.held ≡ s.nodes;
      so_far : (before : List Placement) → TellsOf s before l.fn.held → TellsOf s before l.held × (reserved s before b ≡ from_slot s before b l.slot (s.now + s.window));
    }
