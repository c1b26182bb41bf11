use Rattle.std.proofs.Common.{◌≡◌, length, map}
use Rattle.tetri_advice.specs.Asked.{Taught}
use Rattle.tetri_advice.specs.Sitting.{seat_of}
use Rattle.tetri_advice.proofs.panel.PanelOf.teach.Given as goal

abbrev pub invariant-loop-place : goal.invariant-loop-place
invariant-loop-place g l =
    let sat = seat_of g.A.Advisor.says g.A.Advisor.misses g.A.Advisor.creed in
    record {
      missed : l.self.missed ≡ l.initial.self.missed;
      len_is : length l.self.seats.items ≡ l.count;
      taught : Taught (map sat l.initial.self.seats.items) (map sat l.self.seats.items);
    }
