use Rattle.std.proofs.Common.{◌≡◌, ◌+◌, ◌-◌, ◌≤◌, ◌^◌, map, min, count_by, not, take, drop, length, vec_len, vec_capacity}
use Rattle.tetri_advice.specs.Asked.{Asked}
use Rattle.tetri_advice.specs.Sitting.{seat_of}
use Rattle.tetri_space.specs.Space.{space}
use Rattle.tetri_advice.proofs.panel.PanelOf.consult.Given as goal

abbrev pub invariant-loop-asked : goal.invariant-loop-asked
invariant-loop-asked g l =
    let sat = seat_of g.A.Advisor.says g.A.Advisor.misses g.A.Advisor.creed in
    let i = space l.inst in
    record {
      asked : Asked i (map sat (take l._asked l.initial.self.seats.items)) l.heard.items l.given.items (map sat (take l.place l.self.seats.items));
      rest : drop l.place l.self.seats.items ≡ drop l._asked l.initial.self.seats.items;
      missed : l.missed ≡ min (l.initial.self.missed + count_by not l.heard.items) (2 ^ 64 - 1);
      count_is : l.count ≡ length l.initial.self.seats.items;
      heard_len : vec_len l.heard ≡ l._asked;
      given_len : vec_len l.given ≤ l._asked;
      heard_room : l.count ≤ vec_capacity l.heard;
      given_room : l.count ≤ vec_capacity l.given;
      place_le : l.place ≤ l._asked;
      seats_len : vec_len l.self.seats + l._asked ≡ l.place + l.count;
    }
