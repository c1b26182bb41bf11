use Rattle.std.proofs.Common.{◌≡◌, map, take}
use Rattle.std.specs.Prelude.{Ok}
use Rattle.tetri_logs.specs.Entry.{row_entry}
use Rattle.tetri_logs.proofs.entry.entries_by.Given as goal

abbrev pub invariant-loop-id : goal.invariant-loop-id
invariant-loop-id l = record {
  entries : l.entries.items ≡ map (row_entry l.seats l.header l.line (map (λ w. w.now) l.row) (Ok l.account)) (take l.id-index l.ids);
  same : l.seats ≡ l.initial.seats;
}
