use Rattle.std.proofs.Common.{◌≡◌, ◌-◌, length, Ok}
use Rattle.std.specs.Prelude.{IfSome}
use Rattle.tetri_parse.specs.Rows.{row_at}
use Rattle.tetri_parse.specs.SetText.{part_at, and_at, narrowed, set_at, IsNodeSet}
use Rattle.tetri_parse.specs.Tagged.{HaveTags}
use Rattle.tetri_parse.proofs.Rows.{gathered}
use Rattle.tetri_parse.proofs.set_text.set_nodes.Given as goal

abbrev pub invariant-loop : goal.invariant-loop
invariant-loop l = record {
  so_far : gathered (narrowed l.cluster) l.held (row_at part_at (λ t. Ok (and_at t)) (length l.text - l.counter) l.rest) ≡ set_at l.cluster l.text;
  good : IfSome l.held (IsNodeSet (length l.cluster));
  seen : IfSome l.held (λ nodes. HaveTags l.cluster nodes l.seen);
}
