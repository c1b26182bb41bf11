use Rattle.std.proofs.Common.{◌≡◌, ◌-◌, length, Ok}
use Rattle.tetri_parse.specs.Rows.{row_at}
use Rattle.tetri_parse.specs.SetText.{part_at, and_at, parts_at}
use Rattle.tetri_parse.proofs.Rows.{gathered, pass_over}
use Rattle.tetri_parse.proofs.set_text.set_end.Given as goal

abbrev pub invariant-loop : goal.invariant-loop
invariant-loop l = gathered pass_over tt (row_at part_at (λ t. Ok (and_at t)) (length l.text - l.counter) l.rest) ≡ gathered pass_over tt (parts_at l.text)
