use Rattle.std.proofs.Common.{◌≡◌, ◌-◌, map, length}
use Rattle.tetri_parse.specs.Rows.{row_at}
use Rattle.tetri_parse.specs.Tokens.{name_at, goes_on_at}
use Rattle.tetri_parse.proofs.Rows.{gathered, put_last}
use Rattle.tetri_parse.proofs.set_text.names.Given as goal

abbrev pub invariant-loop : goal.invariant-loop
invariant-loop l =
    gathered put_last (map (λ n. n.now) l.names.items) (row_at name_at (goes_on_at 125) (length l.text - l.counter) l.rest) ≡ row_at name_at (goes_on_at 125) (length l.text) l.text
