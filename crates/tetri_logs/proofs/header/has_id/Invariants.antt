use Rattle.std.proofs.Common.{◌≡◌, drop}
use Rattle.std.specs.List.{list_any}
use Rattle.tetri_logs.specs.Header.{is_id}
use Rattle.tetri_logs.proofs.header.has_id.Given as goal

abbrev pub invariant-loop-name : goal.invariant-loop-name
invariant-loop-name l = list_any (λ name. is_id name.now) l.names ≡ list_any (λ name. is_id name.now) (drop l.name-index l.names)
