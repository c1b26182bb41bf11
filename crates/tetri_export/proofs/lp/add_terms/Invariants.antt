use Rattle.std.proofs.Common.{◌≡◌, ◌++◌, map, string_bytes}
use Rattle.std.specs.Prelude.{flat_map}
use Rattle.std.specs.List.{range_with_len}
use Rattle.tetri_ip.specs.Points.{term_at}
use Rattle.tetri_export.specs.Lp.{term_text}
use Rattle.tetri_export.proofs.lp.add_terms.Given as goal

abbrev pub invariant-loop-place : goal.invariant-loop-place
invariant-loop-place l = string_bytes l.out ≡ string_bytes l.initial.out ++ flat_map (λ k. term_text (map string_bytes l.columns) (term_at l.terms k)) (range_with_len 0 l.place)
