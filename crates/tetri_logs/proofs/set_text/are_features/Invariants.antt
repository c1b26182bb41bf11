use Rattle.std.proofs.Common.{◌≡◌, drop, map}
use Rattle.tetri_logs.specs.SetText.{are_features}
use Rattle.tetri_logs.proofs.set_text.are_features.Given as goal

abbrev pub invariant-loop-part : goal.invariant-loop-part
invariant-loop-part l = are_features (map (λ x. x.now) l.parts) ≡ are_features (map (λ x. x.now) (drop l.part-index l.parts))
