use Rattle.std.proofs.Common.{◌≡◌, fold, map, string_bytes, take}
use Rattle.tetri_logs.specs.SetText.{with_feature}
use Rattle.tetri_logs.proofs.set_text.with_features.Given as goal

abbrev pub invariant-loop-feature : goal.invariant-loop-feature
invariant-loop-feature l = string_bytes l.all ≡ fold with_feature (string_bytes l.fn.set) (map (λ x. x.now) (take l.feature-index l.features))
