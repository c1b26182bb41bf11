use Rattle.std.proofs.Common.{◌≡◌, ◌∷◌, [], fold, map, take}
use Rattle.tetri_hosts.specs.Columns.{with_feature}
use Rattle.tetri_hosts.proofs.node.tags_of.Given as goal

abbrev pub invariant-loop-feature : goal.invariant-loop-feature
invariant-loop-feature l = l.tags ≡ fold with_feature (l.fn.partition ∷ []) (map (λ x. x.now) (take l.feature-index l.feature-items))
