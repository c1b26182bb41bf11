use Rattle.std.proofs.Common.{◌≡◌, ◌∙◌, ℕ, List, ap, refl, subst, sym}
use Rattle.tetri_cluster.specs.declared.cluster.NodeText.{NodeText}
use Rattle.tetri_space.specs.declared.closure.Closure.{Closure}
use Rattle.tetri_trace.specs.Draft.{so_far}
use Rattle.tetri_trace.specs.Scenario.{Scenario}
use Rattle.tetri_trace.specs.Sound.{IsSound}
use Rattle.tetri_trace.proofs.draft.finished.Goals as goal

-- a trace with the same nodes, sets and closures
same_parts : (s : Scenario) (nodes : List NodeText) (sets : List (List ℕ)) (closures : List Closure) → nodes ≡ s.nodes → sets ≡ s.sets → closures ≡ s.closures → record s { nodes = nodes; sets = sets; closures = closures } ≡ s
same_parts s nodes sets closures e f g = rw (e, f, g) refl

pub returns-clause-same : goal.returns-clause-same
returns-clause-same c =
    let parts = c.into_parts-cluster.ensures in
    same_parts (so_far c.args.draft) c.into_parts-cluster.result.0 c.in_ok-new.field-0.value c.in_ok-new-2.field-0.value (ap (λ (p : List NodeText × List (List ℕ)). p.0) parts)
    (c.in_ok-new.ensures.ok ∙ ap (λ (p : List NodeText × List (List ℕ)). p.1) parts) c.in_ok-new-2.ensures.ok

pub returns-clause-sound : goal.returns-clause-sound
returns-clause-sound c =
    let parts = c.into_parts-cluster.ensures in
    subst IsSound
    (sym
    (same_parts (so_far c.args.draft) c.into_parts-cluster.result.0 c.in_ok-new.field-0.value c.in_ok-new-2.field-0.value (ap (λ (p : List NodeText × List (List ℕ)). p.0) parts)
    (c.in_ok-new.ensures.ok ∙ ap (λ (p : List NodeText × List (List ℕ)). p.1) parts) c.in_ok-new-2.ensures.ok))
    c.requires
