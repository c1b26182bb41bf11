use Rattle.std.proofs.Common.{◌≡◌, ℕ, ◌+◌, ◌*◌, List, [], ◌∷◌, ◌++◌, ap, sym, subst, ◌∙◌, arith}
use Rattle.std.specs.List.Sorted.{IsStrictlyIncreasing}
use Rattle.tetri_make.specs.Generated.{spaced}
use Rattle.tetri_cluster.specs.Sets.{number_in}
use Rattle.tetri_make.proofs.NodeLemmas.{added_number, spaced_ascends, spaced_more}
use Rattle.tetri_make.proofs.nodes.number_of.Goals as goal

pub loop-place-preserved : goal.loop-place-preserved
loop-place-preserved c =
    let nodes = c.args.nodes in
    c.in_ok-push.ensures.ok ∙ ap (λ (ns : List ℕ). ns ++ (nodes.first + c.loop-place.place * nodes.step) ∷ []) c.loop-place.invariant ∙ sym (spaced_more nodes.first nodes.step c.loop-place.place)

pub find_or_add-requires : goal.find_or_add-requires
find_or_add-requires c = subst IsStrictlyIncreasing (sym c.loop-place.invariant) (spaced_ascends c.args.nodes.first c.args.nodes.step c.loop-place.place c.requires.step.0)

pub returns-in-Ok-clause-number : goal.returns-in-Ok-clause-number
returns-in-Ok-clause-number c =
    let nodes = c.args.nodes in
    let all : c.loop-place.place ≡ nodes.count = omega arith in
    added_number c.loop-place.set c.args.sets.now c.in-Ok.number c.find_or_add.new.self c.in-Ok.ensures.ok
    ∙ ap (λ (ns : List ℕ). number_in c.args.sets.now ns) (c.loop-place.invariant ∙ ap (spaced nodes.first nodes.step) all)
