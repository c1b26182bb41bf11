use Rattle.std.proofs.Common.{Bor, ◌+◌, ◌≡◌, ◌<◌, ◌++◌, [], ℕ, List, map, length, get_or, sym, ap, ◌∙◌, Some, None, arith}
use Rattle.std.specs.Prelude.{option_map}
use Rattle.std.proofs.lemmas.List.{drop-map, get_or-map, length-map}
use Rattle.tetri_cluster.specs.Names.{number_of}
use Rattle.tetri_cluster.specs.Cluster.{names_of}
use Rattle.tetri_parse.specs.SetText.{numbers_of}
use Rattle.tetri_parse.proofs.NodeSets.{unknown_turn, known_turn}
use Rattle.tetri_parse.proofs.nodes.numbers.Goals as goal

abbrev now : Bor (List ℕ) → List ℕ
now n = n.now

pub returns-in_default : goal.returns-in_default
returns-in_default c =
    let names = c.args.names.now in
    let i = c.loop-name.name-index in
    let lt : i < length (map now names) = omega (arith, length-map names now) in
    let none : number_of (get_or (map now names) i []) (names_of c.args.cluster.now) ≡ None = ap (λ x. number_of x (names_of c.args.cluster.now)) (get_or-map now names i _ [] c.loop-name-test.true) ∙ sym c.node.ensures.value ∙ c.in_default.is in
    let so_far = ap (λ ns. option_map (λ ms. c.loop-name.numbers.items ++ ms) (numbers_of c.args.cluster.now ns)) (drop-map now i names) ∙ c.loop-name.invariant in
    sym (unknown_turn c.args.cluster.now (map now names) i c.loop-name.numbers.items (numbers_of c.args.cluster.now (map now names)) lt [] none so_far)

pub loop-name-preserved : goal.loop-name-preserved
loop-name-preserved c =
    let names = c.args.names.now in
    let i = c.loop-name.name-index in
    let lt : i < length (map now names) = omega (arith, length-map names now) in
    let some : number_of (get_or (map now names) i []) (names_of c.args.cluster.now) ≡ Some c.in-Some.number = ap (λ x. number_of x (names_of c.args.cluster.now)) (get_or-map now names i _ [] c.loop-name-test.true) ∙ sym c.node.ensures.value ∙ c.in-Some.is in
    let so_far = ap (λ ns. option_map (λ ms. c.loop-name.numbers.items ++ ms) (numbers_of c.args.cluster.now ns)) (drop-map now i names) ∙ c.loop-name.invariant in
    rw (c.in_ok-push.ensures.items, ← drop-map now (i + 1) names) (known_turn c.args.cluster.now (map now names) i c.loop-name.numbers.items (numbers_of c.args.cluster.now (map now names)) lt [] c.in-Some.number some so_far)
