-- How the colours of the nodes are found.
use Rattle.std.proofs.Common.{◌≡◌, ℕ, ◌+◌, ◌<◌, List, [], ◌∷◌, ◌++◌, length, take, refl, ap, ◌∙◌, arith, suc, zero}
use Rattle.tetri_cluster.specs.Cluster.{tags_at}
use Rattle.tetri_cluster.specs.declared.cluster.NodeText.{NodeText}
use Rattle.tetri_chart.specs.Colours.{first_tag, node_colours, place_colour}

next_colour : (tags : List (List ℕ)) (ns : List NodeText) (i : ℕ) → i < length ns →
    node_colours tags (take (suc i) ns) ≡ node_colours tags (take i ns) ++ place_colour (first_tag tags (tags_at ns i)) ∷ []
next_colour tags [] i lt = absurd (omega (arith, lt))
next_colour tags (n ∷ ns) zero lt = refl
next_colour tags (n ∷ ns) (suc i) lt = ap (λ cs. place_colour (first_tag tags n.tags) ∷ cs) (next_colour tags ns i (omega (arith, lt)))

-- the colours of so many nodes, and that of the next
pub colours_next : (tags : List (List ℕ)) (ns : List NodeText) (i : ℕ) → i < length ns →
    node_colours tags (take (i + 1) ns) ≡ node_colours tags (take i ns) ++ place_colour (first_tag tags (tags_at ns i)) ∷ []
colours_next tags ns i lt =
    let more : i + 1 ≡ suc i = omega arith in
    ap (λ k. node_colours tags (take k ns)) more ∙ next_colour tags ns i lt
