use Rattle.std.proofs.Common.{◌++◌, ◌∙◌, [], ◌∷◌, take, sym, ap, arith}
use Rattle.tetri_chart.specs.Colours.{node_colours, place_colour}
use Rattle.tetri_chart.proofs.ColourLemmas.{colours_next}
use Rattle.tetri_chart.proofs.colours.node_colours.Goals as goal

pub loop-node-preserved : goal.loop-node-preserved
loop-node-preserved c =
    let l = c.loop-node in
    let nodes = c.args.trace.now.cluster in
    c.in_ok-push.ensures.ok ∙ ap (λ cs. cs ++ c.place_colour.result ∷ []) l.invariant
    ∙ ap (λ k. node_colours c.args.tags.now (take l.node nodes) ++ k ∷ []) (c.place_colour.ensures ∙ ap place_colour c.first_tag.ensures)
    ∙ sym (colours_next c.args.tags.now nodes l.node (omega (arith, c.loop-node-test.true, c.count-node-end.ensures.value)))
