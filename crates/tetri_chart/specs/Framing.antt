-- The frame of the picture of a run.
use Rattle.std.specs.Prelude.{ℕ, List, [], ◌∷◌, length, max}
use Rattle.tetri_cluster.specs.declared.cluster.NodeText.{NodeText}
use Rattle.tetri_svg.specs.Sizes.{frame_of}
use Rattle.tetri_svg.specs.Layout.{Layout}
use Rattle.tetri_trace.specs.Scenario.{Scenario}
use Rattle.tetri_chart.specs.Colours.{lines_of}
use Rattle.tetri_chart.specs.Picture.{Picture}
use Rattle.tetri_chart.specs.Slots.{end_of, first_of}
use Rattle.tetri_chart.specs.declared.view.View.{View}

-- how many letters the longest name has
abbrev pub longest : List NodeText → ℕ
longest [] = 0
longest (n ∷ ns) = max (length n.name) (longest ns)

-- the frame of the picture of a run
abbrev pub framed : Scenario → View → Picture → Layout
framed t v p = frame_of (first_of v) (end_of t v p) (length t.nodes) (longest t.nodes) (lines_of v.colours)
