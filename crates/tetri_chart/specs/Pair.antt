-- Two pictures of runs of one trace, one below the other, over the same slots.
use Rattle.std.specs.Prelude.{ℕ, List, max, Some}
use Rattle.tetri_svg.specs.Sheet.{on_sheet}
use Rattle.tetri_svg.specs.Sizes.{last_of}
use Rattle.tetri_trace.specs.Scenario.{Scenario}
use Rattle.tetri_chart.specs.Framing.{framed}
use Rattle.tetri_chart.specs.Picture.{Picture}
use Rattle.tetri_chart.specs.Slots.{end_of}
use Rattle.tetri_chart.specs.Svg.{svg_text}
use Rattle.tetri_chart.specs.declared.view.View.{View}

-- the first slot behind those that are shown of both runs: the later of their ends
abbrev pub later_end : Scenario → View → Picture → Picture → ℕ
later_end t v p q = max (end_of t v p) (end_of t v q)

-- how both are shown: up to the last slot before that
abbrev pub shared_view : Scenario → View → Picture → Picture → View
shared_view t v p q = record v { to = Some (last_of (later_end t v p q)) }

-- both pictures, each as it is drawn alone when it is shown so: they have one frame, which goes by the last slot that is named
abbrev pub both_text : Scenario → View → Picture → Picture → List ℕ
both_text t v p q = on_sheet (framed t v p) (svg_text t v p) (svg_text t v q)

-- the first picture, and the second one below it
abbrev pub pair_text : Scenario → View → Picture → Picture → List ℕ
pair_text t v p q = both_text t (shared_view t v p q) p q
