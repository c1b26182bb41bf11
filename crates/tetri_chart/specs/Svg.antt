-- The text of a picture.
use Rattle.std.specs.Prelude.{◌≡◌, ◌≤◌, ℕ, List, ◌++◌, length, flat_map, take, Option}
use Rattle.std.specs.Io.KnownBytes.{append_known}
use Rattle.tetri_trace.specs.Scenario.{Scenario}
use Rattle.tetri_svg.specs.Layout.{Layout}
use Rattle.tetri_chart.specs.Colours.{paint_of}
use Rattle.tetri_chart.specs.Ends.{back_text, front_text}
use Rattle.tetri_chart.specs.Framing.{framed}
use Rattle.tetri_chart.specs.Picture.{Picture}
use Rattle.tetri_chart.specs.Text.{meeting, span_text}
use Rattle.tetri_chart.specs.declared.colours.Paint.{Paint}
use Rattle.tetri_chart.specs.declared.picture.Span.{Span}
use Rattle.tetri_chart.specs.declared.view.View.{View}

-- The bars, of which there is one for each piece that runs in a slot which is shown, on each of its nodes, and no other.
abbrev pub bars_text : Scenario → Layout → Paint → List Span → List ℕ
bars_text t f c spans = flat_map (span_text t f c) spans

-- the picture: what stands before the bars, the bars, and what stands behind them
abbrev pub svg_in : Scenario → Layout → View → Picture → List ℕ
svg_in t f v p = front_text t f v (meeting f p.spans) ++ (bars_text t f (paint_of t v.colours) p.spans ++ back_text t f v.colours p)

abbrev pub svg_text : Scenario → View → Picture → List ℕ
svg_text t v p = svg_in t (framed t v p) v p

-- Known bytes grew by a front of bs.
abbrev pub AppendsFront : Option (List ℕ) → Option (List ℕ) → List ℕ → Type 0
AppendsFront old new bs = (n : ℕ) × (n ≤ length bs) × (new ≡ append_known old (take n bs))
