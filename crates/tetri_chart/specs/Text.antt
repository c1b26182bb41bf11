-- The bars of pieces.
use Rattle.std.specs.Prelude.{ℕ, List, [], flat_map, count_by, if◌then◌else◌, Bool}
use Rattle.tetri_cluster.specs.Cluster.{name_at}
use Rattle.tetri_report.specs.Text.{job_name}
use Rattle.tetri_svg.specs.Bars.{drawn_bar}
use Rattle.tetri_svg.specs.declared.bar.Bar.{Bar}
use Rattle.tetri_svg.specs.Layout.{Layout}
use Rattle.tetri_svg.specs.Sizes.{shows}
use Rattle.tetri_trace.specs.Scenario.{Scenario}
use Rattle.tetri_chart.specs.Colours.{colour_of}
use Rattle.tetri_chart.specs.declared.colours.Paint.{Paint}
use Rattle.tetri_chart.specs.declared.picture.Span.{Span}

-- the bar of a piece on a node, in this colour
abbrev pub bar_of : ℕ → Span → ℕ → Bar
bar_of colour s node = record { colour = colour; node = node; from = s.from; expected = s.expected; until = s.until; fate = s.fate }

-- that bar as it is drawn
abbrev pub node_text : Scenario → Layout → Paint → Span → ℕ → List ℕ
node_text t f c s node = drawn_bar f (bar_of (colour_of t c s node) s node) (job_name t s.job) (name_at t.nodes node)

-- the piece runs in a slot that the picture shows
abbrev pub meets : Layout → Span → Bool
meets f s = shows f s.from s.until

-- a piece on each of its nodes
abbrev pub nodes_text : Scenario → Layout → Paint → Span → List ℕ
nodes_text t f c s = flat_map (node_text t f c s) s.nodes

-- a piece: a bar on each of its nodes, where it runs in a slot that the picture shows
abbrev pub span_text : Scenario → Layout → Paint → Span → List ℕ
span_text t f c s = if meets f s then nodes_text t f c s else []

-- how many pieces do
abbrev pub meeting : Layout → List Span → ℕ
meeting f spans = count_by (meets f) spans
