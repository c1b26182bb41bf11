-- The text before and behind the bars.
use Rattle.std.specs.Prelude.{ℕ, ◌*◌, ◌%◌, ◌==◌, List, [], ◌∷◌, ◌++◌, flat_map, max, min, slice_get, if◌then◌else◌, Option, Some, None, codes}
use Rattle.std.specs.List.{range_with_len}
use Rattle.tetri_cert.specs.Text.{mark_text}
use Rattle.tetri_cluster.specs.Cluster.{name_at}
use Rattle.tetri_report.specs.Text.{job_name}
use Rattle.tetri_svg.specs.Back.{asked_text, cycle_text, scale_text, wait_text}
use Rattle.tetri_svg.specs.Strips.{queue_text, strips_scale, use_text}
use Rattle.tetri_svg.specs.Front.{axis_text, heading_text, name_text, opening_text}
use Rattle.tetri_svg.specs.Sizes.{has_slot, stride_for}
use Rattle.tetri_svg.specs.Style.{legend_text, style_text}
use Rattle.tetri_svg.specs.Layout.{Layout}
use Rattle.tetri_trace.specs.Scenario.{Scenario}
use Rattle.tetri_chart.specs.Colours.{by_text, further_text, keys_text}
use Rattle.tetri_chart.specs.Picture.{Picture}
use Rattle.tetri_chart.specs.Shades.{shades_text}
use Rattle.tetri_chart.specs.declared.picture.CycleMark.{CycleMark}
use Rattle.tetri_chart.specs.declared.picture.Wait.{Wait}
use Rattle.tetri_chart.specs.declared.view.Colours.{Colours}
use Rattle.tetri_chart.specs.declared.view.View.{View}

-- the name of a node, where it is a multiple of the stride
abbrev pub name_by : Scenario → Layout → ℕ → ℕ → List ℕ
name_by t f stride node = if node % stride == 0 then name_text f node (name_at t.nodes node) else []

abbrev pub names_by : Scenario → Layout → ℕ → List ℕ
names_by t f stride = flat_map (name_by t f stride) (range_with_len 0 f.nodes)

-- all that stands before the bars
abbrev pub front_text : Scenario → Layout → View → ℕ → List ℕ
front_text t f v pieces =
    opening_text f ++ style_text f ++ further_text v.colours ++ heading_text f pieces t.header.until ++ names_by t f (stride_for f.row 14)
    ++ shades_text t f ++ axis_text f v.clock

-- a waiting grant on a node, and on each of its nodes
abbrev pub wait_bar : Scenario → Layout → Wait → ℕ → List ℕ
wait_bar t f w node = wait_text f (job_name t w.job) (name_at t.nodes node) node w.from w.until

abbrev pub wait_bars : Scenario → Layout → Wait → List ℕ
wait_bars t f w = flat_map (wait_bar t f w) w.nodes

-- the cycle whose waiting grants are shown, and these
abbrev pub waits_text : Scenario → Layout → Option ℕ → List Wait → List ℕ
waits_text t f None waits = []
waits_text t f (Some cycle) waits = asked_text f cycle ++ flat_map (wait_bars t f) waits

abbrev pub most_value : List CycleMark → ℕ
most_value [] = 0
most_value (c ∷ cs) = max c.value (most_value cs)

abbrev pub most_bound : List CycleMark → ℕ
most_bound [] = 0
most_bound (c ∷ cs) = max c.bound (most_bound cs)

-- The number that stands at the top: the greatest value, or the greatest bound where this is more, but not more than four times as much;
-- and at least 1.
abbrev pub most_of : List CycleMark → ℕ
most_of cs = max (max (min (most_value cs * 4) (most_bound cs)) (most_value cs)) 1

-- the greatest number of jobs that wait, and at least 1
abbrev pub most_waiting : List CycleMark → ℕ
most_waiting [] = 1
most_waiting (c ∷ cs) = max c.waiting (most_waiting cs)

-- the numbers of a cycle: its value and its bound, the jobs that wait behind it, and the nodes in use in its slot
abbrev pub mark_text_at : Layout → ℕ → ℕ → ℕ → CycleMark → List ℕ
mark_text_at f most longest slot c = cycle_text f most slot c.value c.bound (mark_text c.mark) ++ queue_text f longest slot c.waiting ++ use_text f slot c.used

-- the numbers of the cycle of a slot that is shown, if there is one
abbrev pub cycle_by : Layout → ℕ → ℕ → ℕ → Option CycleMark → List ℕ
cycle_by f most longest slot None = []
cycle_by f most longest slot (Some c) = mark_text_at f most longest slot c

abbrev pub slot_text : Layout → ℕ → ℕ → List CycleMark → ℕ → List ℕ
slot_text f most longest cs slot = if has_slot f slot then cycle_by f most longest slot (slice_get cs slot) else []

abbrev pub slots_text : Layout → ℕ → ℕ → List CycleMark → List ℕ
slots_text f most longest cs = flat_map (slot_text f most longest cs) (range_with_len 0 f.until)

-- the numbers of the cycles, and those of their axes
abbrev pub cycles_text : Layout → List CycleMark → List ℕ
cycles_text f cs = slots_text f (most_of cs) (most_waiting cs) cs ++ scale_text f (most_of cs) ++ strips_scale f (most_waiting cs)

-- all that stands behind the bars
abbrev pub back_text : Scenario → Layout → Colours → Picture → List ℕ
back_text t f c p = waits_text t f p.asked p.waits ++ cycles_text f p.cycles ++ legend_text f (by_text c) ++ keys_text f c ++ codes "</svg>\n"
