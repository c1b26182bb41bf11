-- The text behind the bars.
use Rattle.std.specs.Prelude.{ℕ, ◌+◌, ◌-◌, ◌*◌, ◌/◌, List, [], ◌++◌, min, if◌then◌else◌, codes}
use Rattle.tetri_svg.specs.Areas.{area_text}
use Rattle.tetri_svg.specs.Bars.{name_over}
use Rattle.tetri_svg.specs.Layout.{Layout}
use Rattle.tetri_svg.specs.Plain.{awaited_text, bounded_text, close_text, cycle_line_text, cycle_name_text, number_text, rect_text, slots_text, valued_text}
use Rattle.tetri_svg.specs.Sizes.{bar_of, base_of, bottom_of, has_slot, last_of, shows, x_of}
use Rattle.tetri_svg.specs.declared.area.Area.{Area}

-- what waits on a node for these slots
abbrev pub box_text : Layout → List ℕ → List ℕ → ℕ → ℕ → ℕ → List ℕ
box_text f job name node from until =
    rect_text (codes "waits") ++ area_text (bar_of f node from until) ++ awaited_text job name ++ slots_text from (last_of until) ++ close_text
    ++ name_over f 0 job node from until

-- the same, if the picture shows some of these slots
abbrev pub wait_text : Layout → List ℕ → List ℕ → ℕ → ℕ → ℕ → List ℕ
wait_text f job name node from until = if shows f from until then box_text f job name node from until else []

-- the line at which a cycle begins, if the picture shows its slot
abbrev pub asked_text : Layout → ℕ → List ℕ
asked_text f cycle = if has_slot f cycle then cycle_line_text (x_of f cycle) (bottom_of f) ++ cycle_name_text cycle else []

-- how high a number stands, where 72 pixels are this much
abbrev pub height_in : ℕ → ℕ → ℕ
height_in most number = min number most * 72 / most

-- the title of the numbers of a cycle
abbrev pub cycle_title : ℕ → ℕ → ℕ → List ℕ → List ℕ
cycle_title slot value bound mark = valued_text slot value ++ bounded_text bound mark ++ close_text

-- where the value and the bound of a cycle stand
abbrev pub value_area : Layout → ℕ → ℕ → ℕ → Area
value_area f most slot value = record { x = x_of f slot; y = base_of f - height_in most value; width = f.column; height = height_in most value }

abbrev pub bound_area : Layout → ℕ → ℕ → ℕ → Area
bound_area f most slot bound = record { x = x_of f slot; y = base_of f - height_in most bound - 1; width = f.column; height = 2 }

-- the value and the bound of a cycle
abbrev pub cycle_text : Layout → ℕ → ℕ → ℕ → ℕ → List ℕ → List ℕ
cycle_text f most slot value bound mark =
    rect_text (codes "value") ++ area_text (value_area f most slot value) ++ cycle_title slot value bound mark
    ++ rect_text (codes "bound") ++ area_text (bound_area f most slot bound) ++ cycle_title slot value bound mark

-- the numbers at the axis of values
abbrev pub scale_text : Layout → ℕ → List ℕ
scale_text f most = number_text (f.left - 6) (base_of f - 68) most ++ number_text (f.left - 6) (base_of f + 4) 0
