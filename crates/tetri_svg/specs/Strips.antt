-- The text of the strips below the values: the queue, and the nodes in use.
use Rattle.std.specs.Prelude.{ℕ, ◌+◌, ◌-◌, ◌*◌, ◌/◌, List, ◌++◌, max, min, codes}
use Rattle.tetri_svg.specs.Areas.{area_text}
use Rattle.tetri_svg.specs.Layout.{Layout}
use Rattle.tetri_svg.specs.Plain.{close_text, number_text, rect_text, used_text, waiting_text}
use Rattle.tetri_svg.specs.Sizes.{queue_base_of, use_base_of, x_of}
use Rattle.tetri_svg.specs.declared.area.Area.{Area}

-- how high a number stands, where 48 pixels are this much
abbrev pub rise_in : ℕ → ℕ → ℕ
rise_in most number = min number most * 48 / most

-- where a number of a slot stands above a base line
abbrev pub column_area : Layout → ℕ → ℕ → ℕ → ℕ → Area
column_area f base most slot number = record { x = x_of f slot; y = base - rise_in most number; width = f.column; height = rise_in most number }

-- the jobs that wait behind the cycle of a slot
abbrev pub queue_text : Layout → ℕ → ℕ → ℕ → List ℕ
queue_text f most slot jobs = rect_text (codes "queue") ++ area_text (column_area f (queue_base_of f) most slot jobs) ++ waiting_text slot jobs ++ close_text

-- how many nodes stand at the top
abbrev pub whole_of : Layout → ℕ
whole_of f = max f.nodes 1

-- the nodes in use in a slot
abbrev pub use_text : Layout → ℕ → ℕ → List ℕ
use_text f slot used = rect_text (codes "used") ++ area_text (column_area f (use_base_of f) (whole_of f) slot used) ++ used_text slot used f.nodes ++ close_text

-- the numbers at the axes of both
abbrev pub strips_scale : Layout → ℕ → List ℕ
strips_scale f most =
    number_text (f.left - 6) (queue_base_of f - 44) most ++ number_text (f.left - 6) (queue_base_of f + 4) 0
    ++ number_text (f.left - 6) (use_base_of f - 44) (whole_of f) ++ number_text (f.left - 6) (use_base_of f + 4) 0
