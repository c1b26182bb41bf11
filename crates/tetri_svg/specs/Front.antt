-- The text before the bars.
use Rattle.std.specs.Prelude.{ℕ, ◌+◌, ◌-◌, ◌*◌, ◌/◌, ◌%◌, ◌==◌, List, [], ◌++◌, flat_map, min, Bool, ◌&&◌, ◌||◌, not, nat_le, nat_lt, if◌then◌else◌, Option, Some, None, codes}
use Rattle.std.specs.List.{range_with_len}
use Rattle.tetri_svg.specs.Clock.{date_of, day_of, minute_of, time_of}
use Rattle.tetri_svg.specs.Layout.{Layout}
use Rattle.tetri_svg.specs.Plain.{axis_at_text, counts_text, date_text, font_text, level_text, named_text, of_text, part_text, size_text, slot_text, slots_text, svg_text, time_text, upright_text, view_text}
use Rattle.tetri_svg.specs.declared.clock.Clock.{Clock}
use Rattle.tetri_svg.specs.declared.clock.Date.{Date}
use Rattle.tetri_svg.specs.Sizes.{base_of, bottom_of, height_of, last_of, queue_base_of, right_of, stride_for, text_y, use_base_of, width_of, x_of}

-- the first element of a picture of this size, whose end is the end of the picture
abbrev pub sized_text : ℕ → ℕ → List ℕ
sized_text width height = svg_text ++ size_text width height ++ view_text width height ++ font_text

abbrev pub opening_text : Layout → List ℕ
opening_text f = sized_text (width_of f) (height_of f)

-- the picture shows all of so many slots
abbrev pub is_whole : Layout → ℕ → Bool
is_whole f slots = f.first == 0 && nat_le slots f.until

-- how many pieces the picture has, on how many nodes, in so many slots, or in which of them
abbrev pub words_text : Layout → ℕ → ℕ → List ℕ
words_text f pieces slots =
    if is_whole f slots then counts_text pieces f.nodes slots
    else part_text pieces f.nodes ++ slots_text f.first (last_of (min f.until slots)) ++ of_text slots

-- what the picture is of, as a title and as a heading
abbrev pub heading_text : Layout → ℕ → ℕ → List ℕ
heading_text f pieces slots =
    codes "<title>" ++ words_text f pieces slots ++ codes "</title>\n<text x=\"24\" y=\"16\" font-size=\"13\">" ++ words_text f pieces slots ++ codes "</text>\n"

-- the name of a node at its row
abbrev pub name_text : Layout → ℕ → List ℕ → List ℕ
name_text f node name = named_text (f.left - 6) (text_y f node) name

-- A time stands at the axis with its date where the slot is the first of these, which are so far apart, or the day is another one than at the
-- one before it.
abbrev pub is_dated : Layout → Clock → ℕ → ℕ → Bool
is_dated f c stride slot = nat_lt slot (f.first + stride) || not (day_of (time_of c slot) == day_of (time_of c (slot - stride)))

-- the date of a time
abbrev pub dated_text : Date → List ℕ
dated_text d = date_text d.year d.month d.day

-- the words at the axis where a slot begins: its number, or its clock time in UTC
abbrev pub clock_text : Layout → Clock → ℕ → ℕ → List ℕ
clock_text f c stride slot =
    axis_at_text (x_of f slot) ++ (if is_dated f c stride slot then dated_text (date_of (day_of (time_of c slot))) else [])
    ++ time_text (minute_of (time_of c slot) / 60) (minute_of (time_of c slot) % 60)

abbrev pub words_at : Layout → Option Clock → ℕ → ℕ → List ℕ
words_at f None stride slot = slot_text (x_of f slot) slot
words_at f (Some c) stride slot = clock_text f c stride slot

-- how many slots are from one line of the grid to the next: more where dates have to stand between
abbrev pub stride_of : Layout → Option Clock → ℕ
stride_of f None = stride_for f.column 40
stride_of f (Some c) = stride_for f.column 50 * 2

-- a line of the grid, and the words where its slot begins
abbrev pub tick_text : Layout → Option Clock → ℕ → ℕ → List ℕ
tick_text f clock stride slot = upright_text (x_of f slot) (use_base_of f) ++ words_at f clock stride slot

-- the same where the picture shows the slot, and it is a multiple of the stride
abbrev pub tick_at : Layout → Option Clock → ℕ → ℕ → List ℕ
tick_at f clock stride slot = if nat_le f.first slot && slot % stride == 0 then tick_text f clock stride slot else []

abbrev pub ticks_text : Layout → Option Clock → ℕ → List ℕ
ticks_text f clock stride = flat_map (tick_at f clock stride) (range_with_len 0 f.until)

-- the lines above and below the rows, and below the numbers of cycles, the queue and the nodes in use
abbrev pub lines_text : Layout → List ℕ
lines_text f =
    level_text f.left 44 (right_of f) ++ level_text f.left (bottom_of f) (right_of f) ++ level_text f.left (base_of f) (right_of f)
    ++ level_text f.left (queue_base_of f) (right_of f) ++ level_text f.left (use_base_of f) (right_of f)

-- the grid with the numbers of slots, or with clock times
abbrev pub axis_text : Layout → Option Clock → List ℕ
axis_text f clock = ticks_text f clock (stride_of f clock) ++ lines_text f
