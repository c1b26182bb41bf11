-- Where things stand in a picture, in pixels.
use Rattle.std.specs.Prelude.{ℕ, ◌+◌, ◌-◌, ◌*◌, ◌/◌, max, min, Bool, ◌&&◌, nat_le, nat_lt, if◌then◌else◌}
use Rattle.tetri_svg.specs.declared.area.Area.{Area}
use Rattle.tetri_svg.specs.Layout.{Layout}

-- how wide a slot is, of so many
abbrev pub column_of : ℕ → ℕ
column_of slots =
    if nat_le slots 40 then 32 else (if nat_le slots 80 then 16 else (if nat_le slots 200 then 8
    else (if nat_le slots 500 then 4 else (if nat_le slots 1000 then 2 else 1))))

-- how high a node is, of so many
abbrev pub row_of : ℕ → ℕ
row_of nodes =
    if nat_le nodes 20 then 24 else (if nat_le nodes 60 then 16 else (if nat_le nodes 150 then 8
    else (if nat_le nodes 400 then 4 else 3)))

-- what is left free above and below a bar in a row of this height
abbrev pub gap_of : ℕ → ℕ
gap_of row = if nat_le 16 row then 2 else (if nat_le 8 row then 1 else 0)

-- the first of 1, 2, 5, 10 and 20 that is at least this much when it is taken so many times, or else 50
abbrev pub stride_for : ℕ → ℕ → ℕ
stride_for size room =
    if nat_le room size then 1 else (if nat_le room (size * 2) then 2 else (if nat_le room (size * 5) then 5
    else (if nat_le room (size * 10) then 10 else (if nat_le room (size * 20) then 20 else 50))))

-- the frame of a picture from this slot on up to the one before that, with so many nodes, where the longest name of one has so many letters, and
-- with so many lines below the legend
abbrev pub frame_of : ℕ → ℕ → ℕ → ℕ → ℕ → Layout
frame_of first until nodes longest lines = record {
  first = first;
  until = until;
  nodes = nodes;
  column = column_of (until - first);
  row = row_of nodes;
  gap = gap_of (row_of nodes);
  left = 24 + 7 * longest;
  lines = lines;
}

module _ (f : Layout) where
  -- the picture shows this slot
  abbrev pub has_slot : ℕ → Bool
  has_slot slot = nat_le f.first slot && nat_lt slot f.until

  -- it shows some of these slots
  abbrev pub shows : ℕ → ℕ → Bool
  shows from until = nat_lt (max from f.first) (min until f.until)

  -- where a slot begins, or the plot where the slot is before it, and where a node's row begins
  abbrev pub x_of : ℕ → ℕ
  x_of slot = f.left + (slot - f.first) * f.column

  abbrev pub y_of : ℕ → ℕ
  y_of node = 44 + node * f.row

  -- the base line of a text in a node's row
  abbrev pub text_y : ℕ → ℕ
  text_y node = y_of node + (f.row + 8) / 2

  -- how wide those of these slots are that it shows
  abbrev pub span_of : ℕ → ℕ → ℕ
  span_of from until = (min until f.until - max from f.first) * f.column

  -- those of these slots that it shows, in a node's row
  abbrev pub area_of : ℕ → ℕ → ℕ → Area
  area_of node from until = record { x = x_of from; y = y_of node; width = span_of from until; height = f.row }

  -- a bar over those of these slots that it shows, in a node's row
  abbrev pub bar_of : ℕ → ℕ → ℕ → Area
  bar_of node from until = record { x = x_of from; y = y_of node + f.gap; width = span_of from until; height = f.row - f.gap - f.gap }

  abbrev pub right_of : ℕ
  right_of = x_of f.until

  abbrev pub bottom_of : ℕ
  bottom_of = y_of f.nodes

  -- the base line of the numbers of cycles
  abbrev pub base_of : ℕ
  base_of = bottom_of + 96

  -- the base lines of the queue and of the nodes in use
  abbrev pub queue_base_of : ℕ
  queue_base_of = base_of + 60

  abbrev pub use_base_of : ℕ
  use_base_of = base_of + 120

  abbrev pub width_of : ℕ
  width_of = max (right_of + 24) 620

  abbrev pub height_of : ℕ
  height_of = use_base_of + 170 + f.lines * 24

  -- where a line below the legend begins
  abbrev pub line_y : ℕ → ℕ
  line_y line = use_base_of + 168 + line * 24

  -- there is room for a line round each bar
  abbrev pub is_fine : Bool
  is_fine = nat_le 8 f.row && nat_le 4 f.column

  -- a name of so many letters has room over these slots
  abbrev pub has_room : ℕ → ℕ → ℕ → Bool
  has_room letters from until = nat_le 16 f.row && (nat_le letters 64 && nat_le (letters * 7 + 8) (span_of from until))

-- the last slot before one
abbrev pub last_of : ℕ → ℕ
last_of until = until - 1
