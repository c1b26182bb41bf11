-- The text of bars.
use Rattle.std.specs.Prelude.{ℕ, ◌+◌, List, [], ◌++◌, length, min, if◌then◌else◌, codes}
use Rattle.tetri_svg.specs.Areas.{area_text}
use Rattle.tetri_svg.specs.Plain.{close_text, coloured_text, fared_text, label_text, marked_text, ran_text}
use Rattle.tetri_svg.specs.Sizes.{bar_of, has_room, has_slot, last_of, shows, text_y, x_of}
use Rattle.tetri_svg.specs.declared.bar.Bar.{Bar}
use Rattle.tetri_svg.specs.declared.fate.Fate.{Fate}
use Rattle.tetri_svg.specs.declared.fate.Fate.TheVariants.{Ended, Cancelled, Failed, RunsOn}
use Rattle.tetri_svg.specs.Layout.{Layout}

-- what is said of what became of a piece
abbrev pub fate_words : Fate → List ℕ
fate_words Ended = codes "ended"
fate_words Cancelled = codes "cancelled"
fate_words Failed = codes "failed"
fate_words RunsOn = codes "runs on"

-- what is said of a bar, of these names
abbrev pub titled_text : Bar → List ℕ → List ℕ → List ℕ
titled_text b job node = ran_text job node b.from (last_of b.until) ++ fared_text (last_of b.expected) (fate_words b.fate) ++ close_text

-- the rectangle of a bar, from its start to its end in its node's row as far as the picture shows it, with its title
abbrev pub bar_text : Layout → Bar → List ℕ → List ℕ → List ℕ
bar_text f b job node = coloured_text b.colour ++ area_text (bar_of f b.node b.from b.until) ++ titled_text b job node

-- a mark over these slots of a bar, of this class
abbrev pub mark_text : Layout → List ℕ → ℕ → ℕ → ℕ → List ℕ
mark_text f class node from until = marked_text class ++ area_text (bar_of f node from until) ++ codes "/>\n"

-- the mark of the part beyond the end that was expected, if the picture shows some of it
abbrev pub over_text : Layout → ℕ → ℕ → ℕ → List ℕ
over_text f node expected until = if shows f expected until then mark_text f (codes "over") node expected until else []

-- the mark on the last slot before the end of what was cancelled or failed, if the picture shows that slot
abbrev pub end_text : Layout → ℕ → ℕ → Fate → List ℕ
end_text f node until Ended = []
end_text f node until Cancelled = if has_slot f (last_of until) then mark_text f (codes "cancelled") node (last_of until) until else []
end_text f node until Failed = if has_slot f (last_of until) then mark_text f (codes "failed") node (last_of until) until else []
end_text f node until RunsOn = []

-- the slot before which a bar has no mark of its end
abbrev pub bare_end : Fate → ℕ → ℕ
bare_end Ended until = until
bare_end Cancelled until = last_of until
bare_end Failed until = last_of until
bare_end RunsOn until = until

-- a name over these slots of a node, in this colour, where there is room
abbrev pub name_over : Layout → ℕ → List ℕ → ℕ → ℕ → ℕ → List ℕ
name_over f colour name node from until = if has_room f (length name) from until then label_text colour (x_of f from + 4) (text_y f node) name else []

-- a bar with the marks and the name on it
abbrev pub drawn_bar : Layout → Bar → List ℕ → List ℕ → List ℕ
drawn_bar f b job node =
    bar_text f b job node ++ over_text f b.node b.expected b.until ++ end_text f b.node b.until b.fate
    ++ name_over f b.colour job b.node b.from (min (bare_end b.fate b.until) b.expected)
