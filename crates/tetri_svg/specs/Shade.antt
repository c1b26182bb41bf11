-- The text of shades.
use Rattle.std.specs.Prelude.{ℕ, List, [], ◌++◌, if◌then◌else◌}
use Rattle.tetri_svg.specs.Areas.{area_text}
use Rattle.tetri_svg.specs.Layout.{Layout}
use Rattle.tetri_svg.specs.Plain.{close_text, out_text, rect_text}
use Rattle.tetri_svg.specs.Sizes.{area_of, last_of, shows}

-- the shade of those of these slots of a node's row that the picture shows, if it shows some, of this class and with these words
abbrev pub shade_text : Layout → List ℕ → List ℕ → List ℕ → ℕ → ℕ → ℕ → List ℕ
shade_text f class words name node from until =
    if shows f from until then rect_text class ++ area_text (area_of f node from until) ++ out_text name words from (last_of until) ++ close_text else []
