-- The text of a sheet that holds two pictures, one below the other.
use Rattle.std.specs.Prelude.{ℕ, ◌*◌, List, ◌++◌, codes, decimal}
use Rattle.tetri_svg.specs.Front.{sized_text}
use Rattle.tetri_svg.specs.Layout.{Layout}
use Rattle.tetri_svg.specs.Sizes.{height_of, width_of}

-- the opening of a sheet with room for two pictures of this frame
abbrev pub sheet_text : Layout → List ℕ
sheet_text f = sized_text (width_of f) (height_of f * 2)

-- the opening of what stands on a sheet from this height on
unfoldable pub below_text : ℕ → List ℕ
below_text y = codes "<g transform=\"translate(0 " ++ (decimal y ++ codes ")\">\n")

-- the end of what stands there, and of the sheet
unfoldable pub end_text : List ℕ
end_text = codes "</g>\n</svg>\n"

-- these two texts of pictures of this frame on a sheet, the second one below the first
abbrev pub on_sheet : Layout → List ℕ → List ℕ → List ℕ
on_sheet f first second = sheet_text f ++ (first ++ (below_text (height_of f) ++ (second ++ end_text)))
