-- The text of a rectangle.
use Rattle.std.specs.Prelude.{ℕ, List, ◌++◌, codes, decimal}
use Rattle.tetri_svg.specs.declared.area.Area.{Area}

-- the attributes of a rectangle
unfoldable pub area_text : Area → List ℕ
area_text a = codes " x=\"" ++ decimal a.x ++ codes "\" y=\"" ++ decimal a.y ++ codes "\" width=\"" ++ decimal a.width ++ codes "\" height=\"" ++ decimal a.height ++ codes "\""
