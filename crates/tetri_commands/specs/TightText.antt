-- The lines of a cycle whose bound is tightened by cuts.
use Rattle.std.specs.Prelude.{ℕ, List, [], ◌++◌, flat_map, length, min, Option, Some, None, codes, decimal}
use Rattle.std.specs.Fmt.{signed_decimal}
use Rattle.tetri_cert.specs.Lists.{list_text}
use Rattle.tetri_cert.specs.Pairs.{weight_text}
use Rattle.tetri_cuts.specs.declared.tightening.Added.{Added}
use Rattle.tetri_cuts.specs.declared.tightening.Root.{Root}
use Rattle.tetri_cuts.specs.declared.tightening.Tight.{Tight}

-- the lesser of a bound and that of the root
abbrev pub tight_bound : ℕ → Option Root → ℕ
tight_bound bound None = bound
tight_bound bound (Some r) = min bound r.bound

-- the number of a cycle, its value and its bound, what the bound is tightened to, and by how many cuts
unfoldable pub tight_line : ℕ → ℕ → ℕ → ℕ → ℕ → List ℕ
tight_line number value bound tight cuts =
    codes "tight " ++ decimal number ++ codes " " ++ decimal value ++ codes " " ++ decimal bound ++ codes " " ++ decimal tight ++ codes " " ++ decimal cuts ++ codes "\n"

-- the divisor of a cut, and the weights of the rows that it is made of
unfoldable pub cut_line : Added → List ℕ
cut_line a = codes "cut " ++ signed_decimal a.divisor ++ codes " " ++ list_text weight_text a.weights.items ++ codes "\n"

-- the multiplier of a root, and the weights of its rows
unfoldable pub root_line : Root → List ℕ
root_line r = codes "root " ++ signed_decimal r.q ++ codes " " ++ list_text weight_text r.weights.items ++ codes "\n"

abbrev pub root_lines : Option Root → List ℕ
root_lines None = []
root_lines (Some r) = root_line r

-- the lines of a cycle with this number, value and bound
abbrev pub tight_text : ℕ → ℕ → ℕ → Tight → List ℕ
tight_text number value bound t =
    tight_line number value bound (tight_bound bound t.root) (length t.cuts.items) ++ (flat_map cut_line t.cuts.items ++ root_lines t.root)
