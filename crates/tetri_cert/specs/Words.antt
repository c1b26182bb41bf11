-- What is wrong with a certificate, in a word.
use Rattle.std.specs.Prelude.{ℕ, List, codes}
use Rattle.tetri_cert.specs.declared.faults.TreeWhy.{TreeWhy}
use Rattle.tetri_cert.specs.declared.faults.TreeWhy.TheVariants as tree_whys

abbrev pub tree_words : TreeWhy → List ℕ
tree_words tree_whys.Kind = codes "kind"
tree_words tree_whys.Shape = codes "shape"
tree_words tree_whys.Column = codes "column"
tree_words tree_whys.At = codes "at"
tree_words tree_whys.Row = codes "row"
tree_words tree_whys.Negative = codes "negative"
tree_words tree_whys.Denominator = codes "denominator"
tree_words tree_whys.Point = codes "point"
