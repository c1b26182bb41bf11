-- The words of plans' marks and the lines of certificates.
use Rattle.std.specs.Prelude.{ℕ, List, ◌++◌, codes, decimal, flat_map}
use Rattle.tetri_cert.specs.declared.plan_mark.PlanMark.{PlanMark}
use Rattle.tetri_cert.specs.declared.plan_mark.PlanMark.TheVariants.{Optimal, Spent, Wide}
use Rattle.tetri_cert.specs.declared.certificate.Certificate.{Certificate}
use Rattle.tetri_cert.specs.declared.certificate.Certificate.TheVariants.{Tops, Tree}
use Rattle.tetri_cert.specs.NodeText.{node_line}

abbrev pub mark_text : PlanMark → List ℕ
mark_text Optimal = codes "optimal"
mark_text Spent = codes "spent"
mark_text Wide = codes "wide"

unfoldable pub certificate_text : Certificate → List ℕ
certificate_text (Tops columns rows) = codes "tops " ++ decimal columns ++ codes " " ++ decimal rows ++ codes "\n"
certificate_text (Tree marks) = flat_map node_line marks
