use Rattle.tetri_svg.specs.Plain.{view_text}
use Rattle.tetri_svg.proofs.plain.add_view.Goals as goal

pub returns : goal.returns
unfolding view_text
returns c = c.write.ensures.bytes
