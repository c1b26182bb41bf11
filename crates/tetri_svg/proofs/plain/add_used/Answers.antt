use Rattle.tetri_svg.specs.Plain.{used_text}
use Rattle.tetri_svg.proofs.plain.add_used.Goals as goal

pub returns : goal.returns
unfolding used_text
returns c = c.write.ensures.bytes
