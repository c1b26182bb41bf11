use Rattle.tetri_svg.specs.Plain.{awaited_text}
use Rattle.tetri_svg.proofs.plain.add_awaited.Goals as goal

pub returns : goal.returns
unfolding awaited_text
returns c = c.write.ensures.bytes
