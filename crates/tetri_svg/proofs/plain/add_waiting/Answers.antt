use Rattle.tetri_svg.specs.Plain.{waiting_text}
use Rattle.tetri_svg.proofs.plain.add_waiting.Goals as goal

pub returns : goal.returns
unfolding waiting_text
returns c = c.write.ensures.bytes
