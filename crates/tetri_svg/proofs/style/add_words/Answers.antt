use Rattle.tetri_svg.specs.Style.{words_text}
use Rattle.tetri_svg.proofs.style.add_words.Goals as goal

pub returns : goal.returns
unfolding words_text
returns c = c.write.ensures.bytes
