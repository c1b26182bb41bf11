use Rattle.std.proofs.Common.{string_bytes}
use Rattle.tetri_svg.specs.Style.{colours_text}
use Rattle.tetri_svg.proofs.Pushed.{pushed}
use Rattle.tetri_svg.proofs.style.add_colours.Goals as goal

pub returns : goal.returns
unfolding colours_text
returns c = pushed c.push_str.result (string_bytes c.args.out.now) _ colours_text c.push_str.ensures.bytes
