use Rattle.std.proofs.Common.{string_bytes}
use Rattle.tetri_svg.specs.Style.{patterns_text}
use Rattle.tetri_svg.proofs.Pushed.{pushed}
use Rattle.tetri_svg.proofs.style.add_patterns.Goals as goal

pub returns : goal.returns
unfolding patterns_text
returns c = pushed c.push_str.result (string_bytes c.args.out.now) _ patterns_text c.push_str.ensures.bytes
