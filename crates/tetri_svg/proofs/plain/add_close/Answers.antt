use Rattle.std.proofs.Common.{string_bytes}
use Rattle.tetri_svg.specs.Plain.{close_text}
use Rattle.tetri_svg.proofs.Pushed.{pushed}
use Rattle.tetri_svg.proofs.plain.add_close.Goals as goal

pub returns : goal.returns
unfolding close_text
returns c = pushed c.push_str.result (string_bytes c.args.out.now) _ close_text c.push_str.ensures.bytes
