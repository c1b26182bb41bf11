use Rattle.std.proofs.Common.{string_bytes}
use Rattle.tetri_svg.specs.Sheet.{end_text}
use Rattle.tetri_svg.proofs.Pushed.{pushed}
use Rattle.tetri_svg.proofs.sheet.add_end.Goals as goal

pub returns : goal.returns
unfolding end_text
returns c = pushed c.push_str.result (string_bytes c.args.out.now) _ end_text c.push_str.ensures.bytes
