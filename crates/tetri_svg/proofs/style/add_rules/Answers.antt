use Rattle.std.proofs.Common.{string_bytes}
use Rattle.tetri_svg.specs.Style.{rules_text}
use Rattle.tetri_svg.proofs.Pushed.{pushed}
use Rattle.tetri_svg.proofs.style.add_rules.Goals as goal

pub returns : goal.returns
unfolding rules_text
returns c = pushed c.push_str.result (string_bytes c.args.out.now) _ rules_text c.push_str.ensures.bytes
