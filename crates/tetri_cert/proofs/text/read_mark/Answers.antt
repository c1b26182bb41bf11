use Rattle.std.proofs.Common.{rules, ◌≡◌, Some}
use Rattle.tetri_cert.specs.NodeText.{node_in}
use Rattle.tetri_cert.proofs.TextBack.{reads_no_other}
use Rattle.tetri_cert.proofs.text.read_mark.Goals as goal

pub returns-in-Some-clause-plain : goal.returns-in-Some-clause-plain
unfolding node_in
returns-in-Some-clause-plain c =
    let read : node_in c.args.line.now ≡ Some c.in-Some.mark = search rules in
    (reads_no_other c.args.line.now c.in-Some.mark read).0
