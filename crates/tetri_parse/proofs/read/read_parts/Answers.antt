use Rattle.std.proofs.Common.{length}
use Rattle.tetri_parse.specs.Phrase.{phrase}
use Rattle.tetri_parse.proofs.Outcomes.{read_tree, read_within}
use Rattle.tetri_parse.proofs.Spelled.{body_written}
use Rattle.tetri_parse.proofs.read.read_parts.Goals as goal

pub settle-requires-clause-written : goal.settle-requires-clause-written
settle-requires-clause-written c =
    let good = c.in_ok-syntax.ensures.good in
    body_written (length c.args.cluster.now) 63 0 good.0 (phrase c.args.cluster.now c.in_ok-syntax.syntax) good.1.1

pub returns-clause-good : goal.returns-clause-good
returns-clause-good c =
    let good = c.in_ok-syntax.ensures.good in
    read_tree c.args.terms.unit c.args.terms.arrival (length c.args.cluster.now) c.requires.terms.1 (phrase c.args.cluster.now c.in_ok-syntax.syntax) good.0 good.1 c.args.sets.now c.settle.new.sets c.settle.result c.settle.ensures.value

pub returns-clause-within : goal.returns-clause-within
returns-clause-within c =
    let good = c.in_ok-syntax.ensures.good in
    read_within c.args.terms.unit c.args.terms.arrival (length c.args.cluster.now) c.requires.terms.1 (phrase c.args.cluster.now c.in_ok-syntax.syntax) good.0 good.1 c.args.sets.now c.settle.new.sets c.settle.result c.settle.ensures.value
