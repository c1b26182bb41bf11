use Rattle.std.proofs.Common.{ap, ◌∙◌}
use Rattle.tetri_strl.specs.Tree.{tree}
use Rattle.tetri_parse.specs.Expression.{expression}
use Rattle.tetri_parse.proofs.TreesBack.{reads_back}
use Rattle.tetri_parse.proofs.print.print_expr.Goals as goal

pub returns-clause-reads_back : goal.returns-clause-reads_back
returns-clause-reads_back c =
    let back = reads_back c.args.arrival c.args.cluster.now c.args.sets.now (tree c.args.e.now) c.requires.expr c.requires.sets c.in_ok-text.ensures.named in
    ap (λ text. expression text 1 c.args.arrival c.args.cluster.now c.args.sets.now) c.in_ok-text.ensures.value ∙ back
