use Rattle.std.proofs.Common.{sym, ap, subst}
use Rattle.tetri_parse.specs.SetText.{set_at, said_nodes, nodes_in}
use Rattle.tetri_parse.specs.Answers.{Stops}
use Rattle.tetri_parse.proofs.naming.named_nodes.Goals as goal

pub returns-in-Ok-clause-value : goal.returns-in-Ok-clause-value
unfolding nodes_in
returns-in-Ok-clause-value c = sym (ap said_nodes c.in-Ok.ensures.value)

pub returns-in-Err-Missed-clause-value : goal.returns-in-Err-Missed-clause-value
unfolding nodes_in
returns-in-Err-Missed-clause-value c = sym (ap said_nodes (subst (λ e. Stops e (set_at c.args.cluster.now c.args.text.now)) c.in-Err-Missed.field-0-is c.in-Err-Missed.ensures.value))
