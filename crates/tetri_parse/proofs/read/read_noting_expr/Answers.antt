use Rattle.std.proofs.Common.{Ok, Err}
use Rattle.tetri_strl.specs.declared.expr.Expr.{Expr}
use Rattle.tetri_parse.proofs.FirstFaults.{faultless, refused_first}
use Rattle.tetri_parse.proofs.FaultOrder.{least_answered}
use Rattle.tetri_parse.proofs.read.read_noting_expr.Goals as goal

pub returns-in-Ok-clause-first : goal.returns-in-Ok-clause-first
returns-in-Ok-clause-first c = faultless c.args.text.now c.args.terms.unit c.args.terms.arrival c.args.cluster.now c.args.sets.now _ c.in-Ok.ensures.value

pub returns-in-Err-clause-first : goal.returns-in-Err-clause-first
returns-in-Err-clause-first c = rw c.parse_fault.ensures (refused_first c.args.text.now c.args.terms.unit c.args.terms.arrival c.args.cluster.now c.args.sets.now _ c.in-Err.ensures.value)

pub returns-in-Ok-clause-least : goal.returns-in-Ok-clause-least
returns-in-Ok-clause-least c = least_answered {A = Expr} c.args.text.now c.args.terms.unit c.args.cluster.now c.args.sets.now (Ok c.in-Ok.expr) (returns-in-Ok-clause-first c)

pub returns-in-Err-clause-least : goal.returns-in-Err-clause-least
returns-in-Err-clause-least c = least_answered {A = Expr} c.args.text.now c.args.terms.unit c.args.cluster.now c.args.sets.now (Err c.parse_fault.result) (returns-in-Err-clause-first c)
