use Rattle.std.proofs.Common.{◌∙◌, arith, sym, true≢false}
use Rattle.tetri_space.specs.Space.{space}
use Rattle.tetri_plan.proofs.SearchedLemmas.{bounded_by_tops}
use Rattle.tetri_plan.proofs.planning.bound_on.Goals as goal

pub returns : goal.returns
returns c =
    bounded_by_tops (space c.args.inst.now) c.args.budget c.tops.result c.size-columns.result.0 c.size-columns.result.1 c.args.kept (record { lawful = c.requires.lawful; thrifty = c.requires.thrifty }) c.requires.worth
    c.tops.ensures (λ may. true≢false (sym (c.may_have_tree.ensures.1 may) ∙ c.if-may_have_tree.false)) c.size-columns.ensures.columns c.size-columns.ensures.rows (omega arith) (omega arith)
