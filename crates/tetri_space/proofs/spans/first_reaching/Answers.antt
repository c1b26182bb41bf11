use Rattle.std.proofs.Common.{rules, of_calls}
use Rattle.std.proofs.lemmas.Fn.{always_returns_same}
use Rattle.tetri_space.specs.Spans.{is_past}
use Rattle.tetri_space.proofs.SpanLemmas.{past_first, past_taken, reaching_left}
use Rattle.tetri_space.proofs.spans.first_reaching.Goals as goal

pub returns-clause-passed : goal.returns-clause-passed
returns-clause-passed c =
    past_taken c.args.node c.args.slot c.args.spans.now c.partition_point.result c.partition_point.ensures.bound
    (c.partition_point.ensures.partitioned (is_past c.args.node c.args.slot) (always_returns_same _ _ _ (λ a r f k. search (rules, of_calls)))
    (past_first c.args.node c.args.slot c.args.spans.now c.requires))

pub returns-clause-reaching : goal.returns-clause-reaching
returns-clause-reaching c =
    reaching_left c.args.node c.args.slot c.args.spans.now c.partition_point.result c.partition_point.ensures.bound
    (c.partition_point.ensures.partitioned (is_past c.args.node c.args.slot) (always_returns_same _ _ _ (λ a r f k. search (rules, of_calls)))
    (past_first c.args.node c.args.slot c.args.spans.now c.requires))
