use Rattle.std.proofs.Common.{◌+◌, ◌-◌, ◌==◌, ◌∙◌, ap, cond, sym}
use Rattle.tetri_base.proofs.ListLaws.{test_from_ne}
use Rattle.tetri_space.specs.Space.{bid, space}
use Rattle.tetri_greedy.specs.Order.{rank_of}
use Rattle.tetri_greedy.proofs.RankLemmas.{deadline_is}
use Rattle.tetri_greedy.proofs.order.rank_of.Goals as goal

pub returns-then-past-eq0-clause-rank : goal.returns-then-past-eq0-clause-rank
returns-then-past-eq0-clause-rank c =
    let s = space c.args.inst.now in
    let b = bid c.args.offer.now in
    c.from.ensures
    ∙ sym (ap (λ k. rank_of k s b) c.in-Deadline.is ∙ deadline_is s b c.past_last_start-past.result c.past_last_start-past.ensures
    ∙ ap (λ n. cond (n == 0) (s.now + s.window) (n - 1)) c.if-past-eq0.true)

pub returns-else-past-eq0-clause-rank : goal.returns-else-past-eq0-clause-rank
returns-else-past-eq0-clause-rank c =
    let s = space c.args.inst.now in
    let b = bid c.args.offer.now in
    let past = c.past_last_start-past.result in
    c.from-else-past-eq0.ensures
    ∙ sym (ap (λ k. rank_of k s b) c.in-Deadline.is ∙ deadline_is s b past c.past_last_start-past.ensures
    ∙ ap (λ t. cond t (s.now + s.window) (past - 1)) (test_from_ne past 0 c.if-past-eq0.false))
