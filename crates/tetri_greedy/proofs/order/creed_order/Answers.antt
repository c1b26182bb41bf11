use mathlib.Core.Path.{fun_ext}
use Rattle.std.proofs.Common.{◌≡◌, ◌∙◌, Bool, subst, sym, rules, of_calls}
use Rattle.std.specs.List.Sorted.{IsSortedBy, IsStableBy}
use Rattle.std.specs.Ordering.{is_lt, nat_cmp}
use Rattle.std.proofs.lemmas.Fn.{always_returns_same}
use Rattle.tetri_base.specs.Order.{in_order}
use Rattle.tetri_base.proofs.OrderLaws.{in_order-rises, IsOrder, order_by, rises_along, test_last}
use Rattle.tetri_space.specs.Space.{space}
use Rattle.tetri_space.proofs.InstanceLaws.{filter-in_order, same_stably}
use Rattle.tetri_greedy.specs.Order.{is_lower}
use Rattle.tetri_greedy.specs.declared.order.Ranked.{Ranked}
use Rattle.tetri_greedy.proofs.RankLemmas.{in_creed_order}
use Rattle.tetri_greedy.proofs.order.creed_order.Goals as goal

-- the order of the keys
abbrev key_lt : Ranked → Ranked → Bool
key_lt a b = is_lt (nat_cmp a.rank b.rank)

-- is that of the ranks
same_order : key_lt ≡ is_lower
same_order = fun_ext (λ (a : Ranked). fun_ext (λ (b : Ranked). test_last a.rank b.rank))

rank_order : IsOrder is_lower
rank_order = order_by (λ (r : Ranked). r.rank)

pub returns : goal.returns
returns c =
    let old = c.in_ok-jobs.jobs.items in
    let new = c.sort_by_key.new.self.items in
    let stable : IsStableBy is_lower old new =
    subst (λ (lt : Ranked → Ranked → Bool). IsStableBy lt old new) same_order
    (c.in_ok-sort_by_key.ensures.stable (λ (r : Ranked). r.rank) (always_returns_same _ _ _ (λ a r f k. search (rules, of_calls)))) in
    let sorted : IsSortedBy is_lower new =
    subst (λ (lt : Ranked → Ranked → Bool). IsSortedBy lt new) same_order
    (c.in_ok-sort_by_key.ensures.sorted (λ (r : Ranked). r.rank) (always_returns_same _ _ _ (λ a r f k. search (rules, of_calls)))) in
    in_creed_order c.args.creed (space c.args.inst.now) old new c.in_ok-jobs.ensures
    (same_stably is_lower rank_order new (in_order is_lower old) (rises_along is_lower rank_order new sorted) (in_order-rises is_lower rank_order old)
    (λ x. stable x ∙ sym (filter-in_order is_lower rank_order x old)))
