use mathlib.Core.Path.{fun_ext}
use Rattle.std.proofs.Common.{◌≡◌, ◌∙◌, Bool, sym, ap, subst, rules, of_calls, nat_lt}
use Rattle.std.specs.List.{filter}
use Rattle.std.specs.List.Sorted.{IsSortedBy, IsStableBy, ties}
use Rattle.std.specs.Ordering.{is_lt, nat_cmp, ordering_then}
use Rattle.std.proofs.lemmas.Fn.{always_returns_same}
use Rattle.tetri_base.specs.Order.{in_order}
use Rattle.tetri_base.proofs.OrderLaws.{in_order-rises, rises_along, test_last, test_then}
use Rattle.tetri_strl.specs.declared.grants.Grant.{Grant}
use Rattle.tetri_space.specs.GrantOrder.{comes_first}
use Rattle.tetri_space.proofs.AllotmentLemmas.{grant_order}
use Rattle.tetri_space.proofs.StableLemmas.{filter-in_order, same_stably}
use Rattle.tetri_space.proofs.ordering.order_grants.Goals as goal

-- the order of the keys
abbrev key_lt : Grant → Grant → Bool
key_lt g h = is_lt (ordering_then (nat_cmp g.job h.job) (nat_cmp g.leaf h.leaf))

-- is that of the grants
same_order : key_lt ≡ comes_first
same_order = fun_ext (λ (g : Grant). fun_ext (λ (h : Grant). test_then g.job h.job (nat_cmp g.leaf h.leaf) (nat_lt g.leaf h.leaf) (test_last g.leaf h.leaf)))

pub returns : goal.returns
returns c =
    let old = c.into_items-grants.result.items in
    let new = c.sort_by_key.new.self.items in
    let stable : IsStableBy comes_first old new =
    subst (λ (lt : Grant → Grant → Bool). IsStableBy lt old new) same_order
    (c.in_ok-sort_by_key.ensures.stable (λ (g : Grant). (g.job, g.leaf)) (always_returns_same _ _ _ (λ a r f k. search (rules, of_calls)))) in
    let sorted : IsSortedBy comes_first new =
    subst (λ (lt : Grant → Grant → Bool). IsSortedBy lt new) same_order
    (c.in_ok-sort_by_key.ensures.sorted (λ (g : Grant). (g.job, g.leaf)) (always_returns_same _ _ _ (λ a r f k. search (rules, of_calls)))) in
    c.of.ensures
    ∙ same_stably comes_first grant_order new (in_order comes_first c.args.a) (rises_along comes_first grant_order new sorted) (in_order-rises comes_first grant_order c.args.a)
    (λ x. stable x ∙ ap (filter (ties comes_first x)) c.into_items-grants.ensures ∙ sym (filter-in_order comes_first grant_order x c.args.a))
