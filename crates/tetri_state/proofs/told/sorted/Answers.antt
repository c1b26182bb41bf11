use Rattle.std.proofs.Common.{subst, sym}
use Rattle.std.specs.List.Sorted.{IsNonDecreasingBy}
use Rattle.tetri_state.proofs.ToldLemmas.{in_order-rises, sorted_in_order}
use Rattle.tetri_state.proofs.told.sorted.Goals as goal

pub returns : goal.returns
returns c =
    let order = sorted_in_order c.args.ids.items c.sort.new.self.items c.in_ok-sort.ensures.permutation c.in_ok-sort.ensures.sorted in
    record {
      order = order;
      rise = subst (IsNonDecreasingBy (λ a. a.job)) (sym order) (in_order-rises c.args.ids.items);
    }
