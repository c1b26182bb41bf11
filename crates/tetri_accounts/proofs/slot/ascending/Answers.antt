use Rattle.std.proofs.Common.{ℕ, ◌∙◌, ◌==◌, sym, ap}
use Rattle.std.proofs.lemmas.List.Sorted.{IsNonDecreasingBy-from_sort, list_any-IsPermutation}
use Rattle.tetri_base.specs.Lists.{has}
use Rattle.tetri_accounts.proofs.slot.ascending.Goals as goal

pub returns-clause-rise : goal.returns-clause-rise
returns-clause-rise c = IsNonDecreasingBy-from_sort (λ (n : ℕ). n) c.sort.new.self.items c.in_ok-sort.ensures.sorted

pub returns-clause-same : goal.returns-clause-same
returns-clause-same c = λ job.
    sym (list_any-IsPermutation (λ n. n == job) c.in_ok-copy.copy.items c.sort.new.self.items c.in_ok-sort.ensures.permutation)
    ∙ ap (λ ns. has ns job) c.in_ok-copy.ensures.items
