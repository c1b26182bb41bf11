use Rattle.std.proofs.Common.{◌≤◌, ◌<◌, ◌^◌, sym, ◌∙◌, rules}
use Rattle.std.proofs.lemmas.List.Sorted.{All-permutation, IsNonDecreasingBy-from_sort_by_key, list_any-IsPermutation}
use Rattle.tetri_space.specs.Closed.{closes}
use Rattle.tetri_space.specs.Spans.{place_of}
use Rattle.tetri_space.specs.declared.closure.Closure.{Closure}
use Rattle.tetri_space.proofs.spans.sorted.Goals as goal

pub returns-clause-same : goal.returns-clause-same
returns-clause-same c n t =
    sym (list_any-IsPermutation (closes n t) c.in_ok-closures.closures.items c.sort_unstable_by_key.new.self.items c.sort_unstable_by_key.ensures.permutation)
    ∙ c.in_ok-closures.ensures.same n t

pub returns-clause-some_slots : goal.returns-clause-some_slots
returns-clause-some_slots c =
    All-permutation (λ (d : Closure). d.from ≤ d.to) c.in_ok-closures.closures.items c.sort_unstable_by_key.new.self.items c.sort_unstable_by_key.ensures.permutation
    c.in_ok-closures.ensures.some_slots

pub returns-clause-fit : goal.returns-clause-fit
returns-clause-fit c =
    All-permutation (λ (d : Closure). d.from < 2 ^ 32) c.in_ok-closures.closures.items c.sort_unstable_by_key.new.self.items c.sort_unstable_by_key.ensures.permutation
    c.in_ok-closures.ensures.fit

pub returns-clause-ascending : goal.returns-clause-ascending
returns-clause-ascending c = IsNonDecreasingBy-from_sort_by_key place_of _ c.sort_unstable_by_key.ensures.sorted (λ a r q k. search rules)
