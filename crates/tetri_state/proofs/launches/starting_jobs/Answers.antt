use Rattle.std.proofs.Common.{ℕ, ◌≡◌, ◌==◌, ◌∙◌, sym, ap, map, append-nil, List, ◌++◌}
use Rattle.std.specs.List.{filter}
use Rattle.std.proofs.lemmas.List.{drop_all}
use Rattle.std.proofs.lemmas.List.Sorted.{IsNonDecreasingBy-from_sort, list_any-IsPermutation}
use Rattle.tetri_base.specs.Lists.{has}
use Rattle.tetri_strl.specs.declared.grants.Grant.{Grant}
use Rattle.tetri_space.specs.Space.{space}
use Rattle.tetri_state.specs.Launch.{start_of}
use Rattle.tetri_state.proofs.RunLemmas.{starting_told}
use Rattle.tetri_state.proofs.launches.starting_jobs.Goals as goal

pub returns-clause-rise : goal.returns-clause-rise
returns-clause-rise c = IsNonDecreasingBy-from_sort (λ (n : ℕ). n) c.sort.new.self.items c.in_ok-sort.ensures.sorted

pub returns-clause-jobs : goal.returns-clause-jobs
returns-clause-jobs c = λ job.
    let s = space c.args.inst.now in
    let gs = c.args.grants.now in
    let place = c.loop-place.place in
    let all : c.loop-place.jobs.items ≡ map (λ (g : Grant). g.job) (filter (λ g. start_of s g == s.now) gs) =
    sym (append-nil c.loop-place.jobs.items)
    ∙ ap (λ (hs : List Grant). c.loop-place.jobs.items ++ map (λ (g : Grant). g.job) (filter (λ g. start_of s g == s.now) hs)) (sym (drop_all place gs c.loop-place-test.false))
    ∙ c.loop-place.invariant in
    sym (list_any-IsPermutation (λ n. n == job) c.loop-place.jobs.items c.sort.new.self.items c.in_ok-sort.ensures.permutation)
    ∙ ap (λ ns. has ns job) all ∙ starting_told s gs job
