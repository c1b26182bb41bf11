use Rattle.std.proofs.Common.{◌≡◌, ◌∙◌, ◌<◌, ℕ, sym, ap, subst, false, is_ok, length, get_or}
use Rattle.std.specs.List.Sorted.{IsNonDecreasingBy}
use Rattle.std.proofs.lemmas.Cmp.{ranked}
use Rattle.tetri_base.specs.Lists.{has}
use Rattle.tetri_state.specs.Begin.{without}
use Rattle.tetri_state.proofs.Ascending.{ascend_from, remove_is, without_absent}
use Rattle.tetri_state.proofs.SearchLemmas.{never_fall, search_by_key}
use Rattle.tetri_state.proofs.events.leave.Goals as goal
use Rattle.tetri_state.proofs.events.leave.Goals.{In-Err}

pub returns-in-Ok-clause-left : goal.returns-in-Ok-clause-left
returns-in-Ok-clause-left c =
    let jobs = c.args.jobs.now.items in
    let at = c.in-Ok.place in
    let found : get_or jobs at 0 ≡ c.args.job = ap (λ xs. get_or xs at 0) (sym c.deref.ensures.value) ∙ ranked _ _ _ (sym (c.in-Ok.ensures.ok 0)) in
    let within : at < length jobs = subst (λ xs. at < length xs) c.deref.ensures.value c.in-Ok.ensures.bound in
    c.remove.ensures.items ∙ remove_is jobs at 0 (ascend_from jobs c.requires) within ∙ ap (λ n. without n jobs) found

absent : (c : In-Err) → false ≡ has c.args.jobs.now.items c.args.job
absent c =
    sym (ap is_ok c.in-Err.is)
    ∙ search_by_key (λ (n : ℕ). n) c.deref.result.now c.args.job c.binary_search.result
    (subst (IsNonDecreasingBy (λ n. n)) (sym c.deref.ensures.value) (never_fall _ c.requires)) c.binary_search.ensures.bound c.binary_search.ensures.position
    ∙ ap (λ xs. has xs c.args.job) c.deref.ensures.value

pub returns-in-Err-clause-was : goal.returns-in-Err-clause-was
returns-in-Err-clause-was c = absent c

pub returns-in-Err-clause-left : goal.returns-in-Err-clause-left
returns-in-Err-clause-left c = sym (without_absent c.args.job c.args.jobs.now.items (sym (absent c)))
