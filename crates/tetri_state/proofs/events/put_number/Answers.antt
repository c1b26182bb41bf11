use Rattle.std.proofs.Common.{◌≡◌, ◌∙◌, ◌≤◌, ◌<◌, ℕ, Err, length, get_or, ap, sym, subst}
use Rattle.std.specs.List.Sorted.{IsStrictlyIncreasing}
use Rattle.std.proofs.lemmas.Cmp.{ranked}
use Rattle.std.proofs.lemmas.List.Sorted.{searched}
use Rattle.tetri_state.proofs.Ascending.{ascend_from, put_at, put_there}
use Rattle.tetri_state.proofs.SearchLemmas.{never_fall}
use Rattle.tetri_state.proofs.events.put_number.Goals as goal

pub returns-in_ok-insert : goal.returns-in_ok-insert
returns-in_ok-insert c =
    let ns = c.args.numbers.now.items in
    let n = c.args.number in
    let i = c.in-Err.place in
    let at = searched c.deref.result.now n (Err i) c.in-Err.ensures.position (λ j k le lt. never_fall _ (subst IsStrictlyIncreasing (sym c.deref.ensures.value) c.requires) j k 0 le lt) in
    c.in_ok-insert.ensures.items
    ∙ put_at n ns i (subst (λ xs. i ≤ length xs) c.deref.ensures.value at.0) (subst (λ xs. (k : ℕ) → k < i → get_or xs k 0 < n) c.deref.ensures.value at.1)
    (subst (λ xs. (k : ℕ) → i ≤ k → k < length xs → n < get_or xs k 0) c.deref.ensures.value at.2)

pub returns-in_default : goal.returns-in_default
returns-in_default c =
    let ns = c.args.numbers.now.items in
    let at = c.in_default.field-0 in
    let found : get_or ns at 0 ≡ c.args.number = ap (λ xs. get_or xs at 0) (sym c.deref.ensures.value) ∙ ranked _ _ _ (sym (c.in_default.ensures.ok 0)) in
    sym (put_there c.args.number ns at (ascend_from ns c.requires) (subst (λ xs. at < length xs) c.deref.ensures.value c.in_default.ensures.bound) found)
