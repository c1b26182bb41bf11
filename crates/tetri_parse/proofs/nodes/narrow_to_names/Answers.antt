use Rattle.std.proofs.Common.{Bor, ◌≡◌, ◌∙◌, List, ℕ, Some, ap, filter, map, nat_eq, subst, sym}
use Rattle.std.specs.List.{list_any}
use Rattle.std.specs.List.Sorted.{IsNonDecreasing}
use Rattle.std.proofs.lemmas.List.Sorted.{IsNonDecreasingBy-from_sort}
use Rattle.tetri_parse.specs.SetText.{numbers_of}
use Rattle.tetri_parse.specs.Tagged.{HaveTags}
use Rattle.tetri_parse.proofs.NodeSets.{kept_set}
use Rattle.tetri_parse.proofs.SeenTags.{names_leave, still_have}
use Rattle.tetri_parse.proofs.nodes.narrow_to_names.Goals as goal

abbrev now : Bor (List ℕ) → List ℕ
now n = n.now

pub among-requires : goal.among-requires
among-requires c = subst IsNonDecreasing (sym c.deref.ensures.value) (IsNonDecreasingBy-from_sort (λ x. x) c.sort_unstable.new.self.items c.sort_unstable.ensures.sorted)

pub returns-clause-value : goal.returns-clause-value
returns-clause-value c =
    let names = map now c.args.names.now in
    let known : numbers_of c.args.cluster.now names ≡ Some c.in-Some.numbers.items = sym (rw c.in-Some.is at c.in_ok-numbers.ensures) in
    names_leave c.args.cluster.now names c.in-Some.numbers.items c.sort_unstable.new.self.items c.deref.result.now c.as_slice.result.now c.args.nodes.now c.in_ok-among.field-0 known c.sort_unstable.ensures.permutation c.deref.ensures.value c.as_slice.ensures c.in_ok-among.ensures

pub returns-clause-good : goal.returns-clause-good
returns-clause-good c = kept_set _ _ _ _ _ c.in_ok-among.ensures c.as_slice.ensures c.requires

pub returns-clause-fewer : goal.returns-clause-fewer
returns-clause-fewer c = λ tags h.
    let p = λ (n : ℕ). list_any (nat_eq n) c.deref.result.now in
    subst (λ ns. HaveTags c.args.cluster.now ns tags) (sym (c.in_ok-among.ensures ∙ ap (filter p) c.as_slice.ensures)) (still_have c.args.cluster.now p c.args.nodes.now tags h)
