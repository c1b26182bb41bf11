use Rattle.std.proofs.Common.{◌≡◌, ◌<◌, ◌∙◌, All, List, [], ℕ, ap, slice_index_or, subst, sym}
use Rattle.std.specs.List.Sorted.{IsStrictlyIncreasing}
use Rattle.tetri_space.specs.Slots.{is_marked}
use Rattle.tetri_space.specs.Space.{set_of, space}
use Rattle.tetri_advice.specs.Fit.{fit_of_leaf}
use Rattle.tetri_greedy.proofs.OpenLemmas.{grown_by_none, no_fit}
use Rattle.tetri_greedy.proofs.fits.fit_leaf.Goals as goal

pub returns-then-not-may_have : goal.returns-then-not-may_have
returns-then-not-may_have c =
    let s = space c.args.inst.now in
    let l = c.args.leaf.now in
    let own = c.args.own.now in
    let taken = is_marked c.args.held.now s.now in
    let is : c.nodes_of.result.now ≡ set_of s l = c.nodes_of.ensures.value ∙ ap (λ (sets : List (List ℕ)). slice_index_or sets l.set []) c.deref.ensures in
    let up : IsStrictlyIncreasing (set_of s l) = subst IsStrictlyIncreasing is c.nodes_of.ensures.ascending in
    grown_by_none own (fit_of_leaf s taken own.placements l)
    (no_fit s taken own.placements l up c.requires.known.there c.least_nodes.result
    (λ nodes ascends within open_nodes.
    c.may_have.ensures c.if-not-may_have.true nodes ascends (subst (λ (k : ℕ). All (λ n. n < k) nodes) (sym c.requires.as_many) within) open_nodes)
    c.least_nodes.ensures)
