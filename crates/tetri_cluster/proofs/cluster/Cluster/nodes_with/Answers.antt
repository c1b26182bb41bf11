use Rattle.std.proofs.Common.{◌≡◌, ◌∙◌, ◌<◌, [], All, length, nat_eq, nat_lt, zero-add, ap, sym, subst, arith}
use Rattle.std.specs.List.{list_any}
use Rattle.std.specs.List.Sorted.{IsNonDecreasing}
use Rattle.std.proofs.lemmas.List.{get_or_default}
use Rattle.tetri_cluster.specs.Tags.{tagged_from}
use Rattle.tetri_cluster.proofs.TagLists.{known_listed, listed_ascend, listed_members, listed_within, tag_list_none, tag_list_some}
use Rattle.tetri_cluster.proofs.cluster.Cluster.nodes_with.Goals as goal

pub returns-in-Some-clause-members : goal.returns-in-Some-clause-members
returns-in-Some-clause-members c = λ node.
    let tag = c.args.tag.now in
    let lists = c.self.inside.by_tag.items in
    let there : c.in-Some.number < length lists = omega (arith, c.in-Some.ensures.within, c.self.invariant.3) in
    let listed : c.as_slice.result.now ≡ tagged_from 0 tag c.args.self.now = c.as_slice.ensures ∙ c.index.ensures ∙ get_or_default lists c.in-Some.number c.index.result.now [] there
    ∙ sym (tag_list_some c.self.inside.tags lists tag c.in-Some.number (sym c.in-Some.ensures.value)) ∙ c.self.invariant.4 tag ∙ ap (tagged_from 0 tag) c.self.view_is in
    ap (list_any (nat_eq node)) listed ∙ ap (λ n. list_any (nat_eq n) (tagged_from 0 tag c.args.self.now)) (sym (zero-add node)) ∙ listed_members 0 node tag c.args.self.now

pub returns-in-Some-clause-within : goal.returns-in-Some-clause-within
returns-in-Some-clause-within c =
    let tag = c.args.tag.now in
    let lists = c.self.inside.by_tag.items in
    let there : c.in-Some.number < length lists = omega (arith, c.in-Some.ensures.within, c.self.invariant.3) in
    let listed : c.as_slice.result.now ≡ tagged_from 0 tag c.args.self.now = c.as_slice.ensures ∙ c.index.ensures ∙ get_or_default lists c.in-Some.number c.index.result.now [] there
    ∙ sym (tag_list_some c.self.inside.tags lists tag c.in-Some.number (sym c.in-Some.ensures.value)) ∙ c.self.invariant.4 tag ∙ ap (tagged_from 0 tag) c.self.view_is in
    subst (All (λ n. n < length c.args.self.now)) (sym listed) (listed_within 0 (length c.args.self.now) tag c.args.self.now (omega arith))

pub returns-in-Some-clause-known : goal.returns-in-Some-clause-known
returns-in-Some-clause-known c =
    let tag = c.args.tag.now in
    let lists = c.self.inside.by_tag.items in
    let there : c.in-Some.number < length lists = omega (arith, c.in-Some.ensures.within, c.self.invariant.3) in
    let listed : c.as_slice.result.now ≡ tagged_from 0 tag c.args.self.now = c.as_slice.ensures ∙ c.index.ensures ∙ get_or_default lists c.in-Some.number c.index.result.now [] there
    ∙ sym (tag_list_some c.self.inside.tags lists tag c.in-Some.number (sym c.in-Some.ensures.value)) ∙ c.self.invariant.4 tag ∙ ap (tagged_from 0 tag) c.self.view_is in
    known_listed 0 tag c.args.self.now ∙ ap (λ l. nat_lt 0 (length l)) (sym listed)

pub returns-in-Some-clause-ascending : goal.returns-in-Some-clause-ascending
returns-in-Some-clause-ascending c =
    let tag = c.args.tag.now in
    let lists = c.self.inside.by_tag.items in
    let there : c.in-Some.number < length lists = omega (arith, c.in-Some.ensures.within, c.self.invariant.3) in
    let listed : c.as_slice.result.now ≡ tagged_from 0 tag c.args.self.now = c.as_slice.ensures ∙ c.index.ensures ∙ get_or_default lists c.in-Some.number c.index.result.now [] there
    ∙ sym (tag_list_some c.self.inside.tags lists tag c.in-Some.number (sym c.in-Some.ensures.value)) ∙ c.self.invariant.4 tag ∙ ap (tagged_from 0 tag) c.self.view_is in
    subst IsNonDecreasing (sym listed) (listed_ascend 0 tag c.args.self.now)

pub returns-in-None-clause-members : goal.returns-in-None-clause-members
returns-in-None-clause-members c = λ node.
    let tag = c.args.tag.now in
    let none : [] ≡ tagged_from 0 tag c.args.self.now = sym (tag_list_none c.self.inside.tags c.self.inside.by_tag.items tag (sym c.in-None.ensures.value) c.self.invariant.3) ∙ c.self.invariant.4 tag ∙ ap (tagged_from 0 tag) c.self.view_is in
    ap (list_any (nat_eq node)) none ∙ ap (λ n. list_any (nat_eq n) (tagged_from 0 tag c.args.self.now)) (sym (zero-add node)) ∙ listed_members 0 node tag c.args.self.now

pub returns-in-None-clause-known : goal.returns-in-None-clause-known
returns-in-None-clause-known c =
    let tag = c.args.tag.now in
    let none : [] ≡ tagged_from 0 tag c.args.self.now = sym (tag_list_none c.self.inside.tags c.self.inside.by_tag.items tag (sym c.in-None.ensures.value) c.self.invariant.3) ∙ c.self.invariant.4 tag ∙ ap (tagged_from 0 tag) c.self.view_is in
    known_listed 0 tag c.args.self.now ∙ ap (λ l. nat_lt 0 (length l)) (sym none)
