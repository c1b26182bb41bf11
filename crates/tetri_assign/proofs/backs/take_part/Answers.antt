use Rattle.std.proofs.Common.{◌≡◌, ◌∙◌, ℕ, List, ◌++◌, ◌≤◌, All, ◌<◌, drop, take, filter, length, map, ap, sym, subst}
use Rattle.tetri_assign.specs.steps.Taking.{IsMark, held_by, hold, may_use, ready}
use Rattle.tetri_assign.proofs.MarkLemmas.{got_there, next_mark, ready_from, rest_is}
use Rattle.tetri_assign.proofs.backs.take_part.Goals as goal

pub hold-requires : goal.hold-requires
hold-requires c =
    let back = c.args.back.now.items in
    let part = c.args.part.now in
    let from = c.place_in-from.result in
    let got = c.in_ok-found.found.nodes.items in
    let seen = c.in_ok-found.found.seen in
    let within : seen ≤ length (drop from part) = subst (λ (ns : List ℕ). seen ≤ length ns) (rest_is part from) c.in_ok-found.ensures.within in
    let found : filter (may_use back c.args.want.now.start) (take seen (drop from part)) ≡ got =
    subst (λ (b : List ℕ). filter (may_use b c.args.want.now.start) (take seen (drop from part)) ≡ got) c.deref.ensures.value
    (subst (λ (ns : List ℕ). filter (may_use c.deref.result.now c.args.want.now.start) (take seen ns) ≡ got) (rest_is part from) c.in_ok-found.ensures.seen) in
    subst (All (λ n. n < length back)) (sym c.deref-2.ensures.value)
    (got_there back part c.args.mark.now c.args.want.now.start from c.requires.mark c.place_in-from.ensures seen c.args.want.now.end got c.requires.there within found c.requires.some_slots)

pub returns-clause-held : goal.returns-clause-held
returns-clause-held c =
    let back = c.args.back.now.items in
    let part = c.args.part.now in
    let from = c.place_in-from.result in
    let w = c.args.want.now in
    let same : c.in_ok-found.found.nodes.items ≡ ready back w.start w.nodes part =
    c.in_ok-found.ensures.nodes ∙ ap (λ (b : List ℕ). ready b w.start w.nodes (take (Rattle.std.proofs.Common.◌-◌ (length part) from) (drop from part))) c.deref.ensures.value
    ∙ ap (ready back w.start w.nodes) (rest_is part from) ∙ ready_from back part c.args.mark.now w.start from c.requires.mark c.place_in-from.ensures w.nodes in
    c.in_ok-add_held.ensures ∙ ap (λ (ns : List ℕ). c.args.held.now.items ++ map (held_by w) ns) (c.deref-3.ensures.value ∙ same)

pub returns-clause-back : goal.returns-clause-back
returns-clause-back c =
    let back = c.args.back.now.items in
    let part = c.args.part.now in
    let from = c.place_in-from.result in
    let w = c.args.want.now in
    let same : c.in_ok-found.found.nodes.items ≡ ready back w.start w.nodes part =
    c.in_ok-found.ensures.nodes ∙ ap (λ (b : List ℕ). ready b w.start w.nodes (take (Rattle.std.proofs.Common.◌-◌ (length part) from) (drop from part))) c.deref.ensures.value
    ∙ ap (ready back w.start w.nodes) (rest_is part from) ∙ ready_from back part c.args.mark.now w.start from c.requires.mark c.place_in-from.ensures w.nodes in
    c.hold.ensures ∙ ap (hold back w.end) (c.deref-2.ensures.value ∙ same)

pub returns-clause-mark : goal.returns-clause-mark
returns-clause-mark c =
    let back = c.args.back.now.items in
    let part = c.args.part.now in
    let from = c.place_in-from.result in
    let got = c.in_ok-found.found.nodes.items in
    let seen = c.in_ok-found.found.seen in
    let within : seen ≤ length (drop from part) = subst (λ (ns : List ℕ). seen ≤ length ns) (rest_is part from) c.in_ok-found.ensures.within in
    let found : filter (may_use back c.args.want.now.start) (take seen (drop from part)) ≡ got =
    subst (λ (b : List ℕ). filter (may_use b c.args.want.now.start) (take seen (drop from part)) ≡ got) c.deref.ensures.value
    (subst (λ (ns : List ℕ). filter (may_use c.deref.result.now c.args.want.now.start) (take seen ns) ≡ got) (rest_is part from) c.in_ok-found.ensures.seen) in
    subst (λ (b : List ℕ). IsMark b part (record { slot = c.args.want.now.start; place = Rattle.std.proofs.Common.◌+◌ from seen }))
    (sym (c.hold.ensures ∙ ap (hold back c.args.want.now.end) c.deref-2.ensures.value))
    (next_mark back part c.args.mark.now c.args.want.now.start from c.requires.mark c.place_in-from.ensures seen c.args.want.now.end got c.requires.there within found c.requires.some_slots)
