use Rattle.std.proofs.Common.{◌≡◌, ◌+◌, ◌++◌, ◌<◌, ◌∙◌, All, Contains, List, [], ap, drop, length, map, subst, sym}
use Rattle.std.proofs.lemmas.List.{append-nil, drop_all}
use Rattle.tetri_strl.specs.declared.grants.Grant.{Grant}
use Rattle.tetri_space.specs.Space.{bid, space}
use Rattle.tetri_space.specs.declared.instance.Offer.{Offer}
use Rattle.tetri_greedy.proofs.GreedyLaws.{tells_none}
use Rattle.tetri_policy.specs.Policies.{backfilled, each_start}
use Rattle.tetri_policy.specs.Start.{reserved, start_now}
use Rattle.tetri_policy.proofs.StartLemmas.{behind_pending, none_from, offer_pending, offers_from, some_from, tells_as_before}
use Rattle.tetri_policy.proofs.TurnLemmas.{back_on, back_stops}
use Rattle.tetri_policy.proofs.deciding.backfilled.Goals as goal

pub loop-place-init : goal.loop-place-init
loop-place-init c =
    let s = space c.args.inst.now in
    record {
      as_many = c.in_ok-held.ensures.as_many;
      so_far = (
        [],
        tells_none s c.requires.few_slots c.in_ok-held.held c.in_ok-held.ensures,
        ap (λ (gs : List Grant). gs ++ backfilled s [] (map bid c.deref-offer-items.result.now)) c.new-grants.ensures.items
            ∙ ap (λ (os : List Offer). backfilled s [] (map bid os)) c.deref-offer-items.ensures.value,
      );
    }

pub start_at-requires-clause-pending : goal.start_at-requires-clause-pending
start_at-requires-clause-pending c =
    subst (λ (os : List Offer). Contains (map bid os) (bid c.offer-item.result)) c.deref-offer-items.ensures.value
    (offer_pending c.deref-offer-items.result.now c.loop-place.place c.offer-item.result c.loop-place-test.true c.offer-item.is)

pub reserve-requires-clause-pending : goal.reserve-requires-clause-pending
reserve-requires-clause-pending c =
    subst (λ (os : List Offer). Contains (map bid os) (bid c.offer-item.result)) c.deref-offer-items.ensures.value
    (offer_pending c.deref-offer-items.result.now c.loop-place.place c.offer-item.result c.loop-place-test.true c.offer-item.is)

pub later-rest-requires : goal.later-rest-requires
later-rest-requires c =
    subst (λ (os : List Offer). c.loop-place.place < length os) (c.deref-offer-items.ensures.value ∙ sym c.as_slice.ensures.value) c.loop-place-test.true

pub start_each-requires-clause-pending : goal.start_each-requires-clause-pending
start_each-requires-clause-pending c =
    behind_pending c.args.inst.now.jobs.items c.later-rest.result.now (c.loop-place.place + 1)
    (c.later-rest.ensures ∙ ap (λ (os : List Offer). drop (c.loop-place.place + 1) os) c.as_slice.ensures.value)

pub returns-then-is_empty : goal.returns-then-is_empty
returns-then-is_empty c =
    let s = space c.args.inst.now in
    let os = c.deref-offer-items.result.now in
    let i = c.loop-place.place in
    let b = bid c.offer-item.result in
    let gs = c.in_ok-made.made in
    let w = c.loop-place.invariant.so_far in
    let got = c.in_ok-made.ensures.starts w.0 w.1 in
    let none = none_from gs.items gs.len gs.ok.0 (sym c.if-is_empty.true ∙ c.is_empty.ensures) in
    let more = w.0 ++ reserved s w.0 b in
    let tells = c.in_ok-reserve.ensures.reserved w.0 (tells_as_before s b.job w.0 (start_now s w.0 b) c.start_at.new.held gs.items got none) in
    let rest : c.later-rest.result.now ≡ drop (i + 1) os =
    c.later-rest.ensures ∙ ap (λ (xs : List Offer). drop (i + 1) xs) (c.as_slice.ensures.value ∙ sym c.deref-offer-items.ensures.value) in
    c.in_ok-start_each.ensures more tells ∙ ap (λ (xs : List Offer). c.loop-place.grants.items ++ each_start s more (map bid xs)) rest
    ∙ back_stops s w.0 b (map bid (drop (i + 1) os)) (map bid (drop i os)) (offers_from os i c.offer-item.result c.loop-place-test.true c.offer-item.is) c.start_at.new.held gs.items got
    c.loop-place.grants.items (backfilled s [] s.bids) none w.2

pub loop-place-preserved : goal.loop-place-preserved
loop-place-preserved c =
    let s = space c.args.inst.now in
    let os = c.deref-offer-items.result.now in
    let i = c.loop-place.place in
    let b = bid c.offer-item.result in
    let gs = c.in_ok-made.made in
    let w = c.loop-place.invariant.so_far in
    let got = c.in_ok-made.ensures.starts w.0 w.1 in
    let later = map bid (drop (i + 1) os) in
    record {
      as_many = c.in_ok-made.ensures.as_many;
      so_far = (
        w.0 ++ start_now s w.0 b,
        got.tells,
        subst (λ (a : List Grant). a ++ backfilled s (w.0 ++ start_now s w.0 b) later ≡ backfilled s [] s.bids) (sym c.in_ok-append.ensures.items)
            (back_on s w.0 b later (map bid (drop i os)) (offers_from os i c.offer-item.result c.loop-place-test.true c.offer-item.is) c.start_at.new.held gs.items got
            c.loop-place.grants.items (backfilled s [] s.bids) (some_from gs.items gs.len gs.ok.0 (sym c.if-is_empty.false ∙ c.is_empty.ensures)) w.2),
      );
    }

pub returns : goal.returns
returns c =
    let s = space c.args.inst.now in
    let os = c.deref-offer-items.result.now in
    let w = c.loop-place.invariant.so_far in
    let grants = c.loop-place.grants.items in
    let last = drop_all c.loop-place.place os c.loop-place-test.false in
    sym (append-nil grants) ∙ sym (ap (λ (rest : List Offer). grants ++ backfilled s w.0 (map bid rest)) last) ∙ w.2
