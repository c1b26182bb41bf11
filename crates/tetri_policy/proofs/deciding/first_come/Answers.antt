use Rattle.std.proofs.Common.{◌≡◌, ◌+◌, ◌++◌, ◌∙◌, Contains, List, [], ap, drop, length, map, subst, sym}
use Rattle.std.proofs.lemmas.List.{append-nil, drop_all}
use Rattle.tetri_strl.specs.declared.grants.Grant.{Grant}
use Rattle.tetri_space.specs.Space.{bid, space}
use Rattle.tetri_space.specs.declared.instance.Offer.{Offer}
use Rattle.tetri_greedy.proofs.GreedyLaws.{tells_none}
use Rattle.tetri_policy.specs.Policies.{first_come}
use Rattle.tetri_policy.specs.Start.{start_now}
use Rattle.tetri_policy.proofs.StartLemmas.{none_from, offer_pending, offers_from, some_from}
use Rattle.tetri_policy.proofs.TurnLemmas.{first_on, first_stops}
use Rattle.tetri_policy.proofs.deciding.first_come.Goals as goal

pub loop-offer-init : goal.loop-offer-init
loop-offer-init c =
    let s = space c.args.inst.now in
    record {
      as_many = c.in_ok-held.ensures.as_many;
      so_far = (
        [],
        tells_none s c.requires.few_slots c.in_ok-held.held c.in_ok-held.ensures,
        ap (λ (gs : List Grant). gs ++ first_come s [] (map bid c.deref-offer-items.result.now)) c.new-grants.ensures.items
            ∙ ap (λ (os : List Offer). first_come s [] (map bid os)) c.deref-offer-items.ensures.value,
      );
    }

pub start_at-requires-clause-pending : goal.start_at-requires-clause-pending
start_at-requires-clause-pending c =
    subst (λ (os : List Offer). Contains (map bid os) (bid c.offer-item.result)) c.deref-offer-items.ensures.value
    (offer_pending c.deref-offer-items.result.now c.loop-offer.offer-index c.offer-item.result c.loop-offer-test.true c.offer-item.is)

pub returns-then-is_empty : goal.returns-then-is_empty
returns-then-is_empty c =
    let s = space c.args.inst.now in
    let os = c.deref-offer-items.result.now in
    let i = c.loop-offer.offer-index in
    let b = bid c.offer-item.result in
    let gs = c.in_ok-started.started in
    let w = c.loop-offer.invariant.so_far in
    let got = c.in_ok-started.ensures.starts w.0 w.1 in
    first_stops s w.0 b (map bid (drop (i + 1) os)) (map bid (drop i os)) (offers_from os i c.offer-item.result c.loop-offer-test.true c.offer-item.is) c.start_at.new.held gs.items got
    c.loop-offer.grants.items (first_come s [] s.bids) (none_from gs.items gs.len gs.ok.0 (sym c.if-is_empty.true ∙ c.is_empty.ensures)) w.2

pub loop-offer-preserved : goal.loop-offer-preserved
loop-offer-preserved c =
    let s = space c.args.inst.now in
    let os = c.deref-offer-items.result.now in
    let i = c.loop-offer.offer-index in
    let b = bid c.offer-item.result in
    let gs = c.in_ok-started.started in
    let w = c.loop-offer.invariant.so_far in
    let got = c.in_ok-started.ensures.starts w.0 w.1 in
    let later = map bid (drop (i + 1) os) in
    record {
      as_many = c.in_ok-started.ensures.as_many;
      so_far = (
        w.0 ++ start_now s w.0 b,
        got.tells,
        subst (λ (a : List Grant). a ++ first_come s (w.0 ++ start_now s w.0 b) later ≡ first_come s [] s.bids) (sym c.in_ok-append.ensures.items)
            (first_on s w.0 b later (map bid (drop i os)) (offers_from os i c.offer-item.result c.loop-offer-test.true c.offer-item.is) c.start_at.new.held gs.items got
            c.loop-offer.grants.items (first_come s [] s.bids) (some_from gs.items gs.len gs.ok.0 (sym c.if-is_empty.false ∙ c.is_empty.ensures)) w.2),
      );
    }

pub returns : goal.returns
returns c =
    let s = space c.args.inst.now in
    let os = c.deref-offer-items.result.now in
    let w = c.loop-offer.invariant.so_far in
    let grants = c.loop-offer.grants.items in
    let last = drop_all c.loop-offer.offer-index os c.loop-offer-test.false in
    sym (append-nil grants) ∙ sym (ap (λ (rest : List Offer). grants ++ first_come s w.0 (map bid rest)) last) ∙ w.2
