use Rattle.std.proofs.Common.{◌≡◌, ◌+◌, ◌++◌, ◌∙◌, Contains, List, [], ap, drop, length, map, refl, subst, sym}
use Rattle.std.proofs.lemmas.List.{append-nil, drop_all}
use Rattle.std.proofs.lemmas.List.Elements.{All-contains}
use Rattle.tetri_strl.specs.declared.grants.Grant.{Grant}
use Rattle.tetri_space.specs.Space.{bid, space}
use Rattle.tetri_space.specs.declared.instance.Offer.{Offer}
use Rattle.tetri_policy.specs.Policies.{each_start}
use Rattle.tetri_policy.specs.Start.{start_now}
use Rattle.tetri_policy.proofs.StartLemmas.{offer_pending, offers_from}
use Rattle.tetri_policy.proofs.TurnLemmas.{each_on}
use Rattle.tetri_policy.proofs.deciding.start_each.Goals as goal

pub loop-offer-init : goal.loop-offer-init
loop-offer-init c = record { as_many = c.requires.as_many; so_far = λ first tells. (first, tells, refl) }

pub start_at-requires-clause-pending : goal.start_at-requires-clause-pending
start_at-requires-clause-pending c =
    let s = space c.args.inst.now in
    All-contains (Contains s.bids) (map bid c.args.offers.now) (bid c.offer-item.result) c.requires.pending
    (offer_pending c.args.offers.now c.loop-offer.offer-index c.offer-item.result c.loop-offer-test.true c.offer-item.is)

pub loop-offer-preserved : goal.loop-offer-preserved
loop-offer-preserved c =
    let s = space c.args.inst.now in
    let os = c.args.offers.now in
    let i = c.loop-offer.offer-index in
    let b = bid c.offer-item.result in
    let gs = c.in_ok-made.made in
    let later = map bid (drop (i + 1) os) in
    record {
      as_many = c.in_ok-made.ensures.as_many;
      so_far = λ first tells.
          let w = c.loop-offer.invariant.so_far first tells in
          let got = c.in_ok-made.ensures.starts w.0 w.1 in
          let whole = c.args.grants.now.items ++ each_start s first (map bid os) in (
            w.0 ++ start_now s w.0 b,
            got.tells,
            subst (λ (a : List Grant). a ++ each_start s (w.0 ++ start_now s w.0 b) later ≡ whole) (sym c.in_ok-append.ensures.items)
                (each_on s w.0 b later (map bid (drop i os)) (offers_from os i c.offer-item.result c.loop-offer-test.true c.offer-item.is) c.start_at.new.held gs.items got
                c.loop-offer.grants.items whole w.2),
          );
    }

pub returns : goal.returns
returns c = λ before tells.
    let s = space c.args.inst.now in
    let w = c.loop-offer.invariant.so_far before tells in
    let grants = c.loop-offer.grants.items in
    let last = drop_all c.loop-offer.offer-index c.args.offers.now c.loop-offer-test.false in
    sym (append-nil grants) ∙ sym (ap (λ (rest : List Offer). grants ++ each_start s w.0 (map bid rest)) last) ∙ w.2
