use Rattle.std.proofs.Common.{◌≡◌, ◌∙◌, ◌<◌, ℕ, List, None, get_or, length, map, take, subst, sym, arith}
use Rattle.std.proofs.lemmas.List.{get_or_default, length-map, take_all}
use Rattle.tetri_space.specs.Space.{Bid, bid}
use Rattle.tetri_split.specs.Grouped.{AreGroups, key_of}
use Rattle.tetri_split.specs.Parts.{jobs_in}
use Rattle.tetri_split.proofs.SplitLemmas.{next_job, offer_job_at, offer_jobs_rise}
use Rattle.tetri_split.proofs.grouping.group_over.Goals as goal

pub loop-place-preserved : goal.loop-place-preserved
loop-place-preserved c =
    let os = c.args.offers.now in
    let js = jobs_in (map bid os) in
    let keys = c.args.keys.now in
    let i = c.loop-place.place in
    let lt : i < length os = omega arith in
    let long : length js ≡ length os = length-map (map bid os) (λ (b : Bid). b.job) ∙ length-map os bid in
    let o = get_or os i c.index-offers-place.result in
    let step = next_job keys js i o.job (omega (arith, lt, long)) (offer_jobs_rise os c.requires.ascending) (c.requires.count ∙ sym long) (offer_job_at os i o lt (get_or_default os i c.index-offers-place.result o lt)) in
    let inv = c.loop-place.invariant in
    let key = key_of keys js in
    let key_here = step.key ∙ get_or_default keys i None _ (omega (arith, lt, c.requires.count)) in
    let next = c.in_ok-put.ensures.put key (take i js) key_here step.later inv.groups inv.places in
    record {
      few = omega (arith, c.in_ok-put.ensures.few, inv.few);
      groups = subst (λ (ns : List ℕ). AreGroups key ns c.put.new.groups.items) (sym step.next) next.0;
      places = next.1;
    }

pub returns-clause-groups : goal.returns-clause-groups
returns-clause-groups c =
    let os = c.args.offers.now in
    let js = jobs_in (map bid os) in
    let long : length js ≡ length os = length-map (map bid os) (λ (b : Bid). b.job) ∙ length-map os bid in
    subst (λ (ns : List ℕ). AreGroups (key_of c.args.keys.now js) ns c.loop-place.groups.items) (take_all c.loop-place.place js (omega (arith, long))) c.loop-place.invariant.groups
