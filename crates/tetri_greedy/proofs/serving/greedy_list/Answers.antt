use Rattle.std.proofs.Common.{◌≡◌, ◌++◌, ◌+◌, ◌<◌, ◌∙◌, All, List, [], ap, arith, get_or, length, map, subst, sym}
use Rattle.std.proofs.lemmas.List.{append-nil, drop_all, get_or_default, length-map}
use Rattle.tetri_strl.specs.declared.grants.Grant.{Grant}
use Rattle.tetri_strl.specs.Tree.{greatest, join, none}
use Rattle.tetri_space.specs.Space.{Bid, bid, space}
use Rattle.tetri_advice.specs.Creeds.{served}
use Rattle.tetri_advice.specs.Fit.{fit}
use Rattle.tetri_greedy.specs.Order.{job_at}
use Rattle.tetri_greedy.specs.declared.order.Ranked.{Ranked}
use Rattle.tetri_greedy.proofs.Marks.{tells_none}
use Rattle.tetri_greedy.proofs.RankLemmas.{bid_at}
use Rattle.tetri_greedy.proofs.ServingLemmas.{served_more}
use Rattle.tetri_greedy.proofs.serving.greedy_list.Goals as goal

pub loop-job-init : goal.loop-job-init
loop-job-init c =
    let s = space c.args.inst.now in
    record {
      as_many = c.in_ok-held.ensures.as_many;
      so_far = (
        [],
        tells_none s c.requires.few_slots c.in_ok-held.held c.in_ok-held.ensures,
        λ d. ap (λ (gs : List Grant). gs ++ served s [] (map (job_at s.bids d) c.deref-job-items.result.now)) c.new-grants.ensures.items
            ∙ ap (served s []) (ap (map (job_at s.bids d)) c.deref-job-items.ensures.value ∙ c.in_ok-order.ensures.jobs d),
      );
    }

pub serve-requires-clause-pending : goal.serve-requires-clause-pending
serve-requires-clause-pending c =
    let s = space c.args.inst.now in
    let os = c.args.inst.now.jobs.items in
    let items = c.deref-job-items.result.now in
    let r : Ranked = get_or items c.loop-job.job-index (record { rank = 0; place = 0 }) in
    let within : All (λ q. q.place < length s.bids) items =
    subst (All (λ (q : Ranked). q.place < length s.bids)) (sym c.deref-job-items.ensures.value) c.in_ok-order.ensures.within in
    let lt : r.place < length s.bids = within c.loop-job.job-index (record { rank = 0; place = 0 }) c.loop-job-test.true in
    (r.place, lt, bid_at os r.place c.index.result.now (bid c.index.result.now) (omega (arith, lt, length-map os bid)) c.index.ensures)

pub loop-job-preserved : goal.loop-job-preserved
loop-job-preserved c =
    let s = space c.args.inst.now in
    let os = c.args.inst.now.jobs.items in
    let items = c.deref-job-items.result.now in
    let r : Ranked = get_or items c.loop-job.job-index (record { rank = 0; place = 0 }) in
    let is : r ≡ get_or items c.loop-job.job-index r = get_or_default items c.loop-job.job-index (record { rank = 0; place = 0 }) r c.loop-job-test.true in
    let b = bid c.index.result.now in
    let within : All (λ q. q.place < length s.bids) items =
    subst (All (λ (q : Ranked). q.place < length s.bids)) (sym c.deref-job-items.ensures.value) c.in_ok-order.ensures.within in
    let lt : r.place < length s.bids = within c.loop-job.job-index (record { rank = 0; place = 0 }) c.loop-job-test.true in
    let so_far = c.loop-job.invariant.so_far in
    let got = c.in_ok-serve.ensures.served so_far.0 so_far.1 in
    record {
      as_many = c.in_ok-serve.ensures.as_many;
      so_far = (
        so_far.0 ++ fit s b.job so_far.0 b.expr,
        got.tells,
        λ d.
            let here : job_at s.bids d r ≡ b = bid_at os r.place c.index.result.now d (omega (arith, lt, length-map os bid)) c.index.ensures in
            served_more s so_far.0 items c.loop-job.job-index r b d _ _ _ _ c.loop-job-test.true is here got (so_far.2 d),
      );
    }

pub returns : goal.returns
returns c =
    let s = space c.args.inst.now in
    let so_far = c.loop-job.invariant.so_far in
    let d : Bid = record { job = 0; expr = join greatest none } in
    let last = drop_all c.loop-job.job-index c.deref-job-items.result.now c.loop-job-test.false in
    c.of-2.ensures ∙ sym (append-nil c.loop-job.grants.items)
    ∙ sym (ap (λ (rs : List Ranked). c.loop-job.grants.items ++ served s so_far.0 (map (job_at s.bids d) rs)) last) ∙ so_far.2 d
