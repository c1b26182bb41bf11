use Rattle.std.proofs.Common.{refl, map, subst, sym}
use Rattle.tetri_space.specs.Sound.{IsSound}
use Rattle.tetri_space.specs.Space.{Space, bid, space}
use Rattle.tetri_reserve.specs.Answers.{IsPlanOf}
use Rattle.tetri_reserve.proofs.PlanLemmas.{bids_more, plan_is_of}
use Rattle.tetri_reserve.proofs.book.Book.plan_with.Goals as goal

pub returns-clause-plan : goal.returns-clause-plan
returns-clause-plan c =
    let old = space c.args.self.now.wanted in
    let carry = c.args.self.now.carry in
    let plan = c.in_ok-plan.plan in
    let e = c.in_ok-plan.ensures in
    let is = bids_more old c.args.self.now.wanted.jobs.items c.push.new.self.items c.in_ok-offered.offered (bid c.args.offer.now) refl c.in_ok-push.ensures.items c.in_ok-offered.ensures in
    let asked : Space = record old { bids = map bid c.push.new.self.items } in
    subst (λ (s : Space). IsPlanOf s carry c.args.budget plan) is
    (plan_is_of asked carry c.args.budget plan (subst IsSound (sym is) c.requires.sound)
    (record { good = e.good; chosen = e.chosen; low = e.low; spent = e.spent; wide = e.wide; unheard = e.heard }))
