use Rattle.std.proofs.Common.{◌≡◌, ◌∙◌, ℕ, List, ap, drop, subst, sym}
use Rattle.tetri_space.specs.Space.{space}
use Rattle.tetri_strl.specs.Tree.{tree}
use Rattle.tetri_advice.specs.Fit.{fit_worth, grants_of, is_held}
use Rattle.tetri_greedy.specs.Fitted.{Fitted, with_fit}
use Rattle.tetri_greedy.specs.Held.{AreHoldable, all_marked}
use Rattle.tetri_policy.specs.Start.{worthy_fit}
use Rattle.tetri_policy.specs.Started.{Starts}
use Rattle.tetri_policy.proofs.StartLemmas.{fit_holdable, marked_fit, starts_nothing, starts_something}
use Rattle.tetri_policy.proofs.starting.start_with.Goals as goal

pub returns-then-worth_from-eq0-clause-starts : goal.returns-then-worth_from-eq0-clause-starts
returns-then-worth_from-eq0-clause-starts c = λ before tells.
    let s = space c.args.inst.now in
    let job = c.args.job in
    let t = tree c.args.left.now in
    let masks = c.args.held.now in
    let few = c.requires.sound.few_slots in
    let placed = marked_fit s few job t c.requires.good c.requires.known masks in
    let made : c.fit.new.own ≡ record { job = job; placements = placed } = c.in_ok-fit.ensures ∙ ap (λ f. with_fit s masks f t) c.new-own.ensures in
    let worth : c.worth_from.result ≡ fit_worth job t placed = c.worth_from.ensures ∙ ap (λ (f : Fitted). fit_worth f.job t (drop 0 f.placements)) made in
    subst (Starts s job before (worthy_fit s job (is_held before) t) masks) (sym c.new.ensures.items)
    (starts_nothing s few job t c.requires.good c.requires.known masks before tells (sym worth ∙ c.if-worth_from-eq0.true))

pub hold-requires : goal.hold-requires
hold-requires c =
    let s = space c.args.inst.now in
    let job = c.args.job in
    let t = tree c.args.left.now in
    let masks = c.args.held.now in
    let few = c.requires.sound.few_slots in
    let placed = marked_fit s few job t c.requires.good c.requires.known masks in
    let made : c.fit.new.own ≡ record { job = job; placements = placed } = c.in_ok-fit.ensures ∙ ap (λ f. with_fit s masks f t) c.new-own.ensures in
    subst (λ n. AreHoldable s.now n c.fit.new.own.placements) (sym c.requires.as_many)
    (subst (AreHoldable s.now s.nodes) (sym (ap (λ (f : Fitted). f.placements) made)) (fit_holdable s few job t c.requires.good c.requires.known masks))

pub returns-clause-starts : goal.returns-clause-starts
returns-clause-starts c = λ before tells.
    let s = space c.args.inst.now in
    let job = c.args.job in
    let t = tree c.args.left.now in
    let masks = c.args.held.now in
    let few = c.requires.sound.few_slots in
    let placed = marked_fit s few job t c.requires.good c.requires.known masks in
    let made : c.fit.new.own ≡ record { job = job; placements = placed } = c.in_ok-fit.ensures ∙ ap (λ f. with_fit s masks f t) c.new-own.ensures in
    let worth : c.worth_from.result ≡ fit_worth job t placed = c.worth_from.ensures ∙ ap (λ (f : Fitted). fit_worth f.job t (drop 0 f.placements)) made in
    let own_grants : c.into_grants.result.items ≡ grants_of job placed = c.into_grants.ensures ∙ ap (λ (f : Fitted). grants_of f.job f.placements) made in
    let marks : c.hold.new.held ≡ all_marked s.now masks placed = c.hold.ensures.marks ∙ ap (λ (f : Fitted). all_marked s.now masks f.placements) made in
    let wanted = worthy_fit s job (is_held before) t in
    subst (λ (m : List ℕ). Starts s job before wanted m c.into_grants.result.items) (sym marks)
    (subst (Starts s job before wanted (all_marked s.now masks placed)) (sym own_grants)
    (starts_something s few job t c.requires.good c.requires.known masks before tells (λ e. c.if-worth_from-eq0.false (worth ∙ e)) c.requires.as_many))
