use Rattle.std.proofs.Common.{◌≡◌, ◌++◌, ◌∙◌, List, ℕ, ap, cond, sym, subst}
use Rattle.std.specs.Prelude.{OnOk, Result, Ok, Err, is_ok}
use Rattle.tetri_strl.specs.declared.grants.Grant.{Grant}
use Rattle.tetri_space.specs.Space.{bid, space}
use Rattle.tetri_advice.specs.Fit.{grants_of}
use Rattle.tetri_greedy.specs.Fitted.{Fitted, with_fit}
use Rattle.tetri_greedy.specs.Held.{AreHoldable, all_marked}
use Rattle.tetri_greedy.specs.Served.{IsServed}
use Rattle.tetri_greedy.proofs.ServingLemmas.{fit_holdable, known_leaves, marked_fit, served_by}
use Rattle.tetri_greedy.proofs.serving.serve.Goals as goal

on_ok : {A E P Q : Type 0} → (r : Result A E) → (P → Q) → OnOk r P → OnOk r Q
on_ok (Ok x) f h = f h
on_ok (Err e) f h = tt

appended : {A E X : Type 0} (r : Result A E) (now old other : List X) → now ≡ cond (is_ok r) (old ++ other) old → OnOk r (now ≡ old ++ other)
appended (Ok x) now old other e = e
appended (Err f) now old other e = tt

pub fit-requires-clause-known : goal.fit-requires-clause-known
fit-requires-clause-known c =
    let s = space c.args.inst.now in
    known_leaves s c.requires.sound (bid c.args.offer.now) c.requires.pending

pub hold-requires : goal.hold-requires
hold-requires c =
    let s = space c.args.inst.now in
    let b = bid c.args.offer.now in
    let masks = c.args.held.now in
    let fit = marked_fit s c.requires.sound b c.requires.pending masks in
    let made : c.fit.new.own ≡ record { job = b.job; placements = fit } = c.in_ok-fit.ensures ∙ ap (λ f. with_fit s masks f b.expr) c.new-own.ensures in
    subst (λ n. AreHoldable s.now n c.fit.new.own.placements) (sym c.requires.as_many)
    (subst (AreHoldable s.now s.nodes) (sym (ap (λ (f : Fitted). f.placements) made)) (fit_holdable s c.requires.sound b c.requires.pending masks))

pub returns-clause-served : goal.returns-clause-served
returns-clause-served c =
    let s = space c.args.inst.now in
    let b = bid c.args.offer.now in
    let masks = c.args.held.now in
    let old = c.args.grants.now.items in
    let fit = marked_fit s c.requires.sound b c.requires.pending masks in
    let made : c.fit.new.own ≡ record { job = b.job; placements = fit } = c.in_ok-fit.ensures ∙ ap (λ f. with_fit s masks f b.expr) c.new-own.ensures in
    let own_grants : c.into_grants-made.result.items ≡ grants_of b.job fit = c.into_grants-made.ensures ∙ ap (λ (f : Fitted). grants_of f.job f.placements) made in
    let marks : c.hold.new.held ≡ all_marked s.now masks fit = c.hold.ensures.marks ∙ ap (λ (f : Fitted). all_marked s.now masks f.placements) made in
    on_ok c.append.result
    (λ e before tells.
    let pushed : c.append.new.self.items ≡ old ++ grants_of b.job fit = e ∙ ap (λ (gs : List Grant). old ++ gs) own_grants in
    subst (λ (m : List ℕ). IsServed s before b m old c.append.new.self.items) (sym marks)
    (subst (IsServed s before b (all_marked s.now masks fit) old) (sym pushed)
    (served_by s c.requires.sound b c.requires.pending masks before tells c.requires.as_many old)))
    (appended c.append.result c.append.new.self.items old c.into_grants-made.result.items c.append.ensures.items)
