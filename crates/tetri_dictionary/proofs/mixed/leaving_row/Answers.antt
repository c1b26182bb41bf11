use Rattle.std.proofs.Common.{◌+◌, ◌<◌, ℕ, Option, false, length, drop, refl, sym, ap, subst, ◌∙◌, arith, IfSome}
use Rattle.tetri_dictionary.specs.Choices.{leaving_from}
use Rattle.tetri_dictionary.proofs.BelowRows.{leaving_step}
use Rattle.tetri_dictionary.proofs.Choosing.{leaving_done}
use Rattle.tetri_dictionary.proofs.mixed.leaving_row.Goals as goal
use Rattle.tetri_dictionary.proofs.mixed.leaving_row.Goals.{then-below-k, else-below-k}

pub loop-k-init : goal.loop-k-init
loop-k-init c = record { found = λ rows e. refl; within = tt }

pub lesser_place-best-requires-clause-best : goal.lesser_place-best-requires-clause-best
lesser_place-best-requires-clause-best c = c.loop-k.invariant.within

pub loop-k-preserved : goal.loop-k-preserved
loop-k-preserved c =
    let vs = c.args.basic.now in
    let bs = c.args.below.now in
    let k = c.loop-k.k in
    let h : k < length vs = c.loop-k-test.true in
    let g : k < length bs = omega (arith, c.requires.enough) in
    elim c.if-below-k.branch [
      | then-below-k w ↦ record {
        found = λ rows e.
            ap (λ (b : Option ℕ). leaving_from vs (k + 1) (drop (k + 1) vs) (drop (k + 1) rows) b) (w.best-is ∙ w.lesser_place-best.ensures.value)
            ∙ leaving_step vs k bs rows c.loop-k.best _ false h g e w.if-below-k.true ∙ c.loop-k.invariant.found rows e;
        within = subst (λ (b : Option ℕ). IfSome b (λ n. n < length vs)) (sym w.best-is) w.lesser_place-best.ensures.within;
      }
      | else-below-k w ↦ record {
        found = λ rows e.
            ap (λ (b : Option ℕ). leaving_from vs (k + 1) (drop (k + 1) vs) (drop (k + 1) rows) b) w.best-is
            ∙ leaving_step vs k bs rows c.loop-k.best _ false h g e w.if-below-k.false ∙ c.loop-k.invariant.found rows e;
        within = subst (λ (b : Option ℕ). IfSome b (λ n. n < length vs)) (sym w.best-is) c.loop-k.invariant.within;
      }
    ]

pub returns-clause-within : goal.returns-clause-within
returns-clause-within c = c.loop-k.invariant.within

pub returns-clause-place : goal.returns-clause-place
returns-clause-place c = λ rows e. sym (leaving_done c.args.basic.now c.loop-k.k rows c.loop-k.best c.loop-k-test.false) ∙ c.loop-k.invariant.found rows e
