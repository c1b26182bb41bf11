use Rattle.std.proofs.Common.{◌≡◌, ◌+◌, ◌<◌, ℕ, Option, length, get_or, drop, sym, ap, subst, ◌∙◌, arith, IfSome}
use Rattle.std.specs.Global.{Vec}
use Rattle.tetri_num.specs.declared.fractions.Frac.{Frac}
use Rattle.tetri_dictionary.specs.Choices.{leaving_from}
use Rattle.tetri_dictionary.specs.Fractions.{rows_of}
use Rattle.tetri_dictionary.proofs.Choosing.{leaving_next, leaving_done}
use Rattle.tetri_dictionary.proofs.choices.leaving_place.Goals as goal
use Rattle.tetri_dictionary.proofs.choices.leaving_place.Goals.{then-is_negative, else-is_negative}

pub loop-k-preserved : goal.loop-k-preserved
loop-k-preserved c =
    let vs = c.args.basic.now in
    let k = c.loop-k.k in
    let rows = c.args.rows.now in
    let f = c.index.result.now in
    let r = c.index-rows-k.result in
    let h : k < length vs = c.loop-k-test.true in
    let g : k < length rows = omega (arith, c.requires.enough) in
    let p : 0 < length (get_or rows k r).items = omega (arith, c.requires.wide k r g) in
    let i : f ≡ get_or (get_or rows k r).items 0 f = c.index.ensures ∙ ap (λ (y : Vec Frac). get_or y.items 0 f) c.index-rows-k.is in
    elim c.if-is_negative.branch [
      | then-is_negative w ↦ record {
        found =
            ap (λ (b : Option ℕ). leaving_from vs (k + 1) (drop (k + 1) vs) (drop (k + 1) (rows_of rows)) b) (w.best-is ∙ w.lesser_place-best.ensures.value)
            ∙ leaving_next vs k rows c.loop-k.best r f _ h g p i (sym c.is_negative.ensures ∙ w.if-is_negative.true) ∙ c.loop-k.invariant.found;
        within = subst (λ (b : Option ℕ). IfSome b (λ n. n < length vs)) (sym w.best-is) w.lesser_place-best.ensures.within;
      }
      | else-is_negative w ↦ record {
        found =
            ap (λ (b : Option ℕ). leaving_from vs (k + 1) (drop (k + 1) vs) (drop (k + 1) (rows_of rows)) b) w.best-is
            ∙ leaving_next vs k rows c.loop-k.best r f _ h g p i (sym c.is_negative.ensures ∙ w.if-is_negative.false) ∙ c.loop-k.invariant.found;
        within = subst (λ (b : Option ℕ). IfSome b (λ n. n < length vs)) (sym w.best-is) c.loop-k.invariant.within;
      }
    ]

pub returns-clause-place : goal.returns-clause-place
returns-clause-place c = sym (leaving_done c.args.basic.now c.loop-k.k (rows_of c.args.rows.now) c.loop-k.best c.loop-k-test.false) ∙ c.loop-k.invariant.found
