use Rattle.std.proofs.Common.{◌+◌, ◌<◌, ℕ, Option, length, drop, sym, ap, subst, ◌∙◌, arith, IfSome}
use Rattle.tetri_num.specs.Frac.{value}
use Rattle.tetri_dictionary.specs.declared.lines.Line.{Line}
use Rattle.tetri_dictionary.specs.Choices.{leaving_from}
use Rattle.tetri_dictionary.specs.Sparse.{lines_of}
use Rattle.tetri_dictionary.specs.Tables.{is_negative}
use Rattle.tetri_dictionary.proofs.Choosing.{leaving_done}
use Rattle.tetri_dictionary.proofs.SparseChoices.{leaving_next}
use Rattle.tetri_dictionary.proofs.lines.leaving_line.Goals as goal
use Rattle.tetri_dictionary.proofs.lines.leaving_line.Goals.{then-is_negative, else-is_negative}

pub loop-k-preserved : goal.loop-k-preserved
loop-k-preserved c =
    let vs = c.args.basic.now in
    let k = c.loop-k.k in
    let n = c.args.columns in
    let ls = c.args.lines.now in
    let d = c.index-lines-k.result in
    let h : k < length vs = c.loop-k-test.true in
    let g : k < length ls = omega (arith, c.requires.enough) in
    elim c.if-is_negative.branch [
      | then-is_negative w ↦ record {
        found =
            ap (λ (b : Option ℕ). leaving_from vs (k + 1) (drop (k + 1) vs) (drop (k + 1) (lines_of n ls)) b) (w.best-is ∙ w.lesser_place-best.ensures.value)
            ∙ leaving_next n vs k ls c.loop-k.best d _ h g c.index-lines-k.is (ap (λ (l : Line). is_negative (value l.constant)) c.index-lines-k.is ∙ sym c.is_negative.ensures ∙ w.if-is_negative.true) ∙ c.loop-k.invariant.found;
        within = subst (λ (b : Option ℕ). IfSome b (λ n. n < length vs)) (sym w.best-is) w.lesser_place-best.ensures.within;
      }
      | else-is_negative w ↦ record {
        found =
            ap (λ (b : Option ℕ). leaving_from vs (k + 1) (drop (k + 1) vs) (drop (k + 1) (lines_of n ls)) b) w.best-is
            ∙ leaving_next n vs k ls c.loop-k.best d _ h g c.index-lines-k.is (ap (λ (l : Line). is_negative (value l.constant)) c.index-lines-k.is ∙ sym c.is_negative.ensures ∙ w.if-is_negative.false) ∙ c.loop-k.invariant.found;
        within = subst (λ (b : Option ℕ). IfSome b (λ n. n < length vs)) (sym w.best-is) c.loop-k.invariant.within;
      }
    ]

pub returns-clause-place : goal.returns-clause-place
returns-clause-place c = sym (leaving_done c.args.basic.now c.loop-k.k (lines_of c.args.columns c.args.lines.now) c.loop-k.best c.loop-k-test.false) ∙ c.loop-k.invariant.found
