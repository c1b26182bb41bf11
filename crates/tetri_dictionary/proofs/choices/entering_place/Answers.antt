use Rattle.std.proofs.Common.{◌+◌, ◌<◌, ℕ, Option, length, sym, ap, subst, ◌∙◌, arith, IfSome}
use Rattle.tetri_algebra.specs.Rational.{ℚ}
use Rattle.tetri_dictionary.specs.declared.choices.Candidate.{Candidate}
use Rattle.tetri_dictionary.specs.Candidates.{candidate_of, IsCandidate}
use Rattle.tetri_dictionary.specs.Fractions.{values}
use Rattle.tetri_dictionary.proofs.Choosing.{rest_of, skipped, taken, refused, entering_done, positive_not_zero, candidate_kept}
use Rattle.tetri_dictionary.proofs.choices.entering_place.Goals as goal
use Rattle.tetri_dictionary.proofs.choices.entering_place.Goals.{then-is_positive+in-Ok, else-is_positive}

pub div-requires : goal.div-requires
div-requires c = positive_not_zero c.index-row-j.result (sym c.is_positive.ensures ∙ c.if-is_positive.true)

pub returns-in_default-clause-formed : goal.returns-in_default-clause-formed
returns-in_default-clause-formed c =
    sym c.loop-j.invariant.formed
    ∙ refused c.args.nonbasic.now c.args.i c.loop-j.j c.args.row.now c.args.objective.now (candidate_of c.loop-j.best) c.index-row-j.result c.index-objective-j.result _ (omega arith) (omega arith) c.index-row-j.is c.index-objective-j.is
    (sym c.is_positive.ensures ∙ c.if-is_positive.true) c.negated.ensures c.in_default.ensures.checked

pub loop-j-preserved : goal.loop-j-preserved
loop-j-preserved c =
    let vs = c.args.nonbasic.now in
    let j = c.loop-j.j in
    let row = c.args.row.now in
    let objective = c.args.objective.now in
    let h : j + 1 < length row = omega arith in
    let g : j + 1 < length objective = omega arith in
    elim c.if-is_positive.branch [
      | then-is_positive+in-Ok w ↦ record {
        formed =
            ap (λ (b : Option Candidate). rest_of vs c.args.i row objective (j + 1) (candidate_of b)) w.best-is
            ∙ ap (λ (b : Option (ℕ × ℚ)). rest_of vs c.args.i row objective (j + 1) b) w.lesser_ratio-best.ensures.value
            ∙ taken vs c.args.i j row objective (candidate_of c.loop-j.best) c.index-row-j.result w.index-objective-j.result w.in-Ok.ratio _ h g c.index-row-j.is w.index-objective-j.is
            (sym c.is_positive.ensures ∙ w.if-is_positive.true) w.negated.ensures w.in-Ok.ensures.checked
            ∙ c.loop-j.invariant.formed;
        positive =
            subst (λ (b : Option Candidate). IfSome b (λ x. IsCandidate vs (values row) x)) (sym w.best-is)
            (candidate_kept vs row j c.index-row-j.result c.loop-j.best _ c.loop-j-test.true h c.index-row-j.is (sym c.is_positive.ensures ∙ w.if-is_positive.true) c.loop-j.invariant.positive w.lesser_ratio-best.ensures.from);
      }
      | else-is_positive w ↦ record {
        formed =
            ap (λ (b : Option Candidate). rest_of vs c.args.i row objective (j + 1) (candidate_of b)) w.best-is
            ∙ skipped vs c.args.i j row objective (candidate_of c.loop-j.best) c.index-row-j.result h g c.index-row-j.is (sym c.is_positive.ensures ∙ w.if-is_positive.false)
            ∙ c.loop-j.invariant.formed;
        positive = subst (λ (b : Option Candidate). IfSome b (λ x. IsCandidate vs (values row) x)) (sym w.best-is) c.loop-j.invariant.positive;
      }
    ]

pub returns-clause-formed : goal.returns-clause-formed
returns-clause-formed c =
    sym c.loop-j.invariant.formed ∙ entering_done c.args.nonbasic.now c.args.i c.loop-j.j c.args.row.now c.args.objective.now (candidate_of c.loop-j.best) (omega arith)
