use Rattle.std.proofs.Common.{◌+◌, ◌<◌, Option, length, sym, ap, subst, ◌∙◌, IfSome}
use Rattle.tetri_dictionary.specs.declared.choices.Candidate.{Candidate}
use Rattle.tetri_dictionary.specs.Candidates.{candidate_of}
use Rattle.tetri_dictionary.proofs.Choosing.{positive_not_zero}
use Rattle.tetri_dictionary.proofs.SparseChoices.{IsAbove, IsEntering, above_kept, entering_done, entering_refused, entering_skipped, entering_taken}
use Rattle.tetri_dictionary.proofs.SparseRows.{entry_read}
use Rattle.tetri_dictionary.proofs.lines.entering_entry.Goals as goal
use Rattle.tetri_dictionary.proofs.lines.entering_entry.Goals.{then-is_positive+in-Ok, else-is_positive}

pub div-requires : goal.div-requires
div-requires c = positive_not_zero c.index-entries-k.result.number (sym c.is_positive.ensures ∙ c.if-is_positive.true)

pub returns-in_default-clause-formed : goal.returns-in_default-clause-formed
returns-in_default-clause-formed c =
    entering_refused c.args.nonbasic.now c.args.i c.args.entries.now c.args.objective.now c.loop-k.k (candidate_of c.loop-k.best) c.index-entries-k.result c.number_of.result c.negated.result c.requires.entries c.loop-k.invariant.walked c.loop-k-test.true c.index-entries-k.is
    (sym c.is_positive.ensures ∙ c.if-is_positive.true) c.number_of.ensures c.negated.ensures c.in_default.ensures.checked

pub lesser_ratio-best-requires-clause-place : goal.lesser_ratio-best-requires-clause-place
lesser_ratio-best-requires-clause-place c =
    subst (λ z. z < length c.args.nonbasic.now) (entry_read c.args.entries.now c.loop-k.k c.index-entries-k.result c.loop-k-test.true c.index-entries-k.is).0 (c.requires.entries.within c.loop-k.k c.loop-k-test.true)

pub loop-k-preserved : goal.loop-k-preserved
loop-k-preserved c =
    let vs = c.args.nonbasic.now in
    let es = c.args.entries.now in
    let ds = c.args.objective.now in
    let k = c.loop-k.k in
    let e = c.index-entries-k.result in
    elim c.if-is_positive.branch [
      | then-is_positive+in-Ok w ↦ record {
        walked =
            entering_taken vs c.args.i es ds k (candidate_of c.loop-k.best) (candidate_of c.if-is_positive.best) e w.number_of.result w.negated.result w.in-Ok.ratio c.requires.entries c.loop-k.invariant.walked c.loop-k-test.true c.index-entries-k.is
            (sym c.is_positive.ensures ∙ w.if-is_positive.true) w.number_of.ensures w.negated.ensures w.in-Ok.ensures.checked (ap candidate_of w.best-is ∙ w.lesser_ratio-best.ensures.value);
        positive =
            subst (λ (b : Option Candidate). IfSome b (λ x. IsAbove vs es x)) (sym w.best-is)
            (above_kept vs es k e c.loop-k.best _ c.requires.entries c.loop-k-test.true c.index-entries-k.is (sym c.is_positive.ensures ∙ w.if-is_positive.true) c.loop-k.invariant.positive w.lesser_ratio-best.ensures.from);
      }
      | else-is_positive w ↦ record {
        walked =
            subst (λ (b : Option Candidate). IsEntering vs c.args.i es ds (k + 1) (candidate_of b)) (sym w.best-is)
            (entering_skipped vs c.args.i es ds k (candidate_of c.loop-k.best) e c.requires.entries c.loop-k.invariant.walked c.loop-k-test.true c.index-entries-k.is (sym c.is_positive.ensures ∙ w.if-is_positive.false));
        positive = subst (λ (b : Option Candidate). IfSome b (λ x. IsAbove vs es x)) (sym w.best-is) c.loop-k.invariant.positive;
      }
    ]

pub returns-clause-formed : goal.returns-clause-formed
returns-clause-formed c = entering_done c.args.nonbasic.now c.args.i c.args.entries.now c.args.objective.now c.loop-k.k (candidate_of c.loop-k.best) c.loop-k.invariant.walked c.loop-k-test.false
