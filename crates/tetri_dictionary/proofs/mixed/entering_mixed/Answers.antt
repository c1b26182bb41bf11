use Rattle.std.proofs.Common.{◌+◌, ℕ, Option, length, sym, ap, subst, ◌∙◌, IfSome}
use Rattle.tetri_algebra.specs.Rational.{ℚ}
use Rattle.tetri_dictionary.specs.declared.choices.Candidate.{Candidate}
use Rattle.tetri_num.specs.Frac.{value}
use Rattle.tetri_dictionary.specs.Candidates.{candidate_of, IsCandidate}
use Rattle.tetri_dictionary.specs.Mixed.{mixed_row}
use Rattle.tetri_dictionary.specs.Tables.{is_positive}
use Rattle.tetri_dictionary.proofs.Choosing.{positive_not_zero}
use Rattle.tetri_dictionary.proofs.MixedRows.{mixed_wide}
use Rattle.tetri_dictionary.proofs.MixedChoices.{rest_of, entering_init, skipped, taken, refused, entering_done, candidate_kept}
use Rattle.tetri_dictionary.proofs.mixed.entering_mixed.Goals as goal
use Rattle.tetri_dictionary.proofs.mixed.entering_mixed.Goals.{then-is_positive_at+in-Ok, else-is_positive_at}

pub div-requires : goal.div-requires
div-requires c = positive_not_zero c.number_at-coefficient.result (ap is_positive c.number_at-coefficient.ensures ∙ sym c.is_positive_at.ensures ∙ c.if-is_positive_at.true)

pub loop-j-init : goal.loop-j-init
loop-j-init c = record { formed = entering_init c.args.nonbasic.now c.args.i (mixed_row c.args.row.now) (mixed_row c.args.objective.now); positive = tt }

pub returns-in_default-clause-formed : goal.returns-in_default-clause-formed
returns-in_default-clause-formed c =
    sym c.loop-j.invariant.formed
    ∙ refused c.args.nonbasic.now c.args.i (length c.args.nonbasic.now) c.loop-j.j (mixed_row c.args.row.now) (mixed_row c.args.objective.now) (candidate_of c.loop-j.best) (value c.number_at-coefficient.result) (value c.number_at-cost.result) (value c.negated.result)
    (mixed_wide (length c.args.nonbasic.now) c.args.row.now c.requires.row) (mixed_wide (length c.args.nonbasic.now) c.args.objective.now c.requires.objective) c.loop-j-test.true (sym c.is_positive_at.ensures ∙ c.if-is_positive_at.true)
    c.number_at-coefficient.ensures c.number_at-cost.ensures c.negated.ensures c.in_default.ensures.checked

pub loop-j-preserved : goal.loop-j-preserved
loop-j-preserved c =
    let vs = c.args.nonbasic.now in
    let n = length c.args.nonbasic.now in
    let i = c.args.i in
    let j = c.loop-j.j in
    let xs = mixed_row c.args.row.now in
    let ds = mixed_row c.args.objective.now in
    let lx = mixed_wide n c.args.row.now c.requires.row in
    let ld = mixed_wide n c.args.objective.now c.requires.objective in
    elim c.if-is_positive_at.branch [
      | then-is_positive_at+in-Ok w ↦ record {
        formed =
            ap (λ (b : Option Candidate). rest_of vs i xs ds (j + 1) (candidate_of b)) w.best-is
            ∙ ap (λ (b : Option (ℕ × ℚ)). rest_of vs i xs ds (j + 1) b) w.lesser_ratio-best.ensures.value
            ∙ taken vs i n j xs ds (candidate_of c.loop-j.best) (value w.number_at-coefficient.result) (value w.number_at-cost.result) (value w.negated.result) (value w.in-Ok.ratio) lx ld c.loop-j-test.true (sym c.is_positive_at.ensures ∙ w.if-is_positive_at.true)
            w.number_at-coefficient.ensures w.number_at-cost.ensures w.negated.ensures w.in-Ok.ensures.checked
            ∙ c.loop-j.invariant.formed;
        positive =
            subst (λ (b : Option Candidate). IfSome b (λ x. IsCandidate vs xs x)) (sym w.best-is)
            (candidate_kept vs xs j c.loop-j.best _ c.loop-j-test.true (sym c.is_positive_at.ensures ∙ w.if-is_positive_at.true) c.loop-j.invariant.positive w.lesser_ratio-best.ensures.from);
      }
      | else-is_positive_at w ↦ record {
        formed =
            ap (λ (b : Option Candidate). rest_of vs i xs ds (j + 1) (candidate_of b)) w.best-is
            ∙ skipped vs i n j xs ds (candidate_of c.loop-j.best) lx ld c.loop-j-test.true (sym c.is_positive_at.ensures ∙ w.if-is_positive_at.false)
            ∙ c.loop-j.invariant.formed;
        positive = subst (λ (b : Option Candidate). IfSome b (λ x. IsCandidate vs xs x)) (sym w.best-is) c.loop-j.invariant.positive;
      }
    ]

pub returns-clause-formed : goal.returns-clause-formed
returns-clause-formed c =
    sym c.loop-j.invariant.formed
    ∙ entering_done c.args.nonbasic.now c.args.i (length c.args.nonbasic.now) c.loop-j.j (mixed_row c.args.row.now) (mixed_row c.args.objective.now) (candidate_of c.loop-j.best) (mixed_wide (length c.args.nonbasic.now) c.args.row.now c.requires.row) c.loop-j-test.false
