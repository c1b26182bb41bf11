use Rattle.std.proofs.Common.{◌∙◌, Some, sym, subst}
use Rattle.tetri_trace.specs.Scenario.{scenario}
use Rattle.tetri_run.specs.Check.{FitsRun}
use Rattle.tetri_run.proofs.StepLemmas.{before_end, same_summary, summary_tested, tested_equal}
use Rattle.tetri_run.proofs.check.is_in_place.Goals as goal

pub returns-then-ended : goal.returns-then-ended
returns-then-ended c = λ past is.
    let t = scenario c.args.trace.now in
    let whole = sym is.now ∙ sym c.now.ensures ∙ c.if-ended.true in
    let told = sym c.summary.ensures ∙ c.in-Some.is in
    let counted = c.summary_at.ensures.value ∙ is.counted c.in-Some.summary told in (
      λ test. subst (FitsRun t past) (sym told) (whole, same_summary c.in-Some.summary c.summary_at.result (sym c.eq.ensures ∙ test) ∙ counted),
      λ fits.
          let closed : FitsRun t past (Some c.in-Some.summary) = subst (FitsRun t past) told fits in
          c.eq.ensures ∙ summary_tested c.in-Some.summary c.summary_at.result (closed.1 ∙ sym counted),
    )

pub returns-else-ended : goal.returns-else-ended
returns-else-ended c = λ past is.
    let t = scenario c.args.trace.now in
    let told = sym c.summary.ensures ∙ c.in-Some.is in (
      λ test. absurd (c.if-ended.false (tested_equal c.now.result c.args.trace.now.header.until test)),
      λ fits.
          let closed : FitsRun t past (Some c.in-Some.summary) = subst (FitsRun t past) told fits in
          absurd (c.if-ended.false (c.now.ensures ∙ is.now ∙ closed.0)),
    )

pub returns-in-None : goal.returns-in-None
returns-in-None c = λ past is.
    let t = scenario c.args.trace.now in
    let told = sym c.summary.ensures ∙ c.in-None.is in
    let tests = before_end t past is.run c.now.result (c.now.ensures ∙ is.now) in (
      λ test. subst (FitsRun t past) (sym told) (tests.0 test),
      λ fits. tests.1 (subst (FitsRun t past) told fits),
    )
