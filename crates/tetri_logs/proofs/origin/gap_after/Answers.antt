use Rattle.std.proofs.Common.{◌≡◌, ◌+◌, ◌*◌, ◌<◌, ◌∙◌, ℕ, true, get_or, ap, sym, arith, tests}
use Rattle.std.specs.Prelude.{nat_lt}
use Rattle.tetri_logs.specs.Origin.{may_begin}
use Rattle.tetri_logs.specs.Scale.{moment_of}
use Rattle.tetri_logs.specs.declared.entry.LoggedJob.{LoggedJob}
use Rattle.tetri_logs.proofs.GapLemmas.{gap_after-next}
use Rattle.tetri_logs.proofs.origin.gap_after.Goals.{else-end-moment-via-then-end-moment+else-may_begin, else-end-moment-via-else-end-moment}
use Rattle.tetri_logs.proofs.origin.gap_after.Goals as goal

-- a number below another one passes the test
early : (m n : ℕ) → m < n → nat_lt m n ≡ true
early m n less = grind (arith, tests)

pub loop-i-preserved : goal.loop-i-preserved
loop-i-preserved c =
    let s = c.args.settings.now in
    let jobs = c.args.jobs.now in
    let job = c.index-jobs-i.result in
    let read : get_or jobs c.loop-i.i job ≡ job = sym c.index-jobs-i.is in
    let begins : may_begin s (get_or jobs c.loop-i.i job).account ≡ may_begin s job.account = ap (λ (j : LoggedJob). may_begin s j.account) read in
    let moment : moment_of s (get_or jobs c.loop-i.i job).account ≡ c.moment_of-moment.result = ap (λ (j : LoggedJob). moment_of s j.account) read ∙ sym c.moment_of-moment.ensures.value in
    c.loop-i.invariant
    ∙ gap_after-next s c.args.last c.loop-i.i jobs job c.loop-i-test.true
    (λ is. elim c.else-end-moment.branch [
      | else-end-moment-via-then-end-moment+else-may_begin w ↦
          let told = w.may_begin.ensures in
          let not = w.if-may_begin.false in
          absurd (cc)
      | else-end-moment-via-else-end-moment w ↦
          let less : moment_of s (get_or jobs c.loop-i.i job).account < s.origin + 10000 * s.slot = omega (arith, moment, c.from.ensures, w.if-end-moment.false) in
          early _ _ less
    ])
