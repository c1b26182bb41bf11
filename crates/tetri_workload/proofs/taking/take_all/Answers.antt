use Rattle.std.proofs.Common.{◌≡◌, ◌∙◌, ap, arith, get_or, rules, sym, take}
use Rattle.std.proofs.lemmas.List.Sums.{fold_more}
use Rattle.tetri_workload.specs.Taking.{nothing_taken, taken_all, with_logged}
use Rattle.tetri_workload.proofs.taking.take_all.Goals as goal

pub loop-job-preserved : goal.loop-job-preserved
loop-job-preserved c =
    let s = c.args.settings.now in
    let jobs = c.args.jobs.now in
    let i = c.loop-job.job-index in
    let job = c.job-item.result in
    let is : job ≡ get_or jobs i job = search (rules, c.job-item.is) in
    record {
      tally = c.in_ok-add.ensures.tally ∙ ap (λ t. with_logged s t job) c.loop-job.invariant.tally ∙ ap (with_logged s (taken_all s (take i jobs))) is ∙ sym (fold_more (with_logged s) nothing_taken jobs i job (omega arith));
      noted = c.in_ok-add.ensures.noted;
    }
