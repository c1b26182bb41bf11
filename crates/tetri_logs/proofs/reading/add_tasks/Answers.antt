use Rattle.std.proofs.Common.{◌∙◌, ◌++◌, ◌∷◌, [], ap, sym}
use Rattle.tetri_logs.specs.Reading.{facts_in, jobs_in, left_in}
use Rattle.tetri_logs.proofs.LogLaws.{facts_in-append, jobs_in-more, left_in-more}
use Rattle.tetri_logs.proofs.reading.add_tasks.Goals as goal

pub loop-entry-preserved : goal.loop-entry-preserved
loop-entry-preserved c =
    let old = c.args.log.now in
    let before = c.loop-entry.yielded in
    let one = c.in-Some.entry ∷ [] in
    let inv = c.loop-entry.invariant in
    let added = c.in_ok-add.ensures in
    record {
      jobs = added.jobs ∙ ap (λ js. js ++ jobs_in one) inv.jobs ∙ jobs_in-more old.jobs.items before one;
      left = added.left ∙ ap (λ rs. rs ++ left_in one) inv.left ∙ left_in-more old.left.items before one;
      facts = added.facts ∙ ap (λ f. facts_in f one) inv.facts ∙ sym (facts_in-append old.facts before one);
      comments = added.comments ∙ inv.comments;
    }
