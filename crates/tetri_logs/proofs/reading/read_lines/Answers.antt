use Rattle.std.proofs.Common.{◌≡◌, ◌≤◌, ◌<◌, ◌∙◌, ◌++◌, ap, sym, arith, rules}
use Rattle.tetri_base.specs.Lists.{count}
use Rattle.tetri_logs.specs.Entry.{entries_in}
use Rattle.tetri_logs.specs.Reading.{facts_in, is_comment, jobs_in, left_in}
use Rattle.tetri_logs.proofs.LogLaws.{comments-append, facts_in-append, jobs_in-more, left_in-more}
use Rattle.tetri_logs.proofs.reading.read_lines.Goals as goal

pub overflow_add-read : goal.overflow_add-read
overflow_add-read c =
    let few : count is_comment (entries_in c.in-Some.found) ≤ 1 = search (rules, c.in_ok-found.ensures.few, c.in-Some.is) in
    let shorter : c.next.new.self.bytes < c.loop-walk.walk.bytes = search (rules, c.in_ok-found.ensures.shorter, c.in-Some.is) in
    omega (arith, c.comments_of.ensures, few, shorter, c.loop-walk.invariant.few)

pub loop-walk-preserved : goal.loop-walk-preserved
loop-walk-preserved c =
    let inv = c.loop-walk.invariant in
    let read = c.loop-walk.read in
    let es = entries_in c.in-Some.found in
    let rest = c.next.new.self.entries in
    let few : count is_comment es ≤ 1 = search (rules, c.in_ok-found.ensures.few, c.in-Some.is) in
    let shorter : c.next.new.self.bytes < c.loop-walk.walk.bytes = search (rules, c.in_ok-found.ensures.shorter, c.in-Some.is) in
    let step : c.loop-walk.walk.entries ≡ es ++ rest = search (rules, c.in_ok-found.ensures.entries, c.in-Some.is) in
    let added = c.in_ok-add_all.ensures in
    record {
      jobs = ap (λ js. js ++ jobs_in rest) added.jobs ∙ jobs_in-more read.jobs.items es rest ∙ ap (λ zs. read.jobs.items ++ jobs_in zs) (sym step) ∙ inv.jobs;
      left = ap (λ rs. rs ++ left_in rest) added.left ∙ left_in-more read.left.items es rest ∙ ap (λ zs. read.left.items ++ left_in zs) (sym step) ∙ inv.left;
      facts = ap (λ f. facts_in f rest) added.facts ∙ sym (facts_in-append read.facts es rest) ∙ ap (facts_in read.facts) (sym step) ∙ inv.facts;
      comments = omega (arith, added.comments, c.comments_of.ensures, comments-append es rest, ap (count is_comment) step, inv.comments);
      few = omega (arith, added.comments, c.comments_of.ensures, few, shorter, inv.few);
    }
