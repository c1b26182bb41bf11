use Rattle.std.proofs.Common.{◌≡◌, ◌∙◌, ◌++◌, ◌<◌, ◌≤◌, [], ap, sym, arith, rules, append_assoc}
use Rattle.tetri_base.specs.Lists.{count}
use Rattle.tetri_logs.specs.Entry.{entries_in}
use Rattle.tetri_logs.specs.Reading.{facts_in, is_comment, jobs_in, left_in, no_facts}
use Rattle.tetri_logs.proofs.LogLaws.{comments-append, facts_in-append, jobs_in-append, left_in-append}
use Rattle.tetri_workload.specs.Head.{IsAdded}
use Rattle.tetri_workload.proofs.head.head_of.Goals as goal

pub loop-log-preserved : goal.loop-log-preserved
loop-log-preserved c =
    let es = entries_in c.in-Some.found in
    let rest = c.next.new.self.entries in
    let shorter : c.next.new.self.bytes < c.loop-log.walk.bytes = search (rules, c.in_ok-found.ensures.shorter, c.in-Some.is) in
    let step : c.loop-log.walk.entries ≡ es ++ rest = search (rules, c.in_ok-found.ensures.entries, c.in-Some.is) in
    let few : count is_comment es ≤ 1 = search (rules, c.in_ok-found.ensures.few, c.in-Some.is) in
    let added : IsAdded es c.loop-log.log c.add.new.log = search (rules, c.in_ok-first.ensures, c.in_default-2.is) in
    let inv = c.loop-log.invariant in
    let first = inv.head.0 in
    let said = inv.head.3 in
    let none : jobs_in (first ++ es) ≡ [] = jobs_in-append first es ∙ ap (λ js. js ++ jobs_in es) inv.head.2 ∙ added.none in
    record {
      head = (
        first ++ es,
        append_assoc first es rest ∙ ap (λ xs. first ++ xs) (sym step) ∙ inv.head.1,
        none,
        record {
          jobs = added.jobs ∙ said.jobs ∙ inv.head.2 ∙ sym none;
          left = added.left ∙ ap (λ rs. rs ++ left_in es) said.left ∙ sym (left_in-append first es);
          facts = added.facts ∙ ap (λ f. facts_in f es) said.facts ∙ sym (facts_in-append no_facts first es);
          comments = omega (arith, added.comments, said.comments, comments-append first es);
        },
      );
      few = omega (arith, added.comments, few, shorter, inv.few);
    }
