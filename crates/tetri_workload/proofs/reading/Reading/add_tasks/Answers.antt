use Rattle.std.proofs.Common.{◌≡◌, ◌∙◌, ◌++◌, ◌∷◌, [], refl, subst, sym, arith}
use Rattle.std.proofs.lemmas.Iterator.Adapters.{YieldsList-from_vec}
use Rattle.std.proofs.lemmas.Iterator.Consumers.{YieldsList-end}
use Rattle.std.proofs.lemmas.List.{map-id}
use Rattle.tetri_base.specs.Lists.{count}
use Rattle.tetri_logs.specs.Origin.{begun_at}
use Rattle.tetri_logs.specs.Reading.{is_comment}
use Rattle.tetri_logs.proofs.LogLaws.{comments-append}
use Rattle.tetri_workload.specs.Reading.{IsRead}
use Rattle.tetri_workload.proofs.ReadLemmas.{read-assoc}
use Rattle.tetri_workload.proofs.reading.Reading.add_tasks.Goals as goal

pub loop-entry-preserved : goal.loop-entry-preserved
loop-entry-preserved c =
    let nodes = c.args.nodes.now in
    let done = c.loop-entry.yielded in
    let one = c.in-Some.entry ∷ [] in
    let inv = c.loop-entry.invariant in
    let added = c.in_ok-add_entry.ensures in
    let no_comment : count is_comment one ≡ 0 = rw (sym c.if-is_comment.ensures) refl in
    record {
      known = added.known;
      noted = added.noted;
      facts = added.facts ∙ inv.facts;
      early = added.early ∙ inv.early;
      comments = omega (arith, added.comments, inv.comments, no_comment);
      jobs = omega (arith, inv.jobs, no_comment, comments-append done one);
      read = λ x at o es given. read-assoc (begun_at c.args.settings.now x) o nodes es done one c.add_entry.new.self (added.read x at o (es ++ done) (inv.read x at o es given));
    }

pub returns-clause-read : goal.returns-clause-read
returns-clause-read c = λ x at o es given.
    let gives = c.into_iter-entry-iterator.ensures.into_iter_gives in
    let all = YieldsList-end (YieldsList-from_vec c.args.tasks.items gives.0 (gives.1 ∙ c.args.tasks.ok.0)) c.loop-entry.yielded _ c.loop-entry.yielded_by c.next.result c.next.new.self c.in-None.is c.next.ensures.steps in
    let whole : c.loop-entry.yielded ≡ c.args.tasks.items = sym (map-id c.loop-entry.yielded) ∙ all.0 in
    subst (λ xs. IsRead (begun_at c.args.settings.now x) o c.args.nodes.now (es ++ xs) c.loop-entry.self) whole (c.loop-entry.invariant.read x at o es given)
