use Rattle.std.proofs.Common.{◌≡◌, ◌++◌, ◌∙◌, [], ap, ap₂, false, sym, subst, take}
use Rattle.std.proofs.lemmas.List.Elements.{All-nil}
use Rattle.tetri_logs.specs.Placing.{is_outside}
use Rattle.tetri_logs.specs.Scale.{moment_of}
use Rattle.tetri_workload.specs.Listed.{jobs_before, jobs_from}
use Rattle.tetri_workload.specs.Reading.{AreHandled, AreWanted, jobs_of}
use Rattle.tetri_workload.proofs.EntryLemmas.{jobs_of-none}
use Rattle.tetri_workload.proofs.reading.Reading.new.Goals as goal

pub returns-clause-read : goal.returns-clause-read
returns-clause-read c = λ s nodes first none said.
    let o = c.args.options.now in
    let intake = c.in_ok-new.field-0 in
    let waits = c.in_ok-new.ensures.none in
    let jobs : jobs_of nodes first ≡ [] = jobs_of-none nodes first none in
    let all : c.new-2.result.items ++ jobs_from 0 (jobs_of nodes first) ≡ [] = ap₂ (λ xs js. xs ++ jobs_from 0 js) c.new-2.ensures.items jobs in
    record {
      left = said.left;
      facts = said.facts;
      comments = said.comments;
      wanted = subst (AreWanted s) (sym waits) (All-nil (λ j. is_outside s (moment_of s j.account) ≡ false));
      seconds = c.in_ok-new.ensures.seconds;
      met = ap (jobs_before 0) jobs ∙ sym (ap (take 0) c.new-2.ensures.items);
      handled = subst (λ js. AreHandled s o js intake.waiting.held.items intake) (sym all)
          (subst (λ js. AreHandled s o [] js intake) (sym waits) (c.in_ok-new.ensures.handled s));
    }
