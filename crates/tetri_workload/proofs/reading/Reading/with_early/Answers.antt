use Rattle.std.proofs.Common.{◌≡◌, ◌∙◌, ◌++◌, [], ap, false, sym, subst}
use Rattle.std.proofs.lemmas.List.{append-nil}
use Rattle.std.proofs.lemmas.List.Elements.{All-nil}
use Rattle.tetri_logs.specs.Placing.{is_outside}
use Rattle.tetri_logs.specs.Scale.{moment_of}
use Rattle.tetri_workload.specs.Listed.{jobs_before, jobs_from}
use Rattle.tetri_workload.specs.Reading.{AreHandled, AreWanted, jobs_of}
use Rattle.tetri_workload.specs.Waiting.{HasSeconds}
use Rattle.tetri_workload.proofs.EntryLemmas.{jobs_of-none}
use Rattle.tetri_workload.proofs.IntakeLemmas.{arrived}
use Rattle.tetri_workload.proofs.reading.Reading.with_early.Goals as goal

pub returns-clause-read : goal.returns-clause-read
returns-clause-read c = λ nodes first none said.
    let s = c.args.settings.now in
    let o = c.args.options.now in
    let early = c.args.early.jobs.items in
    let before = c.args.early.before in
    let begun = c.in_ok-intake.intake in
    let intake = c.handle_listed.new.self in
    let same = c.in_ok-handle_listed.ensures.waiting in
    let waits : intake.waiting.held.items ≡ [] = ap (λ w. w.held.items) same ∙ c.in_ok-intake.ensures.none in
    let jobs : jobs_of nodes first ≡ [] = jobs_of-none nodes first none in
    let all : early ++ jobs_from before (jobs_of nodes first) ≡ early = ap (λ js. early ++ jobs_from before js) jobs ∙ append-nil early in
    let listed : c.deref.result.now ≡ early = c.deref.ensures.value in
    let come : AreHandled s o early (c.deref.result.now ++ []) begun =
    subst (λ js. AreHandled s o early js begun) (sym (append-nil c.deref.result.now ∙ listed)) (arrived s o [] [] begun early (c.in_ok-intake.ensures.handled s)) in
    let handled : AreHandled s o early [] intake = c.in_ok-handle_listed.ensures.handled o early [] come in
    record {
      left = said.left;
      facts = said.facts;
      comments = said.comments;
      wanted = subst (AreWanted s) (sym waits) (All-nil (λ j. is_outside s (moment_of s j.account) ≡ false));
      seconds = subst HasSeconds (sym same) c.in_ok-intake.ensures.seconds;
      met = ap (jobs_before before) jobs;
      handled = subst (λ js. AreHandled s o js intake.waiting.held.items intake) (sym all) (subst (λ js. AreHandled s o early js intake) (sym waits) handled);
    }
