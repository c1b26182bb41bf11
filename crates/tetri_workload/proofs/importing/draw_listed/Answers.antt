use Rattle.std.proofs.Common.{◌≡◌, ◌∙◌, ap, refl, sym, subst, arith}
use Rattle.std.specs.Prelude.{Ok}
use Rattle.tetri_logs.specs.Options.{settings_of}
use Rattle.tetri_logs.specs.Origin.{begun, gap_of}
use Rattle.tetri_logs.specs.Reading.{facts_in, jobs_in, no_facts}
use Rattle.tetri_logs.proofs.LogLaws.{all_entries}
use Rattle.tetri_workload.specs.Kinds.{settled_all}
use Rattle.tetri_workload.specs.Ordering.{IsOrderBy}
use Rattle.tetri_workload.specs.Taking.{taken_all}
use Rattle.tetri_workload.proofs.ImportLemmas.{moved-of, whole-of}
use Rattle.tetri_workload.proofs.OrderLemmas.{IsMoveBy-refl}
use Rattle.tetri_workload.proofs.importing.draw_listed.Goals as goal

pub returns-clause-drawn : goal.returns-clause-drawn
returns-clause-drawn c = λ es told.
    let nodes = c.args.nodes.now in
    let o = c.args.options.now in
    let log = c.args.log in
    let draft = c.in_ok-draft.draft in
    let s = c.begun-settings.result in
    let order = c.by_submission.new.jobs.items in
    let settled : settings_of o (facts_in no_facts es) ≡ Ok draft = sym (c.in_ok-draft.ensures.value ∙ ap (settings_of o) told.facts) in
    let ordered : IsOrderBy (λ j. j.account.submit) (settled_all nodes (jobs_in es)) order =
    subst (λ js. IsOrderBy (λ j. j.account.submit) js order) (c.in_ok-jobs.ensures.jobs ∙ ap (settled_all nodes) told.jobs) c.in_ok-by_submission.ensures in (
      draft,
      order,
      record {
        drafted = record { settings = settled; ordered = ordered };
        settings = c.begun-settings.ensures.value ∙ ap (begun draft) c.deref.ensures.value;
        good = c.begun-settings.ensures.good;
        together = sym (c.in-None.ensures ∙ ap (gap_of o s) c.deref-2.ensures.value);
        tally = whole-of c.in_ok-taken.taken (taken_all s order) (taken_all s order) (c.in_ok-taken.ensures ∙ ap (taken_all s) c.deref-3.ensures.value) refl;
        moved = moved-of c.in_ok-taken.taken (taken_all s order) (taken_all s order) (c.in_ok-taken.ensures ∙ ap (taken_all s) c.deref-3.ensures.value) (IsMoveBy-refl (λ r. r.line) (taken_all s order).left);
        left = told.left;
        comments = told.comments;
        whole = omega (arith, told.comments, all_entries es);
      },
    )
