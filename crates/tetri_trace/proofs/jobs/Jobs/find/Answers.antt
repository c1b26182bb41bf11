use Rattle.std.proofs.Common.{◌∙◌, sym, ap, map}
use Rattle.std.specs.Prelude.{is_some}
use Rattle.tetri_cluster.specs.Names.{is_among, number_of}
use Rattle.tetri_trace.specs.Scenario.{job_names, submission}
use Rattle.tetri_trace.proofs.JobNames.{job_names-submission}
use Rattle.tetri_trace.proofs.jobs.Jobs.find.Goals as goal

pub returns-in_err-number-clause-value : goal.returns-in_err-number-clause-value
returns-in_err-number-clause-value c =
    c.from_residual.ensures ∙ sym c.in_err-number.was ∙ c.number.ensures.value
    ∙ ap (number_of c.args.name.now) (c.self.invariant.0 ∙ sym (job_names-submission c.self.inside.items.items) ∙ ap (λ js. job_names (map submission js)) c.self.view_is)

pub returns-in_err-number-clause-found : goal.returns-in_err-number-clause-found
returns-in_err-number-clause-found c =
    ap is_some (c.from_residual.ensures ∙ sym c.in_err-number.was) ∙ c.number.ensures.found
    ∙ ap (is_among c.args.name.now) (c.self.invariant.0 ∙ sym (job_names-submission c.self.inside.items.items) ∙ ap (λ js. job_names (map submission js)) c.self.view_is)

pub returns-clause-value : goal.returns-clause-value
returns-clause-value c =
    sym c.in_ok-number.was ∙ c.number.ensures.value
    ∙ ap (number_of c.args.name.now) (c.self.invariant.0 ∙ sym (job_names-submission c.self.inside.items.items) ∙ ap (λ js. job_names (map submission js)) c.self.view_is)

pub returns-clause-found : goal.returns-clause-found
returns-clause-found c =
    ap is_some (sym c.in_ok-number.was) ∙ c.number.ensures.found
    ∙ ap (is_among c.args.name.now) (c.self.invariant.0 ∙ sym (job_names-submission c.self.inside.items.items) ∙ ap (λ js. job_names (map submission js)) c.self.view_is)
