use Rattle.std.proofs.Common.{◌<◌, ◌∙◌, ap, get_or, sym, length}
use Rattle.std.proofs.lemmas.List.{length-map}
use Rattle.tetri_report.proofs.Names.{job_name-at}
use Rattle.tetri_report.proofs.lines.name_of.Goals as goal

pub returns : goal.returns
returns c =
    let jobs = c.args.trace.now.jobs in
    let job = c.index-as_slice-job.result in
    let inside : c.args.job < length jobs = simp length-map at c.requires in
    c.text.ensures.value ∙ ap (λ js. (get_or js c.args.job job).name) c.as_slice.ensures ∙ sym (job_name-at jobs c.args.job job inside)
