use Rattle.std.proofs.Common.{◌≡◌, rules, sym, w32, w64}
use mir.Val.{to_z, of_z}
use Rattle.serde_json.specs.Data.{object}
use Rattle.tetri_notice.proofs.WrittenLemmas.{arrival_read}
use Rattle.tetri_notice.specs.Asks.{ask_text}
use Rattle.tetri_notice.specs.Written.{ask_members, job_members}
use Rattle.tetri_notice.proofs.written.arrival.Goals as goal

pub returns-clause-value : goal.returns-clause-value
returns-clause-value c =
    let slot : to_z w64 (of_z w64 c.in_ok-job.job.at) ≡ c.in_ok-job.job.at = search rules in
    let late : to_z w64 (of_z w64 c.in_ok-job.job.late) ≡ c.in_ok-job.job.late = search rules in
    let said : to_z w32 (of_z w32 c.in_ok-late.late) ≡ c.in_ok-late.late = search rules in
    let job = c.in_ok-job.job in (
      object (job_members job),
      c.in_ok-job.ensures,
      rw (c.arrives-notice.ensures, said)
          (arrival_read c.args.unit c.in_ok-at.at c.in_ok-late.late c.in_ok-name.name.now (ask_text c.in_ok-ask.ask) job.at job.late job.name.now (ask_members job.ask) (sym (rw slot at c.in_ok-at.ensures)) (sym c.in_ok-name.ensures.value)
          (sym (rw late at c.in_ok-late.ensures.value)) c.in_ok-ask.ensures.says),
    )
