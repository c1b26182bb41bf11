use Rattle.std.proofs.Common.{◌≡◌, rules, w64}
use mir.Val.{to_z, of_z}
use Rattle.tetri_notice.proofs.WrittenLemmas.{job_puts}
use Rattle.tetri_notice.proofs.written.job.Goals as goal

pub returns : goal.returns
returns c =
    let at : to_z w64 (of_z w64 c.in_ok-at.at) ≡ c.in_ok-at.at = search rules in
    let late : to_z w64 (of_z w64 c.in_ok-late.late) ≡ c.in_ok-late.late = search rules in
    rw (at, late)
    (job_puts (record { at = c.in_ok-at.at; name = c.in_ok-name.name; late = c.in_ok-late.late; ask = c.in_ok-ask.ask }) c.args.reader.now c.number_at.new.reader c.text_at.new.reader c.number_at-2.new.reader
    c.ask_at.new.reader c.closes.new.self c.in_ok-at.ensures c.in_ok-name.ensures c.in_ok-late.ensures c.in_ok-ask.ensures c.in_ok-closes.ensures)
