use Rattle.std.proofs.Common.{◌≡◌, rules, w64}
use mir.Val.{to_z, of_z}
use Rattle.tetri_notice.proofs.WrittenLemmas.{ask_puts}
use Rattle.tetri_notice.proofs.written.written_ask.Goals as goal

pub returns : goal.returns
returns c =
    let k : to_z w64 (of_z w64 c.in_ok-k.k) ≡ c.in_ok-k.k = search rules in
    let dur : to_z w64 (of_z w64 c.in_ok-dur.dur) ≡ c.in_ok-dur.dur = search rules in
    let value : to_z w64 (of_z w64 c.in_ok-value.value) ≡ c.in_ok-value.value = search rules in
    rw (k, dur, value)
    (ask_puts (record { k = c.in_ok-k.k; dur = c.in_ok-dur.dur; value = c.in_ok-value.value; due = c.in_ok-due.due; class = c.in_ok-class.class }) c.args.reader.now c.number_at.new.reader c.number_at-2.new.reader
    c.number_at-3.new.reader c.due_at.new.reader c.text_at.new.reader c.closes.new.self (rw c.again-tokens.ensures at c.in_ok-k.ensures) c.in_ok-dur.ensures c.in_ok-value.ensures c.in_ok-due.ensures c.in_ok-class.ensures c.in_ok-closes.ensures)
