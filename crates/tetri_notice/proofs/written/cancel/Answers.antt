use Rattle.std.proofs.Common.{◌≡◌, rules, w64}
use mir.Val.{to_z, of_z}
use Rattle.tetri_notice.proofs.WrittenLemmas.{cancel_puts}
use Rattle.tetri_notice.proofs.written.cancel.Goals as goal

pub returns : goal.returns
returns c =
    let at : to_z w64 (of_z w64 c.in_ok-at.at) ≡ c.in_ok-at.at = search rules in
    rw at
    (cancel_puts (record { at = c.in_ok-at.at; name = c.in_ok-name.name }) c.args.reader.now c.number_at.new.reader c.text_at.new.reader c.closes.new.self c.in_ok-at.ensures c.in_ok-name.ensures c.in_ok-closes.ensures)
