use Rattle.std.proofs.Common.{◌≡◌, rules, sym, w64}
use mir.Val.{to_z, of_z}
use Rattle.serde_json.specs.Data.{object}
use Rattle.tetri_notice.proofs.WrittenLemmas.{cancel_read}
use Rattle.tetri_notice.specs.Written.{cancel_members}
use Rattle.tetri_notice.proofs.written.cancellation.Goals as goal

pub returns-clause-value : goal.returns-clause-value
returns-clause-value c =
    let slot : to_z w64 (of_z w64 c.in_ok-cancel.cancel.at) ≡ c.in_ok-cancel.cancel.at = search rules in
    let cancel = c.in_ok-cancel.cancel in (
      object (cancel_members cancel),
      c.in_ok-cancel.ensures,
      rw c.cancels-notice.ensures (cancel_read c.args.unit c.in_ok-at.at c.in_ok-name.name.now cancel.at cancel.name.now (sym (rw slot at c.in_ok-at.ensures)) (sym c.in_ok-name.ensures.value)),
    )
