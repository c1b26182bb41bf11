use Rattle.tetri_notice.proofs.WrittenLemmas.{value_member}
use Rattle.tetri_notice.specs.Written.{whole}
use Rattle.tetri_notice.proofs.written.number_at.Goals as goal

pub returns : goal.returns
returns c = value_member whole c.args.key.now c.args.reader.now c.passes_key.new.self c.number.new.reader c.number.result c.in_ok-passes_key.ensures c.number.ensures
