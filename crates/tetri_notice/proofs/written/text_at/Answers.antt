use Rattle.serde_json.specs.Data.{string}
use Rattle.tetri_notice.proofs.WrittenLemmas.{value_member}
use Rattle.tetri_notice.proofs.written.text_at.Goals as goal

pub returns : goal.returns
returns c = value_member (λ s. string s.now) c.args.key.now c.args.reader.now c.passes_key.new.self c.text.new.reader c.text.result c.in_ok-passes_key.ensures c.text.ensures
