use Rattle.tetri_notice.proofs.WrittenLemmas.{string_value}
use Rattle.tetri_notice.proofs.written.text.Goals as goal

pub returns : goal.returns
returns c = string_value c.args.reader.now c.string.new.self c.string.result c.string.ensures
