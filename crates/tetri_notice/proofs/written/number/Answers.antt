use Rattle.tetri_notice.proofs.WrittenLemmas.{number_value}
use Rattle.tetri_notice.proofs.written.number.Goals as goal

pub returns : goal.returns
returns c = number_value c.args.reader.now c.number.new.self c.number.result c.number.ensures.small c.number.ensures.next
