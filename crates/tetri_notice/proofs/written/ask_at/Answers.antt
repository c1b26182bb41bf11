use Rattle.tetri_notice.proofs.WrittenLemmas.{ask_member}
use Rattle.tetri_notice.proofs.written.ask_at.Goals as goal

pub returns : goal.returns
returns c = ask_member c.args.reader.now c.passes_key.new.self c.opens.new.self c.written_ask.new.reader c.written_ask.result c.in_ok-passes_key.ensures c.in_ok-opens.ensures c.written_ask.ensures
