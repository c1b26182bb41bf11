use Rattle.std.proofs.Common.{codes}
use Rattle.serde_json.specs.Data.{string}
use Rattle.tetri_notice.proofs.WrittenLemmas.{puts_member, puts_none}
use Rattle.tetri_notice.proofs.written.set_at.Goals as goal

pub returns-in_ok-set-in-Some : goal.returns-in_ok-set-in-Some
returns-in_ok-set-in-Some c = puts_member 0 (codes "set") (string c.in_ok-set-in-Some.set.now) c.args.reader.now c.passes_key.new.self c.text.new.reader c.in-Some.ensures c.in_ok-set-in-Some.ensures

pub returns-in-None : goal.returns-in-None
returns-in-None c = puts_none 0 c.args.reader.now c.passes_key.new.self c.in-None.ensures
