use Rattle.std.proofs.Common.{◌≡◌, false, rules}
use Rattle.tetri_logs.proofs.AheadLemmas.{line_kept}
use Rattle.tetri_logs.proofs.ahead.Ahead.kept.Goals as goal

pub returns : goal.returns
returns c = λ number job e some.
    let plain : c.args.mixed ≡ false = search rules in
    let same : c.args.self.now.layout ≡ c.args.layout.now = search rules in
    line_kept c.args.mixed c.args.self.now.layout c.args.layout.now number c.args.line.now job plain same e
