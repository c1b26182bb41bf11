use Rattle.std.proofs.Common.{rules, tests, ◌≡◌, ◌*◌, ◌/◌, ◌≤◌, false, nat_lt, ap₂, arith}
use Rattle.std.proofs.lemmas.Nat.{le-div}
use Rattle.tetri_logs.specs.Scale.{worth_of}
use Rattle.tetri_logs.proofs.placing.ask_of.Goals as goal

pub returns-clause-value : goal.returns-clause-value
returns-clause-value c =
    let s = c.args.settings.now in
    let worth = worth_of s c.args.nodes c.args.slots in
    let product = ap₂ (λ a b. a * b) c.worth_of-worth.ensures c.from.ensures in
    let value : c.saturating_mul-value.result ≡ worth * s.unit = grind (arith, product, c.saturating_mul-value.ensures, c.if-value-gt-PEAK.false) in
    let few : worth ≤ 1000000000000 / s.unit = le-div worth 1000000000000 s.unit c.requires.good.some_unit (grind (arith, value, c.if-value-gt-PEAK.false)) in
    let within : nat_lt (1000000000000 / s.unit) worth ≡ false = grind (arith, tests, few) in
    search (rules, value, within)
