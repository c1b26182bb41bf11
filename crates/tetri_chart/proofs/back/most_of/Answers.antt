use Rattle.std.proofs.Common.{◌≡◌, ◌≤◌, length, subst, arith}
use Rattle.std.specs.Prelude.{max}
use Rattle.std.proofs.lemmas.List.{drop_all}
use Rattle.tetri_chart.specs.Ends.{most_bound, most_value}
use Rattle.tetri_chart.proofs.back.most_of.Goals as goal

pub returns-clause-value : goal.returns-clause-value
returns-clause-value c =
    let cycles = c.args.cycles.now in
    let l = c.loop-cycle in
    let past : length cycles ≤ l.cycle-index = omega arith in
    let none = drop_all l.cycle-index cycles past in
    let value : l.value ≡ most_value cycles = omega (arith, subst (λ xs. max l.value (most_value xs) ≡ most_value cycles) none l.invariant.value) in
    let bound : l.bound ≡ most_bound cycles = omega (arith, subst (λ xs. max l.bound (most_bound xs) ≡ most_bound cycles) none l.invariant.bound) in
    omega (arith, value, bound, l.invariant.small)
