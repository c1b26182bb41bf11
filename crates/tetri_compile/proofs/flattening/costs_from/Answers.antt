use Rattle.std.proofs.Common.{◌≡◌, ◌+◌, ◌-◌, ◌<◌, ◌++◌, ◌∷◌, ℕ, List, length, map, sym, ap, ◌∙◌, arith}
use Rattle.std.specs.List.{range_with_len}
use Rattle.std.specs.Prelude.{pos}
use Rattle.std.proofs.lemmas.List.{append_assoc, get_or_default}
use lib.IntN.{ℤ}
use Rattle.tetri_compile.specs.Flat.{coefficient}
use Rattle.tetri_compile.proofs.ProgramLemmas.{range_more, coefficient_small, read_back}
use Rattle.tetri_compile.proofs.flattening.costs_from.Goals as goal

pub loop-column-preserved : goal.loop-column-preserved
loop-column-preserved c =
    let g : ℕ → ℤ = λ j. pos (coefficient c.args.form.now j) in
    let j = c.loop-column.column in
    let n = c.args.count in
    let rest = map g (range_with_len (j + 1) (n - (j + 1))) in
    let lt : j < length c.in_ok-numbers.numbers.items = omega (arith, c.in_ok-numbers.ensures.count, c.loop-column-test.true) in
    let read : c.index.result.now ≡ coefficient c.args.form.now j = c.index.ensures ∙ get_or_default c.in_ok-numbers.numbers.items j c.index.result.now 0 lt ∙ c.in_ok-numbers.ensures.numbers j in
    let small = coefficient_small n c.args.form.now j c.requires.few c.requires.small in
    let is : c.from.result ≡ g j = c.from.ensures ∙ ap pos read in
    ap (λ (zs : List ℤ). zs ++ rest) c.in_ok-push.ensures.items ∙ append_assoc c.loop-column.costs.items _ rest
    ∙ ap (λ (z : ℤ). c.loop-column.costs.items ++ z ∷ rest) (read_back c.from.result (g j) is (omega (arith, small)))
    ∙ ap (λ (js : List ℕ). c.loop-column.costs.items ++ map g js) (sym (range_more j n c.loop-column-test.true)) ∙ c.loop-column.invariant
