use Rattle.std.proofs.Common.{◌≡◌, ◌+◌, ◌-◌, ◌<◌, ◌++◌, ◌∷◌, ℕ, List, length, map, sym, ap, ◌∙◌, arith}
use Rattle.std.specs.List.{range_with_len}
use Rattle.std.specs.Prelude.{pos}
use Rattle.std.proofs.lemmas.List.{append_assoc, get_or_default}
use lib.IntN.{ℤ}
use Rattle.tetri_compile.specs.Flat.{coefficient}
use Rattle.tetri_compile.proofs.ProgramLemmas.{range_more}
use Rattle.tetri_wide.specs.Sketch.{form_of}
use Rattle.tetri_wide.proofs.FlatLemmas.{coefficient_small, read_back}
use Rattle.tetri_wide.proofs.flattening.costs_from.Goals as goal

pub loop-column-preserved : goal.loop-column-preserved
loop-column-preserved c =
    let g : ℕ → ℤ = λ j. pos (coefficient (form_of c.args.form.now) j) in
    let j = c.loop-column.column in
    let n = c.args.count in
    let rest = map g (range_with_len (j + 1) (n - (j + 1))) in
    let lt : j < length c.in_ok-numbers.numbers.items = omega (arith, c.in_ok-numbers.ensures.count, c.loop-column-test.true) in
    let read : c.index.result.now ≡ coefficient (form_of c.args.form.now) j = c.index.ensures ∙ get_or_default c.in_ok-numbers.numbers.items j c.index.result.now 0 lt ∙ c.in_ok-numbers.ensures.numbers j in
    let small = coefficient_small n (form_of c.args.form.now) j c.requires.few c.requires.small in
    let is : c.whole.result ≡ g j = c.whole.ensures ∙ ap pos read in
    ap (λ (zs : List ℤ). zs ++ rest) c.in_ok-push.ensures.items ∙ append_assoc c.loop-column.costs.items _ rest
    ∙ ap (λ (z : ℤ). c.loop-column.costs.items ++ z ∷ rest) (read_back c.whole.result (g j) is (omega (arith, small)))
    ∙ ap (λ (js : List ℕ). c.loop-column.costs.items ++ map g js) (sym (range_more j n c.loop-column-test.true)) ∙ c.loop-column.invariant

pub whole-requires : goal.whole-requires
whole-requires c =
    let j = c.loop-column.column in
    let lt : j < length c.in_ok-numbers.numbers.items = omega (arith, c.in_ok-numbers.ensures.count, c.loop-column-test.true) in
    let read : c.index.result.now ≡ coefficient (form_of c.args.form.now) j = c.index.ensures ∙ get_or_default c.in_ok-numbers.numbers.items j c.index.result.now 0 lt ∙ c.in_ok-numbers.ensures.numbers j in
    omega (arith, read, coefficient_small c.args.count (form_of c.args.form.now) j c.requires.few c.requires.small)
