use Rattle.std.proofs.Common.{◌∷◌, List, map, ap, ◌∙◌}
use Rattle.tetri_algebra.specs.Rational.{ℚ, whole_ℚ}
use Rattle.tetri_num.specs.Frac.{value}
use Rattle.tetri_dictionary.specs.Start.{minus_one_at}
use Rattle.tetri_dictionary.proofs.Numbers.{number_read}
use Rattle.tetri_dictionary.proofs.SparseStart.{bound_done}
use Rattle.tetri_dictionary.proofs.start_lines.bound_line.Goals as goal

pub returns-clause-numbers : goal.returns-clause-numbers
returns-clause-numbers c =
    let cs = c.args.p.now.costs.items in
    ap (λ (xs : List ℚ). value c.whole-2.result ∷ xs) (bound_done cs _ c.push.new.self.items (record { place = c.args.j; number = c.whole.result }) c.in_ok-entries.ensures.items c.in_ok-push.ensures.items c.whole.ensures.rational)
    ∙ ap (λ (x : ℚ). x ∷ map whole_ℚ (minus_one_at c.args.j 0 cs)) (c.whole-2.ensures.rational ∙ ap whole_ℚ (number_read c.args.width c.requires.width))
