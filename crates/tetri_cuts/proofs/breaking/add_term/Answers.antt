use Rattle.std.proofs.Common.{◌≡◌, ap, ◌∙◌, sym}
use Rattle.std.proofs.lemmas.Int.{to_z-of_z}
use Rattle.tetri_algebra.specs.Rational.{whole_ℚ}
use Rattle.tetri_num.specs.Checked.{checked_product}
use Rattle.tetri_num.specs.Frac.{value}
use Rattle.tetri_cuts.proofs.BreakLemmas.{term_added}
use Rattle.tetri_cuts.proofs.breaking.add_term.Goals as goal

pub returns-in-Ok : goal.returns-in-Ok
returns-in-Ok c =
    let by : value c.whole.result ≡ whole_ℚ c.args.by = c.whole.ensures.rational ∙ ap whole_ℚ (to_z-of_z _ _ c.ranges.by) in
    term_added c.args.sum c.args.x c.in-Ok.part (whole_ℚ c.args.by) c.add.result
    (ap (λ y. checked_product y (value c.args.x)) (sym by) ∙ c.in-Ok.ensures.checked) c.add.ensures.checked c.add.ensures.which
