use Rattle.std.proofs.Common.{List, true, None, Ok, IfSome, ap, sym, subst, ◌≡◌, ◌∙◌}
use lib.IntN.{ℤ}
use Rattle.tetri_algebra.specs.Rational.{ℚ}
use Rattle.tetri_num.proofs.FractionLaws.{at_side}
use Rattle.tetri_rows.specs.Rows.{meaning}
use Rattle.tetri_rows.proofs.RowLaws.{short_word}
use Rattle.tetri_dictionary.specs.Candidates.{candidate_of, IsCandidate}
use Rattle.tetri_dictionary.specs.Choices.{entering_from}
use Rattle.tetri_dictionary.specs.Mirrors.{mirror}
use Rattle.tetri_dictionary.specs.SignedNumbers.{signed_numbers}
use Rattle.tetri_dictionary.specs.Tables.{coefficients_of}
use Rattle.tetri_dictionary.proofs.SignedNumbers.{mirror_numbers, candidates_along}
use Rattle.tetri_dictionary.proofs.whole_choices.entering_mirror.Goals as goal

pub returns-clause-formed : goal.returns-clause-formed
returns-clause-formed c =
    let ns = signed_numbers true c.args.numbers.now in
    λ w i. ap (λ (cs : List ℚ). entering_from c.args.nonbasic.now i 0 cs (coefficients_of (meaning c.args.objective_den c.args.objective.now)) None) (sym (mirror_numbers w c.args.den c.args.numbers.now c.requires.row.over))
    ∙ at_side (λ d e. entering_from c.args.nonbasic.now i 0 (coefficients_of (meaning d ns)) (coefficients_of (meaning e c.args.objective.now)) None ≡ Ok (candidate_of c.entering_signed.result)) _ _ _ _
    (sym (short_word c.args.den c.requires.row.over.short)) (sym (short_word c.args.objective_den c.requires.objective.over.short)) (c.entering_signed.ensures.formed i)

pub returns-clause-positive : goal.returns-clause-positive
returns-clause-positive c =
    let ns = signed_numbers true c.args.numbers.now in
    λ w. candidates_along c.args.nonbasic.now (meaning c.args.den ns) (mirror w (meaning c.args.den c.args.numbers.now)) c.entering_signed.result
    (mirror_numbers w c.args.den c.args.numbers.now c.requires.row.over)
    (subst (λ (d : ℤ). IfSome c.entering_signed.result (λ b. IsCandidate c.args.nonbasic.now (meaning d ns) b)) (short_word c.args.den c.requires.row.over.short) c.entering_signed.ensures.positive)
