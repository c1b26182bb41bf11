use Rattle.std.proofs.Common.{List, false, None, Ok, IfSome, ap, sym, subst, ◌≡◌, ◌∙◌}
use lib.IntN.{ℤ}
use Rattle.tetri_num.proofs.FractionLaws.{at_side}
use Rattle.tetri_rows.specs.Rows.{meaning}
use Rattle.tetri_rows.proofs.RowLaws.{short_word}
use Rattle.tetri_dictionary.specs.Candidates.{candidate_of, IsCandidate}
use Rattle.tetri_dictionary.specs.Choices.{entering_from}
use Rattle.tetri_dictionary.specs.SignedNumbers.{signed_numbers}
use Rattle.tetri_dictionary.specs.Tables.{coefficients_of}
use Rattle.tetri_dictionary.proofs.SignedNumbers.{signed_same}
use Rattle.tetri_dictionary.proofs.whole_choices.entering_whole.Goals as goal

pub returns-clause-formed : goal.returns-clause-formed
returns-clause-formed c =
    let os = c.args.objective.now in
    λ i. ap (λ (ns : List ℤ). entering_from c.args.nonbasic.now i 0 (coefficients_of (meaning c.args.den ns)) (coefficients_of (meaning c.args.objective_den os)) None) (sym (signed_same c.args.numbers.now))
    ∙ at_side (λ d e. entering_from c.args.nonbasic.now i 0 (coefficients_of (meaning d (signed_numbers false c.args.numbers.now))) (coefficients_of (meaning e os)) None ≡ Ok (candidate_of c.entering_signed.result)) _ _ _ _
    (sym (short_word c.args.den c.requires.row.over.short)) (sym (short_word c.args.objective_den c.requires.objective.over.short)) (c.entering_signed.ensures.formed i)

pub returns-clause-positive : goal.returns-clause-positive
returns-clause-positive c =
    subst (λ (ns : List ℤ). IfSome c.entering_signed.result (λ b. IsCandidate c.args.nonbasic.now (meaning c.args.den ns) b)) (signed_same c.args.numbers.now)
    (subst (λ (d : ℤ). IfSome c.entering_signed.result (λ b. IsCandidate c.args.nonbasic.now (meaning d (signed_numbers false c.args.numbers.now)) b)) (short_word c.args.den c.requires.row.over.short) c.entering_signed.ensures.positive)
