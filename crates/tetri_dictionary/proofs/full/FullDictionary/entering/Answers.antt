use Rattle.std.proofs.Common.{◌≡◌, ℕ, Result, Ok, Err, Option, MatchResult, subst, ◌∙◌, arith}
use Rattle.tetri_algebra.specs.Rational.{ℚ}
use Rattle.tetri_num.specs.declared.places.Place.{Place}
use Rattle.tetri_dictionary.specs.Candidates.{candidate_of}
use Rattle.tetri_dictionary.proofs.FullTables.{entering_is}
use Rattle.tetri_dictionary.proofs.full.FullDictionary.entering.Goals as goal

pub returns-clause-formed : goal.returns-clause-formed
returns-clause-formed c =
    subst (λ (z : Result (Option (ℕ × ℚ)) Place). MatchResult c.entering_place.result (λ o. z ≡ Ok (candidate_of o)) (λ e. z ≡ Err e))
    (entering_is c.args.self.now c.args.row c.len.result c.deref.result.now c.index.result.now c.index-objective.result.now c.deref-2.result.now c.deref-3.result.now c.deref.ensures.value (omega arith) (omega arith) (c.len.ensures ∙ c.args.self.now.basic.ok.0)
    c.index.ensures c.deref-2.ensures.value c.index-objective.ensures c.deref-3.ensures.value)
    c.entering_place.ensures.formed
