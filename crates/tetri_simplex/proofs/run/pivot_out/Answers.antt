use Rattle.std.proofs.Common.{◌≡◌, Result, Ok, MatchResult, subst}
use Rattle.tetri_num.specs.declared.places.Place.{Place}
use Rattle.tetri_dictionary.specs.Faults.{IsFault}
use Rattle.tetri_dictionary.specs.Tables.{Table}
use Rattle.tetri_simplex.proofs.Running.{next_found, next_none, next_past}
use Rattle.tetri_simplex.proofs.run.pivot_out.Goals as goal

pub returns-in-Ok-Some-clause-formed : goal.returns-in-Ok-Some-clause-formed
returns-in-Ok-Some-clause-formed g c =
    let t = g.D.Dictionary.table c.args.d.now in
    let u = g.D.Dictionary.table c.pivot.new.self in
    subst (λ (z : Result Table Place). MatchResult c.pivot.result (λ _. z ≡ Ok u) (λ e. IsFault e z))
    (next_found t c.args.i c.in-Ok-Some.field-0 c.in-Ok-Some.found c.in-Ok-Some.ensures.formed c.in-Ok-Some.field-0-is) c.pivot.ensures.formed

pub returns-in-Ok-None-clause-formed : goal.returns-in-Ok-None-clause-formed
returns-in-Ok-None-clause-formed g c = next_none (g.D.Dictionary.table c.args.d.now) c.args.i c.in-Ok-None.field-0 c.in-Ok-None.ensures.formed c.in-Ok-None.field-0-is

pub returns-in-Err-clause-formed : goal.returns-in-Err-clause-formed
returns-in-Err-clause-formed g c = next_past (g.D.Dictionary.table c.args.d.now) c.args.i c.in-Err.place c.in-Err.ensures.formed
