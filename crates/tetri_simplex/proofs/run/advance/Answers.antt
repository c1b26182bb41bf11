use Rattle.std.proofs.Common.{◌-◌, refl, sym, ap, subst, ◌∙◌}
use Rattle.tetri_ip.specs.Points.{bounds_of}
use Rattle.tetri_dictionary.specs.declared.fault.PivotFault.{PivotFault}
use Rattle.tetri_dictionary.specs.Faults.{IsFault}
use Rattle.tetri_simplex.specs.Machine.{next}
use Rattle.tetri_simplex.specs.Outcomes.{end_of}
use Rattle.tetri_dictionary.specs.Tables.{Table}
use Rattle.tetri_simplex.specs.Turns.{turn_of}
use Rattle.tetri_simplex.proofs.Running.{run_ends, run_long, run_past, run_goes_on}
use Rattle.tetri_simplex.proofs.run.advance.Goals as goal

pub returns-in-Ok-Ends-clause-ended : goal.returns-in-Ok-Ends-clause-ended
returns-in-Ok-Ends-clause-ended g c =
    let t : Table = g.D.Dictionary.table c.args.d.now in
    c.at_step.ensures
    ∙ run_ends c.args.p.now (bounds_of c.args.r.now) c.args.known (10000 - c.args.step) c.args.step t (end_of c.in-Ok-Ends.outcome) (ap turn_of (sym c.in-Ok-Ends.field-0-is) ∙ c.in-Ok-Ends.ensures.formed)

pub returns-then-step-eq-MOST_PIVOTS-clause-ended : goal.returns-then-step-eq-MOST_PIVOTS-clause-ended
returns-then-step-eq-MOST_PIVOTS-clause-ended g c =
    let t : Table = g.D.Dictionary.table c.args.d.now in
    run_long c.args.p.now (bounds_of c.args.r.now) c.args.known (10000 - c.args.step) c.args.step c.in-Ok-Leaves.i t (ap turn_of (sym c.in-Ok-Leaves.field-0-is) ∙ c.in-Ok-Leaves.ensures.formed) c.if-step-eq-MOST_PIVOTS.true refl

pub returns-in-Ok-clause-goes_on : goal.returns-in-Ok-clause-goes_on
returns-in-Ok-clause-goes_on g c =
    let t : Table = g.D.Dictionary.table c.args.d.now in
    let u : Table = g.D.Dictionary.table c.pivot_out.new.d in
    run_goes_on c.args.p.now (bounds_of c.args.r.now) c.args.known c.args.step c.in-Ok-Leaves.i t u (ap turn_of (sym c.in-Ok-Leaves.field-0-is) ∙ c.in-Ok-Leaves.ensures.formed) c.requires.step c.if-step-eq-MOST_PIVOTS.false
    c.in-Ok.ensures.formed c.requires.places

pub returns-in-Err-Past-clause-ended : goal.returns-in-Err-Past-clause-ended
returns-in-Err-Past-clause-ended g c =
    let t : Table = g.D.Dictionary.table c.args.d.now in
    c.at_step-in-Err-Past.ensures
    ∙ run_past c.args.p.now (bounds_of c.args.r.now) c.args.known c.args.step c.in-Ok-Leaves.i t c.in-Err-Past.place (ap turn_of (sym c.in-Ok-Leaves.field-0-is) ∙ c.in-Ok-Leaves.ensures.formed) c.requires.step c.if-step-eq-MOST_PIVOTS.false
    (subst (λ (f : PivotFault). IsFault f (next t c.in-Ok-Leaves.i)) c.in-Err-Past.field-0-is c.in-Err-Past.ensures.formed)
