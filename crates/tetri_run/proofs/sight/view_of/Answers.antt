use Rattle.std.proofs.Common.{◌^◌, subst}
use Rattle.tetri_trace.specs.Scenario.{scenario}
use Rattle.tetri_run.specs.Checked.{Sees, SeesSome}
use Rattle.tetri_run.proofs.StepLemmas.{unbegun, views_tops, views_tree}
use Rattle.tetri_run.proofs.sight.view_of.Goals as goal

pub begin_slot-requires-clause-reached : goal.begin_slot-requires-clause-reached
begin_slot-requires-clause-reached c =
    let t = scenario c.args.trace.now in
    let s = c.args.state.now in
    (unbegun t s c.in-Tops.columns c.in-Tops.rows (2 ^ 63) (subst (λ sight. SeesSome t s sight (2 ^ 63)) c.in-Tops.is c.requires.sees)).0

pub begin_slot-requires-clause-in_run : goal.begin_slot-requires-clause-in_run
begin_slot-requires-clause-in_run c =
    let t = scenario c.args.trace.now in
    let s = c.args.state.now in
    (unbegun t s c.in-Tops.columns c.in-Tops.rows (2 ^ 63) (subst (λ sight. SeesSome t s sight (2 ^ 63)) c.in-Tops.is c.requires.sees)).1

pub returns-in_ok-slot-in-Tops : goal.returns-in_ok-slot-in-Tops
returns-in_ok-slot-in-Tops c = λ last certificate sees.
    let t = scenario c.args.trace.now in
    let s = c.args.state.now in
    views_tops t s last c.begin_slot.new.state certificate c.in-Tops.columns c.in-Tops.rows c.in_ok-slot-in-Tops.slot (subst (Sees t last certificate s) c.in-Tops.is sees) c.in_ok-slot-in-Tops.ensures

pub returns-in-Tree : goal.returns-in-Tree
returns-in-Tree c = λ last certificate sees.
    let t = scenario c.args.trace.now in
    let s = c.args.state.now in
    views_tree t s last certificate c.in-Tree.slot c.in-Tree.walk c.in-Tree.lines c.end.result (subst (Sees t last certificate s) c.in-Tree.is sees) c.end.ensures
