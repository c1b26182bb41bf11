use Rattle.std.proofs.Common.{◌^◌, arith, subst}
use Rattle.tetri_trace.specs.Scenario.{scenario}
use Rattle.tetri_run.specs.Checked.{Sees, SeesSome}
use Rattle.tetri_run.proofs.StepLemmas.{sees_first, sees_next, unbegun, walked}
use Rattle.tetri_run.proofs.sight.see_node.Goals as goal

pub feed-requires-clause-walks : goal.feed-requires-clause-walks
feed-requires-clause-walks c =
    let t = scenario c.args.trace.now in
    let s = c.args.state.now in
    (walked t s c.in-Tree.slot c.in-Tree.walk c.in-Tree.lines (2 ^ 63) (subst (λ sight. SeesSome t s sight (2 ^ 63)) c.in-Tree.is c.requires.sees)).0

pub feed-requires-clause-room : goal.feed-requires-clause-room
feed-requires-clause-room c =
    let t = scenario c.args.trace.now in
    let s = c.args.state.now in
    (walked t s c.in-Tree.slot c.in-Tree.walk c.in-Tree.lines (2 ^ 63) (subst (λ sight. SeesSome t s sight (2 ^ 63)) c.in-Tree.is c.requires.sees)).1

pub begin_slot-requires-clause-reached : goal.begin_slot-requires-clause-reached
begin_slot-requires-clause-reached c =
    let t = scenario c.args.trace.now in
    let s = c.args.state.now in
    (unbegun t s c.in-Tops.columns c.in-Tops.rows (2 ^ 63) (subst (λ sight. SeesSome t s sight (2 ^ 63)) c.in-Tops.is c.requires.sees)).0

pub begin_slot-requires-clause-in_run : goal.begin_slot-requires-clause-in_run
begin_slot-requires-clause-in_run c =
    let t = scenario c.args.trace.now in
    let s = c.args.state.now in
    (unbegun t s c.in-Tops.columns c.in-Tops.rows (2 ^ 63) (subst (λ sight. SeesSome t s sight (2 ^ 63)) c.in-Tops.is c.requires.sees)).1

pub overflow_add-lines : goal.overflow_add-lines
overflow_add-lines c =
    let t = scenario c.args.trace.now in
    let s = c.args.state.now in
    let some = walked t s c.in-Tree.slot c.in-Tree.walk c.in-Tree.lines (2 ^ 63) (subst (λ sight. SeesSome t s sight (2 ^ 63)) c.in-Tree.is c.requires.sees) in
    omega (arith, some.2)

pub returns-in_ok-feed-in-Tree : goal.returns-in_ok-feed-in-Tree
returns-in_ok-feed-in-Tree c = λ last certificate sees.
    let t = scenario c.args.trace.now in
    let s = c.args.state.now in
    sees_next t s last certificate c.in-Tree.slot c.in-Tree.walk c.feed.new.self c.in-Tree.lines c.args.mark.now (subst (Sees t last certificate s) c.in-Tree.is sees) c.in_ok-feed-in-Tree.ensures.walks

pub returns-in_ok-walk-in-Tops : goal.returns-in_ok-walk-in-Tops
returns-in_ok-walk-in-Tops c = λ last certificate sees.
    let t = scenario c.args.trace.now in
    let s = c.args.state.now in
    sees_first t s last c.begin_slot.new.state certificate c.in-Tops.columns c.in-Tops.rows c.in_ok-slot-in-Tops.slot c.in_ok-walk-in-Tops.walk c.args.mark.now
    (subst (Sees t last certificate s) c.in-Tops.is sees) c.in_ok-slot-in-Tops.ensures c.in_ok-walk-in-Tops.ensures
