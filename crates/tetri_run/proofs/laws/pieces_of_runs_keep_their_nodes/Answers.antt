use Rattle.std.proofs.Common.{sym, subst, inl, inr, ⊎_elim}
use Rattle.std.specs.Prelude.{Contains}
use Rattle.tetri_state.specs.Begin.{Occurrences, begin, named}
use Rattle.tetri_state.specs.Reached.{between}
use Rattle.tetri_trace.specs.Scenario.{scenario}
use Rattle.tetri_run.specs.Run.{state_behind}
use Rattle.tetri_run.proofs.RunLemmas.{run_begins, run_reaches}
use Rattle.tetri_run.proofs.laws.pieces_of_runs_keep_their_nodes.Goals as goal

pub returns-clause-apart : goal.returns-clause-apart
returns-clause-apart c = λ past run.
    let t = scenario c.args.trace.now in
    c.no_two_running_pieces_share_a_node.ensures between (state_behind t past) (run_reaches t past run)

pub returns-clause-runs_on : goal.returns-clause-runs_on
returns-clause-runs_on c = λ past b p run here.
    let t = scenario c.args.trace.now in
    let s = state_behind t past in
    let told = sym run.1.happened in
    ⊎_elim
    (λ on. inl (on.0, c.running_pieces_run_on_unless_told.ensures.stays (begin t s) b.grants on.0 on.1, on.2))
    (λ ends.
    inr
    (⊎_elim
    (λ ended. inl (subst (λ (o : Occurrences). Contains o.ended (named p)) told ended))
    (λ stopped.
    inr
    (⊎_elim
    (λ cancelled. inl (subst (λ (o : Occurrences). Contains o.cancelled p.job) told cancelled))
    (λ failed. inr (subst (λ (o : Occurrences). Contains o.failed p.job) told failed))
    stopped))
    ends))
    (c.running_pieces_run_on_unless_told.ensures.runs_on s p here)

pub returns-clause-taken : goal.returns-clause-taken
returns-clause-taken c = λ past b p n g l run here node granted leaf covers holds.
    let t = scenario c.args.trace.now in
    let s = begin t (state_behind t past) in
    c.nodes_of_running_pieces_are_taken.ensures.not_granted s p n b.grants g l (run_begins t past b run) here node run.1.plan.honest.lawful granted leaf covers holds
