use Rattle.std.proofs.Common.{◌≡◌, ◌<◌, List, ℕ, length, sym, subst}
use Rattle.std.specs.Prelude.{IsTrue, Option, map, slice_index_or}
use Rattle.tetri_trace.specs.Scenario.{submission}
use Rattle.tetri_trace.specs.declared.trace.Job.{Job}
use Rattle.tetri_workload.specs.Saying.{nodes_asked, nodes_wanted}
use Rattle.tetri_workload.proofs.SameLemmas.{same_at}
use Rattle.tetri_workload.proofs.confirming.have_seats.Goals as goal

pub returns-then-not-alike : goal.returns-then-not-alike
returns-then-not-alike c =
    let within : c.loop-i.i < length c.args.wanted.now = subst (λ n. c.loop-i.i < n) c.if-jobs-wanted.false c.loop-i-test.true in
    let seat : Job → Option (List ℕ) = λ j. nodes_asked c.args.sets.now (submission j) in
    let set : List ℕ → Option (List ℕ) = nodes_wanted c.args.nodes.now in
    let here : map seat c.args.jobs.now ≡ map set c.args.wanted.now → seat c.index-jobs-i.result ≡ set c.index-wanted-i.result = λ same.
    subst (λ j. seat j ≡ set c.index-wanted-i.result) (sym c.index-jobs-i.is) (subst (λ w. seat (slice_index_or c.args.jobs.now c.loop-i.i c.index-jobs-i.result) ≡ set w) (sym c.index-wanted-i.is)
    (same_at seat set c.args.jobs.now c.args.wanted.now c.loop-i.i c.index-jobs-i.result c.index-wanted-i.result same c.loop-i-test.true within)) in
    ((λ e. absurd (cc)), (λ same. subst IsTrue c.if-not-alike.true (c.in_ok-alike.ensures.seat.1 (here same))))
