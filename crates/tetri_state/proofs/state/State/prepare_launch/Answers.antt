use Rattle.std.proofs.Common.{◌≡◌, ◌∙◌, List, filter, length, sym, ap, subst, arith}
use Rattle.std.specs.List.Sorted.{IsStrictlyIncreasing}
use Rattle.tetri_base.specs.Lists.{has}
use Rattle.tetri_base.proofs.ListLaws.{filter-ascends}
use Rattle.tetri_strl.specs.declared.grants.Grant.{Grant}
use Rattle.tetri_trace.specs.Scenario.{Scenario}
use Rattle.tetri_state.specs.After.{pieces_of}
use Rattle.tetri_state.specs.Launch.{starts_now}
use Rattle.tetri_state.specs.Planning.{instance_of}
use Rattle.tetri_state.specs.Readied.{IsFoundFor}
use Rattle.tetri_state.specs.Snapshot.{Snapshot}
use Rattle.tetri_state.specs.declared.launches.Launch.{Launch}
use Rattle.tetri_state.proofs.Ascending.{ascend_to}
use Rattle.tetri_state.proofs.ReachedLemmas.{early_begun, stands_begun}
use Rattle.tetri_state.proofs.ReadyLemmas.{launched_is, part_is, pieces_alike}
use Rattle.tetri_state.proofs.state.State.prepare_launch.Goals as goal

-- the jobs that were found are some of those that are pending
module _ (t : Scenario) (s : Snapshot) (a : List Grant) (l : Launch) (found : IsFoundFor t s a l) where
  pending : l.jobs.items ≡ filter (starts_now (instance_of t s) a) s.pending
  pending = found.jobs ∙ launched_is t s a

  ascending : IsStrictlyIncreasing l.jobs.items
  ascending =
      subst IsStrictlyIncreasing (sym pending)
      (ascend_to (filter (starts_now (instance_of t s) a) s.pending)
      (filter-ascends (starts_now (instance_of t s) a) s.pending (stands_begun t s found.sound found.reached).ascending))

  part : l.jobs.items ≡ filter (has l.jobs.items) s.pending
  part = pending ∙ part_is (starts_now (instance_of t s) a) s.pending ∙ ap (λ js. filter (has js) s.pending) (sym pending)

pub invariant_of-result : goal.invariant_of-result
invariant_of-result c = (ascending c.requires.0 c.args.self.now c.args.grants.now c.args.launch c.requires.1, c.in_ok-room.ensures.items)

pub returns-clause-launch : goal.returns-clause-launch
returns-clause-launch c = λ t found.
    let s : Snapshot = c.args.self.now in
    let a = c.args.grants.now in
    record {
      plan = found.plan;
      jobs = found.jobs;
      pieces =
          found.pieces
          ∙ ap (pieces_of t (instance_of t s))
          (pieces_alike t s found.sound (stands_begun t s found.sound found.reached) (early_begun t s found.sound found.reached) a found.plan);
      grants = c.in_ok-copy_grants.ensures;
    }

pub returns-clause-fits : goal.returns-clause-fits
returns-clause-fits c =
    let s : Snapshot = c.args.self.now in
    let t = c.requires.0 in
    let found = c.requires.1 in
    record {
      early = omega (arith, early_begun t s found.sound found.reached);
      pending = part t s c.args.grants.now c.args.launch found;
      room = omega (
        arith,
        c.in_ok-room.ensures.exact,
        c.len.ensures,
        c.len-2.ensures,
        c.self.inside.pieces.ok.0,
        c.args.launch.pieces.ok.0,
        ap (λ (r : Snapshot). length r.pieces) c.self.view_is,
      );
    }
