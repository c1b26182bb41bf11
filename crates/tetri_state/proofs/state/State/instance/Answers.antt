use Rattle.std.proofs.Common.{◌≡◌, subst, sym, arith}
use Rattle.tetri_space.specs.declared.instance.Instance.{Instance}
use Rattle.tetri_space.specs.Sound.{IsSound as IsSoundSpace}
use Rattle.tetri_space.specs.Space.{space}
use Rattle.tetri_trace.specs.Scenario.{scenario}
use Rattle.tetri_state.specs.Planning.{instance_of}
use Rattle.tetri_state.proofs.InstanceLemmas.{instance_sound, jobs_arrived, nodes_there}
use Rattle.tetri_state.proofs.ReachedLemmas.{early_begun, if_ok, stands_begun}
use Rattle.tetri_state.proofs.state.State.instance.Goals as goal

pub instance_made-requires-clause-jobs : goal.instance_made-requires-clause-jobs
instance_made-requires-clause-jobs c =
    let t = scenario c.args.trace.now in
    let s = c.args.self.now in
    jobs_arrived t s c.requires.sound (stands_begun t s c.requires.sound c.requires.reached) (early_begun t s c.requires.sound c.requires.reached)

pub instance_made-requires-clause-nodes : goal.instance_made-requires-clause-nodes
instance_made-requires-clause-nodes c =
    let t = scenario c.args.trace.now in
    let s = c.args.self.now in
    nodes_there t s c.requires.sound (stands_begun t s c.requires.sound c.requires.reached) (early_begun t s c.requires.sound c.requires.reached)

pub returns-clause-sound : goal.returns-clause-sound
returns-clause-sound c =
    let t = scenario c.args.trace.now in
    let s = c.args.self.now in
    let sound = instance_sound t s c.requires.sound (stands_begun t s c.requires.sound c.requires.reached) (early_begun t s c.requires.sound c.requires.reached) in
    if_ok (λ (i : Instance). space i ≡ instance_of t s) (λ (i : Instance). IsSoundSpace (space i)) (λ i is. subst IsSoundSpace (sym is) sound)
    c.instance_made.result c.instance_made.ensures

pub instance_made-requires-clause-early : goal.instance_made-requires-clause-early
instance_made-requires-clause-early c =
    let early = early_begun (scenario c.args.trace.now) c.args.self.now c.requires.sound c.requires.reached in
    omega (arith, early)
