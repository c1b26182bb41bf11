use Rattle.std.proofs.Common.{◌∙◌, ◌<◌, All, length, sym, ap, subst}
use Rattle.std.proofs.lemmas.Result.{IfOk-weaker}
use Rattle.tetri_space.specs.Sound.{IsSound as IsSoundSpace}
use Rattle.tetri_space.specs.Space.{Bid, Space, space}
use Rattle.tetri_trace.specs.Scenario.{Scenario, scenario}
use Rattle.tetri_state.specs.After.{starting_pieces}
use Rattle.tetri_state.specs.Launch.{launched_in}
use Rattle.tetri_state.specs.Readied.{IsFoundFor, IsLaunchOf, Readied}
use Rattle.tetri_state.specs.Snapshot.{Snapshot}
use Rattle.tetri_state.proofs.InstanceLemmas.{instance_sound}
use Rattle.tetri_state.proofs.KnownLemmas.{begun_bids}
use Rattle.tetri_state.proofs.ReachedLemmas.{early_begun, stands_begun}
use Rattle.tetri_state.proofs.ReadyLemmas.{found_for}
use Rattle.tetri_state.proofs.state.State.prepare.Goals as goal

pub find_launch-requires-clause-instance : goal.find_launch-requires-clause-instance
find_launch-requires-clause-instance c =
    let t = scenario c.args.trace.now in
    let s = c.args.self.now in
    subst IsSoundSpace (sym c.requires.instance)
    (instance_sound t s c.requires.sound (stands_begun t s c.requires.sound c.requires.reached) (early_begun t s c.requires.sound c.requires.reached))

pub find_launch-requires-clause-known : goal.find_launch-requires-clause-known
find_launch-requires-clause-known c =
    let t = scenario c.args.trace.now in
    subst (λ (i : Space). All (λ (b : Bid). b.job < length t.submissions) i.bids) (sym c.requires.instance) (begun_bids t c.requires.sound c.args.self.now c.requires.reached)

pub prepare_launch-requires : goal.prepare_launch-requires
prepare_launch-requires c =
    let t = scenario c.args.trace.now in
    let i = space c.args.inst.now in (
      t,
      found_for t c.args.self.now c.args.grants.now i c.in_ok-launch.launch c.requires.sound c.requires.reached c.requires.instance c.requires.lawful c.requires.thrifty
          (c.in_ok-launch.ensures.jobs ∙ ap (launched_in i) c.as_slice.ensures) (c.in_ok-launch.ensures.pieces ∙ ap (starting_pieces t i) c.as_slice.ensures),
    )

pub returns-clause-launch : goal.returns-clause-launch
returns-clause-launch c =
    let t = scenario c.args.trace.now in
    let s : Snapshot = c.args.self.now in
    let a = c.args.grants.now in
    let l = c.in_ok-launch.launch in
    let i = space c.args.inst.now in
    let found =
    found_for t s a i l c.requires.sound c.requires.reached c.requires.instance c.requires.lawful c.requires.thrifty
    (c.in_ok-launch.ensures.jobs ∙ ap (launched_in i) c.as_slice.ensures) (c.in_ok-launch.ensures.pieces ∙ ap (starting_pieces t i) c.as_slice.ensures) in
    IfOk-weaker c.prepare_launch.result (λ (p : Readied). (u : Scenario) → IsFoundFor u s a l → IsLaunchOf u s a p) (IsLaunchOf t s a) (λ p h. h t found)
    c.prepare_launch.ensures.launch
