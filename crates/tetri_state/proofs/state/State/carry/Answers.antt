use Rattle.std.proofs.Common.{◌∙◌, sym, ap, subst, is_ok}
use Rattle.tetri_space.specs.Sound.{IsSound as IsSoundSpace}
use Rattle.tetri_space.specs.Space.{space}
use Rattle.tetri_trace.specs.Scenario.{scenario}
use Rattle.tetri_space.specs.Trimmed.{IsThriftyForAll}
use Rattle.tetri_state.specs.Planning.{instance_of}
use Rattle.tetri_state.specs.Snapshot.{Snapshot}
use Rattle.tetri_state.proofs.CarryLemmas.{carried, carried_none, carried_thrifty, nothing_thrifty}
use Rattle.tetri_state.proofs.InstanceLemmas.{instance_sound}
use Rattle.tetri_state.proofs.ReachedLemmas.{early_begun, stands_begun}
use Rattle.tetri_state.proofs.state.State.carry.Goals as goal

pub still_pending-requires : goal.still_pending-requires
still_pending-requires c =
    let t = scenario c.args.trace.now in
    let s = c.args.self.now in
    subst IsSoundSpace (sym c.requires.instance)
    (instance_sound t s c.requires.sound (stands_begun t s c.requires.sound c.requires.reached) (early_begun t s c.requires.sound c.requires.reached))

pub lawful-requires : goal.lawful-requires
lawful-requires c =
    let t = scenario c.args.trace.now in
    let s = c.args.self.now in
    subst IsSoundSpace (sym c.requires.instance)
    (instance_sound t s c.requires.sound (stands_begun t s c.requires.sound c.requires.reached) (early_begun t s c.requires.sound c.requires.reached))

pub returns-in-Ok-clause-carry : goal.returns-in-Ok-clause-carry
returns-in-Ok-clause-carry c =
    let t = scenario c.args.trace.now in
    let s : Snapshot = c.args.self.now in
    carried t s c.requires.sound (stands_begun t s c.requires.sound c.requires.reached) (early_begun t s c.requires.sound c.requires.reached) (space c.args.inst.now) c.requires.instance c.in_ok-kept.kept
    c.as_slice.result.now (c.as_slice.ensures ∙ ap (λ (r : Snapshot). r.plan) c.self.view_is) c.in_ok-kept.ensures (c.lawful.ensures.ok.0 (ap is_ok c.in-Ok.is))

pub returns-in-Ok-clause-thrifty : goal.returns-in-Ok-clause-thrifty
returns-in-Ok-clause-thrifty c =
    let t = scenario c.args.trace.now in
    let s : Snapshot = c.args.self.now in
    carried_thrifty t s c.requires.sound (stands_begun t s c.requires.sound c.requires.reached) (early_begun t s c.requires.sound c.requires.reached) (space c.args.inst.now) c.requires.instance c.in_ok-kept.kept
    c.as_slice.result.now (c.as_slice.ensures ∙ ap (λ (r : Snapshot). r.plan) c.self.view_is) c.in_ok-kept.ensures

pub returns-in-Err-clause-carry : goal.returns-in-Err-clause-carry
returns-in-Err-clause-carry c =
    let t = scenario c.args.trace.now in
    let s : Snapshot = c.args.self.now in
    carried_none t s c.requires.sound (stands_begun t s c.requires.sound c.requires.reached) (early_begun t s c.requires.sound c.requires.reached) (space c.args.inst.now) c.requires.instance c.in_ok-kept.kept
    c.as_slice.result.now (c.as_slice.ensures ∙ ap (λ (r : Snapshot). r.plan) c.self.view_is) c.in_ok-kept.ensures c.new.result c.new.ensures
    (λ lawful. let e = sym (ap is_ok c.in-Err.is) ∙ c.lawful.ensures.ok.1 lawful in absurd cc)

pub returns-in-Err-clause-thrifty : goal.returns-in-Err-clause-thrifty
returns-in-Err-clause-thrifty c =
    let t = scenario c.args.trace.now in
    let s : Snapshot = c.args.self.now in
    subst (λ k. IsThriftyForAll k c.new.result) (sym c.requires.instance)
    (subst (IsThriftyForAll (instance_of t s)) (sym c.new.ensures) (nothing_thrifty t s c.requires.sound (stands_begun t s c.requires.sound c.requires.reached) (early_begun t s c.requires.sound c.requires.reached)))
