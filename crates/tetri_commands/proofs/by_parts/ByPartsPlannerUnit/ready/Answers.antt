use Rattle.std.proofs.Common.{◌≡◌, ◌∙◌, ◌++◌, ◌<◌, List, ℕ, All, length, ap, refl, sym, subst}
use Rattle.tetri_report.specs.Printable.{AreJobs}
use Rattle.tetri_report.specs.Text.{events_text, launches_text}
use Rattle.tetri_space.specs.Space.{Bid, Space, space}
use Rattle.tetri_state.specs.Begin.{occurrences, occurring}
use Rattle.tetri_state.specs.Known.{AreOfJobs}
use Rattle.tetri_state.specs.After.{starting_pieces}
use Rattle.tetri_state.specs.Launch.{launched_in, starts_now, worth_launched}
use Rattle.tetri_state.specs.Planning.{IsCarry, instance_at, instance_of}
use Rattle.tetri_state.specs.Readied.{Fits, IsLaunchOf}
use Rattle.tetri_state.specs.Snapshot.{Snapshot}
use Rattle.tetri_state.proofs.StateLaws.{begun_bids, found_for, occurring_known}
use Rattle.tetri_trace.specs.Scenario.{scenario}
use Rattle.tetri_commands.specs.PartsCycle.{ArePlansByPart, PartsCycle}
use Rattle.tetri_commands.proofs.PrintLaws.{instance_of_trace, kept_within}
use Rattle.tetri_commands.proofs.PartsLemmas.{cycle_lines}
use Rattle.tetri_commands.proofs.by_parts.ByPartsPlannerUnit.ready.Goals as goal

pub plan_by_parts-requires-clause-instance : goal.plan_by_parts-requires-clause-instance
plan_by_parts-requires-clause-instance c =
    let t = scenario c.args.trace.now in
    let s = c.begin_cycle.new.self in
    instance_of_trace t s (space c.in_ok-inst.inst) (begun_bids t c.requires.sound s c.in_ok-happened.ensures.reached) c.in_ok-inst.ensures.instance c.in_ok-inst.ensures.sound

pub find_launch-requires-clause-known : goal.find_launch-requires-clause-known
find_launch-requires-clause-known c =
    let t = scenario c.args.trace.now in
    subst (λ (i : Space). All (λ (b : Bid). b.job < length t.submissions) i.bids) (sym c.in_ok-inst.ensures.instance)
    (begun_bids t c.requires.sound c.begin_cycle.new.self c.in_ok-happened.ensures.reached)

pub print_events-requires : goal.print_events-requires
print_events-requires c =
    let t = scenario c.args.trace.now in
    subst (AreOfJobs t) (sym c.in_ok-happened.ensures.happened) (occurring_known t c.requires.sound c.args.state.now c.requires.reached)

pub print_launches-requires : goal.print_launches-requires
print_launches-requires c =
    let t = scenario c.args.trace.now in
    let s = space c.in_ok-inst.inst in
    let grants = c.in_ok-plan.plan.grants in
    let known : All (λ (b : Bid). b.job < length t.submissions) s.bids =
    subst (λ (i : Space). All (λ (b : Bid). b.job < length t.submissions) i.bids) (sym c.in_ok-inst.ensures.instance)
    (begun_bids t c.requires.sound c.begin_cycle.new.self c.in_ok-happened.ensures.reached) in
    subst (AreJobs t) (sym (c.deref-2.ensures.value ∙ c.in_ok-launch.ensures.jobs ∙ ap (launched_in s) c.as_slice.ensures))
    (kept_within (length t.submissions) (λ (b : Bid). starts_now s grants b.job) s.bids known)

pub prepare_launch-requires : goal.prepare_launch-requires
prepare_launch-requires c =
    let t = scenario c.args.trace.now in
    let i = space c.in_ok-inst.inst in
    let plans = c.in_ok-plan.ensures.plan.plans in (
      t,
      found_for t c.begin_cycle.new.self c.in_ok-plan.plan.grants i c.in_ok-launch.launch c.requires.sound c.in_ok-happened.ensures.reached c.in_ok-inst.ensures.instance plans.lawful plans.thrifty
          (c.in_ok-launch.ensures.jobs ∙ ap (launched_in i) c.as_slice.ensures) (c.in_ok-launch.ensures.pieces ∙ ap (starting_pieces t i) c.as_slice.ensures),
    )

pub returns-clause-ready : goal.returns-clause-ready
returns-clause-ready c =
    let t = scenario c.args.trace.now in
    let s = c.args.state.now in
    let plan = c.in_ok-plan.ensures.plan in
    let grants = c.in_ok-plan.plan.grants in
    let carry = c.in_ok-carry.carry in
    let begun = c.in_ok-happened.ensures.state in
    let i = space c.in_ok-inst.inst in
    let found =
    found_for t c.begin_cycle.new.self grants i c.in_ok-launch.launch c.requires.sound c.in_ok-happened.ensures.reached c.in_ok-inst.ensures.instance plan.plans.lawful plan.plans.thrifty
    (c.in_ok-launch.ensures.jobs ∙ ap (launched_in i) c.as_slice.ensures) (c.in_ok-launch.ensures.pieces ∙ ap (starting_pieces t i) c.as_slice.ensures) in
    let is : space c.in_ok-inst.inst ≡ instance_at t s = c.in_ok-inst.ensures.instance ∙ ap (instance_of t) begun in
    let launched = c.in_ok-launch.ensures.jobs ∙ ap (launched_in (space c.in_ok-inst.inst)) c.as_slice.ensures in
    let cycle : PartsCycle = record {
      number = s.now;
      happened = occurring t s;
      parts = plan.parts;
      grants = grants;
      launched = launched_in (instance_at t s) grants;
    } in
    record {
      cycle = cycle;
      planned = record {
        number = refl;
        happened = refl;
        carry = carry;
        carried = subst (λ (i : Space). IsCarry i s.plan carry) is (subst (λ (q : Snapshot). IsCarry (space c.in_ok-inst.inst) q.plan carry) begun c.in_ok-carry.ensures.carry);
        plans = subst (λ (i : Space). ArePlansByPart i carry t.header.budget plan.parts grants) is plan.plans;
        launched = refl;
      };
      told = cycle_lines t cycle plan.parts _ _ _ _ _ refl
          (c.in_ok-extend_from_slice-2.ensures.items ∙ ap (λ (x : List ℕ). c.extend_from_slice.new.self.items ++ x) c.deref-3.ensures.value)
          (c.in_ok-extend_from_slice.ensures.items ∙ ap (λ (x : List ℕ). c.in_ok-text.text.items ++ x) c.deref.ensures.value)
          (c.in_ok-text.ensures ∙ ap (λ n. events_text t n (occurrences c.in_ok-happened.happened)) (ap (λ (i : Space). i.now) is) ∙ ap (events_text t s.now) c.in_ok-happened.ensures.happened)
          plan.text
          (c.in_ok-launches.ensures ∙ ap (launches_text t) (c.deref-2.ensures.value ∙ launched ∙ ap (λ (i : Space). launched_in i grants) is));
      launch = subst (λ (q : Snapshot). IsLaunchOf t q grants c.in_ok-prepared.prepared) begun (c.in_ok-prepared.ensures.launch t found);
      fits = subst (λ (q : Snapshot). Fits q c.in_ok-prepared.prepared) begun c.in_ok-prepared.ensures.fits;
      worth = c.in_ok-launch.ensures.worth ∙ ap (worth_launched (space c.in_ok-inst.inst)) c.as_slice.ensures ∙ ap (λ (i : Space). worth_launched i grants) is;
      optimal = plan.optimal;
    }
