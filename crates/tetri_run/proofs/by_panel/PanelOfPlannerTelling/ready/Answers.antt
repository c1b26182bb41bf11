use Rattle.std.proofs.Common.{◌≡◌, ◌<◌, ◌∙◌, All, length, ap, sym, subst}
use Rattle.tetri_advice.specs.Sitting.{seats}
use Rattle.tetri_advice.proofs.AdviceLaws.{given_lawful}
use Rattle.tetri_claims.specs.Good.{BoundsEveryLawful}
use Rattle.tetri_report.specs.Block.{block}
use Rattle.tetri_space.specs.Space.{Bid, Space, space}
use Rattle.tetri_state.specs.Begin.{occurrences}
use Rattle.tetri_state.specs.Known.{AreOfJobs}
use Rattle.tetri_state.specs.Launch.{worth_launched}
use Rattle.tetri_state.specs.Planning.{IsCarry, instance_at, instance_of}
use Rattle.tetri_state.specs.Readied.{Fits, IsLaunchOf}
use Rattle.tetri_state.specs.Snapshot.{Snapshot}
use Rattle.tetri_state.proofs.StateLaws.{begun_bids, found_for, occurring_known}
use Rattle.tetri_trace.specs.Scenario.{scenario}
use Rattle.tetri_judge.specs.PlanOf.{planned}
use Rattle.tetri_plan.specs.Chosen.{IsChosen}
use Rattle.tetri_run.specs.Cycle.{IsPlanFor}
use Rattle.tetri_run.specs.Advised.{IsAdvice}
use Rattle.tetri_run.specs.Telling.{IsTold}
use Rattle.tetri_commands.proofs.PrintLaws.{instance_of_trace}
use Rattle.tetri_run.proofs.PrintLemmas.{cycle_printable}
use Rattle.tetri_run.proofs.by_panel.PanelOfPlannerTelling.ready.Goals as goal

pub told_cycle-requires-clause-known : goal.told_cycle-requires-clause-known
told_cycle-requires-clause-known g c =
    let t = scenario c.args.trace.now in
    subst (λ (i : Space). All (λ (b : Bid). b.job < length t.submissions) i.bids) (sym c.in_ok-inst.ensures.instance)
    (begun_bids t c.requires.sound c.begin_cycle.new.self c.in_ok-happened.ensures.reached)

pub told_text-requires-clause-printable : goal.told_text-requires-clause-printable
told_text-requires-clause-printable g c =
    let t = scenario c.args.trace.now in
    let s = c.begin_cycle.new.self in
    cycle_printable t (space c.in_ok-inst.inst) c.in_ok-carry.carry (block c.in_ok-told.told.cycle) t.header.budget
    (instance_of_trace t s (space c.in_ok-inst.inst) (begun_bids t c.requires.sound s c.in_ok-happened.ensures.reached) c.in_ok-inst.ensures.instance c.in_ok-inst.ensures.sound)
    (subst (AreOfJobs t) (sym (ap occurrences c.in_ok-told.ensures.happened ∙ c.in_ok-happened.ensures.happened)) (occurring_known t c.requires.sound c.args.state.now c.requires.reached))
    c.in_ok-told.ensures.plan c.in_ok-told.ensures.printable

pub told_text-requires-clause-lawful : goal.told_text-requires-clause-lawful
told_text-requires-clause-lawful g c = c.in_ok-told.ensures.plan.honest.lawful

pub told_text-requires-clause-attained : goal.told_text-requires-clause-attained
told_text-requires-clause-attained g c = c.in_ok-told.ensures.plan.honest.attained

pub told_text-requires-clause-kind : goal.told_text-requires-clause-kind
told_text-requires-clause-kind g c = c.in_ok-told.ensures.plan.certified.kind

pub prepare_launch-requires : goal.prepare_launch-requires
prepare_launch-requires g c =
    let t = scenario c.args.trace.now in
    let e = c.in_ok-told.ensures in (
      t,
      found_for t c.begin_cycle.new.self c.in_ok-told.told.cycle.grants (space c.in_ok-inst.inst) c.in_ok-told.told.launch c.requires.sound c.in_ok-happened.ensures.reached
          c.in_ok-inst.ensures.instance e.plan.honest.lawful e.plan.honest.thrifty e.jobs e.pieces,
    )

pub returns-clause-ready : goal.returns-clause-ready
returns-clause-ready g c =
    let t = scenario c.args.trace.now in
    let s = c.args.state.now in
    let b = block c.in_ok-told.told.cycle in
    let carry = c.in_ok-carry.carry in
    let sat = seats g.A.Advisor.says g.A.Advisor.misses g.A.Advisor.creed in
    let sits = sat c.args.self.now in
    let before = c.args.self.now.missed in
    let sat' = sat c.told_cycle.new.panel in
    let now = c.told_cycle.new.panel.missed in
    let chosen = c.in_ok-told.ensures.chosen in
    let given = chosen.0 in
    let begun = c.in_ok-happened.ensures.state in
    let e = c.in_ok-told.ensures in
    let found =
    found_for t c.begin_cycle.new.self b.grants (space c.in_ok-inst.inst) c.in_ok-told.told.launch c.requires.sound c.in_ok-happened.ensures.reached c.in_ok-inst.ensures.instance
    e.plan.honest.lawful e.plan.honest.thrifty e.jobs e.pieces in
    let is : space c.in_ok-inst.inst ≡ instance_at t s = c.in_ok-inst.ensures.instance ∙ ap (instance_of t) begun in
    let advice : IsAdvice sits before sat' now (instance_at t s) given = subst (λ (i : Space). IsAdvice sits before sat' now i given) is chosen.1 in
    record {
      cycle = b;
      planned = record {
        cycle = record {
          number = c.in_ok-told.ensures.number ∙ ap (λ (i : Space). i.now) is;
          happened = ap occurrences c.in_ok-told.ensures.happened ∙ c.in_ok-happened.ensures.happened;
          carry = carry;
          carried = subst (λ (i : Space). IsCarry i s.plan carry) is (subst (λ (q : Snapshot). IsCarry (space c.in_ok-inst.inst) q.plan carry) begun c.in_ok-carry.ensures.carry);
          plan = subst (λ (i : Space). IsPlanFor i t.header.budget carry b) is c.in_ok-told.ensures.plan;
        };
        bounded = subst (λ (i : Space). BoundsEveryLawful i b.bound) is c.in_ok-told.ensures.bounded;
        given = given;
        may = advice;
        lawful = given_lawful (instance_at t s) sits advice.heard given advice.consulted.asked_sits advice.consulted.asked;
        chosen = subst (λ (i : Space). IsChosen i carry given t.header.budget (planned b)) is chosen.2;
        ordered = c.in_ok-told.ensures.ordered;
        printable = c.in_ok-told.ensures.printable;
        in_range = c.in_ok-told.ensures.in_range;
      };
      told = subst (λ (i : Space). IsTold c.args.telling t i b c.in_ok-text.text.items) is c.in_ok-text.ensures;
      launch = subst (λ (q : Snapshot). IsLaunchOf t q b.grants c.in_ok-prepared.prepared) begun (c.in_ok-prepared.ensures.launch t found);
      fits = subst (λ (q : Snapshot). Fits q c.in_ok-prepared.prepared) begun c.in_ok-prepared.ensures.fits;
      worth = c.in_ok-told.ensures.worth ∙ ap (λ (i : Space). worth_launched i b.grants) is;
      optimal = c.optimal_count.ensures.value;
    }
