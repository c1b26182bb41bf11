use Rattle.std.proofs.Common.{◌≡◌, ◌<◌, ◌∙◌, All, List, ap, length, map, subst, sym}
use Rattle.tetri_space.specs.Lawful.{IsLawful}
use Rattle.tetri_space.specs.Space.{Bid, Space, space}
use Rattle.tetri_space.specs.Total.{total_in}
use Rattle.tetri_space.specs.Trimmed.{IsThriftyForAll}
use Rattle.tetri_state.specs.After.{starting_pieces}
use Rattle.tetri_state.specs.Begin.{occurrences}
use Rattle.tetri_state.specs.Launch.{launched_in, start_of, worth_launched}
use Rattle.tetri_state.proofs.StateLaws.{begun_bids}
use Rattle.tetri_trace.specs.Scenario.{scenario}
use Rattle.tetri_policy.specs.Policies.{policy_grants}
use Rattle.tetri_policy.proofs.observing.decide.Goals as goal

pub find_launch-requires-clause-known : goal.find_launch-requires-clause-known
find_launch-requires-clause-known c =
    let t = scenario c.args.trace.now in
    subst (λ (i : Space). All (λ (b : Bid). b.job < length t.submissions) i.bids) (sym c.in_ok-inst.ensures.instance)
    (begun_bids t c.requires.sound c.begin_cycle.new.self c.in_ok-happened.ensures.reached)

pub returns : goal.returns
returns c =
    let t = scenario c.args.trace.now in
    let i = space c.in_ok-inst.inst in
    let own = c.in_ok-head.ensures.grants in
    let by_policy = own ∙ c.in_ok-grants.ensures in
    let given = c.as_slice.ensures ∙ sym own in
    let launch = c.in_ok-launch.ensures in
    record {
      before = c.requires.reached;
      in_run = c.requires.in_run;
      state = c.in_ok-happened.ensures.state;
      reached = c.in_ok-happened.ensures.reached;
      instance = c.in_ok-inst.ensures.instance;
      sound = c.in_ok-inst.ensures.sound;
      held = c.in_ok-held.ensures;
      happened = ap occurrences c.in_ok-head.ensures.happened ∙ c.in_ok-happened.ensures.happened;
      number = c.in_ok-head.ensures.number;
      grants = by_policy;
      lawful = subst (IsLawful i) (sym by_policy) (c.policies_are_lawful.ensures.lawful c.args.policy);
      thrifty = subst (IsThriftyForAll i) (sym by_policy) (c.policies_are_lawful.ensures.thrifty c.args.policy);
      value = c.in_ok-head.ensures.value ∙ ap (total_in i) (sym own);
      bound = c.in_ok-head.ensures.bound;
      mark = c.in_ok-head.ensures.mark;
      unsearched = c.in_ok-head.ensures.unsearched;
      starts = c.in_ok-head.ensures.starts ∙ launch.starts ∙ ap (map (start_of i)) given;
      launched = c.in_ok-head.ensures.launched ∙ launch.jobs ∙ ap (launched_in i) given;
      jobs = launch.jobs ∙ ap (launched_in i) given;
      pieces = launch.pieces ∙ ap (starting_pieces t i) given;
      worth = launch.worth ∙ ap (worth_launched i) given;
    }
