-- What advisors bring about in a run.
use Rattle.std.proofs.Common.{◌≡◌, ◌∙◌, ⊎_elim, ℕ, suc, ◌+◌, ◌<◌, ◌≤◌, List, [], ◌∷◌, length, refl, sym, subst, arith}
use Rattle.std.specs.Prelude.{Contains}
use Rattle.std.proofs.lemmas.List.Elements.{All-contains, All-weaker}
use Rattle.tetri_algebra.specs.Counts.{Rose}
use Rattle.tetri_advice.specs.Creeds.{greedy_list}
use Rattle.tetri_advice.specs.Heard.{Heard, IsGiven, StillSit}
use Rattle.tetri_advice.specs.Seat.{Seat, creeds_of}
use Rattle.tetri_advice.specs.declared.creed.Creed.{Creed}
use Rattle.tetri_advice.proofs.AdviceLaws.{heard_cycle, rose_on, still_sit}
use Rattle.tetri_plan.specs.Advised.{IsWorthAtMost}
use Rattle.tetri_plan.specs.Chosen.{kept}
use Rattle.tetri_judge.specs.PlanOf.{planned}
use Rattle.tetri_report.specs.Block.{Block}
use Rattle.tetri_space.specs.Sound.{IsSound as IsSoundSpace}
use Rattle.tetri_space.specs.Space.{Space}
use Rattle.tetri_space.specs.Total.{total_in}
use Rattle.tetri_state.specs.Begin.{begin}
use Rattle.tetri_state.specs.Reached.{IsReached, between}
use Rattle.tetri_state.specs.Snapshot.{Snapshot}
use Rattle.tetri_state.proofs.StateLaws.{begin_reached, early_begun, instance_sound, stands_begun}
use Rattle.tetri_strl.specs.declared.grants.Grant.{Grant}
use Rattle.tetri_trace.specs.Scenario.{Scenario}
use Rattle.tetri_trace.specs.Sound.{IsSound}
use Rattle.tetri_plan.proofs.PlanLaws.{carried_worth, chosen_bounds, given_bounds, kept_bounds, unfound_worth}
use Rattle.tetri_run.specs.Advised.{AreListsOf, BeginsWithin, IsAdvice, IsAdvisedRun, IsOnlyRun, IsWorthCreeds, IsWorthFirst, by_panel}
use Rattle.tetri_run.specs.Cycle.{IsPlannedCycle}
use Rattle.tetri_run.specs.Run.{AnyLists, IsPlannedRun, IsRunOf, state_behind}
use Rattle.tetri_run.proofs.OneRun.{one_run}
use Rattle.tetri_run.proofs.RunLemmas.{run_of, run_reaches}
use Rattle.tetri_run.specs.Telling.{block_cycles}
use Rattle.tetri_cycles.specs.Progress.{ArePlanned, IsRunBy}
use Rattle.tetri_cycles.proofs.CycleLaws.{now_behind}
use Rattle.tetri_state.specs.Planning.{instance_at}

-- ---- lists that may be given
-- what was planned with lists that may be given so was planned with lists that may be given otherwise
module _ (M N : Space → List (List Grant) → Type 0) (t : Scenario) where
  pub cycle_weakens : (s : Snapshot) (b : Block) → ((given : List (List Grant)) → M (instance_at t s) given → N (instance_at t s) given) → IsPlannedCycle M t s b → IsPlannedCycle N t s b
  cycle_weakens s b weaker c = record {
    cycle = c.cycle;
    bounded = c.bounded;
    given = c.given;
    may = weaker c.given c.may;
    lawful = c.lawful;
    chosen = c.chosen;
    ordered = c.ordered;
    printable = c.printable;
    in_range = c.in_range;
  }

  pub run_weakens : ((i : Space) (given : List (List Grant)) → M i given → N i given) → (past : List Block) → IsPlannedRun M t past → IsPlannedRun N t past
  run_weakens weaker [] run = tt
  run_weakens weaker (b ∷ past) run =
      let s = state_behind t past in
      (run.0, cycle_weakens s b (weaker (instance_at t s)) run.1, run_weakens weaker past run.2)

-- whatever lists were given
pub any_run : (sat : List Seat) (before now : ℕ) (t : Scenario) (past : List Block) → IsAdvisedRun sat before now t past → IsPlannedRun AnyLists t past
any_run sat before now t past advised = run_weakens (Heard sat before now) AnyLists t (λ i given heard. tt) past advised.run

-- a count that rose stays risen, so that less is said of it
heard_weakens : (sat : List Seat) (start before now : ℕ) (i : Space) (given : List (List Grant)) → before ≤ now → Heard sat start before i given → Heard sat start now i given
heard_weakens sat start before now i given later heard = record {
  nobody = heard.nobody;
  creeds = λ tell calm. heard.creeds tell (λ rose. calm (rose_on start before now later rose));
  each = λ calm. heard.each (λ rose. calm (rose_on start before now later rose));
  first = λ at_first calm. heard.first at_first (λ rose. calm (rose_on start before now later rose));
}

pub run_heard_on : (t : Scenario) (sat : List Seat) (start before now : ℕ) (past : List Block) → before ≤ now → IsPlannedRun (Heard sat start before) t past →
    IsPlannedRun (Heard sat start now) t past
run_heard_on t sat start before now past later run =
    run_weakens (Heard sat start before) (Heard sat start now) t (λ i given heard. heard_weakens sat start before now i given later heard) past run

-- what was given to a cycle is what those say who sat as the run began
pub cycle_heard : (t : Scenario) (s : Snapshot) (b : Block) (sat sits sat' : List Seat) (start before now : ℕ) → StillSit sat s.now sits → start ≤ before →
    IsPlannedCycle (IsAdvice sits before sat' now) t s b → IsPlannedCycle (Heard sat start now) t s b
cycle_heard t s b sat sits sat' start before now still later planned =
    cycle_weakens (IsAdvice sits before sat' now) (Heard sat start now) t s b
    (λ given advice. heard_cycle (instance_at t s) sat sits sat' advice.heard given start before now still later advice.consulted) planned

-- who still sits behind that cycle
pub still_behind : (t : Scenario) (s : Snapshot) (b : Block) (sat sits sat' : List Seat) (before now number next : ℕ) → next ≡ number + 1 → StillSit sat number sits →
    IsPlannedCycle (IsAdvice sits before sat' now) t s b → StillSit sat next sat'
still_behind t s b sat sits sat' before now number next e still planned =
    still_sit (instance_at t s) sat sits sat' planned.may.heard planned.given number next before now e still planned.may.consulted

-- ---- what is true of each cycle
module _ (t : Scenario) (sound : IsSound t) where
  instance_is_sound : (s : Snapshot) → IsReached t between s → s.now < t.header.until → IsSoundSpace (instance_at t s)
  instance_is_sound s reached more =
      let there = begin_reached t s reached more in
      instance_sound t (begin t s) sound (stands_begun t (begin t s) sound there) (early_begun t (begin t s) sound there)

  module _ (M : Space → List (List Grant) → Type 0) where
    -- what is true of each planned cycle with a sound instance is true of each cycle of a run
    pub each_cycle : (IsSuch : Scenario → Snapshot → Block → Type 0) → ((s : Snapshot) (b : Block) → IsSoundSpace (instance_at t s) → IsPlannedCycle M t s b → IsSuch t s b) → (past : List Block) →
        IsPlannedRun M t past → IsRunOf IsSuch t past
    each_cycle IsSuch such [] run = tt
    each_cycle IsSuch such (b ∷ past) run =
        let s = state_behind t past in
        (run.0, such s b (instance_is_sound s (run_reaches t past (run_of M t past run.2)) run.0) run.1, each_cycle IsSuch such past run.2)

    -- what the search of a cycle begins with is worth no more than its plan
    kept_worth : (s : Snapshot) (b : Block) → IsSoundSpace (instance_at t s) → (c : IsPlannedCycle M t s b) → total_in (instance_at t s) (kept (instance_at t s) c.cycle.carry c.given) ≤ b.value
    kept_worth s b right c = chosen_bounds (instance_at t s) right c.cycle.carry c.given t.header.budget (planned b) c.chosen c.cycle.plan.honest.attained

    -- so is each list that was given
    given_worth : (s : Snapshot) (b : Block) → IsSoundSpace (instance_at t s) → (c : IsPlannedCycle M t s b) (g : List Grant) → Contains c.given g → total_in (instance_at t s) g ≤ b.value
    given_worth s b right c g there =
        let i = instance_at t s in
        let least = All-contains (λ (a : List Grant). total_in i a ≤ total_in i (kept i c.cycle.carry c.given)) c.given g (given_bounds i right c.cycle.carry c.given) there in
        omega (arith, least, kept_worth s b right c)

    -- with what its search begins
    begins_within : (s : Snapshot) (b : Block) → IsSoundSpace (instance_at t s) → (c : IsPlannedCycle M t s b) → BeginsWithin (instance_at t s) c.cycle.carry c.given b.value b.certificate
    begins_within s b right c =
        let i = instance_at t s in
        record {
          carried = kept_bounds i right c.cycle.carry c.given;
          each = given_bounds i right c.cycle.carry c.given;
          most = kept_worth s b right c;
          no_whole = unfound_worth i right c.cycle.carry c.given t.header.budget (planned b) c.chosen c.cycle.plan.honest.attained;
          alone = λ none. subst (λ (gs : List (List Grant)). total_in i (kept i c.cycle.carry gs) ≡ total_in i c.cycle.carry) (sym none) (carried_worth i right c.cycle.carry);
        }

    pub run_begins_within : (past : List Block) (b : Block) → (run : IsPlannedRun M t (b ∷ past)) → BeginsWithin (instance_at t (state_behind t past)) run.1.cycle.carry run.1.given b.value b.certificate
    run_begins_within past b run = begins_within (state_behind t past) b (instance_is_sound (state_behind t past) (run_reaches t past (run_of M t past run.2)) run.0) run.1

  -- ---- a run that a panel advised
  module _ (sat : List Seat) (before now : ℕ) where
    first_worth : (Rose before now → ⊥) → (s : Snapshot) (b : Block) → IsSoundSpace (instance_at t s) → IsPlannedCycle (Heard sat before now) t s b → IsWorthFirst sat t s b
    first_worth calm s b right c = λ at_first.
        All-weaker (IsGiven (instance_at t s) c.given) (IsWorthAtMost (instance_at t s) b.value)
        (λ a given lawful. given_worth (Heard sat before now) s b right c (a.says (instance_at t s)) (given lawful)) sat (c.may.first at_first calm)

    creeds_worth : (Rose before now → ⊥) → (s : Snapshot) (b : Block) → IsSoundSpace (instance_at t s) → IsPlannedCycle (Heard sat before now) t s b → IsWorthCreeds (creeds_of sat) t s b
    creeds_worth calm s b right c =
        let i = instance_at t s in
        All-weaker (λ d. Contains c.given (greedy_list d i)) (λ d. total_in i (greedy_list d i) ≤ b.value)
        (λ d there. given_worth (Heard sat before now) s b right c (greedy_list d i) there) (creeds_of sat) (c.may.each calm)

    only_run : (cs : List Creed) (past : List Block) → IsPlannedRun (AreListsOf cs) t past → IsOnlyRun cs t past
    only_run cs past run = record { run = run; only = λ others runs as_long. one_run t cs others past runs run as_long }

    pub advised_run : (past : List Block) → IsPlannedRun (Heard sat before now) t past → IsAdvisedRun sat before now t past
    advised_run past run = record {
      run = run;
      first = λ calm. each_cycle (Heard sat before now) (IsWorthFirst sat) (first_worth calm) past run;
      each = λ calm. each_cycle (Heard sat before now) (IsWorthCreeds (creeds_of sat)) (creeds_worth calm) past run;
      exact = λ tell calm.
          only_run (creeds_of sat) past (run_weakens (Heard sat before now) (AreListsOf (creeds_of sat)) t (λ i given heard. heard.creeds tell calm) past run);
      alone = λ nobody. only_run [] past (run_weakens (Heard sat before now) (AreListsOf []) t (λ i given heard. heard.nobody nobody) past run);
    }

-- ---- a run that a panel planned
-- of advisors that sat and of a count of misses, as these read them from a panel
module _ {Panel : Type 0} (sat : Panel → List Seat) (missed : Panel → ℕ) (t : Scenario) where
  -- what is true of a panel behind the cycles that it planned
  record HasPlanned (first now : Panel) (past : List Block) : Type 0 where
    run : IsPlannedRun (Heard (sat first) (missed first) (missed now)) t past
    still : StillSit (sat first) (length past) (sat now)
    later : missed first ≤ missed now

  has_planned : (first now : Panel) (past : List Block) → ArePlanned (by_panel sat missed) first now t past → HasPlanned first now past
  has_planned first now [] same = subst (λ (p : Panel). HasPlanned first p []) (sym same) (record {
    run = tt;
    still = record { creeds = refl; fewer = omega arith; first = λ e. refl };
    later = omega arith;
  })
  has_planned first now (b ∷ past) (before, (step, rest)) =
      let had = has_planned first before past rest in
      let s = state_behind t past in
      let here : length past ≡ s.now = sym (now_behind block_cycles t past) in
      let still : StillSit (sat first) s.now (sat before) = subst (λ n. StillSit (sat first) n (sat before)) here had.still in
      record {
        run = (
          step.in_run,
          cycle_heard t s b (sat first) (sat before) (sat now) (missed first) (missed before) (missed now) still had.later step.planned,
          run_heard_on t (sat first) (missed first) (missed before) (missed now) past step.follows.1 had.run,
        );
        still = still_behind t s b (sat first) (sat before) (sat now) (missed before) (missed now) (length past) (suc (length past)) (omega arith) had.still step.planned;
        later = omega (arith, had.later, step.follows.1);
      }

  -- what is left of a panel that planned some cycles
  pub panel_stays : (first now : Panel) (past : List Block) → IsRunBy (by_panel sat missed) first now t past → (creeds_of (sat now) ≡ creeds_of (sat first)) × (missed first ≤ missed now)
  panel_stays first now past ran =
      let had = has_planned first ran.last past ran.planned in
      ⊎_elim (λ same. subst (λ (p : Panel). (creeds_of (sat p) ≡ creeds_of (sat first)) × (missed first ≤ missed p)) (sym same) (had.still.creeds, had.later))
      (λ left. (left.0 ∙ had.still.creeds, omega (arith, had.later, left.1))) ran.left

  -- a run that a panel planned is one that it advised
  pub panel_run : IsSound t → (first now : Panel) (past : List Block) → IsRunBy (by_panel sat missed) first now t past → IsAdvisedRun (sat first) (missed first) (missed now) t past
  panel_run sound first now past ran =
      let had = has_planned first ran.last past ran.planned in
      let later : missed ran.last ≤ missed now =
      ⊎_elim (λ same. subst (λ (p : Panel). missed ran.last ≤ missed p) (sym same) (omega arith)) (λ left. left.1) ran.left in
      advised_run t sound (sat first) (missed first) (missed now) past (run_heard_on t (sat first) (missed first) (missed ran.last) (missed now) past later had.run)
