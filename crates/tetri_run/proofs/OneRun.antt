-- A trace has one planned run of each length with the lists of some creeds.
use Rattle.std.proofs.Common.{◌≡◌, ℕ, List, [], ◌∷◌, length, map, refl, sym, ap, subst, ◌∙◌, arith}
use Rattle.tetri_strl.specs.declared.grants.Grant.{Grant}
use Rattle.tetri_advice.specs.declared.creed.Creed.{Creed}
use Rattle.tetri_claims.specs.Good.{IsHonest}
use Rattle.tetri_claims.specs.Planned.{Planned}
use Rattle.tetri_judge.specs.PlanOf.{planned}
use Rattle.tetri_plan.specs.Chosen.{IsChosen}
use Rattle.tetri_plan.proofs.PlanLaws.{chosen_plans_are_one}
use Rattle.tetri_report.specs.Block.{Block}
use Rattle.tetri_report.specs.BlockLines.{occurrences_in}
use Rattle.tetri_space.specs.Total.{total_in}
use Rattle.tetri_state.specs.Begin.{Occurrences}
use Rattle.tetri_state.specs.Launch.{launched_in, start_of}
use Rattle.tetri_state.specs.Snapshot.{Snapshot}
use Rattle.tetri_trace.specs.Scenario.{Scenario}
use Rattle.tetri_run.specs.Advised.{AreListsOf}
use Rattle.tetri_run.specs.Cycle.{IsPlannedCycle}
use Rattle.tetri_run.specs.Run.{IsPlannedRun, state_behind}
use Rattle.tetri_run.proofs.CheckLemmas.{carry_same}
use Rattle.tetri_state.specs.Planning.{instance_at}

-- a cycle by its parts
abbrev block_by : ℕ → Occurrences → Planned → List ℕ → List ℕ → Block
block_by number o p starts launched = record {
  number = number;
  ended = o.ended;
  cancelled = o.cancelled;
  failed = o.failed;
  over = o.over;
  expired = o.expired;
  value = p.value;
  bound = p.bound;
  mark = p.mark;
  nodes = p.nodes;
  grants = p.grants;
  starts = starts;
  certificate = p.certificate;
  launched = launched;
}

module _ (t : Scenario) (cs : List Creed) where
  -- one cycle is planned in a state
  one_cycle : (s : Snapshot) (b other : Block) → IsPlannedCycle (AreListsOf cs) t s b → IsPlannedCycle (AreListsOf cs) t s other → b ≡ other
  one_cycle s b other is are =
      let i = instance_at t s in
      let carry = is.cycle.carry in
      let given = is.given in
      let carried = carry_same i s.plan are.cycle.carry carry are.cycle.carried is.cycle.carried in
      let gives : are.given ≡ given = are.may ∙ sym is.may in
      let chosen : IsChosen i carry given t.header.budget (planned other) =
      subst (λ (gs : List (List Grant)). IsChosen i carry gs t.header.budget (planned other)) gives
      (subst (λ (c : List Grant). IsChosen i c are.given t.header.budget (planned other)) carried are.chosen) in
      let plan : planned b ≡ planned other = chosen_plans_are_one i (total_in i carry) carry given t.header.budget (planned b) (planned other) is.cycle.plan.honest
      (subst (λ (c : List Grant). IsHonest i (total_in i c) (planned other)) carried are.cycle.plan.honest) is.chosen chosen in
      let grants : b.grants ≡ other.grants = ap (λ (p : Planned). p.grants) plan in
      ap (λ (n : ℕ). block_by n (occurrences_in b) (planned b) b.starts b.launched) (is.cycle.number ∙ sym are.cycle.number)
      ∙ ap (λ (o : Occurrences). block_by other.number o (planned b) b.starts b.launched) (is.cycle.happened ∙ sym are.cycle.happened)
      ∙ ap (λ (p : Planned). block_by other.number (occurrences_in other) p b.starts b.launched) plan
      ∙ ap (λ (ns : List ℕ). block_by other.number (occurrences_in other) (planned other) ns b.launched) (is.cycle.plan.starts ∙ ap (map (start_of i)) grants ∙ sym are.cycle.plan.starts)
      ∙ ap (block_by other.number (occurrences_in other) (planned other) other.starts) (is.cycle.plan.launched ∙ ap (launched_in i) grants ∙ sym are.cycle.plan.launched)

  pub one_run : (past others : List Block) → IsPlannedRun (AreListsOf cs) t past → IsPlannedRun (AreListsOf cs) t others → length past ≡ length others → past ≡ others
  one_run [] [] run runs as_long = refl
  one_run [] (c ∷ others) run runs as_long = absurd (omega (arith, as_long))
  one_run (b ∷ past) [] run runs as_long = absurd (omega (arith, as_long))
  one_run (b ∷ past) (c ∷ others) run runs as_long =
      let rest : past ≡ others = one_run past others run.2 runs.2 (omega (arith, as_long)) in
      let here : b ≡ c = one_cycle (state_behind t others) b c (subst (λ (bs : List Block). IsPlannedCycle (AreListsOf cs) t (state_behind t bs) b) rest run.1) runs.1 in
      cc
