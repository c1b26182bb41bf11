-- What a policy decides makes a cycle, and how a run grows by one.
use Rattle.std.proofs.Common.{◌≡◌, ℕ, ◌+◌, List, [], ◌∷◌, ◌++◌, length, map, refl, sym, ap, ◌∙◌, subst, arith}
use Rattle.std.proofs.lemmas.List.{length-append}
use Rattle.tetri_cert.specs.declared.certificate.Certificate.{Certificate}
use Rattle.tetri_cycles.specs.Observed.{IsShown, Observed, behind, next}
use Rattle.tetri_cycles.specs.declared.observer.SeenSlot.{SeenSlot}
use Rattle.tetri_cycles.proofs.CycleLaws.{behind_last, observed_last}
use Rattle.tetri_report.specs.Block.{Block, headed}
use Rattle.tetri_space.specs.Lawful.{IsLawful}
use Rattle.tetri_space.specs.Sound.{IsSound as IsSoundSpace}
use Rattle.tetri_space.specs.Space.{Space, space}
use Rattle.tetri_space.specs.Total.{tops_in, total_in}
use Rattle.tetri_space.specs.Trimmed.{IsThriftyForAll}
use Rattle.tetri_space.specs.declared.instance.Instance.{Instance}
use Rattle.tetri_state.specs.After.{after}
use Rattle.tetri_state.specs.Launch.{launched_in, start_of, worth_launched}
use Rattle.tetri_state.specs.Planning.{instance_at, instance_of}
use Rattle.tetri_state.specs.Readied.{IsFoundFor}
use Rattle.tetri_state.specs.Snapshot.{Snapshot, opening_state}
use Rattle.tetri_state.proofs.StateLaws.{found_for}
use Rattle.tetri_trace.specs.Scenario.{Scenario}
use Rattle.tetri_trace.specs.Sound.{IsSound}
use Rattle.tetri_policy.specs.Decided.{IsDecided}
use Rattle.tetri_policy.specs.Policies.{policy_grants}
use Rattle.tetri_policy.specs.Run.{ArePolicyCycles, IsPolicyCycle, RanCycle, RanCycles}
use Rattle.tetri_policy.specs.declared.observing.Decided.{Decided}
use Rattle.tetri_policy.specs.declared.policy.Policy.{Policy}

-- What a slot in which the policy has decided makes of it, where it began in this state.
module _ (p : Policy) (t : Scenario) (s begun : Snapshot) (d : Decided) (decided : IsDecided p t s begun d) where
  is : space d.inst ≡ instance_at t s
  is = decided.instance ∙ ap (instance_of t) decided.state

  pub found : IsSound t → IsFoundFor t begun d.head.grants d.launch
  found sound =
      found_for t begun d.head.grants (space d.inst) d.launch sound decided.reached decided.instance decided.lawful decided.thrifty decided.jobs decided.pieces

  module _ (c : Certificate) where
    pub cycle : IsPolicyCycle p t s (headed d.head c)
    cycle = record {
      right = record {
        may_run = record {
          in_run = decided.in_run;
          plan = record { lawful = subst (λ k. IsLawful k d.head.grants) is decided.lawful; thrifty = subst (λ k. IsThriftyForAll k d.head.grants) is decided.thrifty };
        };
        number = decided.number ∙ ap (λ (k : Space). k.now) is;
        happened = decided.happened;
        attained = ap (λ (k : Space). total_in k d.head.grants) (sym is) ∙ sym decided.value;
        starts = decided.starts ∙ ap (λ (k : Space). map (start_of k) d.head.grants) is;
        launched = decided.launched ∙ ap (λ (k : Space). launched_in k d.head.grants) is;
      };
      grants = decided.grants ∙ ap (policy_grants p) is;
      bound = decided.bound ∙ ap tops_in is;
      mark = decided.mark;
      unsearched = decided.unsearched;
    }

    module _ (now : Snapshot) (launched : now ≡ after t begun d.head.grants) where
      pub state_next : now ≡ next t s (headed d.head c)
      state_next = launched ∙ ap (λ (q : Snapshot). after t q d.head.grants) decided.state

      pub shown : (slot : SeenSlot) → slot.inst.now ≡ d.inst → slot.held ≡ d.held → slot.worth ≡ d.launch.worth → IsShown t s (headed d.head c) now slot
      shown slot inst held worth = record {
        reached = decided.before;
        right = cycle.right;
        state = state_next;
        instance = ap space inst ∙ is;
        sound = subst (λ (j : Instance). IsSoundSpace (space j)) (sym inst) decided.sound;
        held = held ∙ decided.held ∙ ap (λ (q : Snapshot). length q.pieces) decided.state;
        worth = worth ∙ decided.worth ∙ ap (λ (j : Space). worth_launched j d.head.grants) is;
      }

module _ (p : Policy) (t : Scenario) where
  cycles_last : (s : Snapshot) (bs : List Block) (b : Block) → ArePolicyCycles p t s bs → IsPolicyCycle p t (behind t s bs) b → ArePolicyCycles p t s (bs ++ b ∷ [])
  cycles_last s [] b run last = (last, tt)
  cycles_last s (c ∷ bs) b run last = (run.0, cycles_last (next t s c) bs b run.1 last)

  -- the slot behind some cycles
  now_behind : (s : Snapshot) (bs : List Block) → (behind t s bs).now ≡ s.now + length bs
  now_behind s [] = omega arith
  now_behind s (b ∷ bs) = omega (arith, now_behind (next t s b) bs)

  module _ {O : Type 0} (saw : Scenario → Snapshot → Block → O → O → Type 0) where
    pub no_cycles : (s : Snapshot) (o : O) → s ≡ opening_state t → RanCycles saw p t 0 s o o
    no_cycles s o opens = record { cycles = []; run = tt; as_many = refl; state = opens; observed = refl }

    module _ (slots : ℕ) (s : Snapshot) (first middle : O) (ran : RanCycles saw p t slots s first middle) where
      pub slot_is : s.now ≡ slots
      slot_is =
          let now : s.now ≡ (behind t (opening_state t) ran.cycles).now = ap (λ (q : Snapshot). q.now) ran.state in
          let many : (behind t (opening_state t) ran.cycles).now ≡ 0 + length ran.cycles = now_behind (opening_state t) ran.cycles in
          omega (arith, now, many, ran.as_many)

      pub one_more : (now : Snapshot) (last : O) → RanCycle saw p t s now middle last → RanCycles saw p t (slots + 1) now first last
      one_more now last step =
          let b = step.cycle in
          record {
            cycles = ran.cycles ++ b ∷ [];
            run = cycles_last (opening_state t) ran.cycles b ran.run (subst (λ (q : Snapshot). IsPolicyCycle p t q b) ran.state step.is);
            as_many = let more : length (ran.cycles ++ b ∷ []) ≡ length ran.cycles + 1 = length-append ran.cycles (b ∷ []) in omega (arith, more, ran.as_many);
            state = step.state ∙ ap (λ (q : Snapshot). next t q b) ran.state ∙ sym (behind_last t (opening_state t) ran.cycles b);
            observed = observed_last t saw (opening_state t) ran.cycles b first middle last ran.observed (subst (λ (q : Snapshot). saw t q b middle last) ran.state step.observed);
          }
