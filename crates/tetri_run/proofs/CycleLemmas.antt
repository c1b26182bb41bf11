-- What is found of a cycle, as what it says of the run.
use Rattle.std.proofs.Common.{◌≡◌, ℕ, List, map, ap, ◌∙◌, subst}
use Rattle.std.specs.Prelude.{Err}
use Rattle.tetri_claims.specs.Certified.{IsCertified}
use Rattle.tetri_claims.specs.Good.{IsHonest}
use Rattle.tetri_judge.specs.Verdict.{IsFirstFailed}
use Rattle.tetri_judge.proofs.VerdictLaws.{certified_passes}
use Rattle.tetri_report.specs.Block.{Block}
use Rattle.tetri_report.specs.BlockLines.{block_lines, occurrences_in}
use Rattle.tetri_report.specs.Differences.{DifferFirstAt, corrected}
use Rattle.tetri_judge.specs.Places.{place_of}
use Rattle.tetri_judge.specs.PlanOf.{planned}
use Rattle.tetri_space.specs.Space.{Space}
use Rattle.tetri_space.specs.Total.{total_in}
use Rattle.tetri_state.specs.Begin.{Occurrences, occurring}
use Rattle.tetri_state.specs.Launch.{launched_in, start_of}
use Rattle.tetri_state.specs.Planning.{IsCarry, instance_at}
use Rattle.tetri_state.specs.Snapshot.{Snapshot}
use Rattle.tetri_strl.specs.declared.grants.Grant.{Grant}
use Rattle.tetri_trace.specs.Scenario.{Scenario}
use Rattle.tetri_run.specs.Checked.{AnswersCycle, AnswersPlan}
use Rattle.tetri_run.specs.Cycle.{IsCycle}
use Rattle.tetri_run.specs.Faulty.{IsFaulty, planned_badly, corrected_at, told_badly}
use Rattle.tetri_run.specs.declared.halt.CheckHalt.{CheckHalt}
use Rattle.tetri_run.specs.declared.halt.CheckHalt.TheVariants.{Refused, ReadFault, NoMemory}
use Rattle.tetri_run.specs.declared.why.Why.TheVariants.{WrongEvents}

-- a cycle that is held against this instance, which is that of the state, and beside this carry
module _ (t : Scenario) (s : Snapshot) (b : Block) (i : Space) (is : i ≡ instance_at t s) (carry : List Grant) (carried : IsCarry i s.plan carry) (low : ℕ)
    (low_is : low ≡ total_in i carry) where
  carry_here : IsCarry (instance_at t s) s.plan carry
  carry_here = subst (λ j. IsCarry j s.plan carry) is carried

  low_here : low ≡ total_in (instance_at t s) carry
  low_here = low_is ∙ ap (λ j. total_in j carry) is

  pub plan_refused : (new : Snapshot) (first : ℕ) (h : CheckHalt) → AnswersPlan {U = Unit {0}} (Err h) i low t.header.budget first b → AnswersCycle (Err h) t s new first b
  plan_refused new first (Refused line why) found =
      let failed : IsFirstFailed (instance_at t s) (total_in (instance_at t s) carry) t.header.budget (planned b) found.0 =
      subst (λ n. IsFirstFailed (instance_at t s) n t.header.budget (planned b) found.0) low_here (subst (λ j. IsFirstFailed j low t.header.budget (planned b) found.0) is found.1) in
      (place_of b found.0, found.2, planned_badly carry found.0 why carry_here failed found.3)
  plan_refused new first ReadFault found = absurd found
  plan_refused new first NoMemory found = tt

  module _ (honest : IsHonest i low (planned b)) (certified : IsCertified i t.header.budget (planned b)) (o : Occurrences) (starts launched : List ℕ) (happened : o ≡ occurring t s)
      (starts_are : starts ≡ map (start_of i) b.grants) (launched_are : launched ≡ launched_in i b.grants) where
    honest_here : IsHonest (instance_at t s) (total_in (instance_at t s) carry) (planned b)
    honest_here = subst (λ n. IsHonest (instance_at t s) n (planned b)) low_here (subst (λ j. IsHonest j low (planned b)) is honest)

    certified_here : IsCertified (instance_at t s) t.header.budget (planned b)
    certified_here = subst (λ j. IsCertified j t.header.budget (planned b)) is certified

    starts_here : starts ≡ map (start_of (instance_at t s)) b.grants
    starts_here = starts_are ∙ ap (λ j. map (start_of j) b.grants) is

    launched_here : launched ≡ launched_in (instance_at t s) b.grants
    launched_here = launched_are ∙ ap (λ j. launched_in j b.grants) is

    number_here : i.now ≡ s.now
    number_here = ap (λ (j : Space). j.now) is

    corrected_is : corrected b i.now o starts launched ≡ corrected_at t s b
    corrected_is =
        ap (λ n. corrected b n o starts launched) number_here
        ∙ ap (λ q. corrected b s.now q starts launched) happened
        ∙ ap (λ l. corrected b s.now (occurring t s) l launched) starts_here
        ∙ ap (corrected b s.now (occurring t s) (map (start_of (instance_at t s)) b.grants)) launched_here

    pub line_refused : (place : ℕ) → DifferFirstAt (block_lines b) (block_lines (corrected b i.now o starts launched)) place → IsFaulty t s b place WrongEvents
    line_refused place differ =
        told_badly carry place carry_here (certified_passes (instance_at t s) (total_in (instance_at t s) carry) t.header.budget (planned b) honest_here certified_here)
        (subst (λ c. DifferFirstAt (block_lines b) (block_lines c) place) corrected_is differ)

    pub cycle_right : b ≡ corrected b i.now o starts launched → IsCycle t s b
    cycle_right same = record {
      number = ap (λ (c : Block). c.number) same ∙ number_here;
      happened = ap occurrences_in same ∙ happened;
      carry = carry;
      carried = carry_here;
      plan = record {
        honest = honest_here;
        certified = certified_here;
        starts = ap (λ (c : Block). c.starts) same ∙ starts_here;
        launched = ap (λ (c : Block). c.launched) same ∙ launched_here;
      };
    }
