-- A slot in which a policy has decided.
use Rattle.std.specs.Prelude.{◌≡◌, ◌<◌, length, map}
use Rattle.tetri_cert.specs.declared.plan_mark.PlanMark.TheVariants.{Wide}
use Rattle.tetri_space.specs.Lawful.{IsLawful}
use Rattle.tetri_space.specs.Sound.{IsSound as IsSoundSpace}
use Rattle.tetri_space.specs.Space.{space}
use Rattle.tetri_space.specs.Total.{tops_in, total_in}
use Rattle.tetri_space.specs.Trimmed.{IsThriftyForAll}
use Rattle.tetri_state.specs.After.{starting_pieces}
use Rattle.tetri_state.specs.Begin.{begin, occurrences, occurring}
use Rattle.tetri_state.specs.Launch.{launched_in, start_of, worth_launched}
use Rattle.tetri_state.specs.Planning.{instance_of}
use Rattle.tetri_state.specs.Reached as moment
use Rattle.tetri_state.specs.Reached.{IsReached}
use Rattle.tetri_state.specs.Snapshot.{Snapshot}
use Rattle.tetri_trace.specs.Scenario.{Scenario}
use Rattle.tetri_policy.specs.Policies.{policy_grants}
use Rattle.tetri_policy.specs.declared.observing.Decided.{Decided}
use Rattle.tetri_policy.specs.declared.policy.Policy.{Policy}

-- The slot behind a state of a run has begun, and the policy decided in it: its instance, how many pieces run, what the cycle tells, and the
-- launch of its grants.
pub record IsDecided (p : Policy) (t : Scenario) (s begun : Snapshot) (d : Decided) : Type 0 where
  pub before : IsReached t moment.between s
  pub in_run : s.now < t.header.until
  pub state : begun ≡ begin t s
  pub reached : IsReached t moment.begun begun
  pub instance : space d.inst ≡ instance_of t begun
  pub sound : IsSoundSpace (space d.inst)
  pub held : d.held ≡ length begun.pieces
  pub happened : occurrences d.head.happened ≡ occurring t s
  pub number : d.head.number ≡ (space d.inst).now
  pub grants : d.head.grants ≡ policy_grants p (space d.inst)
  pub lawful : IsLawful (space d.inst) d.head.grants
  pub thrifty : IsThriftyForAll (space d.inst) d.head.grants
  pub value : d.head.value ≡ total_in (space d.inst) d.head.grants
  pub bound : d.head.bound ≡ tops_in (space d.inst)
  pub mark : d.head.mark ≡ Wide
  pub unsearched : d.head.nodes ≡ 0
  pub starts : d.head.starts.items ≡ map (start_of (space d.inst)) d.head.grants
  pub launched : d.head.launched.items ≡ launched_in (space d.inst) d.head.grants
  pub jobs : d.launch.jobs.items ≡ launched_in (space d.inst) d.head.grants
  pub pieces : d.launch.pieces.items ≡ starting_pieces t (space d.inst) d.head.grants
  pub worth : d.launch.worth ≡ worth_launched (space d.inst) d.head.grants
