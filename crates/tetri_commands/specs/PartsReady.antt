-- What was planned of an instance part by part.
use Rattle.std.specs.Prelude.{◌≡◌, ℕ, List, ◌++◌, All, flat_map, length}
use Rattle.tetri_space.specs.Space.{Space}
use Rattle.tetri_strl.specs.declared.grants.Grant.{Grant}
use Rattle.tetri_trace.specs.Scenario.{Scenario}
use Rattle.tetri_commands.specs.PartsCycle.{ArePlansByPart, IsPlanOfPart, PartPlan, bound_of, grants_by_part, jobs_by_part, optimal_count, value_of}
use Rattle.tetri_commands.specs.PartsText.{parts_line, part_text}
use Rattle.tetri_commands.specs.declared.planning.PartLines.{PartLines}
use Rattle.tetri_commands.specs.declared.planning.PartsPlan.{PartsPlan}

-- The part with these jobs was planned: its lines, its grants, what they are worth and their bound.
pub record IsPartReady (t : Scenario) (i : Space) (carry : List Grant) (jobs : List ℕ) (r : PartLines) : Type 0 where
  pub part : PartPlan
  pub is_of : part.jobs ≡ jobs
  pub plan : IsPlanOfPart i carry t.header.budget part
  pub text : r.text.items ≡ part_text t part
  pub grants : r.grants ≡ part.plan.grants
  pub value : r.value ≡ part.plan.value
  pub bound : r.bound ≡ part.plan.bound

-- The parts with these jobs were planned: their lines, the grants of each, and the sums of their values and bounds.
pub record ArePartsReady (t : Scenario) (i : Space) (carry : List Grant) (jobs : List (List ℕ)) (text : List ℕ) (grants : List (List Grant)) (value bound : ℕ) : Type 0 where
  pub parts : List PartPlan
  pub are_of : jobs_by_part parts ≡ jobs
  pub plans : All (IsPlanOfPart i carry t.header.budget) parts
  pub text_is : text ≡ flat_map (part_text t) parts
  pub grants_are : grants ≡ grants_by_part parts
  pub value_is : value ≡ value_of parts
  pub bound_is : bound ≡ bound_of parts

-- An instance was planned part by part: its lines, all grants, and 1 where the sums of the values and of the bounds are equal.
pub record IsPartsPlan (t : Scenario) (i : Space) (carry : List Grant) (p : PartsPlan) : Type 0 where
  pub parts : List PartPlan
  pub plans : ArePlansByPart i carry t.header.budget parts p.grants
  pub text : p.text.items ≡ parts_line (length parts) (value_of parts) (bound_of parts) ++ flat_map (part_text t) parts
  pub optimal : p.optimal ≡ optimal_count parts
