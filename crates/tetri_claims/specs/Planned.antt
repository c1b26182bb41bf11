-- The plan of a cycle as plain data.
use Rattle.std.specs.Prelude.{ℕ, List}
use Rattle.tetri_strl.specs.declared.grants.Grant.{Grant}
use Rattle.tetri_cert.specs.declared.plan_mark.PlanMark.{PlanMark}
use Rattle.tetri_cert.specs.declared.certificate.Certificate.{Certificate}

-- what a plan is worth, what no plan is worth more than, and how that is known
pub record Planned : Type 0 where
  pub value : ℕ
  pub bound : ℕ
  pub mark : PlanMark
  pub nodes : ℕ
  pub grants : List Grant
  pub certificate : Certificate
