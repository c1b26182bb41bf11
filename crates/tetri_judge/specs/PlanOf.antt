-- The plan that a cycle of a report tells.
use Rattle.std.specs.Prelude.{List}
use Rattle.tetri_cert.specs.declared.certificate.Certificate.{Certificate}
use Rattle.tetri_claims.specs.Planned.{Planned}
use Rattle.tetri_report.specs.Block.{Block}
use Rattle.tetri_report.specs.declared.line.PlanLine.{PlanLine}
use Rattle.tetri_strl.specs.declared.grants.Grant.{Grant}

abbrev pub planned : Block → Planned
planned b = record { value = b.value; bound = b.bound; mark = b.mark; nodes = b.nodes; grants = b.grants; certificate = b.certificate }

-- the plan of a `plan` line, grants and a certificate
abbrev pub planned_as : PlanLine → List Grant → Certificate → Planned
planned_as p grants certificate = record { value = p.value; bound = p.bound; mark = p.mark; nodes = p.nodes; grants = grants; certificate = certificate }
