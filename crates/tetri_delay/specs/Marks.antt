-- The mark of a plan beside a certificate.
use Rattle.std.specs.Prelude.{◌==◌, ◌||◌, ℕ, Bool, true, if◌then◌else◌}
use Rattle.tetri_cert.specs.declared.certificate.Certificate.{Certificate}
use Rattle.tetri_cert.specs.declared.certificate.Certificate.TheVariants.{Tops, Tree}
use Rattle.tetri_cert.specs.declared.plan_mark.PlanMark.{PlanMark}
use Rattle.tetri_cert.specs.declared.plan_mark.PlanMark.TheVariants.{Optimal, Spent, Wide}

-- the mark where the value is below the bound
abbrev pub mark_below : Certificate → PlanMark
mark_below (Tops columns rows) = Wide
mark_below (Tree marks) = Spent

-- the mark of a plan
abbrev pub mark_for : ℕ → ℕ → Certificate → PlanMark
mark_for value bound certificate = if value == bound then Optimal else mark_below certificate

-- whether a certificate that counts so many nodes allows a value below its bound
abbrev pub allows_less : ℕ → ℕ → Certificate → Bool
allows_less nodes budget (Tops columns rows) = true
allows_less nodes budget (Tree marks) = nodes == budget

-- whether a plan of this value may stand beside a certificate
abbrev pub may_stand : ℕ → ℕ → ℕ → ℕ → Certificate → Bool
may_stand value bound nodes budget certificate = value == bound || allows_less nodes budget certificate
