-- What is known of the best plan with a certificate of its bound.
use Rattle.std.specs.Prelude.{◌≡◌, ◌↔◌, ℕ, ◌==◌, ◌≤◌, if◌then◌else◌, List, Option, Some, None, false}
use lib.IntN.{ℤ}
use Rattle.tetri_strl.specs.declared.grants.Grant.{Grant}
use Rattle.tetri_cert.specs.declared.certificate.Certificate.{Certificate}
use Rattle.tetri_cert.specs.declared.certificate.Certificate.TheVariants.{Tops, Tree}
use Rattle.tetri_cert.specs.declared.plan_mark.PlanMark.{PlanMark}
use Rattle.tetri_cert.specs.declared.plan_mark.PlanMark.TheVariants.{Optimal, Spent, Wide}
use Rattle.tetri_space.specs.Lawful.{IsLawful}
use Rattle.tetri_space.specs.Space.{Space}
use Rattle.tetri_space.specs.Total.{total_in}
use Rattle.tetri_space.specs.Trimmed.{IsThriftyForAll, all_trimmed}
use Rattle.tetri_assign.specs.Assigned.{assigned}
use Rattle.tetri_claims.specs.Certified.{IsBoundOf, IsOfKind, MayHaveTree, counted_nodes}
use Rattle.tetri_plan.specs.Chosen.{IsEarnedFor, better, searched}
use Rattle.tetri_plan.specs.Plans.{HasTree, IsPrintableTree, enough_in, leaves_open}
use Rattle.tetri_plan.specs.declared.planning.Searched.{Searched}

-- the better of what was kept and what of the nodes assigned to a point earns something
abbrev pub better_at : Space → List Grant → Option (List ℤ) → List Grant
better_at s best None = best
better_at s best (Some point) = better s best (all_trimmed s (assigned s point))

-- the mark where the value is below the bound
abbrev pub mark_below : Certificate → PlanMark
mark_below (Tops columns rows) = Wide
mark_below (Tree marks) = Spent

-- the mark of a plan
abbrev pub mark_for : ℕ → ℕ → Certificate → PlanMark
mark_for value bound certificate = if value == bound then Optimal else mark_below certificate

-- The best allotment is the kept one or that of the last whole point of a search, and is lawful,
-- thrifty and worth no less than the kept one; the certificate is that of the instance, a tree is
-- that of a search with this budget, and a tree with no node left open bounds nothing above the
-- best allotment's worth.
pub record IsSearched (s : Space) (kept : List Grant) (budget : ℕ) (r : Searched) : Type 0 where
  pub grants : r.best.grants ≡ searched s kept r.certificate
  pub lawful : IsLawful s r.best.grants
  pub thrifty : IsThriftyForAll s r.best.grants
  pub worth : r.best.worth ≡ total_in s r.best.grants
  pub at_least : total_in s kept ≤ r.best.worth
  pub tree : HasTree r.certificate ↔ MayHaveTree s
  pub kind : IsOfKind s r.certificate
  pub bound : IsBoundOf s r.certificate r.bound
  pub nodes : r.nodes ≡ counted_nodes r.certificate
  pub earned : IsEarnedFor s (total_in s kept) budget r.certificate
  pub printable : IsPrintableTree r.certificate
  pub closed : HasTree r.certificate → leaves_open r.certificate ≡ false → r.bound ≤ r.best.worth
  pub enough : enough_in s ≤ budget → leaves_open r.certificate ≡ false
