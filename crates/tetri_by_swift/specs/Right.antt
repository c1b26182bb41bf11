-- The plan of a search.
use Rattle.std.specs.Prelude.{◌≡◌, ◌<◌, ◌≤◌, ℕ, AllPairs, false, true}
use Rattle.tetri_cert.specs.declared.plan_mark.PlanMark.TheVariants.{Optimal, Spent, Wide}
use Rattle.tetri_claims.specs.Certified.{IsCertified}
use Rattle.tetri_claims.specs.Good.{IsGood}
use Rattle.tetri_plan.specs.Plans.{HasTree, IsPrintableTree, enough_in, leaves_open, planned_of}
use Rattle.tetri_plan.specs.declared.planning.Plan.{Plan}
use Rattle.tetri_space.specs.GrantOrder.{ComesBefore}
use Rattle.tetri_space.specs.Space.{Space}

-- The plan is good, with the tree of a search with this budget as its certificate, and worth no less
-- than what was known before. With no node left open it is optimal, as with a budget that is enough;
-- where its value is below its bound the budget is spent.
pub record IsRight (s : Space) (low budget : ℕ) (p : Plan) : Type 0 where
  pub good : IsGood s low (planned_of p)
  pub certified : IsCertified s budget (planned_of p)
  pub ordered : AllPairs ComesBefore p.grants
  pub printable : IsPrintableTree p.certificate
  pub tree : HasTree p.certificate
  pub no_rest : leaves_open p.certificate ≡ false → p.mark ≡ Optimal
  pub spent : p.mark ≡ Spent
      → (p.value < p.bound) × (leaves_open p.certificate ≡ true) × (p.nodes ≡ budget)
  pub never_wide : p.mark ≡ Wide → ⊥
  pub enough : enough_in s ≤ budget → p.mark ≡ Optimal
