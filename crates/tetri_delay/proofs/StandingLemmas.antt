-- A good plan with other grants beside its certificate.
use Rattle.std.proofs.Common.{◌≡◌, ℕ, ◌==◌, refl, sym, ap, arith, List, Bool, true, false, cond, inl, inr, eq-eqb, ◌⊎◌, ◌||◌}
use Rattle.tetri_strl.specs.declared.grants.Grant.{Grant}
use Rattle.tetri_strl.proofs.ExprLaws.{eq_from_test}
use Rattle.tetri_cert.specs.declared.certificate.Certificate.{Certificate}
use Rattle.tetri_cert.specs.declared.certificate.Certificate.TheVariants.{Tops, Tree}
use Rattle.tetri_cert.specs.declared.plan_mark.PlanMark.{PlanMark}
use Rattle.tetri_cert.specs.declared.plan_mark.PlanMark.TheVariants.{Optimal}
use Rattle.tetri_claims.specs.Certified.{IsCertified, IsCutShort}
use Rattle.tetri_claims.specs.Good.{IsGood}
use Rattle.tetri_claims.specs.Planned.{Planned}
use Rattle.tetri_delay.specs.Marks.{allows_less, mark_below, mark_for, may_stand}
use Rattle.tetri_space.specs.Lawful.{IsLawful}
use Rattle.tetri_space.specs.Space.{Space}
use Rattle.tetri_space.specs.Total.{total_in}
use Rattle.tetri_space.specs.Trimmed.{IsThriftyForAll}

never_below : (c : Certificate) → mark_below c ≡ Optimal → ⊥
never_below (Tops columns rows) e = cc
never_below (Tree marks) e = cc

-- the plan with other grants
abbrev pub standing : Planned → List Grant → ℕ → PlanMark → Planned
standing p grants worth mark = record { value = worth; bound = p.bound; mark = mark; nodes = p.nodes; grants = grants; certificate = p.certificate }

module _ (p : Planned) (grants : List Grant) (worth : ℕ) where
  optimal_is : (t : Bool) → (worth == p.bound) ≡ t → cond t Optimal (mark_below p.certificate) ≡ Optimal → worth ≡ p.bound
  optimal_is true e m = eq_from_test worth p.bound e
  optimal_is false e m = absurd (never_below p.certificate m)

  is_optimal : worth ≡ p.bound → mark_for worth p.bound p.certificate ≡ Optimal
  is_optimal e = ap (λ t. cond t Optimal (mark_below p.certificate)) (eq-eqb worth p.bound e)

  cut_short : (budget : ℕ) (c : Certificate) → allows_less p.nodes budget c ≡ true → IsCutShort budget c (standing p grants worth (mark_below c))
  cut_short budget (Tops columns rows) h = refl
  cut_short budget (Tree marks) h = (refl, eq_from_test p.nodes budget h)

  marked : (budget : ℕ) (t : Bool) → (t || allows_less p.nodes budget p.certificate) ≡ true
      → (cond t Optimal (mark_below p.certificate) ≡ Optimal) ⊎ IsCutShort budget p.certificate (standing p grants worth (cond t Optimal (mark_below p.certificate)))
  marked budget true h = inl refl
  marked budget false h = inr (cut_short budget p.certificate h)

  pub certified_standing : (s : Space) (budget : ℕ) → may_stand worth p.bound p.nodes budget p.certificate ≡ true → IsCertified s budget p
      → IsCertified s budget (standing p grants worth (mark_for worth p.bound p.certificate))
  certified_standing s budget may is = record {
    kind = is.kind;
    bound = is.bound;
    nodes = is.nodes;
    mark = marked budget (worth == p.bound) may;
  }

  pub good_standing : (s : Space) → IsLawful s grants → IsThriftyForAll s grants → worth ≡ total_in s grants → IsGood s (total_in s grants) p
      → IsGood s (total_in s grants) (standing p grants worth (mark_for worth p.bound p.certificate))
  good_standing s lawful thrifty attained good = record {
    honest = record {
      lawful = lawful;
      thrifty = thrifty;
      attained = sym attained;
      at_least = omega (arith, attained);
      optimal = (optimal_is (worth == p.bound) refl, is_optimal);
    };
    bounded = good.bounded;
  }
