-- A good plan with other grants that are worth no less.
use Rattle.std.proofs.Common.{◌≡◌, ◌∙◌, ℕ, ◌<◌, ◌≤◌, refl, sym, subst, arith, List, Bool, true, false, AllPairs}
use Rattle.std.specs.Prelude.{nat_lt}
use Rattle.std.proofs.lemmas.Bool.{ltb-true, ltb-false}
use Rattle.tetri_base.specs.Order.{in_order}
use Rattle.tetri_strl.specs.declared.grants.Grant.{Grant}
use Rattle.tetri_cert.specs.declared.plan_mark.PlanMark.{PlanMark}
use Rattle.tetri_cert.specs.declared.plan_mark.PlanMark.TheVariants.{Optimal}
use Rattle.tetri_space.specs.GrantOrder.{ComesBefore, comes_first}
use Rattle.tetri_space.specs.Lawful.{IsLawful}
use Rattle.tetri_space.specs.Sound.{IsSound}
use Rattle.tetri_space.specs.Space.{Space}
use Rattle.tetri_space.specs.Total.{total_in}
use Rattle.tetri_space.specs.Trimmed.{IsThriftyForAll, all_trimmed}
use Rattle.tetri_space.proofs.InstanceLaws.{lawful_in_order, lawful_trimmed, ordered_in_order, thrifty_in_order, thrifty_trimmed}
use Rattle.tetri_claims.specs.Good.{IsGood}
use Rattle.tetri_claims.specs.Planned.{Planned}

module _ (s : Space) (sound : IsSound s) (moved grants : List Grant) (lawful : IsLawful s moved) (is : grants ≡ in_order comes_first (all_trimmed s moved)) where
  trimmed_lawful : IsLawful s (all_trimmed s moved)
  trimmed_lawful = lawful_trimmed s sound moved lawful

  grants_lawful : IsLawful s grants
  grants_lawful = subst (IsLawful s) (sym is) (lawful_in_order s (all_trimmed s moved) trimmed_lawful)

  grants_thrifty : IsThriftyForAll s grants
  grants_thrifty = subst (IsThriftyForAll s) (sym is) (thrifty_in_order s (all_trimmed s moved) (thrifty_trimmed s sound moved))

  pub grants_ordered : AllPairs ComesBefore grants
  grants_ordered = subst (AllPairs ComesBefore) (sym is) (ordered_in_order s (all_trimmed s moved) trimmed_lawful)

  module _ (low : ℕ) (p : Planned) (good : IsGood s low p) (worth : ℕ) (attained : worth ≡ total_in s grants) (no_less : p.value ≤ worth)
      (mark : PlanMark) (optimal : worth ≡ p.bound → mark ≡ Optimal) (before : (worth ≡ p.bound → ⊥) → mark ≡ p.mark) where
    worth_bounded : worth ≤ p.bound
    worth_bounded = omega (arith, attained, good.bounded grants grants_lawful)

    is_bound : mark ≡ Optimal → worth ≡ p.bound
    is_bound e = by_test (nat_lt worth p.bound) refl
      where
        by_test : (t : Bool) → nat_lt worth p.bound ≡ t → worth ≡ p.bound
        by_test true less =
            let lt = ltb-true _ _ less in
            let was = good.honest.optimal.0 (sym (before (λ h. absurd (omega (arith, lt, h)))) ∙ e) in
            absurd (omega (arith, lt, no_less, was))
        by_test false not_less = omega (arith, ltb-false _ _ not_less, worth_bounded)

    pub good_with_grants : IsGood s low (record { value = worth; bound = p.bound; mark = mark; nodes = p.nodes; grants = grants; certificate = p.certificate })
    good_with_grants = record {
      honest = record {
        lawful = grants_lawful;
        thrifty = grants_thrifty;
        attained = sym attained;
        at_least = omega (arith, no_less, good.honest.at_least);
        optimal = (is_bound, optimal);
      };
      bounded = good.bounded;
    }
