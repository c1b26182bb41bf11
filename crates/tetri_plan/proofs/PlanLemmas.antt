-- What holds of the plan that a search gives.
use Rattle.std.proofs.Common.{◌≡◌, ◌⊎◌, ℕ, ◌+◌, ◌<◌, ◌≤◌, ◌==◌, ◌∙◌, refl, sym, ap, subst, arith, inl, inr, List, [], ◌∷◌, length, cond, Bool, true, false, AllPairs, true≢false}
use Rattle.std.specs.Prelude.{nat_lt, sum_by}
use Rattle.std.proofs.lemmas.Bool.{ltb-true, ltb-false}
use Rattle.tetri_base.specs.Order.{in_order}
use Rattle.tetri_base.proofs.ListLaws.{eq_from_test, test_from_eq}
use Rattle.tetri_cert.specs.declared.certificate.Certificate.{Certificate}
use Rattle.tetri_cert.specs.declared.certificate.Certificate.TheVariants.{Tops, Tree}
use Rattle.tetri_cert.specs.declared.plan_mark.PlanMark.{PlanMark}
use Rattle.tetri_cert.specs.declared.plan_mark.PlanMark.TheVariants.{Optimal, Spent, Wide}
use Rattle.tetri_strl.specs.declared.grants.Grant.{Grant}
use Rattle.tetri_space.specs.GrantOrder.{ComesBefore, comes_first}
use Rattle.tetri_space.specs.Lawful.{IsLawful}
use Rattle.tetri_space.specs.Sound.{IsSound}
use Rattle.tetri_space.specs.Space.{Bid, Space}
use Rattle.tetri_space.specs.Total.{bid_top, total_in}
use Rattle.tetri_space.specs.Trimmed.{IsThriftyForAll}
use Rattle.tetri_space.proofs.InstanceLaws.{lawful_in_order, ordered_in_order, thrifty_in_order, total_in_order}
use Rattle.tetri_compile.specs.Flat.{column_count, row_count}
use Rattle.tetri_search.proofs.SearchLaws.{rests_spend_the_budget}
use Rattle.tetri_claims.specs.Certified.{IsBoundOf, IsCutShort, MayHaveTree, counted_nodes}
use Rattle.tetri_claims.specs.Good.{BoundsEveryLawful, IsGood}
use Rattle.tetri_claims.specs.Planned.{Planned}
use Rattle.tetri_claims.proofs.ClaimLaws.{certificates_bound}
use Rattle.tetri_plan.specs.Chosen.{IsChosen, IsEarnedFor, kept}
use Rattle.tetri_plan.specs.Plans.{HasTree, enough_in, leaves_open}
use Rattle.tetri_plan.specs.Searched.{IsSearched, mark_below, mark_for}
use Rattle.tetri_plan.specs.declared.planning.Searched.{Searched}
use Rattle.tetri_plan.proofs.KeptLemmas.{kept_bounds}

-- ---- marks
never_optimal : (c : Certificate) → mark_below c ≡ Optimal → ⊥
never_optimal (Tops columns rows) e = cc
never_optimal (Tree marks) e = cc

optimal_is : (v b : ℕ) (c : Certificate) → mark_for v b c ≡ Optimal → v ≡ b
optimal_is v b c = by_test (v == b) refl
  where
    by_test : (t : Bool) → (v == b) ≡ t → cond t Optimal (mark_below c) ≡ Optimal → v ≡ b
    by_test true e h = eq_from_test v b e
    by_test false e h = absurd (never_optimal c h)

is_optimal : (v b : ℕ) (c : Certificate) → v ≡ b → mark_for v b c ≡ Optimal
is_optimal v b c e = ap (λ t. cond t Optimal (mark_below c)) (test_from_eq v b e)

wide_has_none : (v b : ℕ) (c : Certificate) → mark_for v b c ≡ Wide → HasTree c → ⊥
wide_has_none v b (Tops columns rows) e has = has
wide_has_none v b (Tree marks) e has = by_test (v == b) e
  where
    by_test : (t : Bool) → cond t Optimal Spent ≡ Wide → ⊥
    by_test true h = cc
    by_test false h = cc

spent_has_tree : (v b : ℕ) (c : Certificate) → mark_for v b c ≡ Spent → HasTree c
spent_has_tree v b (Tree marks) e = tt
spent_has_tree v b (Tops columns rows) e = by_test (v == b) e
  where
    by_test : (t : Bool) → cond t Optimal Wide ≡ Spent → ⊥
    by_test true h = cc
    by_test false h = cc

spent_not_optimal : Spent ≡ Optimal → ⊥
spent_not_optimal e = cc

wide_not_optimal : Wide ≡ Optimal → ⊥
wide_not_optimal e = cc

pub by_eq : {v b : ℕ} → (v == b) ≡ false → v ≡ b → ⊥
by_eq {v} {b} f e = absurd (true≢false (sym (test_from_eq v b e) ∙ f))

-- ---- certificates
-- a tree with a node left open has as many others as the budget
spends : (s : Space) (low budget : ℕ) (c : Certificate) → IsEarnedFor s low budget c → leaves_open c ≡ true → counted_nodes c ≡ budget
spends s low budget (Tops columns rows) earned open_ = cc
spends s low budget (Tree marks) earned open_ = rests_spend_the_budget earned.0 low budget marks earned.2 open_

some_summed : (f : Bid → ℕ) (bs : List Bid) → 0 < sum_by f bs → 1 ≤ length bs
some_summed f [] lt = absurd (omega (arith, lt))
some_summed f (b ∷ bs) lt = omega arith

-- tops above 0 are those of some job
some_job : (s : Space) (c : Certificate) (bound : ℕ) → IsBoundOf s c bound → (HasTree c → ⊥) → 0 < bound → 1 ≤ length s.bids
some_job s (Tops columns rows) bound is none lt = some_summed (bid_top s.now (s.now + s.window)) s.bids (omega (arith, is, lt))
some_job s (Tree marks) bound is none lt = absurd (none tt)

too_large : (s : Space) → (MayHaveTree s → ⊥) → 1 ≤ length s.bids → (2000 < column_count s) ⊎ (2000 < row_count s)
too_large s none jobs = by_test (nat_lt 2000 (column_count s)) (nat_lt 2000 (row_count s)) refl refl
  where
    by_test : (t u : Bool) → nat_lt 2000 (column_count s) ≡ t → nat_lt 2000 (row_count s) ≡ u → (2000 < column_count s) ⊎ (2000 < row_count s)
    by_test true u e f = inl (ltb-true _ _ e)
    by_test false true e f = inr (ltb-true _ _ f)
    by_test false false e f = absurd (none (record { jobs = jobs; columns = ltb-false _ _ e; rows = ltb-false _ _ f }))

-- ---- the plan of what a search gave
-- what is asked of a plan
pub record IsRightPlan (s : Space) (carry : List Grant) (given : List (List Grant)) (budget : ℕ) (p : Planned) : Type 0 where
  pub good : IsGood s (total_in s carry) p
  pub chosen : IsChosen s carry given budget p
  pub ordered : AllPairs ComesBefore p.grants
  pub no_rest : MayHaveTree s → leaves_open p.certificate ≡ false → p.mark ≡ Optimal
  pub spent : p.mark ≡ Spent → (p.value < p.bound) × (leaves_open p.certificate ≡ true) × (p.nodes ≡ budget)
  pub wide : p.mark ≡ Wide → (p.value < p.bound) × ((2000 < column_count s) ⊎ (2000 < row_count s))
  pub enough : MayHaveTree s → enough_in s ≤ budget → p.mark ≡ Optimal

module _ (s : Space) (sound : IsSound s) (carry : List Grant) (given : List (List Grant)) (budget : ℕ) (r : Searched) (is : IsSearched s (kept s carry given) budget r)
    (mark : PlanMark) (is_mark : mark ≡ mark_for r.best.worth r.bound r.certificate) (grants : List Grant) (in_turn : grants ≡ in_order comes_first r.best.grants) where
  abbrev plan_with : PlanMark → Planned
  plan_with m = record { value = r.best.worth; bound = r.bound; mark = m; nodes = r.nodes; grants = grants; certificate = r.certificate }

  bounded : BoundsEveryLawful s r.bound
  bounded = certificates_bound s budget (plan_with Optimal) sound (record { kind = is.kind; bound = is.bound; nodes = is.nodes; mark = inl refl })

  value_le : r.best.worth ≤ r.bound
  value_le = omega (arith, is.worth, bounded r.best.grants is.lawful)

  optimal_at : r.bound ≤ r.best.worth → mark ≡ Optimal
  optimal_at le = is_mark ∙ is_optimal r.best.worth r.bound r.certificate (omega (arith, le, value_le))

  below : (mark ≡ Optimal → ⊥) → r.best.worth < r.bound
  below never = by_test (nat_lt r.best.worth r.bound) refl
    where
      by_test : (t : Bool) → nat_lt r.best.worth r.bound ≡ t → r.best.worth < r.bound
      by_test true e = ltb-true _ _ e
      by_test false e = absurd (never (optimal_at (ltb-false _ _ e)))

  left_open : HasTree r.certificate → r.best.worth < r.bound → leaves_open r.certificate ≡ true
  left_open has lt = by_test (leaves_open r.certificate) refl
    where
      by_test : (t : Bool) → leaves_open r.certificate ≡ t → t ≡ true
      by_test true e = refl
      by_test false e = absurd (omega (arith, lt, is.closed has e))

  all_spent : HasTree r.certificate → r.best.worth < r.bound → r.nodes ≡ budget
  all_spent has lt = is.nodes ∙ spends s (total_in s (kept s carry given)) budget r.certificate is.earned (left_open has lt)

  no_rest : MayHaveTree s → leaves_open r.certificate ≡ false → mark ≡ Optimal
  no_rest may none = optimal_at (is.closed (is.tree.1 may) none)

  spent : mark ≡ Spent → (r.best.worth < r.bound) × (leaves_open r.certificate ≡ true) × (r.nodes ≡ budget)
  spent e =
      let has = spent_has_tree r.best.worth r.bound r.certificate (sym is_mark ∙ e) in
      let lt = below (λ o. spent_not_optimal (sym e ∙ o)) in
      (lt, left_open has lt, all_spent has lt)

  wide : mark ≡ Wide → (r.best.worth < r.bound) × ((2000 < column_count s) ⊎ (2000 < row_count s))
  wide e =
      let none = wide_has_none r.best.worth r.bound r.certificate (sym is_mark ∙ e) in
      let lt = below (λ o. wide_not_optimal (sym e ∙ o)) in
      (lt, too_large s (λ may. none (is.tree.1 may)) (some_job s r.certificate r.bound is.bound none (omega (arith, lt))))

  enough : MayHaveTree s → enough_in s ≤ budget → mark ≡ Optimal
  enough may le = no_rest may (is.enough le)

  ordered : AllPairs ComesBefore grants
  ordered = subst (AllPairs ComesBefore) (sym in_turn) (ordered_in_order s r.best.grants is.lawful)

  good : IsGood s (total_in s carry) (plan_with mark)
  good = record {
    honest = record {
      lawful = subst (IsLawful s) (sym in_turn) (lawful_in_order s r.best.grants is.lawful);
      thrifty = subst (IsThriftyForAll s) (sym in_turn) (thrifty_in_order s r.best.grants is.thrifty);
      attained = ap (total_in s) in_turn ∙ total_in_order s r.best.grants ∙ sym is.worth;
      at_least = omega (arith, kept_bounds s sound carry given, is.at_least);
      optimal = (λ e. optimal_is r.best.worth r.bound r.certificate (sym is_mark ∙ e), λ e. optimal_at (omega (arith, e)));
    };
    bounded = bounded;
  }

  cut_short : (c : Certificate) → c ≡ r.certificate → r.best.worth < r.bound → mark_below c ≡ mark → IsCutShort budget c (plan_with mark)
  cut_short (Tops columns rows) e lt m = sym m
  cut_short (Tree marks) e lt m = (sym m, all_spent (subst HasTree e tt) lt)

  right_mark : (mark ≡ Optimal) ⊎ IsCutShort budget r.certificate (plan_with mark)
  right_mark = by_test (r.best.worth == r.bound) refl
    where
      by_test : (t : Bool) → (r.best.worth == r.bound) ≡ t → (mark ≡ Optimal) ⊎ IsCutShort budget r.certificate (plan_with mark)
      by_test true e = inl (is_mark ∙ ap (λ t. cond t Optimal (mark_below r.certificate)) e)
      by_test false e =
          let other : r.best.worth < r.bound = below (λ o. by_eq e (optimal_is r.best.worth r.bound r.certificate (sym is_mark ∙ o))) in
          inr (cut_short r.certificate refl other (sym (is_mark ∙ ap (λ t. cond t Optimal (mark_below r.certificate)) e)))

  chosen : IsChosen s carry given budget (plan_with mark)
  chosen = record {
    certified = record { kind = is.kind; bound = is.bound; nodes = is.nodes; mark = right_mark };
    earned = is.earned;
    grants = in_turn ∙ ap (in_order comes_first) is.grants;
  }

  pub plan_is_right : IsRightPlan s carry given budget (plan_with mark)
  plan_is_right = record { good = good; chosen = chosen; ordered = ordered; no_rest = no_rest; spent = spent; wide = wide; enough = enough }
