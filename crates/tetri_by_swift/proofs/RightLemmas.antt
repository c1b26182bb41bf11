-- What holds of the plan that a search gives.
use Rattle.std.proofs.Common.{◌≡◌, ◌⊎◌, ℕ, ◌*◌, ◌<◌, ◌≤◌, ◌==◌, ◌∙◌, refl, sym, ap, subst, arith, inl, inr, List, [], ◌∷◌, length, Bool, true, false, AllPairs, Option, Some, None, Result, Ok}
use Rattle.std.specs.Prelude.{IfSome, MatchOption, nat_lt, ◌≤ℤ◌}
use Rattle.std.proofs.lemmas.Bool.{ltb-true, ltb-false}
use Rattle.std.specs.Global.{Vec}
use Rattle.std.proofs.lemmas.Int.{ints}
use Rattle.std.proofs.lemmas.List.{length-map}
use Rattle.std.proofs.lemmas.List.FromFn.{length-map-range_with_len}
use lib.IntN.{ℤ, pos}
use Rattle.tetri_base.specs.Order.{in_order}
use Rattle.tetri_strl.specs.declared.grants.Grant.{Grant}
use Rattle.tetri_ip.specs.declared.programs.Program.{Program}
use Rattle.tetri_ip.specs.Points.{objective}
use Rattle.tetri_cert.specs.declared.certificate.Certificate.{Certificate}
use Rattle.tetri_cert.specs.declared.certificate.Certificate.TheVariants.{Tops, Tree}
use Rattle.tetri_cert.specs.declared.faults.TreeFault.{TreeFault}
use Rattle.tetri_cert.specs.declared.marks.Mark.{Mark}
use Rattle.tetri_cert.specs.declared.plan_mark.PlanMark.{PlanMark}
use Rattle.tetri_cert.specs.declared.plan_mark.PlanMark.TheVariants.{Optimal, Spent, Wide}
use Rattle.tetri_cert.specs.Trees.{tree_bound}
use Rattle.tetri_space.specs.GrantOrder.{ComesBefore, comes_first}
use Rattle.tetri_space.specs.Lawful.{IsLawful}
use Rattle.tetri_space.specs.Sound.{IsSound}
use Rattle.tetri_space.specs.Space.{Space}
use Rattle.tetri_space.specs.Total.{total_in}
use Rattle.tetri_space.specs.Trimmed.{IsThriftyForAll}
use Rattle.tetri_space.proofs.InstanceLaws.{lawful_in_order, ordered_in_order, thrifty_in_order, total_in_order}
use Rattle.tetri_compile.specs.Draft.{draft}
use Rattle.tetri_compile.specs.Flat.{FlatProgram, column_count, plain, plain_row, program_of, row_count}
use Rattle.tetri_search.specs.Laws.{enough, has_rest, points_in}
use Rattle.tetri_search.specs.declared.searching.Found.{Found}
use Rattle.tetri_swift.specs.Found.{IsFound}
use Rattle.tetri_claims.specs.Certified.{IsCertified, IsCutShort, MayHaveTree}
use Rattle.tetri_claims.specs.Good.{BoundsEveryLawful, IsGood}
use Rattle.tetri_claims.specs.Planned.{Planned}
use Rattle.tetri_claims.proofs.ClaimLaws.{certificates_bound}
use Rattle.tetri_plan.specs.Plans.{HasTree, enough_in, leaves_open, planned_of}
use Rattle.tetri_plan.specs.declared.planning.Plan.{Plan}
use Rattle.tetri_by_swift.specs.declared.planning.Candidate.{Candidate}
use Rattle.tetri_by_swift.specs.Held.{IsHeld}
use Rattle.tetri_by_swift.specs.Right.{IsRight}

-- ---- marks
spent_not_optimal : Spent ≡ Optimal → ⊥
spent_not_optimal e = cc

wide_not_optimal : Wide ≡ Optimal → ⊥
wide_not_optimal e = cc

wide_not_spent : Wide ≡ Spent → ⊥
wide_not_spent e = cc

-- ---- the program of the instance
-- a proper tree has a mark
some_marks : (p : Program) (ms : List Mark) (b : ℕ) → tree_bound p ms ≡ Ok b → 1 ≤ length ms
unfolding tree_bound
some_marks p [] b e = cc
some_marks p (m ∷ ms) b e = omega arith

columns_are : (s : Space) (p : Program) → plain p ≡ program_of s → length p.costs.items ≡ column_count s
columns_are s p is = ap (λ (f : FlatProgram). length f.costs) is ∙ length-map-range_with_len _ 0 (column_count s)

rows_are : (s : Space) (p : Program) → plain p ≡ program_of s → length p.rows.items ≡ row_count s
rows_are s p is = sym (length-map p.rows.items plain_row) ∙ ap (λ (f : FlatProgram). length f.rows) is ∙ length-map (draft s).rows _

enough_is : (s : Space) (p : Program) → plain p ≡ program_of s → enough p ≡ enough_in s
enough_is s p is = ap (λ (f : FlatProgram). 2 * points_in f.lower f.upper) is

-- the best objective known at the end of a search is had
known_is_had : (p : Program) (o : Option (Vec ℤ)) (best known worth : ℕ) → known ≤ worth →
    MatchOption o (best ≡ known) (λ v. pos best ≡ objective p v.items) → IfSome o (λ v. objective p v.items ≤ℤ pos worth) → best ≤ worth
known_is_had p None best known worth le is reached = omega (arith, le, is)
known_is_had p (Some v) best known worth le is reached = omega (arith, ints, is, reached)

-- ---- the plan of a search
module _ (s : Space) (p : Program) (is : plain p ≡ program_of s) (sound : IsSound s) (may : MayHaveTree s) (budget known : ℕ) (f : Found) (found : IsFound p known budget f)
    (best : Candidate) (held : IsHeld s best) (at_least : known ≤ best.worth) (reached : IfSome f.last (λ v. objective p v.items ≤ℤ pos best.worth))
    (mark : PlanMark) (optimal : best.worth ≡ f.bound → mark ≡ Optimal) (spent : (best.worth ≡ f.bound → ⊥) → mark ≡ Spent)
    (grants : List Grant) (in_turn : grants ≡ in_order comes_first best.grants) (low : ℕ) (heard : Vec Bool) where
  abbrev plan_with : PlanMark → Planned
  plan_with m = record { value = best.worth; bound = f.bound; mark = m; nodes = f.nodes; grants = grants; certificate = Tree f.marks }

  bounded : BoundsEveryLawful s f.bound
  bounded = certificates_bound s budget (plan_with Optimal) sound (record { kind = may; bound = (p, is, found.bound); nodes = found.nodes; mark = inl refl })

  value_le : best.worth ≤ f.bound
  value_le = omega (arith, held.worth, bounded best.grants held.lawful)

  optimal_at : f.bound ≤ best.worth → mark ≡ Optimal
  optimal_at le = optimal (omega (arith, le, value_le))

  closed : has_rest f.marks ≡ false → mark ≡ Optimal
  closed none = optimal_at (omega (arith, found.settled none, known_is_had p f.last f.best known best.worth at_least found.worth reached))

  -- the value is the bound or below it, and the mark says which
  either : ((best.worth ≡ f.bound) × (mark ≡ Optimal)) ⊎ ((best.worth < f.bound) × (mark ≡ Spent))
  either = by_test (nat_lt best.worth f.bound) refl
    where
      by_test : (t : Bool) → nat_lt best.worth f.bound ≡ t → ((best.worth ≡ f.bound) × (mark ≡ Optimal)) ⊎ ((best.worth < f.bound) × (mark ≡ Spent))
      by_test true e = let lt = ltb-true _ _ e in inr (lt, spent (λ h. absurd (omega (arith, lt, h))))
      by_test false e = let le = ltb-false _ _ e in inl (omega (arith, le, value_le), optimal_at le)

  left_open : mark ≡ Spent → has_rest f.marks ≡ true
  left_open e = by_test (has_rest f.marks) refl
    where
      by_test : (t : Bool) → has_rest f.marks ≡ t → t ≡ true
      by_test true h = refl
      by_test false h = absurd (spent_not_optimal (sym e ∙ closed h))

  cut : mark ≡ Spent → f.nodes ≡ budget
  cut e = found.spent (left_open e)

  below : mark ≡ Spent → best.worth < f.bound
  below e = by_either either
    where
      by_either : ((best.worth ≡ f.bound) × (mark ≡ Optimal)) ⊎ ((best.worth < f.bound) × (mark ≡ Spent)) → best.worth < f.bound
      by_either (inl h) = absurd (spent_not_optimal (sym e ∙ h.1))
      by_either (inr h) = h.0

  is_value : mark ≡ Optimal → best.worth ≡ f.bound
  is_value e = by_either either
    where
      by_either : ((best.worth ≡ f.bound) × (mark ≡ Optimal)) ⊎ ((best.worth < f.bound) × (mark ≡ Spent)) → best.worth ≡ f.bound
      by_either (inl h) = h.0
      by_either (inr h) = absurd (spent_not_optimal (sym h.1 ∙ e))

  never_wide : mark ≡ Wide → ⊥
  never_wide e = by_either either
    where
      by_either : ((best.worth ≡ f.bound) × (mark ≡ Optimal)) ⊎ ((best.worth < f.bound) × (mark ≡ Spent)) → ⊥
      by_either (inl h) = wide_not_optimal (sym e ∙ h.1)
      by_either (inr h) = wide_not_spent (sym e ∙ h.1)

  right_mark : (mark ≡ Optimal) ⊎ IsCutShort budget (Tree f.marks) (plan_with mark)
  right_mark = by_either either
    where
      by_either : ((best.worth ≡ f.bound) × (mark ≡ Optimal)) ⊎ ((best.worth < f.bound) × (mark ≡ Spent)) → (mark ≡ Optimal) ⊎ IsCutShort budget (Tree f.marks) (plan_with mark)
      by_either (inl h) = inl h.1
      by_either (inr h) = inr (h.1, cut h.1)

  good : IsGood s known (plan_with mark)
  good = record {
    honest = record {
      lawful = subst (IsLawful s) (sym in_turn) (lawful_in_order s best.grants held.lawful);
      thrifty = subst (IsThriftyForAll s) (sym in_turn) (thrifty_in_order s best.grants held.thrifty);
      attained = ap (total_in s) in_turn ∙ total_in_order s best.grants ∙ sym held.worth;
      at_least = at_least;
      optimal = (is_value, λ e. optimal e);
    };
    bounded = bounded;
  }

  pub plan_is_right : IsRight s known budget (record { value = best.worth; bound = f.bound; mark = mark; nodes = f.nodes; grants = grants; certificate = Tree f.marks; low = low; heard = heard })
  plan_is_right = record {
    good = good;
    certified = record { kind = may; bound = (p, is, found.bound); nodes = found.nodes; mark = right_mark };
    ordered = subst (AllPairs ComesBefore) (sym in_turn) (ordered_in_order s best.grants held.lawful);
    printable = (some_marks p f.marks f.bound found.bound, found.plain, found.short 2000 (omega (arith, columns_are s p is, may.columns)) (omega (arith, rows_are s p is, may.rows)));
    tree = tt;
    no_rest = closed;
    spent = λ e. (below e, left_open e, cut e);
    never_wide = never_wide;
    enough = λ le. closed (found.no_rest (omega (arith, enough_is s p is, le)));
  }

-- ---- a plan that is not searched for
-- the budget is nothing to a plan that is optimal or has no tree
pub certified_at : (s : Space) (budget other : ℕ) (p : Planned) → (p.mark ≡ Optimal) ⊎ (HasTree p.certificate → ⊥) → IsCertified s budget p → IsCertified s other p
certified_at s budget other p settled certified = record { kind = certified.kind; bound = certified.bound; nodes = certified.nodes; mark = by_settled settled certified.mark }
  where
    for_tops : (c : Certificate) → (HasTree c → ⊥) → IsCutShort budget c p → IsCutShort other c p
    for_tops (Tops columns rows) never cut = cut
    for_tops (Tree marks) never cut = absurd (never tt)

    by_settled : (p.mark ≡ Optimal) ⊎ (HasTree p.certificate → ⊥) → (p.mark ≡ Optimal) ⊎ IsCutShort budget p.certificate p → (p.mark ≡ Optimal) ⊎ IsCutShort other p.certificate p
    by_settled (inl optimal) m = inl optimal
    by_settled (inr never) (inl optimal) = inl optimal
    by_settled (inr never) (inr cut) = inr (for_tops p.certificate never cut)

open_has_tree : (c : Certificate) → leaves_open c ≡ true → HasTree c
open_has_tree (Tops columns rows) e = cc
open_has_tree (Tree marks) e = tt

-- no such plan is cut short by the budget
pub never_spent : (m : PlanMark) (c : Certificate) → (m ≡ Optimal) ⊎ (HasTree c → ⊥) → m ≡ Spent → leaves_open c ≡ true → ⊥
never_spent m c (inl optimal) e left = spent_not_optimal (sym e ∙ optimal)
never_spent m c (inr never) e left = never (open_has_tree c left)

-- and one with a tree is optimal
pub settled_tree : (m : PlanMark) (c : Certificate) → (m ≡ Optimal) ⊎ (HasTree c → ⊥) → HasTree c → m ≡ Optimal
settled_tree m c (inl optimal) has = optimal
settled_tree m c (inr never) has = absurd (never has)

-- what is good for what is known is good for less
pub good_at : (s : Space) (low less : ℕ) (p : Planned) → less ≤ low → IsGood s low p → IsGood s less p
good_at s low less p le good = record {
  honest = record {
    lawful = good.honest.lawful;
    thrifty = good.honest.thrifty;
    attained = good.honest.attained;
    at_least = omega (arith, le, good.honest.at_least);
    optimal = good.honest.optimal;
  };
  bounded = good.bounded;
}
