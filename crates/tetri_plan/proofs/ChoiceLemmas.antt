-- An instance has one chosen plan.
use Rattle.std.proofs.Common.{◌≡◌, ℕ, ◌==◌, ◌∙◌, refl, sym, ap, subst, List, cond, Bool, true, false, inl, inr, ◌⊎◌}
use Rattle.tetri_base.specs.Order.{in_order}
use Rattle.tetri_base.proofs.ListLaws.{eq_from_test}
use Rattle.tetri_strl.specs.declared.grants.Grant.{Grant}
use Rattle.tetri_cert.specs.declared.certificate.Certificate.{Certificate}
use Rattle.tetri_cert.specs.declared.certificate.Certificate.TheVariants.{Tops, Tree}
use Rattle.tetri_cert.specs.declared.plan_mark.PlanMark.{PlanMark}
use Rattle.tetri_cert.specs.declared.plan_mark.PlanMark.TheVariants.{Optimal}
use Rattle.tetri_space.specs.GrantOrder.{comes_first}
use Rattle.tetri_space.specs.Space.{Space}
use Rattle.tetri_space.specs.Total.{total_in}
use Rattle.tetri_search.proofs.SearchLaws.{earned_trees_are_one}
use Rattle.tetri_claims.specs.Certified.{IsBoundOf, IsCutShort, IsOfKind, counted_nodes}
use Rattle.tetri_claims.specs.Good.{IsHonest}
use Rattle.tetri_claims.specs.Planned.{Planned}
use Rattle.tetri_claims.proofs.ClaimLaws.{one_bound, says_same}
use Rattle.tetri_plan.specs.Chosen.{IsEarnedFor, kept, searched}
use Rattle.tetri_plan.specs.Laws.{ChosenPlansAreOne}
use Rattle.tetri_plan.specs.Searched.{mark_below, mark_for}
use Rattle.tetri_plan.proofs.PlanLemmas.{by_eq}

one_certificate : (s : Space) (low budget : ℕ) (c other : Certificate) → IsOfKind s c → IsOfKind s other → IsEarnedFor s low budget c → IsEarnedFor s low budget other → c ≡ other
one_certificate s low budget (Tops columns rows) (Tops wide high) is are earned earns = let a = is.1 in let b = is.2 in let c = are.1 in let d = are.2 in cc
one_certificate s low budget (Tops columns rows) (Tree marks) is are earned earns = absurd (is.0 are)
one_certificate s low budget (Tree marks) (Tops columns rows) is are earned earns = absurd (are.0 is)
one_certificate s low budget (Tree marks) (Tree others) is are earned earns =
    let same = earned_trees_are_one earned.0 earns.0 low budget marks others (says_same earned.0 earns.0 (earned.1 ∙ sym earns.1)) earned.2 earns.2 in
    cc

-- the mark is that of value, bound and certificate
module _ (s : Space) (low budget : ℕ) (p : Planned) (honest : IsHonest s low p) where
  cut_mark : (c : Certificate) → IsCutShort budget c p → p.mark ≡ mark_below c
  cut_mark (Tops columns rows) cut = cut
  cut_mark (Tree marks) cut = cut.0

  is_mark : (p.mark ≡ Optimal) ⊎ IsCutShort budget p.certificate p → p.mark ≡ mark_for p.value p.bound p.certificate
  is_mark told = by_test (p.value == p.bound) refl told
    where
      by_test : (t : Bool) → (p.value == p.bound) ≡ t → (p.mark ≡ Optimal) ⊎ IsCutShort budget p.certificate p → p.mark ≡ cond t Optimal (mark_below p.certificate)
      by_test true e told = honest.optimal.1 (eq_from_test p.value p.bound e)
      by_test false e (inl optimal) = absurd (by_eq e (honest.optimal.0 optimal))
      by_test false e (inr cut) = cut_mark p.certificate cut

-- a plan by its parts
same_parts : (value other : ℕ) (bound limit : ℕ) (mark sign : PlanMark) (nodes count : ℕ) (grants gifts : List Grant) (c d : Certificate) →
    value ≡ other → bound ≡ limit → mark ≡ sign → nodes ≡ count → grants ≡ gifts → c ≡ d →
    ◌≡◌ {A = Planned} (record { value = value; bound = bound; mark = mark; nodes = nodes; grants = grants; certificate = c })
    (record { value = other; bound = limit; mark = sign; nodes = count; grants = gifts; certificate = d })
same_parts value other bound limit mark sign nodes count grants gifts c d a b e f g h = cc

pub chosen_plans_are_one : ChosenPlansAreOne
chosen_plans_are_one s low carry given budget p other honest honor is are =
    let known = total_in s (kept s carry given) in
    let certificate = one_certificate s known budget p.certificate other.certificate is.certified.kind are.certified.kind is.earned are.earned in
    let grants = is.grants ∙ ap (λ (c : Certificate). in_order comes_first (searched s (kept s carry given) c)) certificate ∙ sym are.grants in
    let value = sym honest.attained ∙ ap (total_in s) grants ∙ honor.attained in
    let bound = one_bound s other.certificate p.bound other.bound (bound_as p.certificate other.certificate certificate is.certified.bound) are.certified.bound in
    let mark = is_mark s low budget p honest is.certified.mark
    ∙ ap (λ (v : ℕ). mark_for v p.bound p.certificate) value ∙ ap (λ (b : ℕ). mark_for other.value b p.certificate) bound ∙ ap (mark_for other.value other.bound) certificate
    ∙ sym (is_mark s low budget other honor are.certified.mark) in
    let nodes = is.certified.nodes ∙ ap counted_nodes certificate ∙ sym are.certified.nodes in
    same_parts p.value other.value p.bound other.bound p.mark other.mark p.nodes other.nodes p.grants other.grants p.certificate other.certificate value bound mark nodes grants certificate
  where
    bound_as : (c d : Certificate) → c ≡ d → IsBoundOf s c p.bound → IsBoundOf s d p.bound
    bound_as c d e h = subst (λ (k : Certificate). IsBoundOf s k p.bound) e h
