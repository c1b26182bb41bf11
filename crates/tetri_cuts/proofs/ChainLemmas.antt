-- Cuts that follow one another, and what a taken cut says.
use Rattle.std.proofs.Common.{◌≡◌, ℕ, ◌+◌, ◌^◌, ◌<◌, ◌≤◌, refl, sym, ap, ◌∙◌, subst, arith, inl, inr, List, [], ◌∷◌, ◌++◌, length, Option, Some, None}
use Prim.Native.Nat.{suc}
use Rattle.std.specs.Prelude.{◌-◌, ◌≤ℤ◌, ◌<ℤ◌, ◌*ℤ◌}
use Rattle.std.specs.Int.{int_div_euclid, saturate_unsigned, w64}
use Rattle.std.proofs.lemmas.Bool.{cases_lt}
use Rattle.std.proofs.lemmas.Int.{ints}
use Rattle.std.proofs.lemmas.Option.{same_Some}
use lib.IntN.{ℤ, pos, ◌+ℤ◌}
use Rattle.tetri_algebra.specs.Integers.{mul_lt_cancel, mul_positive}
use Rattle.tetri_algebra.specs.Quotients.{div_above}
use Rattle.tetri_algebra.specs.IntegerRing.{ℤ_ring}
use Rattle.tetri_algebra.specs.Sums.{dot}
use Rattle.tetri_ip.specs.declared.programs.Program.{Program}
use Rattle.tetri_ip.specs.declared.programs.Term.{Term}
use Rattle.tetri_ip.specs.declared.programs.Weight.{Weight}
use Rattle.tetri_ip.specs.Points.{IsFit, IsFitRow, IsPoint, box_of, left_side, objective}
use Rattle.tetri_ip.specs.SamePrograms.{SaysSame}
use Rattle.tetri_ip.specs.Weighed.{AreNotNegative, weighed}
use Rattle.tetri_ip.proofs.IntegerProgramLaws.{weak_duality}
use Rattle.tetri_simplex.specs.Certificates.{Certifies, CertifiesBest}
use Rattle.tetri_simplex.specs.Ends.{End, best, cut, empty, past, long}
use Rattle.tetri_simplex.proofs.DualRunLaws.{machine_certified}
use Rattle.tetri_cuts.specs.declared.tightening.Added.{Added}
use Rattle.tetri_cuts.specs.Cuts.{HasNoNegativeBound, IsMetByPoints, cut_right, cut_terms}
use Rattle.tetri_cuts.specs.Tightening.{Bounds, HasRowLast, PlainRoot, Stops, Takes, Tightens, bound_by, own_root, root_behind, root_run}
use Rattle.tetri_cuts.proofs.ColumnLemmas.{whole_box}
use Rattle.tetri_cuts.proofs.CutLaw.{cut_met}

-- ---- from a program with c cuts made and a root before, by some cuts, to a program and the root before it
abbrev pub Follows : Program → ℕ → Option PlainRoot → List Added → Program → Option PlainRoot → Type 0
Follows p c before [] last root = (p ≡ last) × (before ≡ root)
Follows p c before (a ∷ more) last root =
    Takes p c a × ((next : Program) × (HasRowLast p a.row next × Follows next (c + 1) (root_behind p before) more last root))

abbrev pub IsReached : Program → List Added → Program → Option PlainRoot → Type 0
IsReached p cuts last root = (first : Program) × (SaysSame p first × Follows first 0 None cuts last root)

pub first_reached : (p q : Program) → SaysSame p q → IsReached p [] q None
first_reached p q same = (q, (same, (refl, refl)))

-- one more cut
follows_push : (p : Program) (c : ℕ) (before : Option PlainRoot) (more : List Added) (last : Program) (root : Option PlainRoot) (a : Added) (next : Program) →
    Follows p c before more last root → Takes last (c + length more) a → HasRowLast last a.row next → Follows p c before (more ++ a ∷ []) next (root_behind last root)
follows_push p c before [] last root a next h t k =
    let n : c + 0 ≡ c = omega arith in (
      subst (λ x. Takes x c a) (sym h.0) (subst (λ i. Takes last i a) n t),
      (
        next,
        (
          subst (λ x. HasRowLast x a.row next) (sym h.0) k,
          (refl, ap (λ x. root_behind x before) h.0 ∙ ap (root_behind last) h.1),
        ),
      ),
    )
follows_push p c before (b ∷ more) last root a next h t k =
    let n : c + suc (length more) ≡ c + 1 + length more = omega arith in (
      h.0,
      (
        h.1.0,
        (
          h.1.1.0,
          follows_push h.1.0 (c + 1) (root_behind p before) more last root a next h.1.1.1 (subst (λ i. Takes last i a) n t) k,
        ),
      ),
    )

pub reached_push : (p : Program) (cuts new : List Added) (last : Program) (root : Option PlainRoot) (a : Added) (next : Program) → new ≡ cuts ++ a ∷ [] →
    IsReached p cuts last root → Takes last (length cuts) a → HasRowLast last a.row next → IsReached p new next (root_behind last root)
reached_push p cuts new last root a next e h t k =
    let n : length cuts ≡ 0 + length cuts = omega arith in
    (h.0, (h.1.0, subst (λ zs. Follows h.0 0 None zs next (root_behind last root)) (sym e) (follows_push h.0 0 None cuts last root a next h.1.1 (subst (λ i. Takes last i a) n t) k)))

-- no more cut
follows_end : (p : Program) (c : ℕ) (before : Option PlainRoot) (more : List Added) (last : Program) (root r : Option PlainRoot) →
    Follows p c before more last root → Stops last (c + length more) → r ≡ root_behind last root → Tightens p c before more r
follows_end p c before [] last root r h s e =
    let n : c + 0 ≡ c = omega arith in (
      subst (λ x. Stops x c) (sym h.0) (subst (λ i. Stops last i) n s),
      e ∙ ap (root_behind last) (sym h.1) ∙ ap (λ x. root_behind x before) (sym h.0),
    )
follows_end p c before (b ∷ more) last root r h s e =
    let n : c + suc (length more) ≡ c + 1 + length more = omega arith in
    (h.0, (h.1.0, (h.1.1.0, follows_end h.1.0 (c + 1) (root_behind p before) more last root r h.1.1.1 (subst (λ i. Stops last i) n s) e)))

pub reached_end : (p : Program) (cuts : List Added) (last : Program) (root r : Option PlainRoot) → IsReached p cuts last root → Stops last (length cuts) → r ≡ root_behind last root →
    (first : Program) × (SaysSame p first × Tightens first 0 None cuts r)
reached_end p cuts last root r h s e =
    let n : length cuts ≡ 0 + length cuts = omega arith in
    (h.0, (h.1.0, follows_end h.0 0 None cuts last root r h.1.1 (subst (λ i. Stops last i) n s) e))

-- ---- a taken cut
pub record SaysOfCut (p : Program) (c : ℕ) (a : Added) : Type 0 where
  pub fit : IsFitRow p a.row.terms.items a.row.right
  pub few_rows : length p.rows.items < 2000
  pub few_cuts : c < 16
  pub met : IsMetByPoints p a.row

pub taken_says : (p : Program) (c : ℕ) (a : Added) → IsFit p → HasNoNegativeBound p → Takes p c a → SaysOfCut p c a
taken_says p c a fit low t =
    let point = t.0 in
    let q = t.1.0 in
    let ws = t.1.1.0 in
    let goes = t.1.1.1.0 in
    let taken = t.1.1.1.1 in
    let certified : CertifiesBest p (box_of p) 0 point q ws = subst (λ e. Certifies p (box_of p) 0 e) goes.run (machine_certified p (box_of p) 0 (whole_box p fit)) in
    let divisor = q *ℤ pos taken.d in
    let positive : pos 1 ≤ℤ divisor = at_least_one divisor (mul_positive q (pos taken.d) certified.multiplier (above_zero taken.d taken.least)) in
    let terms : a.row.terms.items ≡ cut_terms p divisor ws = taken.cut.row.terms ∙ ap (λ y. cut_terms p y ws) taken.cut.divisor in
    let right : a.row.right ≡ cut_right p divisor ws = taken.cut.row.right ∙ ap (λ y. cut_right p y ws) taken.cut.divisor in
    record {
      fit = subst (λ (ts : List Term). IsFitRow p ts a.row.right) (sym terms) (subst (λ (z : ℤ). IsFitRow p (cut_terms p divisor ws) z) (sym right) taken.cut.passes.fit);
      few_rows = goes.few_rows;
      few_cuts = goes.few_cuts;
      met = λ x is. subst (λ (ts : List Term). left_side ts x ≤ℤ a.row.right) (sym terms) (subst (λ (z : ℤ). left_side (cut_terms p divisor ws) x ≤ℤ z) (sym right)
          (cut_met p divisor ws positive low certified.weights.rows certified.weights.signs x is));
    }
  where
    at_least_one : (z : ℤ) → pos 0 <ℤ z → pos 1 ≤ℤ z
    at_least_one z h = omega (arith, ints)

    above_zero : (d : ℕ) → 2 ≤ d → pos 0 <ℤ pos d
    above_zero d h = omega (arith, ints)

-- ---- the root
-- a whole number whose product with q is at most w is at most the floor of w over q
floor_above : (q o w : ℤ) → pos 0 <ℤ q → (q *ℤ o) ≤ℤ w → o ≤ℤ int_div_euclid w q
floor_above q o w h k =
    let above : w <ℤ ((int_div_euclid w q +ℤ pos 1) *ℤ q) = div_above w q h in
    let swapped : (o *ℤ q) <ℤ ((int_div_euclid w q +ℤ pos 1) *ℤ q) = omega (arith, ints) in
    let less : o <ℤ (int_div_euclid w q +ℤ pos 1) = mul_lt_cancel q o (int_div_euclid w q +ℤ pos 1) h swapped in
    omega (arith, ints)

-- the floor bounds each point, so that the capped floor does where it was not lowered
not_capped : (o z : ℤ) (b : ℕ) → b ≡ saturate_unsigned w64 z → b < 2 ^ 64 - 1 → o ≤ℤ z → o ≤ℤ pos b
not_capped o z b e l k = omega (arith, ints, e, l)

at_the_top : (o : ℤ) (b : ℕ) → 2 ^ 64 - 1 ≤ b → o ≤ℤ pos (2 ^ 64 - 1) → o ≤ℤ pos b
at_the_top o b l k = omega (arith, ints)

capped_bounds : (p : Program) (z : ℤ) (bound : ℕ) → bound ≡ saturate_unsigned w64 z → ((point : List ℤ) → IsPoint p (box_of p) point → objective p point ≤ℤ z) → Bounds p bound
capped_bounds p z bound e h (inl l) point is = not_capped (objective p point) z bound e l (h point is)
capped_bounds p z bound e h (inr above) point is = elim (cases_lt bound (2 ^ 64 - 1)) [
  | inl l ↦ not_capped (objective p point) z bound e l (h point is)
  | inr l ↦ at_the_top (objective p point) bound l (above point is)
]

-- the weights of a program with at least the points of another one bound these
weights_bound : (p current : Program) (q : ℤ) (ws : List Weight) → current.costs.items ≡ p.costs.items →
    ((point : List ℤ) → IsPoint p (box_of p) point → IsPoint current (box_of current) point) → AreNotNegative ws → pos 0 <ℤ q → Bounds p (bound_by current q ws)
weights_bound p current q ws same points signs positive =
    capped_bounds p (int_div_euclid (weighed current (box_of current) q ws) q) (bound_by current q ws) refl
    (λ point is. floor_above q (objective p point) (weighed current (box_of current) q ws) positive
    (subst (λ (z : ℤ). (q *ℤ z) ≤ℤ weighed current (box_of current) q ws) (objectives point) (weak_duality current (box_of current) q ws signs point (points point is))))
  where
    objectives : (point : List ℤ) → objective current point ≡ objective p point
    objectives point = ap (λ (cs : List ℤ). dot ℤ_ring cs point) same

-- the root that a run gives
own_bounds : (p current : Program) (e : End) (root : PlainRoot) → IsFit current → current.costs.items ≡ p.costs.items →
    ((point : List ℤ) → IsPoint p (box_of p) point → IsPoint current (box_of current) point) → Certifies current (box_of current) 0 e → own_root current e ≡ Some root → Bounds p root.bound
own_bounds p current (best point q ws) root fit same points h is =
    subst (λ (r : PlainRoot). Bounds p r.bound) (same_Some _ _ is) (weights_bound p current q ws same points h.weights.signs h.multiplier)
own_bounds p current (cut q ws) root fit same points h is =
    subst (λ (r : PlainRoot). Bounds p r.bound) (same_Some _ _ is) (weights_bound p current q ws same points h.weights.signs h.multiplier)
own_bounds p current (empty ws) root fit same points h is = cc
own_bounds p current (past place) root fit same points h is = cc
own_bounds p current long root fit same points h is = cc

pub run_bounds : (p current : Program) (root : PlainRoot) → IsFit current → current.costs.items ≡ p.costs.items →
    ((point : List ℤ) → IsPoint p (box_of p) point → IsPoint current (box_of current) point) → own_root current (root_run current) ≡ Some root → Bounds p root.bound
run_bounds p current root fit same points is =
    own_bounds p current (root_run current) root fit same points (machine_certified current (box_of current) 0 (whole_box current fit)) is
