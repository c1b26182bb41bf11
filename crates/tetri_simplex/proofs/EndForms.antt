-- The ends, as the code forms them.
use Rattle.std.proofs.Common.{◌≡◌, ℕ, ◌+◌, ◌<◌, ◌≤◌, refl, sym, ap, ◌∙◌, arith, List, [], ◌∷◌, ◌++◌, length, get_or, drop, Bool, true, false, cond, eqb, Option, Some, None, Result, Ok, Err, MatchOption, drop-cons}
use Rattle.std.specs.Prelude.{unsigned_abs, ◌<ℤ◌}
use Prim.Native.Nat.{zero, suc}
use Rattle.std.proofs.lemmas.Bool.{eqb-true, eq-eqb}
use lib.IntN.{ℤ, pos}
use lib.Signed.{lt_z}
use Rattle.tetri_algebra.specs.Integers.{abs_of_positive}
use Rattle.tetri_algebra.specs.Rational.{ℚ, whole_ℚ}
use Rattle.tetri_algebra.specs.RationalRing.{zero_ℚ}
use Rattle.tetri_num.specs.declared.fractions.Frac.{Frac}
use Rattle.tetri_num.specs.declared.places.Kind.TheVariants as Kind
use Rattle.tetri_num.specs.declared.places.Place.{Place}
use Rattle.tetri_num.specs.Checked.{checked_sum, checked_difference}
use Rattle.tetri_num.specs.Frac.{value}
use Rattle.tetri_ip.specs.declared.programs.Program.{Program}
use Rattle.tetri_ip.specs.declared.programs.Row.{Row}
use Rattle.tetri_ip.specs.declared.programs.Weight.{Weight}
use Rattle.tetri_ip.specs.Points.{Bounds, number_at}
use Rattle.tetri_ip.specs.Forming.{weigh_answer}
use Rattle.tetri_simplex.specs.Ends.{End, past, then_end, common_denominator, whole_weights, when_weighed, weighted_end, weights_of, objective_weights, row_weights, value_at, point_from}
use Rattle.tetri_dictionary.specs.Fractions.{values}
use Rattle.tetri_dictionary.specs.Steps.{place_at, or_place}
use Rattle.tetri_base.specs.ResultSteps.{then_ok}
use Rattle.tetri_dictionary.specs.Tables.{Table, coefficients_of, constant_of, objective_of, row_at}
use Rattle.tetri_dictionary.proofs.DictionaryLaws.{onto, onto_nil, onto_more, drop_past, map_push}

more_is : (k : ℕ) → suc k ≡ k + 1
more_is k = omega arith

-- ---- the weights, weighed
pub weighted_known : (p : Program) (b : Bounds) (ws : List ℚ) (has : Bool) (d d' q : ℤ) (ys ys' : List Weight) → common_denominator 0 1 ws ≡ Ok (unsigned_abs d) → whole_weights 0 (unsigned_abs d') ws ≡ Ok ys → d' ≡ d → pos 0 <ℤ d →
    q ≡ cond has d (pos 0) → ys' ≡ ys → (done : ℤ → List Weight → End) →
    weighted_end p b ws (λ n. cond has (pos n) (pos 0)) done ≡ when_weighed (weigh_answer p b q ys') (done q ys)
weighted_known p b ws has d d' q ys ys' ce we de h qe ye done =
    let m : ℕ → ℤ = λ n. cond has (pos n) (pos 0) in
    let f : ℕ → List Weight → End = λ n zs. when_weighed (weigh_answer p b (m n) zs) (done (m n) zs) in
    let n = unsigned_abs d in
    let me : m n ≡ q = ap (λ z. cond has z (pos 0)) (abs_of_positive d h) ∙ sym qe in
    ap (λ o. then_end o (λ k. then_end (whole_weights 0 k ws) (λ zs. f k zs))) ce
    ∙ ap (λ o. then_end o (λ zs. f n zs)) (ap (λ z. whole_weights 0 (unsigned_abs z) ws) (sym de) ∙ we)
    ∙ ap (λ z. when_weighed (weigh_answer p b z ys) (done z ys)) me
    ∙ ap (λ zs. when_weighed (weigh_answer p b q zs) (done q ys)) (sym ye)

pub with_objective : (has : Bool) (q d d' : ℤ) → has ≡ true → q ≡ d' → d' ≡ d → q ≡ cond has d (pos 0)
with_objective has q d d' h qe de = qe ∙ de ∙ ap (λ t. cond t d (pos 0)) (sym h)

pub without_objective : (has : Bool) (q d : ℤ) → has ≡ false → q ≡ pos 0 → q ≡ cond has d (pos 0)
without_objective has q d h qe = qe ∙ ap (λ t. cond t d (pos 0)) (sym h)

pub no_denominator : (p : Program) (b : Bounds) (ws : List ℚ) (m : ℕ → ℤ) (e : Place) (done : ℤ → List Weight → End) → common_denominator 0 1 ws ≡ Err e → weighted_end p b ws m done ≡ past e
no_denominator p b ws m e done ce = ap (λ o. then_end o (λ k. then_end (whole_weights 0 k ws) (λ zs. when_weighed (weigh_answer p b (m k) zs) (done (m k) zs)))) ce

-- ---- the weights of a row of the table
pub row_weights_are : (p : Program) (t : Table) (i own first : ℕ) (rows : List Row) (made read : List Frac) → own ≡ get_or t.basic i 0 → first ≡ length p.costs.items → rows ≡ p.rows.items →
    values made ≡ weights_of t.nonbasic (coefficients_of (row_at t i)) own first rows → read ≡ made → values read ≡ row_weights p t i
row_weights_are p t i own first rows made read oe fe pe e me =
    ap values me ∙ e
    ∙ ap (λ v. weights_of t.nonbasic (coefficients_of (row_at t i)) v first rows) oe
    ∙ ap (λ v. weights_of t.nonbasic (coefficients_of (row_at t i)) (get_or t.basic i 0) v rows) fe
    ∙ ap (λ rs. weights_of t.nonbasic (coefficients_of (row_at t i)) (get_or t.basic i 0) (length p.costs.items) rs) pe

pub objective_weights_are : (p : Program) (t : Table) (k none first : ℕ) (rows : List Row) (made read : List Frac) → k ≡ length t.basic → none ≡ length p.costs.items + length p.rows.items + length p.costs.items → first ≡ length p.costs.items → rows ≡ p.rows.items →
    values made ≡ weights_of t.nonbasic (coefficients_of (row_at t k)) none first rows → read ≡ made → values read ≡ objective_weights p t
objective_weights_are p t k none first rows made read ke ne fe pe e me =
    ap values me ∙ e
    ∙ ap (λ i. weights_of t.nonbasic (coefficients_of (row_at t i)) none first rows) ke
    ∙ ap (λ v. weights_of t.nonbasic (coefficients_of (objective_of t)) v first rows) ne
    ∙ ap (λ v. weights_of t.nonbasic (coefficients_of (objective_of t)) (length p.costs.items + length p.rows.items + length p.costs.items) v rows) fe
    ∙ ap (λ rs. weights_of t.nonbasic (coefficients_of (objective_of t)) (length p.costs.items + length p.rows.items + length p.costs.items) (length p.costs.items) rs) pe

-- ---- the value of a variable
value_none : (bs : List ℕ) (v : ℕ) → value_at bs [] v ≡ zero_ℚ
value_none [] v = refl
value_none (b ∷ bs) v = refl

pub value_found : (bs : List ℕ) (rows : List (List ℚ)) (v k : ℕ) → k < length bs → get_or bs k 0 ≡ v → value_at (drop k bs) (drop k rows) v ≡ constant_of (get_or rows k [])
value_found [] rows v k h e = absurd (omega arith)
value_found (b ∷ bs) [] v zero h e = refl
value_found (b ∷ bs) (row ∷ rows) v zero h e = ap (λ t. cond t (constant_of row) (value_at bs rows v)) (eq-eqb b v e)
value_found (b ∷ bs) [] v (suc k) h e = value_none (drop k bs) v
value_found (b ∷ bs) (row ∷ rows) v (suc k) h e = value_found bs rows v k (omega arith) e

value_next : (bs : List ℕ) (rows : List (List ℚ)) (v k : ℕ) → k < length bs → (get_or bs k 0 ≡ v → ⊥) → value_at (drop (suc k) bs) (drop (suc k) rows) v ≡ value_at (drop k bs) (drop k rows) v
value_next [] rows v k h d = absurd (omega arith)
value_next (b ∷ bs) [] v zero h d = value_none bs v
value_next (b ∷ bs) (row ∷ rows) v zero h d = by_test (eqb b v) refl
  where
    by_test : (t : Bool) → eqb b v ≡ t → value_at bs rows v ≡ cond t (constant_of row) (value_at bs rows v)
    by_test true e = absurd (d (eqb-true b v e))
    by_test false e = refl
value_next (b ∷ bs) [] v (suc k) h d = value_none (drop (suc k) bs) v ∙ sym (value_none (drop k bs) v)
value_next (b ∷ bs) (row ∷ rows) v (suc k) h d = value_next bs rows v k (omega arith) d

pub value_other : (bs : List ℕ) (rows : List (List ℚ)) (v k : ℕ) → k < length bs → (get_or bs k 0 ≡ v → ⊥) → value_at (drop (k + 1) bs) (drop (k + 1) rows) v ≡ value_at (drop k bs) (drop k rows) v
value_other bs rows v k h d = ap (λ n. value_at (drop n bs) (drop n rows) v) (sym (more_is k)) ∙ value_next bs rows v k h d

pub value_done : (bs : List ℕ) (rows : List (List ℚ)) (v k : ℕ) → length bs ≤ k → value_at (drop k bs) (drop k rows) v ≡ zero_ℚ
value_done bs rows v k h = ap (λ us. value_at us (drop k rows) v) (drop_past k bs h)

-- ---- the point
abbrev pub coordinate_of : ℤ → ℤ → ℤ → ℚ → Option ℚ
coordinate_of cost lower upper moved = cond (lt_z (pos 0) cost) (checked_difference (whole_ℚ upper) moved) (checked_sum (whole_ℚ lower) moved)

abbrev pub point_rest : List ℕ → List (List ℚ) → ℕ → List ℤ → List ℤ → List ℤ → Result (List ℚ) Place
point_rest bs rows j cs ls us = point_from bs rows j (drop j cs) (drop j ls) (drop j us)

point_more : (bs : List ℕ) (rows : List (List ℚ)) (j : ℕ) (cs ls us : List ℤ) → j < length cs → j < length ls → j < length us →
    point_rest bs rows j cs ls us
    ≡ then_ok (or_place (coordinate_of (number_at cs j) (number_at ls j) (number_at us j) (value_at bs rows j)) Kind.Point 0 j) (λ x. then_ok (point_rest bs rows (j + 1) cs ls us) (λ xs. Ok (x ∷ xs)))
point_more bs rows j cs ls us h g k =
    let o = or_place (coordinate_of (number_at cs j) (number_at ls j) (number_at us j) (value_at bs rows j)) Kind.Point 0 j in
    ap (λ xs. point_from bs rows j xs (drop j ls) (drop j us)) (drop-cons cs j (pos 0) h)
    ∙ ap (λ xs. point_from bs rows j (number_at cs j ∷ drop (suc j) cs) xs (drop j us)) (drop-cons ls j (pos 0) g)
    ∙ ap (λ xs. point_from bs rows j (number_at cs j ∷ drop (suc j) cs) (number_at ls j ∷ drop (suc j) ls) xs) (drop-cons us j (pos 0) k)
    ∙ ap (λ m. then_ok o (λ x. then_ok (point_from bs rows (j + 1) (drop m cs) (drop m ls) (drop m us)) (λ xs. Ok (x ∷ xs)))) (more_is j)

-- what the code's coordinate says
formed_is : (o : Option Frac) (s : Option ℚ) → MatchOption o (s ≡ None) (λ y. s ≡ Some (value y)) → (x : Frac) → o ≡ Some x → s ≡ Some (value x)
formed_is (Some y) s h x e = let f : y ≡ x = cc in h ∙ ap (λ z. Some (value z)) f
formed_is None s h x e = cc

pub point_next : (bs : List ℕ) (rows : List (List ℚ)) (j : ℕ) (cs ls us : List ℤ) (c l u : ℤ) (moved : ℚ) (x : Frac) (done made : List Frac) → j < length cs → j < length ls → j < length us →
    c ≡ number_at cs j → l ≡ number_at ls j → u ≡ number_at us j → moved ≡ value_at bs rows j → coordinate_of c l u moved ≡ Some (value x) → made ≡ done ++ (x ∷ []) →
    onto (values made) (point_rest bs rows (j + 1) cs ls us) ≡ onto (values done) (point_rest bs rows j cs ls us)
point_next bs rows j cs ls us c l u moved x done made h g k ce le ue ve e me =
    let s : coordinate_of (number_at cs j) (number_at ls j) (number_at us j) (value_at bs rows j) ≡ Some (value x) =
    sym (ap (λ z. coordinate_of z l u moved) ce ∙ ap (λ z. coordinate_of (number_at cs j) z u moved) le ∙ ap (λ z. coordinate_of (number_at cs j) (number_at ls j) z moved) ue ∙ ap (λ z. coordinate_of (number_at cs j) (number_at ls j) (number_at us j) z) ve) ∙ e in
    ap (λ zs. onto zs (point_rest bs rows (j + 1) cs ls us)) (ap values me ∙ map_push value done x)
    ∙ sym (ap (onto (values done)) (point_more bs rows j cs ls us h g k ∙ ap (λ o. then_ok (or_place o Kind.Point 0 j) (λ y. then_ok (point_rest bs rows (j + 1) cs ls us) (λ xs. Ok (y ∷ xs)))) s)
    ∙ onto_more (values done) (value x) (point_rest bs rows (j + 1) cs ls us))

pub point_stop : (bs : List ℕ) (rows : List (List ℚ)) (j : ℕ) (cs ls us : List ℤ) (c l u : ℤ) (moved : ℚ) (done : List Frac) → j < length cs → j < length ls → j < length us →
    c ≡ number_at cs j → l ≡ number_at ls j → u ≡ number_at us j → moved ≡ value_at bs rows j → coordinate_of c l u moved ≡ None →
    onto (values done) (point_rest bs rows j cs ls us) ≡ Err (place_at Kind.Point 0 j)
point_stop bs rows j cs ls us c l u moved done h g k ce le ue ve e =
    let s : coordinate_of (number_at cs j) (number_at ls j) (number_at us j) (value_at bs rows j) ≡ None =
    sym (ap (λ z. coordinate_of z l u moved) ce ∙ ap (λ z. coordinate_of (number_at cs j) z u moved) le ∙ ap (λ z. coordinate_of (number_at cs j) (number_at ls j) z moved) ue ∙ ap (λ z. coordinate_of (number_at cs j) (number_at ls j) (number_at us j) z) ve) ∙ e in
    ap (onto (values done)) (point_more bs rows j cs ls us h g k ∙ ap (λ o. then_ok (or_place o Kind.Point 0 j) (λ y. then_ok (point_rest bs rows (j + 1) cs ls us) (λ xs. Ok (y ∷ xs)))) s)

append_nil : {B : Type 0} → (ys : List B) → ys ++ [] ≡ ys
append_nil [] = refl
append_nil (y ∷ ys) = ap (λ zs. y ∷ zs) (append_nil ys)

pub point_done : (bs : List ℕ) (rows : List (List ℚ)) (j : ℕ) (cs ls us : List ℤ) (done : List Frac) → length cs ≤ j → onto (values done) (point_rest bs rows j cs ls us) ≡ Ok (values done)
point_done bs rows j cs ls us done h = ap (λ xs. onto (values done) (point_from bs rows j xs (drop j ls) (drop j us))) (drop_past j cs h) ∙ ap Ok (append_nil (values done))

pub point_init : (bs : List ℕ) (rows : List (List ℚ)) (cs ls us : List ℤ) (done : List Frac) → done ≡ [] → onto (values done) (point_rest bs rows 0 cs ls us) ≡ point_from bs rows 0 cs ls us
point_init bs rows cs ls us done e = ap (λ zs. onto (values zs) (point_rest bs rows 0 cs ls us)) e ∙ onto_nil (point_rest bs rows 0 cs ls us)
