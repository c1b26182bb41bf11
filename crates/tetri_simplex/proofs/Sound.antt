-- What Cut and Empty say, over a table that each point of the box solves.
use Rattle.std.proofs.Common.{◌≡◌, ℕ, ◌+◌, ◌*◌, ◌-◌, ◌<◌, ◌≤◌, refl, sym, ap, ◌∙◌, subst, arith, List, [], ◌∷◌, ◌++◌, length, get_or, drop, map, Ok, Bool, true, false, cond, eqb, ⊎_elim}
use Rattle.std.specs.Prelude.{◌≤ℤ◌, ◌<ℤ◌}
use Prim.Native.Nat.{zero, suc}
use Rattle.std.proofs.Math.ListN.{get_or-map, get_or-append}
use Rattle.std.proofs.lemmas.List.{get_or-append-add}
use Rattle.std.proofs.lemmas.Bool.{eq-eqb, false≢true, cases_lt}
use Rattle.std.proofs.lemmas.Int.{ints, by_lt_z}
use borrow.Author.Differences.{lt-true}
use lib.IntN.{ℤ, pos, negsuc, ◌+ℤ◌, ◌-ℤ◌, ◌*ℤ◌, neg_ℤ}
use lib.Signed.{lt_z, le_z}
use Rattle.tetri_algebra.specs.Integers.{mul_le_right, mul_lt_right}
use Rattle.tetri_algebra.specs.Quotients.{div_above}
use Rattle.tetri_algebra.specs.RationalOrder.{floor_ℚ}
use Rattle.tetri_algebra.specs.CommutativeRing.{add_cancel}
use Rattle.tetri_algebra.specs.IntegerRing.{ℤ_ring}
use Rattle.tetri_algebra.specs.Rational.{fraction-one, ℚ, whole_ℚ, fraction, fraction-cross, fraction_self}
use Rattle.tetri_algebra.specs.RationalRing.{ℚ_ring, zero_ℚ, add-fraction, mul-fraction, positive_product, ◌+ℚ◌, ◌*ℚ◌, neg_ℚ, whole_ℚ-+ℤ, whole_ℚ-*ℤ}
use Rattle.tetri_algebra.specs.RingSolver.{var, num, nil, minus, ring, ◌⊕◌, ◌⊗◌}
use Rattle.tetri_algebra.specs.Sums.{dot}
use Rattle.tetri_ip.specs.Points.{Bounds, objective, left_side, number_at}
use Rattle.tetri_ip.specs.Weighed.{weighed}
use Rattle.tetri_ip.specs.declared.programs.Program.{Program}
use Rattle.tetri_ip.specs.declared.programs.Row.{Row}
use Rattle.tetri_ip.specs.declared.programs.Weight.{Weight}
use Rattle.tetri_simplex.proofs.Corners.{slack_sum, weighed_at_corner}
use Rattle.tetri_simplex.proofs.FirstValues.{ys_of, bounds_from, AreAbove, ys_above, bounds_above}
use Rattle.tetri_dictionary.proofs.DictionaryLaws.{Solves, values_at, other, le_cancel, whole_not_below, NotBelow, AtMost, add_not_below, mul_not_below, zero_not_below, not_above}
use Rattle.tetri_simplex.proofs.Placed.{IsPlaced, IsBox}
use Rattle.tetri_simplex.proofs.RowWeights.{slack_at, IsAbsent, AreApart, AreNotAbove, weights_at_most}
use Rattle.tetri_simplex.proofs.WholeWeights.{AreNotBelow, slack_of, sum_at, common_denominator_is, whole_weights_sum}
use Rattle.tetri_dictionary.specs.Choices.{has_positive}
use Rattle.tetri_simplex.specs.Ends.{is_cut, coefficient_of, weights_of, common_denominator, whole_weights}
use Rattle.tetri_dictionary.specs.Tables.{Table, is_positive, is_negative, coefficients_of, objective_of}
use Rattle.std.proofs.lemmas.List.{length-map}

-- ---- the values at a point
abbrev pub slacks_of : List Row → List ℤ → List ℤ
slacks_of rows x = map (λ row. row.right -ℤ left_side row.terms.items x) rows

abbrev pub val_at : Program → Bounds → List ℤ → ℕ → ℚ
val_at p r x v =
    let ys = ys_of p.costs.items r.lower r.upper x in
    get_or (map whole_ℚ ys ++ (map whole_ℚ (slacks_of p.rows.items x) ++ map whole_ℚ (bounds_from ys 0 r.lower r.upper))) v zero_ℚ

wholes_not_below : (zs : List ℤ) → AreAbove zs → AreNotBelow (map whole_ℚ zs)
wholes_not_below [] h = tt
wholes_not_below (z ∷ zs) h = (whole_not_below z h.0, wholes_not_below zs h.1)

get_not_below : (ws : List ℚ) (k : ℕ) → AreNotBelow ws → NotBelow (get_or ws k zero_ℚ)
get_not_below [] k h = zero_not_below
get_not_below (w ∷ ws) zero h = h.0
get_not_below (w ∷ ws) (suc k) h = get_not_below ws k h.1

less_nothing : (p : ℚ) → p ≡ ◌+ℚ◌ p (neg_ℚ zero_ℚ)
less_nothing p = ring ℚ_ring (p ∷ []) (var 0) (var 0 ⊕ minus nil) refl

slack_before : (v : ℕ) (ss : List ℚ) (b : ℕ) → b < v → slack_at v ss b ≡ zero_ℚ
slack_before v [] b h = refl
slack_before v (s ∷ ss) b h =
    ap (λ t. ◌+ℚ◌ (cond t s zero_ℚ) (slack_at (v + 1) ss b)) (other b v (λ (e : b ≡ v). omega arith))
    ∙ ap (λ z. ◌+ℚ◌ zero_ℚ z) (slack_before (v + 1) ss b (omega arith)) ∙ ring ℚ_ring [] (nil ⊕ nil) nil refl

pub slack_after : (v : ℕ) (ss : List ℚ) (b : ℕ) → v + length ss ≤ b → slack_at v ss b ≡ zero_ℚ
slack_after v [] b h = refl
slack_after v (s ∷ ss) b h =
    ap (λ t. ◌+ℚ◌ (cond t s zero_ℚ) (slack_at (v + 1) ss b)) (other b v (λ (e : b ≡ v). omega arith))
    ∙ ap (λ z. ◌+ℚ◌ zero_ℚ z) (slack_after (v + 1) ss b (omega arith)) ∙ ring ℚ_ring [] (nil ⊕ nil) nil refl

behind : (v : ℕ) (ss bs : List ℚ) (i : ℕ) → AreNotBelow bs → NotBelow (◌+ℚ◌ (get_or (ss ++ bs) i zero_ℚ) (neg_ℚ (slack_at v ss (v + i))))
behind v [] bs i h = subst NotBelow (less_nothing _) (get_not_below bs i h)
behind v (s ∷ ss) bs zero h =
    let e : slack_at v (s ∷ ss) (v + zero) ≡ s =
    ap (λ t. ◌+ℚ◌ (cond t s zero_ℚ) (slack_at (v + 1) ss (v + zero))) (eq-eqb (v + zero) v (omega arith))
    ∙ ap (λ z. ◌+ℚ◌ s z) (slack_before (v + 1) ss (v + zero) (omega arith)) ∙ ring ℚ_ring (s ∷ []) (var 0 ⊕ nil) (var 0) refl in
    subst NotBelow (ring ℚ_ring (s ∷ []) nil (var 0 ⊕ minus (var 0)) refl ∙ ap (λ z. ◌+ℚ◌ s (neg_ℚ z)) (sym e)) zero_not_below
behind v (s ∷ ss) bs (suc i) h =
    let k : (v + 1) + i ≡ v + suc i = omega arith in
    let e : slack_at v (s ∷ ss) (v + suc i) ≡ slack_at (v + 1) ss ((v + 1) + i) =
    ap (λ t. ◌+ℚ◌ (cond t s zero_ℚ) (slack_at (v + 1) ss (v + suc i))) (other (v + suc i) v (λ (q : v + suc i ≡ v). omega arith))
    ∙ ring ℚ_ring (slack_at (v + 1) ss (v + suc i) ∷ []) (nil ⊕ var 0) (var 0) refl
    ∙ ap (λ n. slack_at (v + 1) ss n) (sym k) in
    subst NotBelow (ap (λ z. ◌+ℚ◌ (get_or (ss ++ bs) i zero_ℚ) (neg_ℚ z)) (sym e)) (behind (v + 1) ss bs i h)

-- each value is at least the slack of its own variable, 0 where it is no row's
above_slack : (ys ss bs : List ℚ) (b : ℕ) → AreNotBelow ys → AreNotBelow bs → NotBelow (◌+ℚ◌ (get_or (ys ++ (ss ++ bs)) b zero_ℚ) (neg_ℚ (slack_at (length ys) ss b)))
above_slack ys ss bs b h k =
    ⊎_elim (λ l. subst NotBelow (less_nothing _ ∙ ap (λ z. ◌+ℚ◌ (get_or ys b zero_ℚ) (neg_ℚ z)) (sym (slack_before (length ys) ss b l)) ∙ ap (λ z. ◌+ℚ◌ z (neg_ℚ (slack_at (length ys) ss b))) (sym (get_or-append ys (ss ++ bs) zero_ℚ b l))) (get_not_below ys b h))
    (λ g. at_rest (b - length ys) (rest b (length ys) g)) (cases_lt b (length ys))
  where
    rest : (b n : ℕ) → n ≤ b → n + (b - n) ≡ b
    rest b n g = omega arith

    at_rest : (i : ℕ) → length ys + i ≡ b → NotBelow (◌+ℚ◌ (get_or (ys ++ (ss ++ bs)) b zero_ℚ) (neg_ℚ (slack_at (length ys) ss b)))
    at_rest i e =
        subst (λ n. NotBelow (◌+ℚ◌ (get_or (ys ++ (ss ++ bs)) n zero_ℚ) (neg_ℚ (slack_at (length ys) ss n)))) e
        (subst (λ z. NotBelow (◌+ℚ◌ z (neg_ℚ (slack_at (length ys) ss (length ys + i))))) (sym (get_or-append-add ys (ss ++ bs) i zero_ℚ)) (behind (length ys) ss bs i k))

-- ---- what a sound table is
pub record IsSound (p : Program) (r : Bounds) (t : Table) : Type 0 where
  pub solves : (x : List ℤ) → IsPlaced p.costs.items r.lower r.upper x → Solves (val_at p r x) (whole_ℚ (objective p x)) t
  pub apart : AreApart t.nonbasic
  pub absent : (i : ℕ) → i < length t.basic → IsAbsent (get_or t.basic i 0) t.nonbasic
  pub own : IsAbsent (length p.costs.items + length p.rows.items + length p.costs.items) t.nonbasic
  pub signs : AreNotAbove (coefficients_of (objective_of t))

last_value : (t : Table) (val : ℕ → ℚ) (z : ℚ) → Solves val z t → dot ℚ_ring (objective_of t) (values_at val t) ≡ z
last_value t val z sol =
    sym (get_or-map (λ r. dot ℚ_ring r (values_at val t)) t.rows (length t.basic) [])
    ∙ ap (λ w. get_or w (length t.basic) zero_ℚ) sol
    ∙ ap (λ k. get_or (map val t.basic ++ (z ∷ [])) k zero_ℚ) (sym (length-map t.basic val)) ∙ at_seam (map val t.basic)
  where
    at_seam : (ws : List ℚ) → get_or (ws ++ (z ∷ [])) (length ws) zero_ℚ ≡ z
    at_seam [] = refl
    at_seam (w ∷ ws) = at_seam ws

pub basic_value : (t : Table) (val : ℕ → ℚ) (z : ℚ) (i : ℕ) → i < length t.basic → Solves val z t → dot ℚ_ring (get_or t.rows i []) (values_at val t) ≡ val (get_or t.basic i 0)
basic_value t val z i h sol =
    sym (get_or-map (λ r. dot ℚ_ring r (values_at val t)) t.rows i [])
    ∙ ap (λ w. get_or w i zero_ℚ) sol ∙ get_or-append (map val t.basic) (z ∷ []) zero_ℚ i (subst (λ l. i < l) (sym (length-map t.basic val)) h) ∙ at_map t.basic i h
  where
    at_map : (xs : List ℕ) (k : ℕ) → k < length xs → get_or (map val xs) k zero_ℚ ≡ val (get_or xs k 0)
    at_map [] k h = absurd (omega arith)
    at_map (x ∷ xs) zero h = refl
    at_map (x ∷ xs) (suc k) h = at_map xs k (omega arith)

-- ---- from lists to lists
weights_by : {A B : Type 0} → (vs : List ℕ) (xs : List ℚ) (own v : ℕ) (f : A → B) (rs : List A) → weights_of vs xs own v rs ≡ weights_of vs xs own v (map f rs)
weights_by vs xs own v f [] = refl
weights_by vs xs own v f (r ∷ rs) = ap (λ zs. cond (eqb own v) (whole_ℚ (pos 1)) (neg_ℚ (coefficient_of vs xs v)) ∷ zs) (weights_by vs xs own (v + 1) f rs)

-- the slacks from row i on
slack_get : (rows : List Row) (x : List ℤ) (i : ℕ) → slack_of rows x i ≡ get_or (slacks_of rows x) i (pos 0)
slack_get [] x i = refl
slack_get (r ∷ rs) x zero = refl
slack_get (r ∷ rs) x (suc i) = slack_get rs x i

drop_nil : (k : ℕ) → drop {A = ℤ} k [] ≡ []
drop_nil zero = refl
drop_nil (suc k) = refl

dot_nil : (ws : List ℚ) → dot ℚ_ring ws [] ≡ zero_ℚ
dot_nil [] = refl
dot_nil (w ∷ ws) = refl

by_drop : (w : ℚ) (ws : List ℚ) (zs : List ℤ) (i : ℕ) → ◌+ℚ◌ (◌*ℚ◌ w (whole_ℚ (get_or zs i (pos 0)))) (dot ℚ_ring ws (map whole_ℚ (drop (i + 1) zs))) ≡ dot ℚ_ring (w ∷ ws) (map whole_ℚ (drop i zs))
by_drop w ws [] i =
    ap (λ zs. ◌+ℚ◌ (◌*ℚ◌ w (whole_ℚ (pos 0))) (dot ℚ_ring ws (map whole_ℚ zs))) (drop_nil (i + 1)) ∙ ap (λ z. ◌+ℚ◌ (◌*ℚ◌ w (whole_ℚ (pos 0))) z) (dot_nil ws)
    ∙ ring ℚ_ring (w ∷ []) (var 0 ⊗ num (pos 0) ⊕ nil) nil refl ∙ ap (λ zs. dot ℚ_ring (w ∷ ws) (map whole_ℚ zs)) (sym (drop_nil i))
by_drop w ws (z ∷ zs) zero = refl
by_drop w ws (z ∷ zs) (suc i) =
    let e : suc i + 1 ≡ suc (i + 1) = omega arith in
    ap (λ k. ◌+ℚ◌ (◌*ℚ◌ w (whole_ℚ (get_or zs i (pos 0)))) (dot ℚ_ring ws (map whole_ℚ (drop k (z ∷ zs))))) e ∙ by_drop w ws zs i

sum_dot : (rows : List Row) (x : List ℤ) (i : ℕ) (ws : List ℚ) → sum_at rows x i ws ≡ dot ℚ_ring ws (map whole_ℚ (drop i (slacks_of rows x)))
sum_dot rows x i [] = refl
sum_dot rows x i (w ∷ ws) =
    ap (λ z. ◌+ℚ◌ (◌*ℚ◌ w (whole_ℚ z)) (sum_at rows x (i + 1) ws)) (slack_get rows x i)
    ∙ ap (λ z. ◌+ℚ◌ (◌*ℚ◌ w (whole_ℚ (get_or (slacks_of rows x) i (pos 0)))) z) (sum_dot rows x (i + 1) ws)
    ∙ by_drop w ws (slacks_of rows x) i

row_split : (row v : List ℚ) → dot ℚ_ring (get_or row 0 zero_ℚ ∷ coefficients_of row) (whole_ℚ (pos 1) ∷ v) ≡ dot ℚ_ring row (whole_ℚ (pos 1) ∷ v)
row_split [] v = ring ℚ_ring [] (nil ⊗ num (pos 1) ⊕ nil) nil refl
row_split (a ∷ row) v = refl

pub ys_length : (cs ls us xs : List ℤ) → IsPlaced cs ls us xs → length (ys_of cs ls us xs) ≡ length cs
ys_length [] [] [] [] h = refl
ys_length (c ∷ cs) (l ∷ ls) (u ∷ us) (x ∷ xs) h = ap suc (ys_length cs ls us xs h.2)
ys_length cs ls us xs h = absurd h

pub value_above : (p : Program) (r : Bounds) (x : List ℤ) → IsPlaced p.costs.items r.lower r.upper x → (k : ℕ) → NotBelow (◌+ℚ◌ (val_at p r x k) (neg_ℚ (slack_at (length p.costs.items) (map whole_ℚ (slacks_of p.rows.items x)) k)))
value_above p r x b k =
    let ys = ys_of p.costs.items r.lower r.upper x in
    let ss = map whole_ℚ (slacks_of p.rows.items x) in
    let bs = map whole_ℚ (bounds_from ys 0 r.lower r.upper) in
    let ln : length (map whole_ℚ ys) ≡ length p.costs.items = length-map ys whole_ℚ ∙ ys_length p.costs.items r.lower r.upper x b in
    let ya = wholes_not_below ys (ys_above p.costs.items r.lower r.upper x b) in
    let ba = wholes_not_below (bounds_from ys 0 r.lower r.upper) (bounds_above ys 0 p.costs.items r.lower r.upper x b (λ i. ap (λ k. number_at ys k) (zero_plus i))) in
    subst (λ m. NotBelow (◌+ℚ◌ (val_at p r x k) (neg_ℚ (slack_at m ss k)))) ln (above_slack (map whole_ℚ ys) ss bs k ya ba)
  where
    zero_plus : (i : ℕ) → 0 + i ≡ i
    zero_plus i = omega arith

-- ---- the weights of one row of a sound table, on the slacks at a point of the box
pub row_weights_bound : (p : Program) (r : Bounds) (t : Table) (x : List ℤ) (row : List ℚ) (o : ℚ) (own : ℕ) → IsSound p r t → IsPlaced p.costs.items r.lower r.upper x → IsAbsent own t.nonbasic → AreNotAbove (coefficients_of row) →
    dot ℚ_ring row (values_at (val_at p r x) t) ≡ o →
    AtMost (◌+ℚ◌ (sum_at p.rows.items x 0 (weights_of t.nonbasic (coefficients_of row) own (length p.costs.items) p.rows.items)) (◌+ℚ◌ o (neg_ℚ (slack_at (length p.costs.items) (map whole_ℚ (slacks_of p.rows.items x)) own)))) (get_or row 0 zero_ℚ)
row_weights_bound p r t x row o own s b ab na e =
    let n = length p.costs.items in
    let ss = map whole_ℚ (slacks_of p.rows.items x) in
    let W = weights_of t.nonbasic (coefficients_of row) own n p.rows.items in
    let c = get_or row 0 zero_ℚ in
    let nb = value_above p r x b in
    let h = weights_at_most (val_at p r x) t.nonbasic (coefficients_of row) c o own n ss s.apart ab na nb (row_split row (map (val_at p r x) t.nonbasic) ∙ e) in
    let w : dot ℚ_ring (weights_of t.nonbasic (coefficients_of row) own n ss) ss ≡ sum_at p.rows.items x 0 W =
    ap (λ z. dot ℚ_ring z ss) (sym (weights_by t.nonbasic (coefficients_of row) own n whole_ℚ (slacks_of p.rows.items x)) ∙ sym (weights_by t.nonbasic (coefficients_of row) own n (λ q. q.right -ℤ left_side q.terms.items x) p.rows.items)) ∙ sym (sum_dot p.rows.items x 0 W) in
    subst NotBelow
    (ap (λ z. ◌+ℚ◌ (◌+ℚ◌ c (neg_ℚ (◌+ℚ◌ o (neg_ℚ (slack_at n ss own))))) (neg_ℚ z)) w
    ∙ ring ℚ_ring (c ∷ ◌+ℚ◌ o (neg_ℚ (slack_at n ss own)) ∷ sum_at p.rows.items x 0 W ∷ []) ((var 0 ⊕ minus (var 1)) ⊕ minus (var 2)) (var 0 ⊕ minus (var 2 ⊕ var 1)) refl) h

-- ---- the ends
pub weights_not_below : {A : Type 0} → (vs : List ℕ) (xs : List ℚ) (own v : ℕ) (rs : List A) → AreNotAbove xs → AreNotBelow (weights_of vs xs own v rs)
weights_not_below vs xs own v [] h = tt
weights_not_below vs xs own v (r ∷ rs) h = (by_test (eqb own v) (coefficient_sign vs xs v h), weights_not_below vs xs own (v + 1) rs h)
  where
    by_test : (t : Bool) → NotBelow (neg_ℚ (coefficient_of vs xs v)) → NotBelow (cond t (whole_ℚ (pos 1)) (neg_ℚ (coefficient_of vs xs v)))
    by_test true k = whole_not_below (pos 1) (omega (arith, ints))
    by_test false k = k

    neg_zero : NotBelow (neg_ℚ zero_ℚ)
    neg_zero = subst NotBelow (ring ℚ_ring [] nil (minus nil) refl) zero_not_below

    coefficient_sign : (vs : List ℕ) (xs : List ℚ) (v : ℕ) → AreNotAbove xs → NotBelow (neg_ℚ (coefficient_of vs xs v))
    coefficient_sign [] xs v h = neg_zero
    coefficient_sign (b ∷ vs) [] v h = neg_zero
    coefficient_sign (b ∷ vs) (x ∷ xs) v h = by_place (eqb b v) (coefficient_sign vs xs v h.1)
      where
        by_place : (t : Bool) → NotBelow (neg_ℚ (coefficient_of vs xs v)) → NotBelow (neg_ℚ (cond t x (coefficient_of vs xs v)))
        by_place true k = h.0
        by_place false k = k

pub none_above : (xs : List ℚ) → has_positive xs ≡ false → AreNotAbove xs
none_above [] e = tt
none_above (x ∷ xs) e = by_test (is_positive x) refl (λ g. none_above xs g) e
  where
    by_test : (t : Bool) → is_positive x ≡ t → (has_positive xs ≡ false → AreNotAbove xs) → cond t true (has_positive xs) ≡ false → AreNotAbove (x ∷ xs)
    by_test true f ih g = absurd (false≢true (sym g))
    by_test false f ih g = (not_above x f, ih g)

numerator : (n : ℤ) (d : ℕ) → 0 < d → NotBelow (fraction n d) → pos 0 ≤ℤ n
numerator n d h k =
    le_cancel (pos 0) n (fraction n d).den (fraction n d).positive
    (subst (λ z. z ≤ℤ (n *ℤ pos (fraction n d).den)) (zero_times (fraction n d).den) (subst (λ z. pos 0 ≤ℤ z) (fraction-cross n d h) (times_above (fraction n d).num d k.sign)))
  where
    zero_times : (d : ℕ) → pos 0 ≡ pos 0 *ℤ pos d
    zero_times d = omega (arith, ints)

    times_above : (a : ℤ) (d : ℕ) → pos 0 ≤ℤ a → pos 0 ≤ℤ (a *ℤ pos d)
    times_above (pos n) d h = omega (arith, ints)
    times_above (negsuc n) d h = absurd (omega (arith, ints))

-- a whole number that is at most q * c, in whole numbers
pub neg_whole : (w : ℤ) → neg_ℚ (whole_ℚ w) ≡ whole_ℚ (neg_ℤ w)
neg_whole w =
    add_cancel ℚ_ring (whole_ℚ w) (neg_ℚ (whole_ℚ w)) (whole_ℚ (neg_ℤ w))
    (ring ℚ_ring (whole_ℚ w ∷ []) (var 0 ⊕ minus (var 0)) nil refl ∙ ap whole_ℚ (sum_zero w) ∙ whole_ℚ-+ℤ w (neg_ℤ w))
  where
    sum_zero : (w : ℤ) → pos 0 ≡ w +ℤ neg_ℤ w
    sum_zero w = omega (arith, ints)

pub whole_at_most : (w : ℤ) (q : ℕ) (c : ℚ) → AtMost (whole_ℚ w) (◌*ℚ◌ (whole_ℚ (pos q)) c) → pos 0 ≤ℤ (pos q *ℤ c.num -ℤ w *ℤ pos c.den)
whole_at_most w q c h =
    let one : 0 < 1 = omega arith in
    let d = c.den in
    let d1 : 0 < 1 * d = positive_product 1 d one c.positive in
    let p : ◌*ℚ◌ (whole_ℚ (pos q)) c ≡ fraction (pos q *ℤ c.num) (1 * d) =
    ap (λ z. ◌*ℚ◌ z c) (sym (fraction-one (pos q))) ∙ ap (λ z. ◌*ℚ◌ (fraction (pos q) 1) z) (sym (fraction_self c)) ∙ mul-fraction (pos q) 1 c.num d one c.positive in
    let e = ap (λ z. ◌+ℚ◌ (◌*ℚ◌ (whole_ℚ (pos q)) c) z) (neg_whole w ∙ sym (fraction-one (neg_ℤ w))) ∙ ap (λ z. ◌+ℚ◌ z (fraction (neg_ℤ w) 1)) p ∙ add-fraction (pos q *ℤ c.num) (1 * d) (neg_ℤ w) 1 d1 one in
    let k = numerator _ _ (positive_product (1 * d) 1 d1 one) (subst NotBelow e h) in
    subst (λ z. pos 0 ≤ℤ z) (ring ℤ_ring (pos q ∷ c.num ∷ w ∷ pos d ∷ []) ((var 0 ⊗ var 1) ⊗ num (pos 1) ⊕ minus (var 2) ⊗ (num (pos 1) ⊗ var 3)) (var 0 ⊗ var 1 ⊕ minus (var 2 ⊗ var 3)) refl) k

below_product : (w m0 b : ℤ) (q d : ℕ) → 0 < q → pos 0 ≤ℤ (pos q *ℤ m0 -ℤ w *ℤ pos d) → m0 <ℤ (b *ℤ pos d) → w <ℤ (pos q *ℤ b)
below_product w m0 b q d hq h k =
    by_lt_z w (pos q *ℤ b) (λ l. l) (λ g.
    let m = mul_le_right (pos d) (pos q *ℤ b) w (omega (arith, ints)) g in
    let n = mul_lt_right (pos q) m0 (b *ℤ pos d) (above q hq) k in
    let e : (pos q *ℤ b) *ℤ pos d ≡ (b *ℤ pos d) *ℤ pos q = ring ℤ_ring (pos q ∷ b ∷ pos d ∷ []) ((var 0 ⊗ var 1) ⊗ var 2) ((var 1 ⊗ var 2) ⊗ var 0) refl in
    let f : m0 *ℤ pos q ≡ pos q *ℤ m0 = ring ℤ_ring (pos q ∷ m0 ∷ []) (var 1 ⊗ var 0) (var 0 ⊗ var 1) refl in
    absurd (contrary _ _ _ (subst (λ z. z ≤ℤ (w *ℤ pos d)) e m) (subst (λ z. z <ℤ ((b *ℤ pos d) *ℤ pos q)) f n) h))
  where
    above : (q : ℕ) → 0 < q → pos 0 <ℤ pos q
    above q h = omega (arith, ints)

    contrary : (x y z : ℤ) → x ≤ℤ y → z <ℤ x → pos 0 ≤ℤ (z -ℤ y) → ⊥
    contrary x y z h k l = omega (arith, ints)

-- Cut: the weighed number is below q * (b + 1)
pub cut_bounds : (p : Program) (r : Bounds) (t : Table) (b q : ℕ) (ys : List Weight) → IsBox p.costs.items r.lower r.upper → IsSound p r t →
    let ws = weights_of t.nonbasic (coefficients_of (objective_of t)) (length p.costs.items + length p.rows.items + length p.costs.items) (length p.costs.items) p.rows.items in
    common_denominator 0 1 ws ≡ Ok q → whole_weights 0 q ws ≡ Ok ys → AtMost (whole_ℚ (weighed p r (pos q) ys)) (◌*ℚ◌ (whole_ℚ (pos q)) (get_or (objective_of t) 0 zero_ℚ))
cut_bounds p r t b q ys box s fe we =
    let n = length p.costs.items in
    let own = n + length p.rows.items + n in
    let row = objective_of t in
    let W = weights_of t.nonbasic (coefficients_of row) own n p.rows.items in
    let at = weighed_at_corner p r (pos q) ys box in
    let x = at.0 in
    let z = whole_ℚ (objective p x) in
    let Q = whole_ℚ (pos q) in
    let c = get_or row 0 zero_ℚ in
    let ss = map whole_ℚ (slacks_of p.rows.items x) in
    let l = common_denominator_is 0 1 q W fe in
    let S = sum_at p.rows.items x 0 W in
    let ws = whole_weights_sum p.rows.items x 0 q W ys l.1.0 (weights_not_below t.nonbasic (coefficients_of row) own n p.rows.items s.signs) we in
    let e : dot ℚ_ring row (values_at (val_at p r x) t) ≡ z = last_value t (val_at p r x) z (s.solves x at.1.0) in
    let h = row_weights_bound p r t x row z own s at.1.0 s.own s.signs e in
    let g : slack_at n ss own ≡ zero_ℚ = slack_after n ss own (reach n (length ss) (length p.rows.items) (length-map (slacks_of p.rows.items x) whole_ℚ ∙ length-map p.rows.items (λ q. q.right -ℤ left_side q.terms.items x))) in
    let m = mul_not_below Q (◌+ℚ◌ c (neg_ℚ (◌+ℚ◌ S (◌+ℚ◌ z (neg_ℚ (slack_at n ss own)))))) (whole_not_below (pos q) (omega (arith, ints))) h in
    subst NotBelow
    (ap (λ y. ◌*ℚ◌ Q (◌+ℚ◌ c (neg_ℚ (◌+ℚ◌ S (◌+ℚ◌ z (neg_ℚ y)))))) g
    ∙ ring ℚ_ring (Q ∷ c ∷ S ∷ z ∷ []) (var 0 ⊗ (var 1 ⊕ minus (var 2 ⊕ (var 3 ⊕ minus nil)))) (var 0 ⊗ var 1 ⊕ minus (var 0 ⊗ var 3 ⊕ var 0 ⊗ var 2)) refl
    ∙ ap (λ y. ◌+ℚ◌ (◌*ℚ◌ Q c) (neg_ℚ (◌+ℚ◌ (◌*ℚ◌ Q z) y))) (sym ws)
    ∙ ap (λ y. ◌+ℚ◌ (◌*ℚ◌ Q c) (neg_ℚ (◌+ℚ◌ y (whole_ℚ (slack_sum p.rows.items ys x))))) (sym (whole_ℚ-*ℤ (pos q) (objective p x)))
    ∙ ap (λ y. ◌+ℚ◌ (◌*ℚ◌ Q c) (neg_ℚ y)) (sym (whole_ℚ-+ℤ (pos q *ℤ objective p x) (slack_sum p.rows.items ys x)) ∙ ap whole_ℚ (sym at.1.1)))
    m
  where
    reach : (n k m : ℕ) → k ≡ m → n + k ≤ n + m + n
    reach n k m e = omega arith

-- Empty: the weighed number for q = 0 is at most the least common multiple times the constant, which is below 0
pub empty_bounds : (p : Program) (r : Bounds) (t : Table) (i q : ℕ) (ys : List Weight) → IsBox p.costs.items r.lower r.upper → IsSound p r t → i < length t.basic → has_positive (coefficients_of (get_or t.rows i [])) ≡ false →
    let ws = weights_of t.nonbasic (coefficients_of (get_or t.rows i [])) (get_or t.basic i 0) (length p.costs.items) p.rows.items in
    common_denominator 0 1 ws ≡ Ok q → whole_weights 0 q ws ≡ Ok ys → AtMost (whole_ℚ (weighed p r (pos 0) ys)) (◌*ℚ◌ (whole_ℚ (pos q)) (get_or (get_or t.rows i []) 0 zero_ℚ))
empty_bounds p r t i q ys box s li na fe we =
    let n = length p.costs.items in
    let own = get_or t.basic i 0 in
    let row = get_or t.rows i [] in
    let W = weights_of t.nonbasic (coefficients_of row) own n p.rows.items in
    let at = weighed_at_corner p r (pos 0) ys box in
    let x = at.0 in
    let val = val_at p r x in
    let Q = whole_ℚ (pos q) in
    let c = get_or row 0 zero_ℚ in
    let d = ◌+ℚ◌ (val own) (neg_ℚ (slack_at n (map whole_ℚ (slacks_of p.rows.items x)) own)) in
    let l = common_denominator_is 0 1 q W fe in
    let S = sum_at p.rows.items x 0 W in
    let signs = none_above (coefficients_of row) na in
    let ws = whole_weights_sum p.rows.items x 0 q W ys l.1.0 (weights_not_below t.nonbasic (coefficients_of row) own n p.rows.items signs) we in
    let h = row_weights_bound p r t x row (val own) own s at.1.0 (s.absent i li) signs (basic_value t val (whole_ℚ (objective p x)) i li (s.solves x at.1.0)) in
    let k = add_not_below (◌+ℚ◌ c (neg_ℚ (◌+ℚ◌ S d))) d h (value_above p r x at.1.0 own) in
    let m = mul_not_below Q (◌+ℚ◌ (◌+ℚ◌ c (neg_ℚ (◌+ℚ◌ S d))) d) (whole_not_below (pos q) (omega (arith, ints))) k in
    subst NotBelow
    (ring ℚ_ring (Q ∷ c ∷ S ∷ d ∷ []) (var 0 ⊗ ((var 1 ⊕ minus (var 2 ⊕ var 3)) ⊕ var 3)) (var 0 ⊗ var 1 ⊕ minus (var 0 ⊗ var 2)) refl
    ∙ ap (λ y. ◌+ℚ◌ (◌*ℚ◌ Q c) (neg_ℚ y)) (sym ws ∙ ap whole_ℚ (nothing (objective p x) (slack_sum p.rows.items ys x) ∙ sym at.1.1)))
    m
  where
    nothing : (a b : ℤ) → b ≡ pos 0 *ℤ a +ℤ b
    nothing a b = ring ℤ_ring (a ∷ b ∷ []) (var 1) (num (pos 0) ⊗ var 0 ⊕ var 1) refl

-- ---- in whole numbers
floor_below : (c : ℚ) (b : ℕ) → le_z (floor_ℚ c) (pos b) ≡ true → c.num <ℤ (pos (b + 1) *ℤ pos c.den)
floor_below c b e = chain _ _ _ (div_above c.num (pos c.den) (positive c.den c.positive)) (mul_le_right (pos c.den) (floor_ℚ c +ℤ pos 1) (pos (b + 1)) (omega (arith, ints)) (more (floor_ℚ c) b (at_most (floor_ℚ c) (pos b) e)))
  where
    positive : (d : ℕ) → 0 < d → pos 0 <ℤ pos d
    positive d h = omega (arith, ints)

    at_most : (x y : ℤ) → le_z x y ≡ true → x ≤ℤ y
    at_most x y e = grind (arith, ints)

    more : (x : ℤ) (b : ℕ) → x ≤ℤ pos b → (x +ℤ pos 1) ≤ℤ pos (b + 1)
    more x b h = omega (arith, ints)

    chain : (x y z : ℤ) → x <ℤ y → y ≤ℤ z → x <ℤ z
    chain x y z h k = omega (arith, ints)

-- Cut: floor(weighed / q) is at most b
pub cut_is_cut : (p : Program) (r : Bounds) (t : Table) (b q : ℕ) (ys : List Weight) → IsBox p.costs.items r.lower r.upper → IsSound p r t →
    is_cut t b ≡ true →
    let ws = weights_of t.nonbasic (coefficients_of (objective_of t)) (length p.costs.items + length p.rows.items + length p.costs.items) (length p.costs.items) p.rows.items in
    common_denominator 0 1 ws ≡ Ok q → whole_weights 0 q ws ≡ Ok ys → weighed p r (pos q) ys <ℤ (pos q *ℤ pos (b + 1))
cut_is_cut p r t b q ys box s ct fe we =
    let c = get_or (objective_of t) 0 zero_ℚ in
    let W = weights_of t.nonbasic (coefficients_of (objective_of t)) (length p.costs.items + length p.rows.items + length p.costs.items) (length p.costs.items) p.rows.items in
    let a = cut_bounds p r t b q ys box s fe we in
    below_product (weighed p r (pos q) ys) c.num (pos (b + 1)) q c.den ((common_denominator_is 0 1 q W fe).1.1 (omega arith)) (whole_at_most (weighed p r (pos q) ys) q c a) (floor_below c b ct)
  where
    below : (x y : ℤ) → lt_z x y ≡ true → x <ℤ y
    below x y e = let h = lt-true x y e in omega (arith, ints)

-- Empty: the weighed number for q = 0 is below 0
pub empty_is_below : (p : Program) (r : Bounds) (t : Table) (i q : ℕ) (ys : List Weight) → IsBox p.costs.items r.lower r.upper → IsSound p r t → i < length t.basic → has_positive (coefficients_of (get_or t.rows i [])) ≡ false →
    is_negative (get_or (get_or t.rows i []) 0 zero_ℚ) ≡ true →
    let ws = weights_of t.nonbasic (coefficients_of (get_or t.rows i [])) (get_or t.basic i 0) (length p.costs.items) p.rows.items in
    common_denominator 0 1 ws ≡ Ok q → whole_weights 0 q ws ≡ Ok ys → weighed p r (pos 0) ys <ℤ pos 0
empty_is_below p r t i q ys box s li na bl fe we =
    let c = get_or (get_or t.rows i []) 0 zero_ℚ in
    let W = weights_of t.nonbasic (coefficients_of (get_or t.rows i [])) (get_or t.basic i 0) (length p.costs.items) p.rows.items in
    let a = empty_bounds p r t i q ys box s li na fe we in
    let z : pos 0 ≡ pos 0 *ℤ pos c.den = ring ℤ_ring (pos c.den ∷ []) (num (pos 0)) (num (pos 0) ⊗ var 0) refl in
    let y : pos q *ℤ pos 0 ≡ pos 0 = ring ℤ_ring (pos q ∷ []) (var 0 ⊗ num (pos 0)) (num (pos 0)) refl in
    subst (λ v. weighed p r (pos 0) ys <ℤ v) y
    (below_product (weighed p r (pos 0) ys) c.num (pos 0) q c.den ((common_denominator_is 0 1 q W fe).1.1 (omega arith)) (whole_at_most (weighed p r (pos 0) ys) q c a) (subst (λ v. c.num <ℤ v) z (below c.num (pos 0) bl)))
  where
    below : (x y : ℤ) → lt_z x y ≡ true → x <ℤ y
    below x y e = let h = lt-true x y e in omega (arith, ints)
