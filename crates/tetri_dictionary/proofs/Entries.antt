-- The entries of a row under a pivot.
use Rattle.std.proofs.Common.{◌≡◌, ℕ, ◌+◌, ◌<◌, ◌≤◌, refl, sym, ap, ◌∙◌, subst, arith, List, [], ◌∷◌, ◌++◌, length, get_or, set, take, drop, map, Option, Some, None, Result, Ok, Err}
use Prim.Native.Nat.{zero, suc}
use lib.IntN.{negsuc}
use Rattle.std.proofs.lemmas.List.{length-map, length-set, map-set, set-get_or}
use Rattle.tetri_algebra.specs.Rational.{ℚ, whole_ℚ}
use Rattle.tetri_algebra.specs.RationalRing.{zero_ℚ, neg_ℚ}
use Rattle.tetri_num.specs.declared.fractions.Frac.{Frac}
use Rattle.tetri_num.specs.declared.places.Kind.TheVariants as Kind
use Rattle.tetri_num.specs.declared.places.Place.{Place}
use Rattle.tetri_num.specs.Checked.{checked_sum, checked_quotient}
use Rattle.tetri_num.specs.Frac.{value}
use Rattle.tetri_num.proofs.FractionLaws.{checked_product-zero_left, checked_product-zero_right, checked_sum-zero_right, value_representable}
use Rattle.tetri_dictionary.specs.Fractions.{values}
use Rattle.tetri_dictionary.specs.Steps.{place_at, or_place, each, each_pair}
use Rattle.tetri_base.specs.ResultSteps.{then_ok}
use Rattle.tetri_dictionary.specs.Pivots.{column_of, solved_entry, solved_row, replaced_entry, replaced_row}
use Rattle.tetri_dictionary.proofs.Forming.{onto, onto_nil, each_next, each_stop, each_done, each_pair_set, each_pair_stop, each_pair_done, take_all}

pub map_push : {A B : Type 0} → (f : A → B) (xs : List A) (y : A) → map f (xs ++ (y ∷ [])) ≡ map f xs ++ (f y ∷ [])
map_push f [] y = refl
map_push f (x ∷ xs) y = ap (λ zs. f x ∷ zs) (map_push f xs y)

-- the number at a place of a list of fractions
pub value_at_place : (xs : List Frac) (k : ℕ) (y : Frac) → k < length xs → y ≡ get_or xs k y → get_or (values xs) k zero_ℚ ≡ value y
value_at_place [] k y h e = absurd (omega arith)
value_at_place (x ∷ xs) zero y h e = ap value (sym e)
value_at_place (x ∷ xs) (suc k) y h e = value_at_place xs k y (omega arith) e

-- ---- the solved row
-- the entries that are walked: the row with another number at place j
abbrev pub with_entry : List Frac → ℕ → ℚ → List ℚ
with_entry row j m = set (values row) (suc j) m

length_with : (row : List Frac) (j : ℕ) (m : ℚ) → length (with_entry row j m) ≡ length row
length_with row j m = length-set (values row) (suc j) m ∙ length-map row value

abbrev pub solved_from : ℕ → ℕ → ℕ → List Frac → ℕ → Result (List ℚ) Place
solved_from n i j row k = each (solved_entry n i (get_or (values row) (suc j) zero_ℚ)) k (drop k (with_entry row j (whole_ℚ (negsuc 0))))

pub solved_init : (n i j : ℕ) (row done : List Frac) → done ≡ [] → onto (values done) (solved_from n i j row 0) ≡ solved_row n i j (values row)
solved_init n i j row done e = ap (λ zs. onto (values zs) (solved_from n i j row 0)) e ∙ onto_nil (solved_from n i j row 0)

-- the quotient at entry k
entry_is : (n i j k : ℕ) (row : List Frac) (m old neg a : ℚ) (o : Option ℚ) → m ≡ whole_ℚ (negsuc 0) → old ≡ get_or (with_entry row j m) k zero_ℚ → neg ≡ neg_ℚ old →
    get_or (values row) (suc j) zero_ℚ ≡ a → checked_quotient neg a ≡ o →
    solved_entry n i (get_or (values row) (suc j) zero_ℚ) k (get_or (with_entry row j (whole_ℚ (negsuc 0))) k zero_ℚ) ≡ or_place o Kind.Row i (column_of n k)
entry_is n i j k row m old neg a o me oe ne ae de =
    let b = get_or (values row) (suc j) zero_ℚ in
    let x = get_or (with_entry row j (whole_ℚ (negsuc 0))) k zero_ℚ in
    let xe : old ≡ x = oe ∙ ap (λ w. get_or (with_entry row j w) k zero_ℚ) me in
    ap (λ q. or_place q Kind.Row i (column_of n k))
    (ap (λ w. checked_quotient (neg_ℚ w) b) (sym xe) ∙ ap (λ w. checked_quotient w b) (sym ne) ∙ ap (λ w. checked_quotient neg w) ae ∙ de)

pub solved_next : (n i j k : ℕ) (row done made : List Frac) (m old neg a : ℚ) (new : Frac) → k < length row → m ≡ whole_ℚ (negsuc 0) → old ≡ get_or (with_entry row j m) k zero_ℚ → neg ≡ neg_ℚ old →
    get_or (values row) (suc j) zero_ℚ ≡ a → checked_quotient neg a ≡ Some (value new) → made ≡ done ++ (new ∷ []) →
    onto (values made) (solved_from n i j row (k + 1)) ≡ onto (values done) (solved_from n i j row k)
solved_next n i j k row done made m old neg a new h me oe ne ae de pe =
    let f = solved_entry n i (get_or (values row) (suc j) zero_ℚ) in
    let xs = with_entry row j (whole_ℚ (negsuc 0)) in
    ap (λ w. onto w (each f (k + 1) (drop (k + 1) xs))) (ap values pe ∙ map_push value done new)
    ∙ sym (each_next f k xs zero_ℚ (values done) (value new) (subst (λ l. k < l) (sym (length_with row j (whole_ℚ (negsuc 0)))) h) (entry_is n i j k row m old neg a (Some (value new)) me oe ne ae de))

pub solved_stop : (n i j k c : ℕ) (row done : List Frac) (m old neg a : ℚ) → k < length row → m ≡ whole_ℚ (negsuc 0) → old ≡ get_or (with_entry row j m) k zero_ℚ → neg ≡ neg_ℚ old →
    get_or (values row) (suc j) zero_ℚ ≡ a → checked_quotient neg a ≡ None → c ≡ column_of n k →
    onto (values done) (solved_from n i j row k) ≡ Err (place_at Kind.Row i c)
solved_stop n i j k c row done m old neg a h me oe ne ae de ce =
    each_stop (solved_entry n i (get_or (values row) (suc j) zero_ℚ)) k (with_entry row j (whole_ℚ (negsuc 0))) zero_ℚ (values done) (place_at Kind.Row i c)
    (subst (λ l. k < l) (sym (length_with row j (whole_ℚ (negsuc 0)))) h)
    (entry_is n i j k row m old neg a None me oe ne ae de ∙ ap (λ w. Err (place_at Kind.Row i w)) (sym ce))

pub solved_done : (n i j k : ℕ) (row done : List Frac) → length row ≤ k → onto (values done) (solved_from n i j row k) ≡ Ok (values done)
solved_done n i j k row done h = each_done _ k _ (values done) (subst (λ l. l ≤ k) (sym (length_with row j (whole_ℚ (negsuc 0)))) h)

-- ---- x + a * 0 and x + 0 * y
pub entry_times_zero : (n i k : ℕ) (a x : Frac) → replaced_entry n i (value a) k (value x) zero_ℚ ≡ Ok (value x)
entry_times_zero n i k a x =
    ap (λ o. then_ok (or_place o Kind.Entry i (column_of n k)) (λ z. or_place (checked_sum (value x) z) Kind.Entry i (column_of n k))) (checked_product-zero_right (value a) (value_representable a))
    ∙ ap (λ o. or_place o Kind.Entry i (column_of n k)) (checked_sum-zero_right (value x) (value_representable x))

entry_zero_times : (n i k : ℕ) (x y : Frac) → replaced_entry n i zero_ℚ k (value x) (value y) ≡ Ok (value x)
entry_zero_times n i k x y =
    ap (λ o. then_ok (or_place o Kind.Entry i (column_of n k)) (λ z. or_place (checked_sum (value x) z) Kind.Entry i (column_of n k))) (checked_product-zero_left (value y) (value_representable y))
    ∙ ap (λ o. or_place o Kind.Entry i (column_of n k)) (checked_sum-zero_right (value x) (value_representable x))

-- a row that does not have the variable stays as it is
pairs_stay : (n i k : ℕ) (xs ys : List Frac) → length ys ≡ length xs → each_pair (replaced_entry n i zero_ℚ) k (values xs) (values ys) ≡ Ok (values xs)
pairs_stay n i k [] [] e = refl
pairs_stay n i k [] (y ∷ ys) e = absurd (omega arith)
pairs_stay n i k (x ∷ xs) [] e = absurd (omega arith)
pairs_stay n i k (x ∷ xs) (y ∷ ys) e =
    ap (λ o. then_ok o (λ w. then_ok (each_pair (replaced_entry n i zero_ℚ) (k + 1) (values xs) (values ys)) (λ zs. Ok (w ∷ zs)))) (entry_zero_times n i k x y)
    ∙ ap (λ o. then_ok o (λ zs. Ok (value x ∷ zs))) (pairs_stay n i (k + 1) xs ys (omega arith))

pub replaced_stays : (n i j : ℕ) (row solved : List Frac) (a : ℚ) → length solved ≡ length row → get_or (values row) (suc j) zero_ℚ ≡ a → a ≡ zero_ℚ →
    replaced_row n i j (values solved) (values row) ≡ Ok (values row)
replaced_stays n i j row solved a g ae z =
    let e : get_or (values row) (suc j) zero_ℚ ≡ zero_ℚ = ae ∙ z in
    ap (λ b. each_pair (replaced_entry n i b) 0 (set (values row) (suc j) zero_ℚ) (values solved)) e
    ∙ ap (λ b. each_pair (replaced_entry n i zero_ℚ) 0 (set (values row) (suc j) b) (values solved)) (sym e)
    ∙ ap (λ xs. each_pair (replaced_entry n i zero_ℚ) 0 xs (values solved)) (set-get_or (values row) (suc j) zero_ℚ)
    ∙ pairs_stay n i 0 row solved g

-- ---- a replaced row, in place
abbrev pub replaced_from : ℕ → ℕ → ℚ → List Frac → List Frac → ℕ → Result (List ℚ) Place
replaced_from n i a solved row k = onto (take k (values row)) (each_pair (replaced_entry n i a) k (drop k (values row)) (drop k (values solved)))

pub replaced_init : (n i j : ℕ) (row solved : List Frac) (a : ℚ) (z : Frac) → get_or (values row) (suc j) zero_ℚ ≡ a → value z ≡ zero_ℚ →
    replaced_from n i a solved (set row (suc j) z) 0 ≡ replaced_row n i j (values solved) (values row)
replaced_init n i j row solved a z ae ze =
    onto_nil (each_pair (replaced_entry n i a) 0 (values (set row (suc j) z)) (values solved))
    ∙ ap (λ xs. each_pair (replaced_entry n i a) 0 xs (values solved)) (map-set value row (suc j) z ∙ ap (λ w. set (values row) (suc j) w) ze)
    ∙ ap (λ b. each_pair (replaced_entry n i b) 0 (set (values row) (suc j) zero_ℚ) (values solved)) (sym ae)

at_both : (n i k : ℕ) (a : ℚ) (row solved : List Frac) (x y : Frac) → k < length row → length solved ≡ length row → x ≡ get_or row k x → y ≡ get_or solved k y →
    replaced_entry n i a k (get_or (values row) k zero_ℚ) (get_or (values solved) k zero_ℚ) ≡ replaced_entry n i a k (value x) (value y)
at_both n i k a row solved x y h g xe ye =
    ap (λ w. replaced_entry n i a k w (get_or (values solved) k zero_ℚ)) (value_at_place row k x h xe)
    ∙ ap (λ w. replaced_entry n i a k (value x) w) (value_at_place solved k y (omega arith) ye)

pub replaced_next : (n i k : ℕ) (a : ℚ) (row solved : List Frac) (x y z : Frac) → k < length row → length solved ≡ length row → x ≡ get_or row k x → y ≡ get_or solved k y →
    replaced_entry n i a k (value x) (value y) ≡ Ok (value z) → replaced_from n i a solved (set row k z) (k + 1) ≡ replaced_from n i a solved row k
replaced_next n i k a row solved x y z h g xe ye e =
    let f = replaced_entry n i a in
    let ys = values solved in
    ap (λ xs. onto (take (k + 1) xs) (each_pair f (k + 1) (drop (k + 1) xs) (drop (k + 1) ys))) (map-set value row k z)
    ∙ sym (each_pair_set f k (values row) ys (value z) (subst (λ l. k < l) (sym (length-map row value)) h) (subst (λ l. k < l) (sym (length-map solved value ∙ g)) h)
    (at_both n i k a row solved x y h g xe ye ∙ e))

pub replaced_stop : (n i k : ℕ) (a : ℚ) (row solved : List Frac) (x y : Frac) (e : Place) → k < length row → length solved ≡ length row → x ≡ get_or row k x → y ≡ get_or solved k y →
    replaced_entry n i a k (value x) (value y) ≡ Err e → replaced_from n i a solved row k ≡ Err e
replaced_stop n i k a row solved x y p h g xe ye e =
    each_pair_stop (replaced_entry n i a) k (values row) (values solved) (take k (values row)) p (subst (λ l. k < l) (sym (length-map row value)) h) (subst (λ l. k < l) (sym (length-map solved value ∙ g)) h)
    (at_both n i k a row solved x y h g xe ye ∙ e)

pub replaced_done : (n i k : ℕ) (a : ℚ) (row solved : List Frac) → length row ≤ k → length solved ≡ length row → replaced_from n i a solved row k ≡ Ok (values row)
replaced_done n i k a row solved h g =
    let l : length (values row) ≤ k = subst (λ l. l ≤ k) (sym (length-map row value)) h in
    each_pair_done (replaced_entry n i a) k (values row) (values solved) (take k (values row)) l (subst (λ l. l ≤ k) (sym (length-map solved value ∙ g)) h)
    ∙ ap Ok (take_all k (values row) l)

-- ---- at the place behind j's, where the coefficient of j stands
pub value_at_next : (xs : List Frac) (j : ℕ) (y : Frac) → j + 1 < length xs → y ≡ get_or xs (j + 1) y → get_or (values xs) (suc j) zero_ℚ ≡ value y
value_at_next xs j y h e =
    let s : j + 1 ≡ suc j = omega arith in
    value_at_place xs (suc j) y (omega arith) (e ∙ ap (λ k. get_or xs k y) s)

pub replaced_start : (n i j : ℕ) (row solved : List Frac) (a : ℚ) (z : Frac) → get_or (values row) (suc j) zero_ℚ ≡ a → value z ≡ zero_ℚ →
    replaced_from n i a solved (set row (j + 1) z) 0 ≡ replaced_row n i j (values solved) (values row)
replaced_start n i j row solved a z ae ze =
    let s : j + 1 ≡ suc j = omega arith in
    ap (λ k. replaced_from n i a solved (set row k z) 0) s ∙ replaced_init n i j row solved a z ae ze
