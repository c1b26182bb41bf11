-- Rows by their entries, beside the whole rows.
use Rattle.std.proofs.Common.{◌≡◌, ℕ, ◌+◌, ◌<◌, ◌≤◌, refl, sym, ap, ◌∙◌, subst, arith, List, [], ◌∷◌, ◌++◌, length, get_or, set, map, cond, Bool, true, false, eqb, Result, Ok, Err, ⊎_elim}
use Prim.Native.Nat.{zero, suc}
use Rattle.std.proofs.lemmas.Bool.{cases_lt, eq-eqb, eqb-true, false≢true}
use Rattle.std.proofs.lemmas.List.{length-set, map-set, set-get_or, get_or-set_same, get_or-set_other}
use Rattle.tetri_algebra.specs.Rational.{ℚ}
use Rattle.tetri_algebra.specs.RationalRing.{zero_ℚ}
use Rattle.tetri_num.specs.declared.places.Place.{Place}
use Rattle.tetri_num.specs.Frac.{value}
use Rattle.tetri_dictionary.specs.declared.lines.Entry.{Entry}
use Rattle.tetri_dictionary.specs.Sparse.{AreAscending, AreEntries, number_at, number_of, numbers_from, place_at}
use Rattle.tetri_dictionary.specs.Steps.{each, each_pair}
use Rattle.tetri_base.specs.ResultSteps.{then_ok}
use Rattle.tetri_dictionary.proofs.PivotKeeps.{other}

-- ---- one entry
pub entry_read : (es : List Entry) (k : ℕ) (e : Entry) → k < length es → e ≡ get_or es k e → (place_at es k ≡ e.place) × (number_at es k ≡ value e.number)
entry_read [] k e h g = absurd (omega arith)
entry_read (x ∷ es) zero e h g = (ap (λ (y : Entry). y.place) (sym g), ap (λ (y : Entry). value y.number) (sym g))
entry_read (x ∷ es) (suc k) e h g = entry_read es k e (omega arith) g

pub number_absent : (es : List Entry) (j : ℕ) → ((k : ℕ) → k < length es → place_at es k ≡ j → ⊥) → number_of es j ≡ zero_ℚ
number_absent [] j h = refl
number_absent (e ∷ es) j h =
    ap (λ t. cond t (value e.number) (number_of es j)) (other e.place j (h 0 (omega arith)))
    ∙ number_absent es j (λ k l. h (suc k) (omega arith))

number_first : (es : List Entry) (k j : ℕ) → k < length es → place_at es k ≡ j → ((q : ℕ) → q < k → place_at es q ≡ j → ⊥) → number_of es j ≡ number_at es k
number_first [] k j l p h = absurd (omega arith)
number_first (e ∷ es) zero j l p h = ap (λ t. cond t (value e.number) (number_of es j)) (eq-eqb e.place j p)
number_first (e ∷ es) (suc k) j l p h =
    ap (λ t. cond t (value e.number) (number_of es j)) (other e.place j (h 0 (omega arith)))
    ∙ number_first es k j (omega arith) p (λ q m. h (suc q) (omega arith))

pub number_found : (es : List Entry) (k j : ℕ) → AreAscending es → k < length es → place_at es k ≡ j → number_of es j ≡ number_at es k
number_found es k j a l p = number_first es k j l p (λ q m e. contrary (place_at es q) (place_at es k) (a q k m l) e p)
  where
    contrary : (x y : ℕ) → x < y → x ≡ j → y ≡ j → ⊥
    contrary x y h e f = omega arith

-- a place that lies before the entries from k on and behind those before k
pub number_between : (es : List Entry) (k j : ℕ) → ((q : ℕ) → q < k → place_at es q < j) → ((q : ℕ) → k ≤ q → q < length es → j < place_at es q) → number_of es j ≡ zero_ℚ
number_between es k j b a = number_absent es j (λ q l e. ⊎_elim (λ m. less (place_at es q) (b q m) e) (λ m. more (place_at es q) (a q m l) e) (cases_lt q k))
  where
    less : (x : ℕ) → x < j → x ≡ j → ⊥
    less x h e = omega arith

    more : (x : ℕ) → j < x → x ≡ j → ⊥
    more x h e = omega arith

-- all entries from one on lie behind what that one lies behind
pub above_from : (es : List Entry) (k p : ℕ) → AreAscending es → p < place_at es k → (i : ℕ) → k ≤ i → i < length es → p < place_at es i
above_from es k p a h i l m = ⊎_elim (λ c. more (place_at es k) (place_at es i) (a k i c m) h) (λ c. at (same c)) (cases_lt k i)
  where
    more : (x y : ℕ) → x < y → p < x → p < y
    more x y b c = omega arith

    same : i ≤ k → k ≡ i
    same c = omega arith

    at : k ≡ i → p < place_at es i
    at s = subst (λ z. p < place_at es z) s h

-- ---- one entry more
pub push_other : (es : List Entry) (e : Entry) (j : ℕ) → (e.place ≡ j → ⊥) → number_of (es ++ (e ∷ [])) j ≡ number_of es j
push_other [] e j h = ap (λ t. cond t (value e.number) zero_ℚ) (other e.place j h)
push_other (x ∷ es) e j h = ap (λ z. cond (eqb x.place j) (value x.number) z) (push_other es e j h)

pub push_own : (es : List Entry) (e : Entry) (j : ℕ) → e.place ≡ j → ((k : ℕ) → k < length es → place_at es k ≡ j → ⊥) → number_of (es ++ (e ∷ [])) j ≡ value e.number
push_own [] e j p h = ap (λ t. cond t (value e.number) zero_ℚ) (eq-eqb e.place j p)
push_own (x ∷ es) e j p h =
    ap (λ t. cond t (value x.number) (number_of (es ++ (e ∷ [])) j)) (other x.place j (h 0 (omega arith)))
    ∙ push_own es e j p (λ k l. h (suc k) (omega arith))

pub place_old : (es : List Entry) (e : Entry) (k : ℕ) → k < length es → place_at (es ++ (e ∷ [])) k ≡ place_at es k
place_old [] e k h = absurd (omega arith)
place_old (x ∷ es) e zero h = refl
place_old (x ∷ es) e (suc k) h = place_old es e k (omega arith)

pub place_new : (es : List Entry) (e : Entry) → place_at (es ++ (e ∷ [])) (length es) ≡ e.place
place_new [] e = refl
place_new (x ∷ es) e = place_new es e

pub count_push : (es : List Entry) (e : Entry) → length (es ++ (e ∷ [])) ≡ suc (length es)
count_push [] e = refl
count_push (x ∷ es) e = ap suc (count_push es e)

-- ---- one entry written
pub places_set : (es : List Entry) (k : ℕ) (e : Entry) → place_at es k ≡ e.place → map (λ (x : Entry). x.place) (set es k e) ≡ map (λ (x : Entry). x.place) es
places_set es k e p =
    map-set (λ (x : Entry). x.place) es k e ∙ ap (λ z. set (map (λ (x : Entry). x.place) es) k z) (sym p) ∙ set-get_or (map (λ (x : Entry). x.place) es) k 0

pub entries_set : (n : ℕ) (es : List Entry) (k : ℕ) (e : Entry) → AreEntries n es → place_at es k ≡ e.place → AreEntries n (set es k e)
entries_set n es k e h p =
    let s = places_set es k e p in
    let c = length-set es k e in
    record {
      ascending = λ q m l b. subst (λ (ps : List ℕ). get_or ps q 0 < get_or ps m 0) (sym s) (h.ascending q m l (subst (λ z. m < z) c b));
      within = λ q b. subst (λ (ps : List ℕ). get_or ps q 0 < n) (sym s) (h.within q (subst (λ z. q < z) c b));
    }

set_other_number : (es : List Entry) (k : ℕ) (e : Entry) (j : ℕ) → place_at es k ≡ e.place → (e.place ≡ j → ⊥) → k < length es → number_of (set es k e) j ≡ number_of es j
set_other_number [] k e j p d l = absurd (omega arith)
set_other_number (x ∷ es) zero e j p d l =
    ap (λ t. cond t (value e.number) (number_of es j)) (other e.place j d)
    ∙ sym (ap (λ t. cond t (value x.number) (number_of es j)) (other x.place j (λ q. d (sym p ∙ q))))
set_other_number (x ∷ es) (suc k) e j p d l = ap (λ z. cond (eqb x.place j) (value x.number) z) (set_other_number es k e j p d (omega arith))

number_set_at : (es : List Entry) (k : ℕ) (e : Entry) → k < length es → number_at (set es k e) k ≡ value e.number
number_set_at [] k e l = absurd (omega arith)
number_set_at (x ∷ es) zero e l = refl
number_set_at (x ∷ es) (suc k) e l = number_set_at es k e (omega arith)

-- ---- the whole rows
pub numbers_length : (k n : ℕ) (es : List Entry) → length (numbers_from k n es) ≡ n
numbers_length k zero es = refl
numbers_length k (suc n) es = ap suc (numbers_length (k + 1) n es)

pub numbers_get : (k n : ℕ) (es : List Entry) (q : ℕ) → q < n → get_or (numbers_from k n es) q zero_ℚ ≡ number_of es (k + q)
numbers_get k zero es q h = absurd (omega arith)
numbers_get k (suc n) es zero h = let e : k ≡ k + 0 = omega arith in ap (number_of es) e
numbers_get k (suc n) es (suc q) h = let e : (k + 1) + q ≡ k + suc q = omega arith in numbers_get (k + 1) n es q (omega arith) ∙ ap (number_of es) e

pub coefficient_get : (n : ℕ) (es : List Entry) (q : ℕ) → q < n → get_or (numbers_from 0 n es) q zero_ℚ ≡ number_of es q
coefficient_get n es q h = let e : 0 + q ≡ q = omega arith in numbers_get 0 n es q h ∙ ap (number_of es) e

pub numbers_same : (k n : ℕ) (es : List Entry) (zs : List ℚ) → length zs ≡ n → ((q : ℕ) → q < n → get_or zs q zero_ℚ ≡ number_of es (k + q)) → zs ≡ numbers_from k n es
numbers_same k zero es [] l h = refl
numbers_same k zero es (z ∷ zs) l h = absurd (omega arith)
numbers_same k (suc n) es [] l h = absurd (omega arith)
numbers_same k (suc n) es (z ∷ zs) l h =
    let e : k + 0 ≡ k = omega arith in
    ap (λ y. y ∷ zs) (h 0 (omega arith) ∙ ap (number_of es) e)
    ∙ ap (λ ys. number_of es k ∷ ys) (numbers_same (k + 1) n es zs (omega arith) (λ q m. h (suc q) (omega arith) ∙ ap (number_of es) (next q)))
  where
    next : (q : ℕ) → k + suc q ≡ (k + 1) + q
    next q = omega arith

-- a list whose numbers are those of the places
pub coefficients_same : (n : ℕ) (es : List Entry) (zs : List ℚ) → length zs ≡ n → ((q : ℕ) → q < n → get_or zs q zero_ℚ ≡ number_of es q) → zs ≡ numbers_from 0 n es
coefficients_same n es zs l h = numbers_same 0 n es zs l (λ q m. h q m ∙ ap (number_of es) (from_zero q))
  where
    from_zero : (q : ℕ) → q ≡ 0 + q
    from_zero q = omega arith

-- the number at a place put to 0
pub numbers_cleared : (n : ℕ) (es : List Entry) (k j : ℕ) (e : Entry) → AreEntries n es → k < length es → place_at es k ≡ j → e.place ≡ j → value e.number ≡ zero_ℚ → set (numbers_from 0 n es) j zero_ℚ ≡ numbers_from 0 n (set es k e)
numbers_cleared n es k j e h l p pe ze =
    let ns = numbers_from 0 n es in
    let q = p ∙ sym pe in
    coefficients_same n (set es k e) (set ns j zero_ℚ) (length-set ns j zero_ℚ ∙ numbers_length 0 n es) (λ i m.
    by_place i m (eqb i j) refl q)
  where
    own : (i : ℕ) → i ≡ j → place_at es k ≡ e.place → number_of (set es k e) i ≡ zero_ℚ
    own i f q =
        number_found (set es k e) k i (entries_set n es k e h q).ascending (subst (λ z. k < z) (sym (length-set es k e)) l)
        (ap (λ (ps : List ℕ). get_or ps k 0) (places_set es k e q) ∙ p ∙ sym f)
        ∙ number_set_at es k e l ∙ ze

    by_place : (i : ℕ) → i < n → (t : Bool) → eqb i j ≡ t → place_at es k ≡ e.place → get_or (set (numbers_from 0 n es) j zero_ℚ) i zero_ℚ ≡ number_of (set es k e) i
    by_place i m true f q =
        let g = eqb-true i j f in
        ap (λ z. get_or (set (numbers_from 0 n es) z zero_ℚ) i zero_ℚ) (sym g)
        ∙ get_or-set_same (numbers_from 0 n es) i zero_ℚ zero_ℚ (subst (λ z. i < z) (sym (numbers_length 0 n es)) m)
        ∙ sym (own i g q)
    by_place i m false f q =
        let d : i ≡ j → ⊥ = λ g. false≢true (sym f ∙ eq-eqb i j g) in
        get_or-set_other (numbers_from 0 n es) j i zero_ℚ zero_ℚ d
        ∙ coefficient_get n es i m
        ∙ sym (set_other_number es k e i q (λ g. d (sym g ∙ pe)) l)

-- ---- each coefficient in turn, by place
one_more : (q : ℕ) → 1 + q ≡ q + 1
one_more q = omega arith

each_ok : (f : ℕ → ℚ → Result ℚ Place) (k : ℕ) (xs zs : List ℚ) → length zs ≡ length xs → ((q : ℕ) → q < length xs → f (k + q) (get_or xs q zero_ℚ) ≡ Ok (get_or zs q zero_ℚ)) → each f k xs ≡ Ok zs
each_ok f k [] [] l h = refl
each_ok f k [] (z ∷ zs) l h = absurd (omega arith)
each_ok f k (x ∷ xs) [] l h = absurd (omega arith)
each_ok f k (x ∷ xs) (z ∷ zs) l h =
    let e : k ≡ k + 0 = omega arith in
    ap (λ o. then_ok o (λ y. then_ok (each f (k + 1) xs) (λ ys. Ok (y ∷ ys)))) (ap (λ n. f n x) e ∙ h 0 (omega arith))
    ∙ ap (λ o. then_ok o (λ ys. Ok (z ∷ ys))) (each_ok f (k + 1) xs zs (omega arith) (λ q m. ap (λ n. f n (get_or xs q zero_ℚ)) (next q) ∙ h (suc q) (omega arith)))
  where
    next : (q : ℕ) → (k + 1) + q ≡ k + suc q
    next q = omega arith

each_err : (f : ℕ → ℚ → Result ℚ Place) (k : ℕ) (xs : List ℚ) (p : ℕ) (e : Place) → p < length xs → ((q : ℕ) → q < p → (z : ℚ) × (f (k + q) (get_or xs q zero_ℚ) ≡ Ok z)) → f (k + p) (get_or xs p zero_ℚ) ≡ Err e → each f k xs ≡ Err e
each_err f k [] p e l h g = absurd (omega arith)
each_err f k (x ∷ xs) zero e l h g =
    let s : k ≡ k + 0 = omega arith in
    ap (λ o. then_ok o (λ y. then_ok (each f (k + 1) xs) (λ ys. Ok (y ∷ ys)))) (ap (λ n. f n x) s ∙ g)
each_err f k (x ∷ xs) (suc p) e l h g =
    let s : k ≡ k + 0 = omega arith in
    let a = h 0 (omega arith) in
    ap (λ o. then_ok o (λ y. then_ok (each f (k + 1) xs) (λ ys. Ok (y ∷ ys)))) (ap (λ n. f n x) s ∙ a.1)
    ∙ ap (λ o. then_ok o (λ ys. Ok (a.0 ∷ ys))) (each_err f (k + 1) xs p e (omega arith)
    (λ q m. let b = h (suc q) (omega arith) in (b.0, ap (λ n. f n (get_or xs q zero_ℚ)) (next q) ∙ b.1)) (ap (λ n. f n (get_or xs p zero_ℚ)) (next p) ∙ g))
  where
    next : (q : ℕ) → (k + 1) + q ≡ k + suc q
    next q = omega arith

pair_ok : (f : ℕ → ℚ → ℚ → Result ℚ Place) (k : ℕ) (xs ys zs : List ℚ) → length ys ≡ length xs → length zs ≡ length xs → ((q : ℕ) → q < length xs → f (k + q) (get_or xs q zero_ℚ) (get_or ys q zero_ℚ) ≡ Ok (get_or zs q zero_ℚ)) → each_pair f k xs ys ≡ Ok zs
pair_ok f k [] [] [] l m h = refl
pair_ok f k [] [] (z ∷ zs) l m h = absurd (omega arith)
pair_ok f k [] (y ∷ ys) zs l m h = absurd (omega arith)
pair_ok f k (x ∷ xs) [] zs l m h = absurd (omega arith)
pair_ok f k (x ∷ xs) (y ∷ ys) [] l m h = absurd (omega arith)
pair_ok f k (x ∷ xs) (y ∷ ys) (z ∷ zs) l m h =
    let e : k ≡ k + 0 = omega arith in
    ap (λ o. then_ok o (λ w. then_ok (each_pair f (k + 1) xs ys) (λ ws. Ok (w ∷ ws)))) (ap (λ n. f n x y) e ∙ h 0 (omega arith))
    ∙ ap (λ o. then_ok o (λ ws. Ok (z ∷ ws))) (pair_ok f (k + 1) xs ys zs (omega arith) (omega arith) (λ q b. ap (λ n. f n (get_or xs q zero_ℚ) (get_or ys q zero_ℚ)) (next q) ∙ h (suc q) (omega arith)))
  where
    next : (q : ℕ) → (k + 1) + q ≡ k + suc q
    next q = omega arith

pair_err : (f : ℕ → ℚ → ℚ → Result ℚ Place) (k : ℕ) (xs ys : List ℚ) (p : ℕ) (e : Place) → length ys ≡ length xs → p < length xs → ((q : ℕ) → q < p → (z : ℚ) × (f (k + q) (get_or xs q zero_ℚ) (get_or ys q zero_ℚ) ≡ Ok z)) →
    f (k + p) (get_or xs p zero_ℚ) (get_or ys p zero_ℚ) ≡ Err e → each_pair f k xs ys ≡ Err e
pair_err f k [] ys p e l b h g = absurd (omega arith)
pair_err f k (x ∷ xs) [] p e l b h g = absurd (omega arith)
pair_err f k (x ∷ xs) (y ∷ ys) zero e l b h g =
    let s : k ≡ k + 0 = omega arith in
    ap (λ o. then_ok o (λ w. then_ok (each_pair f (k + 1) xs ys) (λ ws. Ok (w ∷ ws)))) (ap (λ n. f n x y) s ∙ g)
pair_err f k (x ∷ xs) (y ∷ ys) (suc p) e l b h g =
    let s : k ≡ k + 0 = omega arith in
    let a = h 0 (omega arith) in
    ap (λ o. then_ok o (λ w. then_ok (each_pair f (k + 1) xs ys) (λ ws. Ok (w ∷ ws)))) (ap (λ n. f n x y) s ∙ a.1)
    ∙ ap (λ o. then_ok o (λ ws. Ok (a.0 ∷ ws))) (pair_err f (k + 1) xs ys p e (omega arith) (omega arith)
    (λ q m. let c = h (suc q) (omega arith) in (c.0, ap (λ n. f n (get_or xs q zero_ℚ) (get_or ys q zero_ℚ)) (next q) ∙ c.1)) (ap (λ n. f n (get_or xs p zero_ℚ) (get_or ys p zero_ℚ)) (next p) ∙ g))
  where
    next : (q : ℕ) → (k + 1) + q ≡ k + suc q
    next q = omega arith

-- ---- the coefficients of a row, behind its constant
pub coefficients_ok : (f : ℕ → ℚ → Result ℚ Place) (n : ℕ) (xs : List ℚ) (es : List Entry) → length xs ≡ n → ((q : ℕ) → q < n → f (q + 1) (get_or xs q zero_ℚ) ≡ Ok (number_of es q)) → each f 1 xs ≡ Ok (numbers_from 0 n es)
coefficients_ok f n xs es l h =
    each_ok f 1 xs (numbers_from 0 n es) (numbers_length 0 n es ∙ sym l) (λ q m.
    let b = subst (λ z. q < z) l m in
    ap (λ k. f k (get_or xs q zero_ℚ)) (one_more q) ∙ h q b ∙ ap Ok (sym (coefficient_get n es q b)))

pub coefficients_err : (f : ℕ → ℚ → Result ℚ Place) (n : ℕ) (xs : List ℚ) (p : ℕ) (e : Place) → length xs ≡ n → p < n → ((q : ℕ) → q < p → (z : ℚ) × (f (q + 1) (get_or xs q zero_ℚ) ≡ Ok z)) → f (p + 1) (get_or xs p zero_ℚ) ≡ Err e → each f 1 xs ≡ Err e
coefficients_err f n xs p e l b h g =
    each_err f 1 xs p e (subst (λ z. p < z) (sym l) b) (λ q m. let a = h q m in (a.0, ap (λ k. f k (get_or xs q zero_ℚ)) (one_more q) ∙ a.1)) (ap (λ k. f k (get_or xs p zero_ℚ)) (one_more p) ∙ g)

pub pairs_ok : (f : ℕ → ℚ → ℚ → Result ℚ Place) (n : ℕ) (xs ys es : List Entry) → ((q : ℕ) → q < n → f (q + 1) (number_of xs q) (number_of ys q) ≡ Ok (number_of es q)) →
    each_pair f 1 (numbers_from 0 n xs) (numbers_from 0 n ys) ≡ Ok (numbers_from 0 n es)
pairs_ok f n xs ys es h =
    let X = numbers_from 0 n xs in
    let Y = numbers_from 0 n ys in
    let lx = numbers_length 0 n xs in
    pair_ok f 1 X Y (numbers_from 0 n es) (numbers_length 0 n ys ∙ sym lx) (numbers_length 0 n es ∙ sym lx) (λ q m.
    let b = subst (λ z. q < z) lx m in
    ap (λ k. f k (get_or X q zero_ℚ) (get_or Y q zero_ℚ)) (one_more q)
    ∙ ap (λ x. f (q + 1) x (get_or Y q zero_ℚ)) (coefficient_get n xs q b)
    ∙ ap (λ y. f (q + 1) (number_of xs q) y) (coefficient_get n ys q b)
    ∙ h q b ∙ ap Ok (sym (coefficient_get n es q b)))

pub pairs_err : (f : ℕ → ℚ → ℚ → Result ℚ Place) (n : ℕ) (xs ys : List Entry) (p : ℕ) (e : Place) → p < n → ((q : ℕ) → q < p → (z : ℚ) × (f (q + 1) (number_of xs q) (number_of ys q) ≡ Ok z)) →
    f (p + 1) (number_of xs p) (number_of ys p) ≡ Err e → each_pair f 1 (numbers_from 0 n xs) (numbers_from 0 n ys) ≡ Err e
pairs_err f n xs ys p e b h g =
    let X = numbers_from 0 n xs in
    let Y = numbers_from 0 n ys in
    let lx = numbers_length 0 n xs in
    pair_err f 1 X Y p e (numbers_length 0 n ys ∙ sym lx) (subst (λ z. p < z) (sym lx) b)
    (λ q m. let a = h q m in (a.0, read q (chain q p n m b) ∙ a.1))
    (read p b ∙ g)
  where
    chain : (q p n : ℕ) → q < p → p < n → q < n
    chain q p n h k = omega arith

    read : (q : ℕ) → q < n → f (1 + q) (get_or (numbers_from 0 n xs) q zero_ℚ) (get_or (numbers_from 0 n ys) q zero_ℚ) ≡ f (q + 1) (number_of xs q) (number_of ys q)
    read q b =
        ap (λ k. f k (get_or (numbers_from 0 n xs) q zero_ℚ) (get_or (numbers_from 0 n ys) q zero_ℚ)) (one_more q)
        ∙ ap (λ x. f (q + 1) x (get_or (numbers_from 0 n ys) q zero_ℚ)) (coefficient_get n xs q b)
        ∙ ap (λ y. f (q + 1) (number_of xs q) y) (coefficient_get n ys q b)
