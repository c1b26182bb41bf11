-- Loops that form a row entry by entry, the places between the entries left out.
use Rattle.std.proofs.Common.{◌≡◌, ℕ, ◌+◌, ◌<◌, ◌≤◌, sym, ap, ◌∙◌, subst, arith, List, [], ◌∷◌, ◌++◌, length, get_or, Result, Ok, ◌⊎◌, inl, inr, ⊎_elim}
use Prim.Native.Nat.{suc}
use Rattle.std.proofs.lemmas.Bool.{cases_lt}
use Rattle.tetri_algebra.specs.Rational.{ℚ}
use Rattle.tetri_algebra.specs.RationalRing.{zero_ℚ}
use Rattle.tetri_num.specs.declared.places.Place.{Place}
use Rattle.tetri_num.specs.Frac.{value}
use Rattle.tetri_dictionary.specs.declared.lines.Entry.{Entry}
use Rattle.tetri_dictionary.specs.Sparse.{AreAscending, AreEntries, number_of, place_at}
use Rattle.tetri_dictionary.proofs.SparseRows.{count_push, number_absent, place_new, place_old, push_other, push_own}

-- ---- what is formed before a place
-- the entries are those of the places before `front`, whose numbers g gives
pub record Formed (g : ℕ → Result ℚ Place) (front : ℕ) (es : List Entry) : Type 0 where
  pub ascending : AreAscending es
  pub below : (k : ℕ) → k < length es → place_at es k < front
  pub formed : (q : ℕ) → q < front → g q ≡ Ok (number_of es q)

-- from place f on and before place p there is nothing but 0
abbrev pub AreZero : (ℕ → Result ℚ Place) → ℕ → ℕ → Type 0
AreZero g f p = (q : ℕ) → f ≤ q → q < p → g q ≡ Ok zero_ℚ

pub formed_none : (g : ℕ → Result ℚ Place) → Formed g 0 []
formed_none g = record {
  ascending = λ k m h l. absurd (omega arith);
  below = λ k l. absurd (omega arith);
  formed = λ q l. absurd (omega arith);
}

absent : (g : ℕ → Result ℚ Place) (f : ℕ) (es : List Entry) → Formed g f es → (q : ℕ) → f ≤ q → (k : ℕ) → k < length es → place_at es k ≡ q → ⊥
absent g f es h q l k m e = contrary (place_at es k) (h.below k m) e
  where
    contrary : (x : ℕ) → x < f → x ≡ q → ⊥
    contrary x a b = omega arith

pub formed_zero : (g : ℕ → Result ℚ Place) (f p : ℕ) (es : List Entry) → Formed g f es → f ≤ p → AreZero g f p → Formed g p es
formed_zero g f p es h l z = record {
  ascending = h.ascending;
  below = λ k m. wider (place_at es k) (h.below k m);
  formed = λ q m. ⊎_elim (λ b. h.formed q b) (λ b. z q b m ∙ ap Ok (sym (number_absent es q (λ k n e. absent g f es h q b k n e)))) (cases_lt q f);
}
  where
    wider : (x : ℕ) → x < f → x < p
    wider x a = omega arith

pub formed_skip : (g : ℕ → Result ℚ Place) (p : ℕ) (es : List Entry) → Formed g p es → g p ≡ Ok zero_ℚ → Formed g (suc p) es
formed_skip g p es h e = formed_zero g p (suc p) es h (omega arith) (λ q a b. at q (same q a b))
  where
    same : (q : ℕ) → p ≤ q → q < suc p → q ≡ p
    same q a b = omega arith

    at : (q : ℕ) → q ≡ p → g q ≡ Ok zero_ℚ
    at q s = ap g s ∙ e

formed_next : (g : ℕ → Result ℚ Place) (p : ℕ) (es : List Entry) (e : Entry) → Formed g p es → e.place ≡ p → g p ≡ Ok (value e.number) → Formed g (suc p) (es ++ (e ∷ []))
formed_next g p es e h pe ge = record {
  ascending = λ k m l b. by_last k m l (⊎_elim (λ c. inl c) (λ c. inr (last m (subst (λ z. m < z) (count_push es e) b) c)) (cases_lt m (length es)));
  below = λ k b. ⊎_elim (λ c. subst (λ z. z < suc p) (sym (place_old es e k c)) (wider (place_at es k) (h.below k c))) (λ c. subst (λ z. z < suc p) (sym (at_last k (last k (subst (λ z. k < z) (count_push es e) b) c))) (itself e.place pe)) (cases_lt k (length es));
  formed = λ q b. ⊎_elim (λ c. h.formed q c ∙ ap Ok (sym (push_other es e q (λ f. less q c (sym pe ∙ f))))) (λ c. ap g (same q b c) ∙ ge ∙ ap Ok (sym (push_own es e q (pe ∙ sym (same q b c)) (λ k n f. absent g p es h q c k n f)))) (cases_lt q p);
}
  where
    last : (m : ℕ) → m < suc (length es) → length es ≤ m → m ≡ length es
    last m a b = omega arith

    wider : (x : ℕ) → x < p → x < suc p
    wider x a = omega arith

    itself : (x : ℕ) → x ≡ p → x < suc p
    itself x a = omega arith

    less : (q : ℕ) → q < p → p ≡ q → ⊥
    less q a b = omega arith

    same : (q : ℕ) → q < suc p → p ≤ q → q ≡ p
    same q a b = omega arith

    at_last : (k : ℕ) → k ≡ length es → place_at (es ++ (e ∷ [])) k ≡ e.place
    at_last k s = ap (λ z. place_at (es ++ (e ∷ [])) z) s ∙ place_new es e

    before : (k m n : ℕ) → k < m → m ≡ n → k < n
    before k m n a b = omega arith

    chain : (k m : ℕ) → k < m → m < length es → k < length es
    chain k m a b = omega arith

    by_last : (k m : ℕ) → k < m → (m < length es) ⊎ (m ≡ length es) → place_at (es ++ (e ∷ [])) k < place_at (es ++ (e ∷ [])) m
    by_last k m l (inl b) =
        subst (λ z. z < place_at (es ++ (e ∷ [])) m) (sym (place_old es e k (chain k m l b)))
        (subst (λ z. place_at es k < z) (sym (place_old es e m b)) (h.ascending k m l b))
    by_last k m l (inr s) =
        let b = before k m (length es) l s in
        subst (λ z. z < place_at (es ++ (e ∷ [])) m) (sym (place_old es e k b))
        (subst (λ z. place_at es k < z) (sym (at_last m s ∙ pe)) (h.below k b))

pub formed_push : (g : ℕ → Result ℚ Place) (p : ℕ) (es made : List Entry) (e : Entry) → Formed g p es → e.place ≡ p → g p ≡ Ok (value e.number) → made ≡ es ++ (e ∷ []) → Formed g (suc p) made
formed_push g p es made e h pe ge me = subst (λ us. Formed g (suc p) us) (sym me) (formed_next g p es e h pe ge)

pub formed_before : (g : ℕ → Result ℚ Place) (p : ℕ) (es : List Entry) → Formed g p es → (q : ℕ) → q < p → (z : ℚ) × (g q ≡ Ok z)
formed_before g p es h q l = (number_of es q, h.formed q l)

pub formed_entries : (g : ℕ → Result ℚ Place) (p n : ℕ) (es : List Entry) → Formed g p es → p ≤ n → AreEntries n es
formed_entries g p n es h l = record { ascending = h.ascending; within = λ k b. wider (place_at es k) (h.below k b) }
  where
    wider : (x : ℕ) → x < p → x < n
    wider x a = omega arith

-- ---- along ascending places, of which the first k are done
pub record IsWalked (g : ℕ → Result ℚ Place) (n : ℕ) (ps : List ℕ) (k : ℕ) (es : List Entry) : Type 0 where
  pub front : ℕ
  pub inside : front ≤ n
  pub formed : Formed g front es
  pub before : (q : ℕ) → q < k → get_or ps q 0 < front
  pub after : (q : ℕ) → k ≤ q → q < length ps → front ≤ get_or ps q 0

-- places that ascend, of n places, and g is 0 at all others of these
pub record ArePlaces (g : ℕ → Result ℚ Place) (n : ℕ) (ps : List ℕ) : Type 0 where
  pub ascending : (k m : ℕ) → k < m → m < length ps → get_or ps k 0 < get_or ps m 0
  pub within : (k : ℕ) → k < length ps → get_or ps k 0 < n
  pub others : (q : ℕ) → q < n → ((k : ℕ) → k < length ps → get_or ps k 0 ≡ q → ⊥) → g q ≡ Ok zero_ℚ

pub walk_none : (g : ℕ → Result ℚ Place) (n : ℕ) (ps : List ℕ) (es : List Entry) → es ≡ [] → IsWalked g n ps 0 es
walk_none g n ps es e = record {
  front = 0;
  inside = omega arith;
  formed = subst (λ us. Formed g 0 us) (sym e) (formed_none g);
  before = λ q l. absurd (omega arith);
  after = λ q l m. omega arith;
}

-- the places between
gap : (g : ℕ → Result ℚ Place) (n : ℕ) (ps : List ℕ) (k : ℕ) (es : List Entry) (p : ℕ) → ArePlaces g n ps → (w : IsWalked g n ps k es) → p ≤ n → ((q : ℕ) → k ≤ q → q < length ps → p ≤ get_or ps q 0) → AreZero g w.front p
gap g n ps k es p a w pn h q l m = a.others q (chain m pn) (λ i b e. ⊎_elim (λ c. less (get_or ps i 0) (w.before i c) e) (λ c. more (get_or ps i 0) (h i c b) e) (cases_lt i k))
  where
    chain : q < p → p ≤ n → q < n
    chain c e = omega arith

    less : (x : ℕ) → x < w.front → x ≡ q → ⊥
    less x c e = omega arith

    more : (x : ℕ) → p ≤ x → x ≡ q → ⊥
    more x c e = omega arith

from_k : (g : ℕ → Result ℚ Place) (n : ℕ) (ps : List ℕ) (k : ℕ) → ArePlaces g n ps → k < length ps → (q : ℕ) → k ≤ q → q < length ps → get_or ps k 0 ≤ get_or ps q 0
from_k g n ps k a l q m b = ⊎_elim (λ c. below (get_or ps k 0) (get_or ps q 0) (a.ascending k q c b)) (λ c. at (same c)) (cases_lt k q)
  where
    below : (x y : ℕ) → x < y → x ≤ y
    below x y h = omega arith

    same : q ≤ k → q ≡ k
    same c = omega arith

    at : q ≡ k → get_or ps k 0 ≤ get_or ps q 0
    at s = let e = ap (λ z. get_or ps z 0) s in omega arith

-- up to the next place
pub walk_to : (g : ℕ → Result ℚ Place) (n : ℕ) (ps : List ℕ) (k : ℕ) (es : List Entry) → ArePlaces g n ps → IsWalked g n ps k es → k < length ps → Formed g (get_or ps k 0) es
walk_to g n ps k es a w l = formed_zero g w.front (get_or ps k 0) es w.formed (w.after k (omega arith) l) (gap g n ps k es (get_or ps k 0) a w (at_most (get_or ps k 0) (a.within k l)) (λ q m b. from_k g n ps k a l q m b))
  where
    at_most : (x : ℕ) → x < n → x ≤ n
    at_most x h = omega arith

walk_on : (g : ℕ → Result ℚ Place) (n : ℕ) (ps : List ℕ) (k : ℕ) (es made : List Entry) → ArePlaces g n ps → IsWalked g n ps k es → k < length ps → Formed g (suc (get_or ps k 0)) made → IsWalked g n ps (k + 1) made
walk_on g n ps k es made a w l h =
    let p = get_or ps k 0 in
    record {
      front = suc p;
      inside = at_most p (a.within k l);
      formed = h;
      before = λ q m. ⊎_elim (λ c. less (get_or ps q 0) (a.ascending q k c l)) (λ c. own q (same q m c)) (cases_lt q k);
      after = λ q m b. more (get_or ps q 0) (a.ascending k q (next q m) b);
    }
  where
    at_most : (p : ℕ) → p < n → suc p ≤ n
    at_most p h = omega arith

    less : (x : ℕ) → x < get_or ps k 0 → x < suc (get_or ps k 0)
    less x h = omega arith

    more : (x : ℕ) → get_or ps k 0 < x → suc (get_or ps k 0) ≤ x
    more x h = omega arith

    same : (q : ℕ) → q < k + 1 → k ≤ q → q ≡ k
    same q h c = omega arith

    next : (q : ℕ) → k + 1 ≤ q → k < q
    next q h = omega arith

    own : (q : ℕ) → q ≡ k → get_or ps q 0 < suc (get_or ps k 0)
    own q s = let e = ap (λ z. get_or ps z 0) s in omega arith

pub walk_push : (g : ℕ → Result ℚ Place) (n : ℕ) (ps : List ℕ) (k : ℕ) (es made : List Entry) (e : Entry) → ArePlaces g n ps → IsWalked g n ps k es → k < length ps → e.place ≡ get_or ps k 0 → g (get_or ps k 0) ≡ Ok (value e.number) → made ≡ es ++ (e ∷ []) → IsWalked g n ps (k + 1) made
walk_push g n ps k es made e a w l pe ge me = walk_on g n ps k es made a w l (formed_push g (get_or ps k 0) es made e (walk_to g n ps k es a w l) pe ge me)

pub walk_skip : (g : ℕ → Result ℚ Place) (n : ℕ) (ps : List ℕ) (k : ℕ) (es : List Entry) → ArePlaces g n ps → IsWalked g n ps k es → k < length ps → g (get_or ps k 0) ≡ Ok zero_ℚ → IsWalked g n ps (k + 1) es
walk_skip g n ps k es a w l ge = walk_on g n ps k es es a w l (formed_skip g (get_or ps k 0) es (walk_to g n ps k es a w l) ge)

pub walk_done : (g : ℕ → Result ℚ Place) (n : ℕ) (ps : List ℕ) (k : ℕ) (es : List Entry) → ArePlaces g n ps → IsWalked g n ps k es → length ps ≤ k → Formed g n es
walk_done g n ps k es a w l = formed_zero g w.front n es w.formed w.inside (gap g n ps k es n a w (omega arith) (λ q m b. absurd (contrary q m b)))
  where
    contrary : (q : ℕ) → k ≤ q → q < length ps → ⊥
    contrary q m b = omega arith

-- ---- along the entries of two rows
pub record IsMerged (g : ℕ → Result ℚ Place) (n : ℕ) (xs ys : List Entry) (x y : ℕ) (es : List Entry) : Type 0 where
  pub front : ℕ
  pub inside : front ≤ n
  pub formed : Formed g front es
  pub x_inside : x ≤ length xs
  pub y_inside : y ≤ length ys
  pub x_before : (k : ℕ) → k < x → place_at xs k < front
  pub y_before : (k : ℕ) → k < y → place_at ys k < front
  pub x_after : (k : ℕ) → x ≤ k → k < length xs → front ≤ place_at xs k
  pub y_after : (k : ℕ) → y ≤ k → k < length ys → front ≤ place_at ys k

pub merge_none : (g : ℕ → Result ℚ Place) (n : ℕ) (xs ys es : List Entry) → es ≡ [] → IsMerged g n xs ys 0 0 es
merge_none g n xs ys es e = record {
  front = 0;
  inside = omega arith;
  formed = subst (λ us. Formed g 0 us) (sym e) (formed_none g);
  x_inside = omega arith;
  y_inside = omega arith;
  x_before = λ k l. absurd (omega arith);
  y_before = λ k l. absurd (omega arith);
  x_after = λ k l m. omega arith;
  y_after = λ k l m. omega arith;
}

-- g is 0 where neither row has an entry
abbrev pub IsZeroElsewhere : (ℕ → Result ℚ Place) → List Entry → List Entry → Type 0
IsZeroElsewhere g xs ys = (q : ℕ) → number_of xs q ≡ zero_ℚ → number_of ys q ≡ zero_ℚ → g q ≡ Ok zero_ℚ

between : (es : List Entry) (k f p q : ℕ) → ((i : ℕ) → i < k → place_at es i < f) → ((i : ℕ) → k ≤ i → i < length es → p ≤ place_at es i) → f ≤ q → q < p → number_of es q ≡ zero_ℚ
between es k f p q b a l m = number_absent es q (λ i n e. ⊎_elim (λ c. less (place_at es i) (b i c) e) (λ c. more (place_at es i) (a i c n) e) (cases_lt i k))
  where
    less : (x : ℕ) → x < f → x ≡ q → ⊥
    less x c e = omega arith

    more : (x : ℕ) → p ≤ x → x ≡ q → ⊥
    more x c e = omega arith

pub least_from : (es : List Entry) (k p : ℕ) → AreAscending es → (k < length es → p ≤ place_at es k) → (i : ℕ) → k ≤ i → i < length es → p ≤ place_at es i
least_from es k p a h i l m = ⊎_elim (λ c. below (place_at es k) (place_at es i) (h (chain i c m)) (a k i c m)) (λ c. at (same c)) (cases_lt k i)
  where
    chain : (i : ℕ) → k < i → i < length es → k < length es
    chain i c m = omega arith

    below : (x y : ℕ) → p ≤ x → x < y → p ≤ y
    below x y b c = omega arith

    same : i ≤ k → k ≡ i
    same c = omega arith

    at : k ≡ i → p ≤ place_at es i
    at s = subst (λ z. p ≤ place_at es z) s (h (subst (λ z. z < length es) (sym s) m))

pub merge_to : (g : ℕ → Result ℚ Place) (n : ℕ) (xs ys : List Entry) (x y : ℕ) (es : List Entry) (p : ℕ) → AreAscending xs → AreAscending ys → IsZeroElsewhere g xs ys → IsMerged g n xs ys x y es →
    (x < length xs → p ≤ place_at xs x) → (y < length ys → p ≤ place_at ys y) → ((x < length xs) × (place_at xs x ≡ p)) ⊎ ((y < length ys) × (place_at ys y ≡ p)) → Formed g p es
merge_to g n xs ys x y es p ax ay z w hx hy one =
    formed_zero g w.front p es w.formed (⊎_elim (λ o. at (place_at xs x) (w.x_after x (omega arith) o.0) o.1) (λ o. at (place_at ys y) (w.y_after y (omega arith) o.0) o.1) one) (λ q l m.
    z q (between xs x w.front p q w.x_before (λ i a b. least_from xs x p ax hx i a b) l m) (between ys y w.front p q w.y_before (λ i a b. least_from ys y p ay hy i a b) l m))
  where
    at : (k : ℕ) → w.front ≤ k → k ≡ p → w.front ≤ p
    at k a b = omega arith

pub merge_within : (n : ℕ) (xs ys : List Entry) (x y p : ℕ) → AreEntries n xs → AreEntries n ys → ((x < length xs) × (place_at xs x ≡ p)) ⊎ ((y < length ys) × (place_at ys y ≡ p)) → p < n
merge_within n xs ys x y p hx hy one = ⊎_elim (λ o. at (place_at xs x) (hx.within x o.0) o.1) (λ o. at (place_at ys y) (hy.within y o.0) o.1) one
  where
    at : (k : ℕ) → k < n → k ≡ p → p < n
    at k a b = omega arith

-- what the rows' next entries are, once those at place p are taken
pub record IsTaken (es : List Entry) (p k : ℕ) : Type 0 where
  pub inside : k ≤ length es
  pub before : (i : ℕ) → i < k → place_at es i ≤ p
  pub after : (i : ℕ) → k ≤ i → i < length es → p < place_at es i

pub merge_on : (g : ℕ → Result ℚ Place) (n : ℕ) (xs ys : List Entry) (x y p : ℕ) (made : List Entry) → p < n → IsTaken xs p x → IsTaken ys p y → Formed g (suc p) made → IsMerged g n xs ys x y made
merge_on g n xs ys x y p made l tx ty h = record {
  front = suc p;
  inside = omega arith;
  formed = h;
  x_inside = tx.inside;
  y_inside = ty.inside;
  x_before = λ k m. less (place_at xs k) (tx.before k m);
  y_before = λ k m. less (place_at ys k) (ty.before k m);
  x_after = λ k m b. more (place_at xs k) (tx.after k m b);
  y_after = λ k m b. more (place_at ys k) (ty.after k m b);
}
  where
    less : (k : ℕ) → k ≤ p → k < suc p
    less k a = omega arith

    more : (k : ℕ) → p < k → suc p ≤ k
    more k a = omega arith

pub merge_done : (g : ℕ → Result ℚ Place) (n : ℕ) (xs ys : List Entry) (x y : ℕ) (es : List Entry) → IsZeroElsewhere g xs ys → IsMerged g n xs ys x y es → length xs ≤ x → length ys ≤ y → Formed g n es
merge_done g n xs ys x y es z w lx ly =
    formed_zero g w.front n es w.formed w.inside (λ q l m.
    z q (between xs x w.front n q w.x_before (λ i a b. absurd (contrary x (length xs) lx i a b)) l m) (between ys y w.front n q w.y_before (λ i a b. absurd (contrary y (length ys) ly i a b)) l m))
  where
    contrary : (k n : ℕ) → n ≤ k → (i : ℕ) → k ≤ i → i < n → ⊥
    contrary k n h i a b = omega arith
