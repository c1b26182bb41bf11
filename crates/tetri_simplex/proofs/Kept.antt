-- What each table of a run keeps.
use Rattle.std.proofs.Common.{◌≡◌, ℕ, ◌+◌, ◌<◌, ◌≤◌, refl, sym, ap, ◌∙◌, subst, arith, List, [], ◌∷◌, length, get_or, set, Some, None, Ok, Bool, true, false, cond, eqb, ⊎_elim}
use Prim.Native.Nat.{zero, suc}
use Rattle.std.proofs.Math.ListN.{length-set}
use Rattle.std.proofs.lemmas.Bool.{eq-eqb}
use lib.IntN.{ℤ, negsuc}
use Rattle.tetri_algebra.specs.Rational.{ℚ, whole_ℚ}
use Rattle.tetri_algebra.specs.RationalReciprocal.{recip_ℚ}
use Rattle.tetri_algebra.specs.RationalRing.{ℚ_ring, zero_ℚ, neg_ℚ, ◌*ℚ◌}
use Rattle.tetri_ip.specs.Points.{Bounds, objective}
use Rattle.tetri_ip.specs.declared.programs.Program.{Program}
use Rattle.tetri_dictionary.proofs.DictionaryLaws.{plus_scaled, negated, then_ok_pair, each_get, each_length, IsLeast, entering_is, ratio_at, signs_kept, Solves, pivot_keeps, solved_is, replaced_is, other, above_within, NotBelow, AtMost, zero_not_below}
use Rattle.tetri_simplex.proofs.PivotBack.{pivot_back}
use Rattle.tetri_simplex.proofs.Placed.{IsPlaced}
use Rattle.tetri_simplex.proofs.RowWeights.{IsAbsent, AreApart, AreNotAbove}
use Rattle.tetri_algebra.specs.RingSolver.{ring, nil, minus}
use Rattle.tetri_simplex.proofs.Sound.{IsSound, val_at}
use Rattle.tetri_dictionary.specs.Choices.{entering}
use Rattle.tetri_dictionary.specs.Start.{first_table}
use Rattle.tetri_dictionary.specs.Pivots.{solved_row, replaced_row, pivoted, pivoted_rows}
use Rattle.tetri_dictionary.specs.Tables.{Table, coefficients_of, objective_of, is_positive}
use Rattle.std.proofs.lemmas.List.{length-map}

-- ---- how often a variable stands in a list
abbrev pub one : ℕ → ℕ → ℕ
one x v = cond (eqb x v) 1 0

abbrev pub times : ℕ → List ℕ → ℕ
times v [] = 0
times v (x ∷ xs) = one x v + times v xs

times_set : (v y : ℕ) (xs : List ℕ) (k : ℕ) → k < length xs → times v (set xs k y) + one (get_or xs k 0) v ≡ times v xs + one y v
times_set v y [] k h = absurd (omega arith)
times_set v y (x ∷ xs) zero h = swap (one y v) (times v xs) (one x v)
  where
    swap : (a b c : ℕ) → (a + b) + c ≡ (c + b) + a
    swap a b c = omega arith
times_set v y (x ∷ xs) (suc k) h = behind (one x v) (times v (set xs k y)) (one (get_or xs k 0) v) (times v xs) (one y v) (times_set v y xs k (omega arith))
  where
    behind : (a b c d e : ℕ) → b + c ≡ d + e → (a + b) + c ≡ (a + d) + e
    behind a b c d e h = omega arith

absent_from : (b : ℕ) (vs : List ℕ) → times b vs ≡ 0 → IsAbsent b vs
absent_from b [] h = tt
absent_from b (v ∷ vs) h = (by_test (eqb v b) (times b vs) h, absent_from b vs (rest (one v b) (times b vs) h))
  where
    by_test : (t : Bool) (n : ℕ) → cond t 1 0 + n ≡ 0 → t ≡ false
    by_test true n e = absurd (omega arith)
    by_test false n e = refl

    rest : (a n : ℕ) → a + n ≡ 0 → n ≡ 0
    rest a n e = omega arith

apart_from : (vs : List ℕ) → ((v : ℕ) → times v vs ≤ 1) → AreApart vs
apart_from [] h = tt
apart_from (v ∷ vs) h = (absent_from v vs (first (times v vs) (subst (λ t. cond t 1 0 + times v vs ≤ 1) (eq-eqb v v refl) (h v))), apart_from vs (λ w. rest (one v w) (times w vs) (h w)))
  where
    first : (n : ℕ) → 1 + n ≤ 1 → n ≡ 0
    first n e = omega arith

    rest : (a n : ℕ) → a + n ≤ 1 → n ≤ 1
    rest a n e = omega arith

times_at : (vs : List ℕ) (k : ℕ) → k < length vs → 1 ≤ times (get_or vs k 0) vs
times_at [] k h = absurd (omega arith)
times_at (v ∷ vs) zero h = subst (λ t. 1 ≤ cond t 1 0 + times v vs) (sym (eq-eqb v v refl)) (omega arith)
times_at (v ∷ vs) (suc k) h = more (one v (get_or vs k 0)) (times (get_or vs k 0) vs) (times_at vs k (omega arith))
  where
    more : (a n : ℕ) → 1 ≤ n → 1 ≤ a + n
    more a n e = omega arith

one_times : (v : ℕ) (vs : List ℕ) (k : ℕ) → k < length vs → one (get_or vs k 0) v ≤ times v vs
one_times v [] k h = absurd (omega arith)
one_times v (x ∷ vs) zero h = first (one x v) (times v vs)
  where
    first : (a n : ℕ) → a ≤ a + n
    first a n = omega arith
one_times v (x ∷ vs) (suc k) h = later (one x v) (one (get_or vs k 0) v) (times v vs) (one_times v vs k (omega arith))
  where
    later : (a b n : ℕ) → b ≤ n → b ≤ a + n
    later a b n e = omega arith

length-plus_scaled : (f : ℚ) (u v : List ℚ) → length u ≡ length v → length (plus_scaled ℚ_ring f u v) ≡ length u
length-plus_scaled f [] [] h = refl
length-plus_scaled f [] (b ∷ v) h = absurd (omega arith)
length-plus_scaled f (a ∷ u) [] h = absurd (omega arith)
length-plus_scaled f (a ∷ u) (b ∷ v) h = ap suc (length-plus_scaled f u v (omega arith))

coefficient_get : (row : List ℚ) (q : ℕ) → get_or (coefficients_of row) q zero_ℚ ≡ get_or row (suc q) zero_ℚ
coefficient_get [] q = refl
coefficient_get (c ∷ xs) q = refl

coefficient_length : (row : List ℚ) (n : ℕ) → length row ≡ suc n → length (coefficients_of row) ≡ n
coefficient_length [] n h = absurd (omega arith)
coefficient_length (c ∷ xs) n h = omega arith

at_places : (xs : List ℚ) → ((k : ℕ) → NotBelow (neg_ℚ (get_or xs k zero_ℚ))) → AreNotAbove xs
at_places [] h = tt
at_places (x ∷ xs) h = (h 0, at_places xs (λ k. h (suc k)))

place_sign : (xs : List ℚ) → AreNotAbove xs → NotBelow (neg_ℚ zero_ℚ) → (k : ℕ) → NotBelow (neg_ℚ (get_or xs k zero_ℚ))
place_sign [] h z k = z
place_sign (x ∷ xs) h z zero = h.0
place_sign (x ∷ xs) h z (suc k) = place_sign xs h.1 z k

-- ---- what is kept
pub record IsKept (p : Program) (r : Bounds) (t : Table) : Type 0 where
  pub solves : (x : List ℤ) → IsPlaced p.costs.items r.lower r.upper x → Solves (val_at p r x) (whole_ℚ (objective p x)) t
  pub back : (val : ℕ → ℚ) (z : ℚ) → Solves val z t → Solves val z (first_table p r)
  pub once : (v : ℕ) → times v t.nonbasic + times v t.basic ≤ 1
  pub outside : times (length p.costs.items + length p.rows.items + length p.costs.items) t.nonbasic ≡ 0
  pub outside_basic : times (length p.costs.items + length p.rows.items + length p.costs.items) t.basic ≡ 0
  pub signs : AreNotAbove (coefficients_of (objective_of t))
  pub count : length t.rows ≡ length t.basic + 1
  pub wide : (k : ℕ) → k < length t.rows → length (get_or t.rows k []) ≡ suc (length t.nonbasic)

pub sound_from_kept : (p : Program) (r : Bounds) (t : Table) → IsKept p r t → IsSound p r t
sound_from_kept p r t k = record {
  solves = k.solves;
  apart = apart_from t.nonbasic (λ v. left (times v t.nonbasic) (times v t.basic) (k.once v));
  absent = λ i h. absent_from (get_or t.basic i 0) t.nonbasic (none (times (get_or t.basic i 0) t.nonbasic) (times (get_or t.basic i 0) t.basic) (k.once (get_or t.basic i 0)) (times_at t.basic i h));
  own = absent_from _ t.nonbasic k.outside;
  signs = k.signs;
}
  where
    left : (a b : ℕ) → a + b ≤ 1 → a ≤ 1
    left a b h = omega arith

    none : (a b : ℕ) → a + b ≤ 1 → 1 ≤ b → a ≡ 0
    none a b h g = omega arith

-- one turn of a run keeps it
pub turn_kept : (p : Program) (r : Bounds) (t u : Table) (i : ℕ) (b : ℕ × ℚ) → IsKept p r t → i < length t.basic → entering t i ≡ Ok (Some b) → pivoted t i b.0 ≡ Ok u → IsKept p r u
unfolding entering pivoted pivoted_rows
turn_kept p r t u i b k hi en pv =
    let n = length t.nonbasic in
    let j = b.0 in
    let row = get_or t.rows i [] in
    let D = objective_of t in
    let m = length t.basic in
    let mr : m < length t.rows = omega (arith, k.count) in
    let ir : i < length t.rows = omega (arith, k.count) in
    let lr = k.wide i ir in
    let ld = k.wide m mr in
    let le : length (coefficients_of row) ≤ length (coefficients_of D) = omega (arith, coefficient_length row n lr, coefficient_length D n ld) in
    let L = entering_is t.nonbasic i 0 (coefficients_of row) (coefficients_of D) None b le en in
    let ab : is_positive (get_or row (suc j) zero_ℚ) ≡ true = ap is_positive (sym (coefficient_get row j)) ∙ place_above (coefficients_of row) (coefficients_of D) b L in
    let hj : j < n = omega (arith, above_within row (suc j) ab, lr) in
    let o = then_ok_pair (pivoted_rows n i j t.rows) _ u pv in
    let rows = o.0 in
    let a = then_ok_pair (solved_row n i j row) _ rows o.1.0 in
    let fresh = a.0 in
    let fe = solved_is n i j row fresh a.1.0 in
    let u0 : Table = record { nonbasic = set t.nonbasic j (get_or t.basic i 0); basic = set t.basic i (get_or t.nonbasic j 0); rows = rows } in
    let s : u0 ≡ u = cc in
    let lf : length fresh ≡ suc n = ap length fe ∙ length-map (set row (suc j) (whole_ℚ (negsuc 0))) (negated ℚ_ring (recip_ℚ (get_or row (suc j) zero_ℚ))) ∙ length-set row (suc j) (whole_ℚ (negsuc 0)) ∙ lr in
    let g : (q : ℕ) → q < length t.rows → cond (eqb q i) (Ok fresh) (replaced_row n q j fresh (get_or t.rows q [])) ≡ Ok (get_or rows q []) =
    λ q l. ap (λ z. cond (eqb z i) (Ok fresh) (replaced_row n z j fresh (get_or t.rows q []))) (zero_plus q) ∙ each_get (λ z r. cond (eqb z i) (Ok fresh) (replaced_row n z j fresh r)) 0 t.rows rows q [] [] a.1.1 l in
    let lrows : length rows ≡ length t.rows = each_length _ 0 t.rows rows a.1.1 in
    let bi = get_or t.basic i 0 in
    let nj = get_or t.nonbasic j 0 in
    let own = length p.costs.items + length p.rows.items + length p.costs.items in
    let obj : get_or rows m [] ≡ plus_scaled ℚ_ring (get_or D (suc j) zero_ℚ) (set D (suc j) zero_ℚ) fresh =
    replaced_is n m j fresh D (get_or rows m []) (sym (ap (λ z. cond z (Ok fresh) (replaced_row n m j fresh D)) (other m i (λ (e : m ≡ i). omega arith))) ∙ g m mr) in
    let na : (q : ℕ) → NotBelow (neg_ℚ (get_or D (suc q) zero_ℚ)) = λ q. subst (λ z. NotBelow (neg_ℚ z)) (coefficient_get D q) (place_sign (coefficients_of D) k.signs neg_zero q) in
    let least : (q : ℕ) → is_positive (get_or row (suc q) zero_ℚ) ≡ true → AtMost (◌*ℚ◌ (neg_ℚ (get_or D (suc j) zero_ℚ)) (recip_ℚ (get_or row (suc j) zero_ℚ))) (◌*ℚ◌ (neg_ℚ (get_or D (suc q) zero_ℚ)) (recip_ℚ (get_or row (suc q) zero_ℚ))) =
    λ q e. subst (λ z. AtMost z (◌*ℚ◌ (neg_ℚ (get_or D (suc q) zero_ℚ)) (recip_ℚ (get_or row (suc q) zero_ℚ)))) (chosen (coefficients_of row) (coefficients_of D) b L ∙ same_ratio_at row D j)
    (subst (λ z. AtMost b.1 z) (same_ratio_at row D q) (L.least q (ap is_positive (coefficient_get row q) ∙ e))) in
    let sg = signs_kept D row j ab na least in
    let row' = get_or rows m [] in
    let k0 : IsKept p r u0 = record {
      solves = λ x h. subst (λ w. Solves (val_at p r x) (whole_ℚ (objective p x)) w) (sym s) (pivot_keeps t u i j (val_at p r x) (whole_ℚ (objective p x)) pv hi hj ab (k.solves x h));
      back = λ val z w. k.back val z (pivot_back t u i j val z pv hi k.count hj ab (subst (Solves val z) s w));
      once = λ v. still (times v u0.nonbasic) (times v u0.basic) (times v t.nonbasic) (times v t.basic) (one nj v) (one bi v) (times_set v bi t.nonbasic j hj) (times_set v nj t.basic i hi) (k.once v);
      outside = gone (times own u0.nonbasic) (times own t.nonbasic) (times own t.basic) (one nj own) (one bi own) (times_set own bi t.nonbasic j hj) k.outside k.outside_basic (one_times own t.basic i hi);
      outside_basic = gone (times own u0.basic) (times own t.basic) (times own t.nonbasic) (one bi own) (one nj own) (times_set own nj t.basic i hi) k.outside_basic k.outside (one_times own t.nonbasic j hj);
      signs = subst (λ z. AreNotAbove (coefficients_of (get_or rows z []))) (sym (length-set t.basic i nj))
          (at_places (coefficients_of row') (λ q. subst (λ z. NotBelow (neg_ℚ z)) (ap (λ w. get_or w (suc q) zero_ℚ) (sym (obj ∙ ap (λ w. plus_scaled ℚ_ring (get_or D (suc j) zero_ℚ) (set D (suc j) zero_ℚ) w) fe)) ∙ sym (coefficient_get row' q)) (sg q)));
      count = lrows ∙ k.count ∙ ap (λ z. z + 1) (sym (length-set t.basic i nj));
      wide = λ q h. let l : q < length t.rows = subst (λ z. q < z) lrows h in
          by_place n j fresh (get_or t.rows q []) (get_or rows q []) q (eqb q i) lf (k.wide q l) (g q l) ∙ ap suc (sym (length-set t.nonbasic j bi));
    } in
    subst (IsKept p r) s k0
  where
    zero_plus : (q : ℕ) → q ≡ 0 + q
    zero_plus q = omega arith

    neg_zero : NotBelow (neg_ℚ zero_ℚ)
    neg_zero = subst NotBelow (ring ℚ_ring [] nil (minus nil) refl) zero_not_below

    still : (a b c d e f : ℕ) → a + e ≡ c + f → b + f ≡ d + e → c + d ≤ 1 → a + b ≤ 1
    still a b c d e f g h l = omega arith

    gone : (a c d e f : ℕ) → a + e ≡ c + f → c ≡ 0 → d ≡ 0 → f ≤ d → a ≡ 0
    gone a c d e f g h l w = omega arith

    same_ratio_at : (row D : List ℚ) (q : ℕ) → ratio_at (coefficients_of row) (coefficients_of D) q ≡ ◌*ℚ◌ (neg_ℚ (get_or D (suc q) zero_ℚ)) (recip_ℚ (get_or row (suc q) zero_ℚ))
    same_ratio_at row D q = ap (λ z. ◌*ℚ◌ (neg_ℚ z) (recip_ℚ (get_or (coefficients_of row) q zero_ℚ))) (coefficient_get D q) ∙ ap (λ z. ◌*ℚ◌ (neg_ℚ (get_or D (suc q) zero_ℚ)) (recip_ℚ z)) (coefficient_get row q)

    by_place : (n j : ℕ) (fresh row out : List ℚ) (q : ℕ) (t : Bool) → length fresh ≡ suc n → length row ≡ suc n → cond t (Ok fresh) (replaced_row n q j fresh row) ≡ Ok out → length out ≡ suc n
    by_place n j fresh row out q true lf lr e = let s : fresh ≡ out = cc in ap length (sym s) ∙ lf
    by_place n j fresh row out q false lf lr e =
        ap length (replaced_is n q j fresh row out e)
        ∙ length-plus_scaled (get_or row (suc j) zero_ℚ) (set row (suc j) zero_ℚ) fresh (length-set row (suc j) zero_ℚ ∙ lr ∙ sym lf)
        ∙ length-set row (suc j) zero_ℚ ∙ lr

    chosen : (xs ds : List ℚ) (b : ℕ × ℚ) → IsLeast 0 xs ds None b → b.1 ≡ ratio_at xs ds b.0
    chosen xs ds b L = ⊎_elim (λ e. absurd (none_is b e)) (λ e. e.1.1.0 ∙ ap (λ q. ratio_at xs ds q) (back b.0 e.0 e.1.0)) L.from
      where
        none_is : (b : ℕ × ℚ) → None ≡ Some b → ⊥
        none_is b e = cc

        back : (x q : ℕ) → x ≡ 0 + q → q ≡ x
        back x q e = omega arith

    place_above : (xs ds : List ℚ) (b : ℕ × ℚ) → IsLeast 0 xs ds None b → is_positive (get_or xs b.0 zero_ℚ) ≡ true
    place_above xs ds b L = ⊎_elim (λ e. absurd (none_some b e)) (λ e. ap (λ q. is_positive (get_or xs q zero_ℚ)) (from_zero b.0 e.0 e.1.0) ∙ e.1.1.1) L.from
      where
        none_some : (b : ℕ × ℚ) → None ≡ Some b → ⊥
        none_some b e = cc

        from_zero : (x q : ℕ) → x ≡ 0 + q → x ≡ q
        from_zero x q e = omega arith
