-- What solves a later table solves the one before it.
use Rattle.std.proofs.Common.{◌≡◌, ℕ, ◌+◌, ◌<◌, refl, sym, ap, ◌∙◌, subst, arith, List, [], ◌∷◌, ◌++◌, length, get_or, set, map, Ok, true, cond, eqb}
use Prim.Native.Nat.{zero, suc}
use Rattle.std.proofs.lemmas.Bool.{eq-eqb}
use Rattle.std.proofs.Math.ListN.{get_or-map, length-set, get_or-append}
use Rattle.std.proofs.lemmas.List.{map-set, set-append_left}
use lib.IntN.{pos, negsuc}
use Rattle.tetri_algebra.specs.CommutativeRing.{CommutativeRing, add_cancel}
use Rattle.tetri_algebra.specs.Rational.{ℚ, whole_ℚ}
use Rattle.tetri_algebra.specs.RationalReciprocal.{recip_ℚ}
use Rattle.tetri_algebra.specs.RationalRing.{ℚ_ring, zero_ℚ}
use Rattle.tetri_algebra.specs.RingSolver.{var, num, nil, minus, ring, ◌⊕◌, ◌⊗◌}
use Rattle.tetri_algebra.specs.Sums.{dot}
use Rattle.tetri_dictionary.proofs.DictionaryLaws.{negated, dot-negated, dot-set_both, then_ok_pair, each_get, solved_is, recip_mul, above_within, rows_values, put_set, values_at, Solves}
use Rattle.tetri_dictionary.specs.Pivots.{solved_row, replaced_row, pivoted, pivoted_rows}
use Rattle.tetri_dictionary.specs.Tables.{Table, is_positive}
use Rattle.std.proofs.lemmas.List.{length-map}

-- the solved_row row read back: where it gives the entering variable, the row gives the leaving one
dot-back : {A : Type 0} → (r : CommutativeRing A) (u v : List A) (k : ℕ) (c x : A) → k < length u → k < length v → r.mul (get_or u k r.zero) c ≡ r.one →
    dot r (map (negated r c) (set u k (r.of (negsuc 0)))) (set v k x) ≡ get_or v k r.zero → dot r u v ≡ x
dot-back r u v k c x h g e s =
    let a = get_or u k r.zero in let y = get_or v k r.zero in let d = dot r u v in
    let A0 = var 0 in let Y = var 1 in let X = var 2 in let C = var 3 in let D = var 4 in
    let t = dot-negated r c (set u k (r.of (negsuc 0))) (set v k x) ∙ ap (λ z. r.neg (r.mul c z)) (dot-set_both r u v k (r.of (negsuc 0)) x h g) in
    let q : r.mul a y ≡ r.mul a (r.neg (r.mul c (r.add d (r.add (r.mul (r.of (negsuc 0)) x) (r.neg (r.mul a y)))))) = ap (λ z. r.mul a z) (sym s ∙ t) in
    let w : r.mul a y ≡ r.add (r.add x (r.neg d)) (r.mul a y) =
    q ∙ ring r (a ∷ y ∷ x ∷ c ∷ d ∷ []) (A0 ⊗ minus (C ⊗ (D ⊕ (num (negsuc 0) ⊗ X ⊕ minus (A0 ⊗ Y))))) ((A0 ⊗ C) ⊗ (X ⊕ minus D ⊕ A0 ⊗ Y)) refl
    ∙ ap (λ z. r.mul z (r.add (r.add x (r.neg d)) (r.mul a y))) e ∙ r.mul_one (r.add (r.add x (r.neg d)) (r.mul a y)) in
    let f : r.zero ≡ r.add x (r.neg d) =
    add_cancel r (r.mul a y) r.zero (r.add x (r.neg d)) (r.add_comm (r.mul a y) r.zero ∙ r.add_zero (r.mul a y) ∙ w ∙ r.add_comm (r.add x (r.neg d)) (r.mul a y)) in
    ring r (d ∷ []) (var 0) (nil ⊕ var 0) refl ∙ ap (λ z. r.add z d) f ∙ ring r (x ∷ d ∷ []) ((var 0 ⊕ minus (var 1)) ⊕ var 1) (var 0) refl

-- two lists that are equal but at one place, and there too
set_back : (xs ys : List ℚ) (i : ℕ) (w : ℚ) → set xs i w ≡ set ys i w → get_or xs i zero_ℚ ≡ get_or ys i zero_ℚ → xs ≡ ys
set_back xs ys i w e g =
    sym (back xs i w) ∙ ap (λ z. set z i (get_or xs i zero_ℚ)) e ∙ ap (λ z. set (set ys i w) i z) g ∙ back ys i w
  where
    back : (xs : List ℚ) (i : ℕ) (w : ℚ) → set (set xs i w) i (get_or xs i zero_ℚ) ≡ xs
    back [] i w = refl
    back (x ∷ xs) zero w = refl
    back (x ∷ xs) (suc i) w = ap (λ zs. x ∷ zs) (back xs i w)

at_map : (f : ℕ → ℚ) (xs : List ℕ) (k : ℕ) → k < length xs → get_or (map f xs) k zero_ℚ ≡ f (get_or xs k 0)
at_map f [] k h = absurd (omega arith)
at_map f (x ∷ xs) zero h = refl
at_map f (x ∷ xs) (suc k) h = at_map f xs k (omega arith)

at_set : (xs : List ℕ) (k y : ℕ) → k < length xs → get_or (set xs k y) k 0 ≡ y
at_set [] k y h = absurd (omega arith)
at_set (x ∷ xs) zero y h = refl
at_set (x ∷ xs) (suc k) y h = at_set xs k y (omega arith)

pub pivot_back : (t u : Table) (i j : ℕ) (val : ℕ → ℚ) (z : ℚ) → pivoted t i j ≡ Ok u → i < length t.basic → length t.rows ≡ length t.basic + 1 → j < length t.nonbasic →
    is_positive (get_or (get_or t.rows i []) (suc j) zero_ℚ) ≡ true → Solves val z u → Solves val z t
unfolding pivoted pivoted_rows
pivot_back t u i j val z e hi lt hj ab sol =
    let n = length t.nonbasic in
    let row = get_or t.rows i [] in
    let v = values_at val t in
    let c = recip_ℚ (get_or row (suc j) zero_ℚ) in
    let o = then_ok_pair (pivoted_rows n i j t.rows) _ u e in
    let rows = o.0 in
    let a = then_ok_pair (solved_row n i j row) _ rows o.1.0 in
    let fresh = a.0 in
    let bi = get_or t.basic i 0 in
    let nj = get_or t.nonbasic j 0 in
    let x = val bi in
    let y = get_or v (suc j) zero_ℚ in
    let u0 : Table = record { nonbasic = set t.nonbasic j bi; basic = set t.basic i nj; rows = rows } in
    let s : u ≡ u0 = cc in
    let sol0 : Solves val z u0 = subst (Solves val z) s sol in
    let ve : values_at val u0 ≡ set v (suc j) x = ap (λ w. whole_ℚ (pos 1) ∷ w) (map-set val t.nonbasic j bi) in
    let ye : y ≡ val nj = at_map val t.nonbasic j hj in
    let ir : i < length t.rows = omega (arith, lt) in
    let li : i < length (map val (set t.basic i nj)) = omega (arith, length-map (set t.basic i nj) val, length-set t.basic i nj) in
    let fr : Ok fresh ≡ Ok (get_or rows i []) =
    sym (ap (λ q. cond q (Ok fresh) (replaced_row n (0 + i) j fresh row)) (eq-eqb (0 + i) i (omega arith))) ∙ each_get (λ k r. cond (eqb k i) (Ok fresh) (replaced_row n k j fresh r)) 0 t.rows rows i [] [] a.1.1 ir in
    let fr' : fresh ≡ get_or rows i [] = cc in
    let h1 : dot ℚ_ring fresh (set v (suc j) x) ≡ y =
    ap (λ w. dot ℚ_ring w (set v (suc j) x)) fr' ∙ ap (λ w. dot ℚ_ring (get_or rows i []) w) (sym ve)
    ∙ sym (get_or-map (λ r. dot ℚ_ring r (values_at val u0)) rows i []) ∙ ap (λ w. get_or w i zero_ℚ) sol0
    ∙ get_or-append (map val (set t.basic i nj)) (z ∷ []) zero_ℚ i li ∙ at_map val (set t.basic i nj) i (omega (arith, length-set t.basic i nj)) ∙ ap val (at_set t.basic i nj hi) ∙ sym ye in
    let lv : suc j < length v = omega (arith, length-map t.nonbasic val) in
    let fe = solved_is n i j row fresh a.1.0 in
    let xe : dot ℚ_ring row v ≡ x = dot-back ℚ_ring row v (suc j) c x (above_within row (suc j) ab) lv (recip_mul _ ab) (ap (λ w. dot ℚ_ring w (set v (suc j) x)) (sym fe) ∙ h1) in
    let h2 = rows_values n i j fresh v x y h1 refl 0 t.rows rows a.1.1 in
    let V = map (λ r. dot ℚ_ring r v) t.rows in
    let X = map val t.basic ++ (z ∷ []) in
    let lX : i < length (map val t.basic) = omega (arith, length-map t.basic val) in
    let p : set V i y ≡ set X i y =
    sym (put_set 0 i i y V (omega arith)) ∙ sym h2 ∙ ap (λ w. map (λ r. dot ℚ_ring r w) rows) (sym ve) ∙ sol0
    ∙ ap (λ w. w ++ (z ∷ [])) (map-set val t.basic i nj) ∙ sym (set-append_left (map val t.basic) (z ∷ []) i (val nj) lX) ∙ ap (λ w. set X i w) (sym ye) in
    set_back V X i y p
    (get_or-map (λ r. dot ℚ_ring r v) t.rows i [] ∙ xe ∙ sym (get_or-append (map val t.basic) (z ∷ []) zero_ℚ i lX ∙ at_map val t.basic i hi))
