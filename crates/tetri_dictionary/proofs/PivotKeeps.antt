-- One pivot keeps what each row says.
use Rattle.std.proofs.Common.{◌≡◌, ℕ, ◌+◌, ◌<◌, refl, sym, ap, ◌∙◌, subst, arith, List, [], ◌∷◌, ◌++◌, length, get_or, set, map, Option, Some, None, Result, Ok, Err, Bool, true, false, cond, eqb}
use Prim.Native.Nat.{zero, suc}
use Rattle.std.proofs.lemmas.Bool.{eqb-true, eq-eqb, false≢true}
use Rattle.std.proofs.Math.ListN.{get_or-map, get_or-append}
use Rattle.std.proofs.lemmas.List.{map-set, set-append_left}
use lib.IntN.{ℤ, pos, negsuc}
use lib.Signed.{lt_z}
use Rattle.tetri_algebra.specs.Rational.{ℚ, whole_ℚ}
use Rattle.tetri_algebra.specs.RationalReciprocal.{recip_ℚ, *ℚ-recip}
use Rattle.tetri_algebra.specs.RationalRing.{ℚ_ring, zero_ℚ, ◌+ℚ◌, ◌*ℚ◌, neg_ℚ}
use Rattle.tetri_algebra.specs.Sums.{dot}
use Rattle.tetri_num.specs.Checked.{checked_sum, checked_product}
use Rattle.tetri_num.specs.declared.places.Kind.{Kind}
use Rattle.tetri_num.specs.declared.places.Place.{Place}
use Rattle.tetri_dictionary.proofs.Dots.{plus_scaled, negated, dot-solved, dot-replaced}
use Rattle.tetri_dictionary.specs.Pivots.{solved_row, replaced_row, pivoted, pivoted_rows, column_of}
use Rattle.tetri_dictionary.specs.Steps.{or_place, each, each_pair}
use Rattle.tetri_base.specs.ResultSteps.{then_ok}
use Rattle.tetri_dictionary.specs.Tables.{Table, is_positive}
use Rattle.std.proofs.lemmas.List.{length-map}

-- ---- what an Ok says
pub then_ok_pair : {A B : Type 0} → (o : Result A Place) (f : A → Result B Place) (y : B) → then_ok o f ≡ Ok y → (x : A) × ((o ≡ Ok x) × (f x ≡ Ok y))
then_ok_pair (Ok x) f y e = (x, (refl, e))
then_ok_pair (Err z) f y e = cc

pub or_place_is : {A : Type 0} → (o : Option A) (k : Kind) (i j : ℕ) (x : A) → or_place o k i j ≡ Ok x → o ≡ Some x
or_place_is (Some z) k i j x e = cc
or_place_is None k i j x e = cc

some_of : {A : Type 0} → (t : Bool) (a x : A) → cond t (Some a) None ≡ Some x → x ≡ a
some_of true a x e = cc
some_of false a x e = cc

pub checked_sum_is : (p q x : ℚ) → checked_sum p q ≡ Some x → x ≡ ◌+ℚ◌ p q
unfolding checked_sum
checked_sum_is p q x e = some_of _ _ _ e

pub checked_product_is : (p q x : ℚ) → checked_product p q ≡ Some x → x ≡ ◌*ℚ◌ p q
unfolding checked_product
checked_product_is p q x e = some_of _ _ _ e

-- ---- the reciprocal
pub recip_mul : (p : ℚ) → is_positive p ≡ true → ◌*ℚ◌ p (recip_ℚ p) ≡ whole_ℚ (pos 1)
recip_mul p h = *ℚ-recip p (not_zero p.num h)
  where
    not_zero : (n : ℤ) → lt_z (pos 0) n ≡ true → n ≡ pos 0 → ⊥
    not_zero n t e = false≢true (sym (ap (λ z. lt_z (pos 0) z) e) ∙ t)

-- ---- each in turn
pub each_is : {A B : Type 0} → (f : ℕ → A → Result B Place) (g : A → B) → ((k : ℕ) (x : A) (y : B) → f k x ≡ Ok y → y ≡ g x) → (k : ℕ) (xs : List A) (ys : List B) → each f k xs ≡ Ok ys → ys ≡ map g xs
each_is f g h k [] ys e = cc
each_is f g h k (x ∷ xs) ys e =
    let a = then_ok_pair (f k x) _ ys e in
    let b = then_ok_pair (each f (k + 1) xs) _ ys a.1.1 in
    let p : a.0 ≡ g x = h k x a.0 a.1.0 in
    let q : b.0 ≡ map g xs = each_is f g h (k + 1) xs b.0 b.1.0 in
    let s : Ok (a.0 ∷ b.0) ≡ Ok ys = b.1.1 in
    cc

pub each_pair_is : (f : ℕ → ℚ → ℚ → Result ℚ Place) (c : ℚ) → ((k : ℕ) (x y z : ℚ) → f k x y ≡ Ok z → z ≡ ◌+ℚ◌ x (◌*ℚ◌ c y)) → (k : ℕ) (xs ys zs : List ℚ) → each_pair f k xs ys ≡ Ok zs → zs ≡ plus_scaled ℚ_ring c xs ys
each_pair_is f c h k [] [] zs e = cc
each_pair_is f c h k [] (y ∷ ys) zs e =
    let a = then_ok_pair (f k zero_ℚ y) _ zs e in
    let b = then_ok_pair (each_pair f (k + 1) [] ys) _ zs a.1.1 in
    let p : a.0 ≡ ◌+ℚ◌ zero_ℚ (◌*ℚ◌ c y) = h k zero_ℚ y a.0 a.1.0 in
    let q : b.0 ≡ plus_scaled ℚ_ring c [] ys = each_pair_is f c h (k + 1) [] ys b.0 b.1.0 in
    let s : Ok (a.0 ∷ b.0) ≡ Ok zs = b.1.1 in
    cc
each_pair_is f c h k (x ∷ xs) [] zs e =
    let a = then_ok_pair (f k x zero_ℚ) _ zs e in
    let b = then_ok_pair (each_pair f (k + 1) xs []) _ zs a.1.1 in
    let p : a.0 ≡ ◌+ℚ◌ x (◌*ℚ◌ c zero_ℚ) = h k x zero_ℚ a.0 a.1.0 in
    let q : b.0 ≡ plus_scaled ℚ_ring c xs [] = each_pair_is f c h (k + 1) xs [] b.0 b.1.0 in
    let s : Ok (a.0 ∷ b.0) ≡ Ok zs = b.1.1 in
    cc
each_pair_is f c h k (x ∷ xs) (y ∷ ys) zs e =
    let a = then_ok_pair (f k x y) _ zs e in
    let b = then_ok_pair (each_pair f (k + 1) xs ys) _ zs a.1.1 in
    let p : a.0 ≡ ◌+ℚ◌ x (◌*ℚ◌ c y) = h k x y a.0 a.1.0 in
    let q : b.0 ≡ plus_scaled ℚ_ring c xs ys = each_pair_is f c h (k + 1) xs ys b.0 b.1.0 in
    let s : Ok (a.0 ∷ b.0) ≡ Ok zs = b.1.1 in
    cc

-- ---- the rows of one pivot
pub solved_is : (n i j : ℕ) (row fresh : List ℚ) → solved_row n i j row ≡ Ok fresh →
    fresh ≡ map (negated ℚ_ring (recip_ℚ (get_or row (suc j) zero_ℚ))) (set row (suc j) (whole_ℚ (negsuc 0)))
solved_is n i j row fresh e =
    let c = recip_ℚ (get_or row (suc j) zero_ℚ) in
    each_is _ (negated ℚ_ring c) (λ k x y h. checked_product_is (neg_ℚ x) c y (or_place_is _ _ _ _ _ h)) 0 (set row (suc j) (whole_ℚ (negsuc 0))) fresh e

pub replaced_is : (n i j : ℕ) (fresh row out : List ℚ) → replaced_row n i j fresh row ≡ Ok out →
    out ≡ plus_scaled ℚ_ring (get_or row (suc j) zero_ℚ) (set row (suc j) zero_ℚ) fresh
replaced_is n i j fresh row out e =
    let f = get_or row (suc j) zero_ℚ in
    each_pair_is _ f (λ k x y z h. one_entry f k x y z h) 0 (set row (suc j) zero_ℚ) fresh out e
  where
    one_entry : (f : ℚ) (k : ℕ) (x y z : ℚ) → then_ok (or_place (checked_product f y) Kind.Entry i (column_of n k)) (λ w. or_place (checked_sum x w) Kind.Entry i (column_of n k)) ≡ Ok z → z ≡ ◌+ℚ◌ x (◌*ℚ◌ f y)
    one_entry f k x y z h =
        let a = then_ok_pair (or_place (checked_product f y) Kind.Entry i (column_of n k)) _ z h in
        let p : a.0 ≡ ◌*ℚ◌ f y = checked_product_is f y a.0 (or_place_is _ _ _ _ _ a.1.0) in
        let q : z ≡ ◌+ℚ◌ x a.0 = checked_sum_is x a.0 z (or_place_is _ _ _ _ _ a.1.1) in
        q ∙ ap (λ w. ◌+ℚ◌ x w) p

-- ---- the values of the rows
abbrev pub put : {A : Type 0} → ℕ → ℕ → A → List A → List A
put k i y [] = []
put k i y (x ∷ xs) = cond (eqb k i) y x ∷ put (k + 1) i y xs

pub other : (k i : ℕ) → (k ≡ i → ⊥) → eqb k i ≡ false
other k i n = by_test (eqb k i) refl
  where
    by_test : (t : Bool) → eqb k i ≡ t → eqb k i ≡ false
    by_test true e = absurd (n (eqb-true k i e))
    by_test false e = e

put_past : {A : Type 0} → (k i : ℕ) (y : A) (xs : List A) → i < k → put k i y xs ≡ xs
put_past k i y [] h = refl
put_past k i y (x ∷ xs) h =
    let n : eqb k i ≡ false = other k i (λ (e : k ≡ i). omega arith) in
    let q = put_past (k + 1) i y xs (omega arith) in
    ap (λ t. cond t y x ∷ put (k + 1) i y xs) n ∙ ap (λ zs. x ∷ zs) q

pub put_set : {A : Type 0} → (k i d : ℕ) (y : A) (xs : List A) → i ≡ k + d → put k i y xs ≡ set xs d y
put_set k i d y [] e = refl
put_set k i zero y (x ∷ xs) e =
    ap (λ t. cond t y x ∷ put (k + 1) i y xs) (eq-eqb k i (omega arith)) ∙ ap (λ zs. y ∷ zs) (put_past (k + 1) i y xs (omega arith))
put_set k i (suc d) y (x ∷ xs) e =
    ap (λ t. cond t y x ∷ put (k + 1) i y xs) (other k i (λ (q : k ≡ i). omega arith)) ∙ ap (λ zs. x ∷ zs) (put_set (k + 1) i d y xs (omega arith))

row_value : (n i j k : ℕ) (fresh v row out : List ℚ) (x y : ℚ) → dot ℚ_ring fresh (set v (suc j) x) ≡ y → y ≡ get_or v (suc j) zero_ℚ →
    (t : Bool) → cond t (Ok fresh) (replaced_row n k j fresh row) ≡ Ok out → dot ℚ_ring out (set v (suc j) x) ≡ cond t y (dot ℚ_ring row v)
row_value n i j k fresh v row out x y p q true e =
    let s : fresh ≡ out = cc in
    ap (λ z. dot ℚ_ring z (set v (suc j) x)) (sym s) ∙ p
row_value n i j k fresh v row out x y p q false e =
    ap (λ z. dot ℚ_ring z (set v (suc j) x)) (replaced_is n k j fresh row out e) ∙ dot-replaced ℚ_ring row fresh v (suc j) x (p ∙ q)

pub rows_values : (n i j : ℕ) (fresh v : List ℚ) (x y : ℚ) → dot ℚ_ring fresh (set v (suc j) x) ≡ y → y ≡ get_or v (suc j) zero_ℚ →
    (k : ℕ) (rows out : List (List ℚ)) → each (λ k row. cond (eqb k i) (Ok fresh) (replaced_row n k j fresh row)) k rows ≡ Ok out →
    map (λ row. dot ℚ_ring row (set v (suc j) x)) out ≡ put k i y (map (λ row. dot ℚ_ring row v) rows)
rows_values n i j fresh v x y p q k [] out e =
    let s : [] ≡ out = cc in
    ap (λ z. map (λ row. dot ℚ_ring row (set v (suc j) x)) z) (sym s)
rows_values n i j fresh v x y p q k (row ∷ rows) out e =
    let f : ℕ → List ℚ → Result (List ℚ) Place = λ k row. cond (eqb k i) (Ok fresh) (replaced_row n k j fresh row) in
    let a = then_ok_pair (f k row) _ out e in
    let b = then_ok_pair (each f (k + 1) rows) _ out a.1.1 in
    let s : (a.0 ∷ b.0) ≡ out = cc in
    let h = row_value n i j k fresh v row a.0 x y p q (eqb k i) a.1.0 in
    let g = rows_values n i j fresh v x y p q (k + 1) rows b.0 b.1.0 in
    ap (λ z. map (λ row. dot ℚ_ring row (set v (suc j) x)) z) (sym s)
    ∙ ap (λ z. z ∷ map (λ row. dot ℚ_ring row (set v (suc j) x)) b.0) h
    ∙ ap (λ zs. cond (eqb k i) y (dot ℚ_ring row v) ∷ zs) g

-- ---- the table
-- an assignment of a value to each variable, and of one to the objective, solves each row
abbrev pub values_at : (ℕ → ℚ) → Table → List ℚ
values_at val t = whole_ℚ (pos 1) ∷ map val t.nonbasic

abbrev pub Solves : (ℕ → ℚ) → ℚ → Table → Type 0
Solves val z t = map (λ row. dot ℚ_ring row (values_at val t)) t.rows ≡ map val t.basic ++ (z ∷ [])

pub above_within : (row : List ℚ) (k : ℕ) → is_positive (get_or row k zero_ℚ) ≡ true → k < length row
unfolding whole_ℚ
above_within [] k e = absurd (false≢true e)
above_within (a ∷ row) zero e = omega arith
above_within (a ∷ row) (suc k) e = let h = above_within row k e in omega arith

pub pivot_keeps : (t u : Table) (i j : ℕ) (val : ℕ → ℚ) (z : ℚ) → pivoted t i j ≡ Ok u → i < length t.basic → j < length t.nonbasic →
    is_positive (get_or (get_or t.rows i []) (suc j) zero_ℚ) ≡ true → Solves val z t → Solves val z u
unfolding pivoted pivoted_rows
pivot_keeps t u i j val z e hi hj ab sol =
    let n = length t.nonbasic in
    let row = get_or t.rows i [] in
    let v = values_at val t in
    let one = whole_ℚ (pos 1) in
    let b = then_ok_pair (pivoted_rows n i j t.rows) _ u e in
    let rows = b.0 in
    let a = then_ok_pair (solved_row n i j row) _ rows b.1.0 in
    let fresh = a.0 in
    let x = dot ℚ_ring row v in
    let y = get_or v (suc j) zero_ℚ in
    let vb = val (get_or t.basic i 0) in
    let vn = val (get_or t.nonbasic j 0) in
    let lv : suc j < length v = omega (arith, length-map t.nonbasic val) in
    let h1 : dot ℚ_ring fresh (set v (suc j) x) ≡ y =
    ap (λ w. dot ℚ_ring w (set v (suc j) x)) (solved_is n i j row fresh a.1.0)
    ∙ dot-solved ℚ_ring row v (suc j) (recip_ℚ (get_or row (suc j) zero_ℚ)) (above_within row (suc j) ab) lv (recip_mul _ ab) in
    let h2 = rows_values n i j fresh v x y h1 refl 0 t.rows rows a.1.1 in
    let xe : x ≡ vb =
    sym (get_or-map (λ r. dot ℚ_ring r v) t.rows i []) ∙ ap (λ w. get_or w i zero_ℚ) sol
    ∙ get_or-append (map val t.basic) (z ∷ []) zero_ℚ i (omega (arith, length-map t.basic val))
    ∙ at_map val t.basic i hi in
    let ye : y ≡ vn = at_map val t.nonbasic j hj in
    let ve : set v (suc j) x ≡ one ∷ map val (set t.nonbasic j (get_or t.basic i 0)) =
    ap (λ w. one ∷ set (map val t.nonbasic) j w) xe ∙ ap (λ w. one ∷ w) (sym (map-set val t.nonbasic j (get_or t.basic i 0))) in
    let be : set (map val t.basic ++ (z ∷ [])) i y ≡ map val (set t.basic i (get_or t.nonbasic j 0)) ++ (z ∷ []) =
    ap (λ w. set (map val t.basic ++ (z ∷ [])) i w) ye
    ∙ set-append_left (map val t.basic) (z ∷ []) i vn (omega (arith, length-map t.basic val))
    ∙ ap (λ w. w ++ (z ∷ [])) (sym (map-set val t.basic i (get_or t.nonbasic j 0))) in
    let u0 : Table = record { nonbasic = set t.nonbasic j (get_or t.basic i 0); basic = set t.basic i (get_or t.nonbasic j 0); rows = rows } in
    let s : u0 ≡ u = cc in
    let h3 : Solves val z u0 =
    ap (λ w. map (λ r. dot ℚ_ring r w) rows) (sym ve) ∙ h2 ∙ put_set 0 i i y _ (omega arith) ∙ ap (λ w. set w i y) sol ∙ be in
    subst (Solves val z) s h3
  where
    at_map : (f : ℕ → ℚ) (xs : List ℕ) (k : ℕ) → k < length xs → get_or (map f xs) k zero_ℚ ≡ f (get_or xs k 0)
    at_map f [] k h = absurd (omega arith)
    at_map f (x ∷ xs) zero h = refl
    at_map f (x ∷ xs) (suc k) h = at_map f xs k (omega arith)
