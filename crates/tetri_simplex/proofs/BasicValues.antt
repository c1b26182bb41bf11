-- The basic solution of a table: the constants at the basic variables, 0 at the others.
use Rattle.std.proofs.Common.{◌≡◌, ℕ, ◌+◌, ◌≤◌, refl, sym, ap, ◌∙◌, subst, arith, List, [], ◌∷◌, ◌++◌, length, get_or, map, true, false, cond, eqb, Bool}
use Rattle.std.proofs.lemmas.Bool.{eq-eqb, false≢true}
use lib.IntN.{pos}
use Rattle.tetri_algebra.specs.Rational.{ℚ, whole_ℚ}
use Rattle.tetri_algebra.specs.RationalRing.{ℚ_ring, zero_ℚ, ◌+ℚ◌, ◌*ℚ◌}
use Rattle.tetri_algebra.specs.RingSolver.{var, num, nil, ring, ◌⊕◌, ◌⊗◌}
use Rattle.tetri_algebra.specs.Sums.{dot}
use Rattle.tetri_simplex.proofs.Kept.{one, times}
use Rattle.tetri_dictionary.proofs.DictionaryLaws.{Solves, other}
use Rattle.tetri_simplex.specs.Ends.{value_at}
use Rattle.tetri_dictionary.specs.Tables.{Table}

abbrev AllZero : List ℚ → Type 0
AllZero [] = Unit {0}
AllZero (x ∷ xs) = (x ≡ zero_ℚ) × AllZero xs

dot_zero : (u xs : List ℚ) → AllZero xs → dot ℚ_ring u xs ≡ zero_ℚ
dot_zero [] xs h = refl
dot_zero (a ∷ u) [] h = refl
dot_zero (a ∷ u) (x ∷ xs) h =
    ap (λ z. ◌+ℚ◌ (◌*ℚ◌ a z) (dot ℚ_ring u xs)) h.0 ∙ ap (λ z. ◌+ℚ◌ (◌*ℚ◌ a zero_ℚ) z) (dot_zero u xs h.1) ∙ ring ℚ_ring (a ∷ []) (var 0 ⊗ nil ⊕ nil) nil refl

-- a row at the basic solution is its constant
pub row_constant : (row xs : List ℚ) → AllZero xs → dot ℚ_ring row (whole_ℚ (pos 1) ∷ xs) ≡ get_or row 0 zero_ℚ
row_constant [] xs h = refl
row_constant (c ∷ row) xs h = ap (λ z. ◌+ℚ◌ (◌*ℚ◌ c (whole_ℚ (pos 1))) z) (dot_zero row xs h) ∙ ring ℚ_ring (c ∷ []) (var 0 ⊗ num (pos 1) ⊕ nil) (var 0) refl

absent_value : (bs : List ℕ) (rows : List (List ℚ)) (v : ℕ) → times v bs ≡ 0 → value_at bs rows v ≡ zero_ℚ
absent_value [] rows v h = refl
absent_value (b ∷ bs) [] v h = refl
absent_value (b ∷ bs) (row ∷ rows) v h = ap (λ t. cond t (get_or row 0 zero_ℚ) (value_at bs rows v)) (first (eqb b v) (times v bs) h) ∙ absent_value bs rows v (rest (one b v) (times v bs) h)
  where
    first : (t : Bool) (n : ℕ) → cond t 1 0 + n ≡ 0 → t ≡ false
    first true n e = absurd (omega arith)
    first false n e = refl

    rest : (a n : ℕ) → a + n ≡ 0 → n ≡ 0
    rest a n e = omega arith

nonbasic_zero : (vs bs : List ℕ) (rows : List (List ℚ)) → ((v : ℕ) → times v vs + times v bs ≤ 1) → AllZero (map (value_at bs rows) vs)
nonbasic_zero [] bs rows h = tt
nonbasic_zero (v ∷ vs) bs rows h = (
  absent_value bs rows v (none (times v vs) (times v bs) (subst (λ t. (cond t 1 0 + times v vs) + times v bs ≤ 1) (eq-eqb v v refl) (h v))),
  nonbasic_zero vs bs rows (λ w. less (one v w) (times w vs) (times w bs) (h w)),
)
  where
    none : (a b : ℕ) → (1 + a) + b ≤ 1 → b ≡ 0
    none a b e = omega arith

    less : (o a b : ℕ) → (o + a) + b ≤ 1 → a + b ≤ 1
    less o a b e = omega arith

-- the basic variables have their constants
basic_constants : (bs : List ℕ) (rows : List (List ℚ)) (last : List ℚ) → length rows ≡ length bs → ((v : ℕ) → times v bs ≤ 1) → map (value_at bs (rows ++ (last ∷ []))) bs ≡ map (λ row. get_or row 0 zero_ℚ) rows
basic_constants [] [] last l h = refl
basic_constants [] (row ∷ rows) last l h = absurd (omega arith)
basic_constants (b ∷ bs) [] last l h = absurd (omega arith)
basic_constants (b ∷ bs) (row ∷ rows) last l h =
    let c = get_or row 0 zero_ℚ in
    let z : times b bs ≡ 0 = none (times b bs) (subst (λ t. cond t 1 0 + times b bs ≤ 1) (eq-eqb b b refl) (h b)) in
    ap (λ t. cond t c (value_at bs (rows ++ (last ∷ [])) b) ∷ map (value_at (b ∷ bs) ((row ∷ rows) ++ (last ∷ []))) bs) (eq-eqb b b refl)
    ∙ ap (λ zs. c ∷ zs) (apart bs z ∙ basic_constants bs rows last (omega arith) (λ v. less (one b v) (times v bs) (h v)))
  where
    none : (n : ℕ) → 1 + n ≤ 1 → n ≡ 0
    none n e = omega arith

    less : (o n : ℕ) → o + n ≤ 1 → n ≤ 1
    less o n e = omega arith

    rest : (a n : ℕ) → a + n ≡ 0 → n ≡ 0
    rest a n e = omega arith

    first : (t : Bool) (n : ℕ) → cond t 1 0 + n ≡ 0 → t ≡ false
    first true n e = absurd (omega arith)
    first false n e = refl

    apart : (vs : List ℕ) → times b vs ≡ 0 → map (value_at (b ∷ bs) ((row ∷ rows) ++ (last ∷ []))) vs ≡ map (value_at bs (rows ++ (last ∷ []))) vs
    apart [] e = refl
    apart (v ∷ vs) e =
        ap (λ t. cond t (get_or row 0 zero_ℚ) (value_at bs (rows ++ (last ∷ [])) v) ∷ map (value_at (b ∷ bs) ((row ∷ rows) ++ (last ∷ []))) vs) (other b v (λ (q : b ≡ v). differ v vs q e))
        ∙ ap (λ zs. value_at bs (rows ++ (last ∷ [])) v ∷ zs) (apart vs (rest (one v b) (times b vs) e))
      where
        differ : (v : ℕ) (vs : List ℕ) → b ≡ v → times b (v ∷ vs) ≡ 0 → ⊥
        differ v vs q e = let t : eqb v b ≡ true = eq-eqb v b (sym q) in let n = first (eqb v b) (times b vs) e in absurd (false≢true (sym n ∙ t))

-- the basic solution solves its table, with the objective's constant
pub basic_solves : (t : Table) (front : List (List ℚ)) (last : List ℚ) → t.rows ≡ front ++ (last ∷ []) → length front ≡ length t.basic → ((v : ℕ) → times v t.nonbasic + times v t.basic ≤ 1) →
    Solves (value_at t.basic t.rows) (get_or last 0 zero_ℚ) t
basic_solves t front last e l h =
    let vals = map (value_at t.basic t.rows) t.nonbasic in
    let z = nonbasic_zero t.nonbasic t.basic t.rows h in
    let f : List ℚ → ℚ = λ row. dot ℚ_ring row (whole_ℚ (pos 1) ∷ vals) in
    let c : List ℚ → ℚ = λ row. get_or row 0 zero_ℚ in
    all_constant f c (λ row. row_constant row vals z) t.rows ∙ ap (map c) e ∙ map_append c front (last ∷ [])
    ∙ ap (λ w. w ++ (c last ∷ [])) (sym (basic_constants t.basic front last l (λ v. right (times v t.nonbasic) (times v t.basic) (h v))) ∙ ap (λ rows. map (value_at t.basic rows) t.basic) (sym e))
  where
    all_constant : (f c : List ℚ → ℚ) → ((row : List ℚ) → f row ≡ c row) → (rows : List (List ℚ)) → map f rows ≡ map c rows
    all_constant f c g [] = refl
    all_constant f c g (row ∷ rows) = ap (λ x. x ∷ map f rows) (g row) ∙ ap (λ xs. c row ∷ xs) (all_constant f c g rows)

    map_append : {A B : Type 0} → (f : A → B) (xs ys : List A) → map f (xs ++ ys) ≡ map f xs ++ map f ys
    map_append f [] ys = refl
    map_append f (x ∷ xs) ys = ap (λ zs. f x ∷ zs) (map_append f xs ys)

    right : (a b : ℕ) → a + b ≤ 1 → b ≤ 1
    right a b h = omega arith
