-- The weights of a row of the table, against the slacks of the program's rows.
use Rattle.std.proofs.Common.{◌≡◌, ℕ, ◌+◌, refl, sym, ap, ◌∙◌, subst, List, [], ◌∷◌, cond, Bool, true, false, eqb, map}
use Rattle.std.proofs.lemmas.Bool.{eqb-true}
use lib.IntN.{pos}
use Rattle.tetri_algebra.specs.Rational.{ℚ, whole_ℚ}
use Rattle.tetri_algebra.specs.RationalRing.{ℚ_ring, ◌+ℚ◌, ◌*ℚ◌, neg_ℚ, zero_ℚ}
use Rattle.tetri_algebra.specs.RingSolver.{var, num, nil, minus, ring, ◌⊕◌, ◌⊗◌}
use Rattle.tetri_algebra.specs.Sums.{dot}
use Rattle.tetri_dictionary.proofs.DictionaryLaws.{NotBelow, add_not_below, mul_not_below, zero_not_below}
use Rattle.tetri_simplex.specs.Ends.{coefficient_of, weights_of}

-- the slack whose variable is b, where the slacks' variables are counted from v; 0 for any other variable
abbrev pub slack_at : ℕ → List ℚ → ℕ → ℚ
slack_at v [] b = zero_ℚ
slack_at v (s ∷ ss) b = ◌+ℚ◌ (cond (eqb b v) s zero_ℚ) (slack_at (v + 1) ss b)

abbrev pub coefficient_sum : List ℕ → List ℚ → ℕ → List ℚ → ℚ
coefficient_sum vs xs v [] = zero_ℚ
coefficient_sum vs xs v (s ∷ ss) = ◌+ℚ◌ (◌*ℚ◌ (coefficient_of vs xs v) s) (coefficient_sum vs xs (v + 1) ss)

-- no variable stands at two places
abbrev pub IsAbsent : ℕ → List ℕ → Type 0
IsAbsent b [] = Unit {0}
IsAbsent b (v ∷ vs) = (eqb v b ≡ false) × IsAbsent b vs

abbrev pub AreApart : List ℕ → Type 0
AreApart [] = Unit {0}
AreApart (v ∷ vs) = IsAbsent v vs × AreApart vs

absent_zero : (b : ℕ) (vs : List ℕ) (xs : List ℚ) → IsAbsent b vs → coefficient_of vs xs b ≡ zero_ℚ
absent_zero b [] xs h = refl
absent_zero b (v ∷ vs) [] h = refl
absent_zero b (v ∷ vs) (x ∷ xs) h = ap (λ t. cond t x (coefficient_of vs xs b)) h.0 ∙ absent_zero b vs xs h.1

sum_none : (xs : List ℚ) (v : ℕ) (ss : List ℚ) → coefficient_sum [] xs v ss ≡ zero_ℚ
sum_none xs v [] = refl
sum_none xs v (s ∷ ss) = ap (λ z. ◌+ℚ◌ (◌*ℚ◌ zero_ℚ s) z) (sum_none xs (v + 1) ss) ∙ ring ℚ_ring (s ∷ []) (nil ⊗ var 0 ⊕ nil) nil refl

sum_short : (b : ℕ) (vs : List ℕ) (v : ℕ) (ss : List ℚ) → coefficient_sum (b ∷ vs) [] v ss ≡ zero_ℚ
sum_short b vs v [] = refl
sum_short b vs v (s ∷ ss) = ap (λ z. ◌+ℚ◌ (◌*ℚ◌ zero_ℚ s) z) (sum_short b vs (v + 1) ss) ∙ ring ℚ_ring (s ∷ []) (nil ⊗ var 0 ⊕ nil) nil refl

one_term : (t : Bool) (a c s : ℚ) → (t ≡ true → c ≡ zero_ℚ) → ◌*ℚ◌ (cond t a c) s ≡ ◌+ℚ◌ (◌*ℚ◌ a (cond t s zero_ℚ)) (◌*ℚ◌ c s)
one_term true a c s h = ring ℚ_ring (a ∷ s ∷ []) (var 0 ⊗ var 1) (var 0 ⊗ var 1 ⊕ nil ⊗ var 1) refl ∙ ap (λ z. ◌+ℚ◌ (◌*ℚ◌ a s) (◌*ℚ◌ z s)) (sym (h refl))
one_term false a c s h = ring ℚ_ring (a ∷ c ∷ s ∷ []) (var 1 ⊗ var 2) (var 0 ⊗ nil ⊕ var 1 ⊗ var 2) refl

sum_more : (b : ℕ) (vs : List ℕ) (a : ℚ) (xs : List ℚ) (v : ℕ) (ss : List ℚ) → coefficient_of vs xs b ≡ zero_ℚ →
    coefficient_sum (b ∷ vs) (a ∷ xs) v ss ≡ ◌+ℚ◌ (◌*ℚ◌ a (slack_at v ss b)) (coefficient_sum vs xs v ss)
sum_more b vs a xs v [] h = ring ℚ_ring (a ∷ []) nil (var 0 ⊗ nil ⊕ nil) refl
sum_more b vs a xs v (s ∷ ss) h =
    let t = eqb b v in
    let c = coefficient_of vs xs v in
    let k : t ≡ true → c ≡ zero_ℚ = λ e. ap (λ w. coefficient_of vs xs w) (sym (eqb-true b v e)) ∙ h in
    let S = slack_at (v + 1) ss b in let R = coefficient_sum vs xs (v + 1) ss in
    ap (λ z. ◌+ℚ◌ z (coefficient_sum (b ∷ vs) (a ∷ xs) (v + 1) ss)) (one_term t a c s k)
    ∙ ap (λ z. ◌+ℚ◌ (◌+ℚ◌ (◌*ℚ◌ a (cond t s zero_ℚ)) (◌*ℚ◌ c s)) z) (sum_more b vs a xs (v + 1) ss h)
    ∙ ring ℚ_ring (a ∷ cond t s zero_ℚ ∷ c ∷ s ∷ S ∷ R ∷ []) ((var 0 ⊗ var 1 ⊕ var 2 ⊗ var 3) ⊕ (var 0 ⊗ var 4 ⊕ var 5)) (var 0 ⊗ (var 1 ⊕ var 4) ⊕ (var 2 ⊗ var 3 ⊕ var 5)) refl

-- the sum over the slacks is a sum over the places
sum_places : (vs : List ℕ) (xs : List ℚ) (v : ℕ) (ss : List ℚ) → AreApart vs → coefficient_sum vs xs v ss ≡ dot ℚ_ring xs (map (slack_at v ss) vs)
sum_places [] [] v ss h = sum_none [] v ss
sum_places [] (x ∷ xs) v ss h = sum_none (x ∷ xs) v ss
sum_places (b ∷ vs) [] v ss h = sum_short b vs v ss
sum_places (b ∷ vs) (a ∷ xs) v ss h =
    sum_more b vs a xs v ss (absent_zero b vs xs h.0) ∙ ap (λ z. ◌+ℚ◌ (◌*ℚ◌ a (slack_at v ss b)) z) (sum_places vs xs v ss h.1)

own_term : (t : Bool) (c s : ℚ) → (t ≡ true → c ≡ zero_ℚ) → ◌*ℚ◌ (cond t (whole_ℚ (pos 1)) (neg_ℚ c)) s ≡ ◌+ℚ◌ (cond t s zero_ℚ) (neg_ℚ (◌*ℚ◌ c s))
own_term true c s h = ring ℚ_ring (s ∷ []) (num (pos 1) ⊗ var 0) (var 0 ⊕ minus (nil ⊗ var 0)) refl ∙ ap (λ z. ◌+ℚ◌ s (neg_ℚ (◌*ℚ◌ z s))) (sym (h refl))
own_term false c s h = ring ℚ_ring (c ∷ s ∷ []) (minus (var 0) ⊗ var 1) (nil ⊕ minus (var 0 ⊗ var 1)) refl

weights_sum : (vs : List ℕ) (xs : List ℚ) (own v : ℕ) (ss : List ℚ) → coefficient_of vs xs own ≡ zero_ℚ →
    dot ℚ_ring (weights_of vs xs own v ss) ss ≡ ◌+ℚ◌ (slack_at v ss own) (neg_ℚ (coefficient_sum vs xs v ss))
weights_sum vs xs own v [] h = ring ℚ_ring [] nil (nil ⊕ minus nil) refl
weights_sum vs xs own v (s ∷ ss) h =
    let t = eqb own v in
    let c = coefficient_of vs xs v in
    let k : t ≡ true → c ≡ zero_ℚ = λ e. ap (λ w. coefficient_of vs xs w) (sym (eqb-true own v e)) ∙ h in
    let S = slack_at (v + 1) ss own in let R = coefficient_sum vs xs (v + 1) ss in
    ap (λ z. ◌+ℚ◌ z (dot ℚ_ring (weights_of vs xs own (v + 1) ss) ss)) (own_term t c s k)
    ∙ ap (λ z. ◌+ℚ◌ (◌+ℚ◌ (cond t s zero_ℚ) (neg_ℚ (◌*ℚ◌ c s))) z) (weights_sum vs xs own (v + 1) ss h)
    ∙ ring ℚ_ring (cond t s zero_ℚ ∷ c ∷ s ∷ S ∷ R ∷ []) ((var 0 ⊕ minus (var 1 ⊗ var 2)) ⊕ (var 3 ⊕ minus (var 4))) ((var 0 ⊕ var 3) ⊕ minus (var 1 ⊗ var 2 ⊕ var 4)) refl

-- ---- coefficients_of that are 0 or less
abbrev pub AreNotAbove : List ℚ → Type 0
AreNotAbove [] = Unit {0}
AreNotAbove (x ∷ xs) = NotBelow (neg_ℚ x) × AreNotAbove xs

gap : (ℕ → ℚ) → (ℕ → ℚ) → List ℕ → List ℚ → ℚ
gap f g [] xs = zero_ℚ
gap f g (v ∷ vs) [] = zero_ℚ
gap f g (v ∷ vs) (x ∷ xs) = ◌+ℚ◌ (◌*ℚ◌ (neg_ℚ x) (◌+ℚ◌ (f v) (neg_ℚ (g v)))) (gap f g vs xs)

gap_is : (f g : ℕ → ℚ) (vs : List ℕ) (xs : List ℚ) → gap f g vs xs ≡ ◌+ℚ◌ (dot ℚ_ring xs (map g vs)) (neg_ℚ (dot ℚ_ring xs (map f vs)))
unfolding gap
gap_is f g [] [] = ring ℚ_ring [] nil (nil ⊕ minus nil) refl
gap_is f g [] (x ∷ xs) = ring ℚ_ring [] nil (nil ⊕ minus nil) refl
gap_is f g (v ∷ vs) [] = ring ℚ_ring [] nil (nil ⊕ minus nil) refl
gap_is f g (v ∷ vs) (x ∷ xs) =
    ap (λ z. ◌+ℚ◌ (◌*ℚ◌ (neg_ℚ x) (◌+ℚ◌ (f v) (neg_ℚ (g v)))) z) (gap_is f g vs xs)
    ∙ ring ℚ_ring (x ∷ f v ∷ g v ∷ dot ℚ_ring xs (map g vs) ∷ dot ℚ_ring xs (map f vs) ∷ [])
    (minus (var 0) ⊗ (var 1 ⊕ minus (var 2)) ⊕ (var 3 ⊕ minus (var 4))) ((var 0 ⊗ var 2 ⊕ var 3) ⊕ minus (var 0 ⊗ var 1 ⊕ var 4)) refl

gap_not_below : (f g : ℕ → ℚ) (vs : List ℕ) (xs : List ℚ) → ((v : ℕ) → NotBelow (◌+ℚ◌ (f v) (neg_ℚ (g v)))) → AreNotAbove xs → NotBelow (gap f g vs xs)
unfolding gap
gap_not_below f g [] xs h k = zero_not_below
gap_not_below f g (v ∷ vs) [] h k = zero_not_below
gap_not_below f g (v ∷ vs) (x ∷ xs) h k = add_not_below (◌*ℚ◌ (neg_ℚ x) (◌+ℚ◌ (f v) (neg_ℚ (g v)))) (gap f g vs xs) (mul_not_below (neg_ℚ x) (◌+ℚ◌ (f v) (neg_ℚ (g v))) k.0 (h v)) (gap_not_below f g vs xs h k.1)

-- The main step: a row c + xs . nonbasic with value o, whose coefficients_of are 0 or less. Its weights, on the slacks, make at most c less what o is above its own slack.
pub weights_at_most : (val : ℕ → ℚ) (vs : List ℕ) (xs : List ℚ) (c o : ℚ) (own v : ℕ) (ss : List ℚ) → AreApart vs → IsAbsent own vs → AreNotAbove xs →
    ((b : ℕ) → NotBelow (◌+ℚ◌ (val b) (neg_ℚ (slack_at v ss b)))) → dot ℚ_ring (c ∷ xs) (whole_ℚ (pos 1) ∷ map val vs) ≡ o →
    NotBelow (◌+ℚ◌ (◌+ℚ◌ c (neg_ℚ (◌+ℚ◌ o (neg_ℚ (slack_at v ss own))))) (neg_ℚ (dot ℚ_ring (weights_of vs xs own v ss) ss)))
weights_at_most val vs xs c o own v ss ap_ ab na nb e =
    let g = slack_at v ss in
    let D = dot ℚ_ring xs (map val vs) in
    let G = dot ℚ_ring xs (map g vs) in
    let w : dot ℚ_ring (weights_of vs xs own v ss) ss ≡ ◌+ℚ◌ (g own) (neg_ℚ G) =
    weights_sum vs xs own v ss (absent_zero own vs xs ab) ∙ ap (λ z. ◌+ℚ◌ (g own) (neg_ℚ z)) (sum_places vs xs v ss ap_) in
    subst NotBelow
    (gap_is val g vs xs
    ∙ ring ℚ_ring (c ∷ D ∷ G ∷ g own ∷ []) (var 2 ⊕ minus (var 1)) ((var 0 ⊕ minus ((var 0 ⊗ num (pos 1) ⊕ var 1) ⊕ minus (var 3))) ⊕ minus (var 3 ⊕ minus (var 2))) refl
    ∙ ap (λ z. ◌+ℚ◌ (◌+ℚ◌ c (neg_ℚ (◌+ℚ◌ z (neg_ℚ (g own))))) (neg_ℚ (◌+ℚ◌ (g own) (neg_ℚ G)))) e
    ∙ ap (λ z. ◌+ℚ◌ (◌+ℚ◌ c (neg_ℚ (◌+ℚ◌ o (neg_ℚ (g own))))) (neg_ℚ z)) (sym w))
    (gap_not_below val g vs xs nb na)
